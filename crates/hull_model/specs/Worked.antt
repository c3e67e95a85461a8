-- Worked values: the barge and the wedge at waterplanes where everything can be computed by hand.
use mathlib.Core.Path.{refl}
use native.Mathlib.Nat.{zero-lt-suc}
use Rattle.std.specs.Prelude.{◌≡◌, ℕ, ◌*◌, ◌^◌, pos, List, [], ◌∷◌}
use Rattle.exact_algebra.proofs.Fraction.{Fraction, nought, ◌⊗◌, inverse}
use Rattle.exact_algebra.proofs.Whole.{whole}
use Rattle.hull_model.specs.declared.slab.Slab.{Slab}
use Rattle.hull_model.specs.declared.station.Station.{Station}
use Rattle.hull_model.specs.Limits.{IsSlab}
use Rattle.hull_model.specs.Waterplane.{Waterplane, upright}
use Rattle.hull_model.specs.Submerged.{submerged_volume, mx, mv, mu}
use Rattle.hull_model.specs.Lid.{lid_area, lid_x, lid_yy, lid_xx}
use Rattle.hull_model.specs.Flooded.{volume_left, mx_left}

abbrev pub natural : ℕ → Fraction
natural n = whole (pos n)

abbrev pub quotient : ℕ → ℕ → Fraction
quotient n d = natural n ⊗ inverse (natural d)

abbrev pub station : ℕ → ℕ → ℕ → Station
station x bottom top = record { x = pos x; points = record { y = pos bottom; z = pos 0 } ∷ record { y = pos top; z = pos 10000 } ∷ [] }

-- a box of 100 m by 20 m by 10 m
abbrev pub barge : List Station
barge = station 0 10000 10000 ∷ station 50000 10000 10000 ∷ station 100000 10000 10000 ∷ []

-- the same with no breadth at the base
abbrev pub wedge : List Station
wedge = station 0 0 10000 ∷ station 50000 0 10000 ∷ station 100000 0 10000 ∷ []

-- the direction (12, 5, 13) at the level 60000/13 mm
abbrev pub heeled : Waterplane
heeled = record { c = 12; s = 5; r = 13; round = refl; positive = zero-lt-suc 12; a = quotient 60000 13; f = quotient 60000 13 }

-- the barge at a draft of 5 m: half of it is wet, and the lid is its whole plan
pub record WorkedBargeHalf : Type 0 where
  pub volume : submerged_volume (upright (natural 5000)) barge ≡ natural (10 ^ 13)
  pub mx : mx (upright (natural 5000)) barge ≡ natural (5 * 10 ^ 17)
  pub mv : mv (upright (natural 5000)) barge ≡ nought
  pub mu : mu (upright (natural 5000)) barge ≡ natural (25 * 10 ^ 15)
  pub area : lid_area (natural 5000) barge ≡ natural (2 * 10 ^ 9)
  pub lx : lid_x (natural 5000) barge ≡ natural (10 ^ 14)
  pub lyy : lid_yy (natural 5000) barge ≡ quotient (2 * 10 ^ 17) 3
  pub lxx : lid_xx (natural 5000) barge ≡ quotient (2 * 10 ^ 19) 3

-- at a draft of 10 m the deck lies in the plane, and is the lid
pub record WorkedBargeAtDeck : Type 0 where
  pub volume : submerged_volume (upright (natural 10000)) barge ≡ natural (2 * 10 ^ 13)
  pub area : lid_area (natural 10000) barge ≡ natural (2 * 10 ^ 9)

-- at a draft of 0 the bottom lies in the plane, and is no lid
pub record WorkedBargeAtBottom : Type 0 where
  pub volume : submerged_volume (upright nought) barge ≡ nought
  pub area : lid_area nought barge ≡ nought

pub record WorkedWedge : Type 0 where
  pub volume : submerged_volume (upright (natural 5000)) wedge ≡ natural (25 * 10 ^ 11)

pub record WorkedHeeled : Type 0 where
  pub volume : submerged_volume heeled barge ≡ natural (10 ^ 13)
  pub mv : mv heeled barge ≡ quotient (10525 * 10 ^ 16) 2808

-- the slab at the fore end of the barge, a tenth of its length, which floods whole
abbrev pub IsForeTenth : Type 0
IsForeTenth = IsSlab (pos 90000) (pos 100000) 1000

abbrev pub fore_tenth : IsForeTenth → Slab
fore_tenth limits = record { aft = pos 90000; fore = pos 100000; permeability = 1000; limits = limits }

-- the barge at a draft of 5 m with that slab flooded: 9000 m³, their centre 45 m forward of the aft end
pub record WorkedFlooded : Type 0 where
  pub limits : IsForeTenth
  pub volume : volume_left (upright (natural 5000)) barge (fore_tenth limits ∷ []) ≡ natural (9 * 10 ^ 12)
  pub mx : mx_left (upright (natural 5000)) barge (fore_tenth limits ∷ []) ≡ natural (405 * 10 ^ 15)
