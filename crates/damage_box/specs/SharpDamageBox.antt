-- Sharp damage boxes, and why a ship has none.
use Rattle.std.specs.Prelude.{◌≡◌, ◌⊎◌, ℕ, ◌<◌, ℤ, pos, ◌+ℤ◌, ◌-ℤ◌, ◌*ℤ◌, List}
use Rattle.exact_algebra.proofs.Fraction.{Fraction, negative, ◌≼◌, ◌≺◌}
use Rattle.exact_algebra.proofs.Span.{in_units}
use Rattle.exact_algebra.proofs.Whole.{whole}
use Rattle.hull_model.specs.declared.station.Station.{Station}
use Rattle.hull_model.specs.declared.water.Water.{Water}
use Rattle.hull_polyhedron.specs.DamageBox.{HasSignsAtSides}
use Rattle.outward_interval.specs.Ends.{EndsBelow}
use Rattle.outward_interval.specs.declared.span.Span.{Span}
use Rattle.plane_clip.specs.Enclosure.{in_unit}
use Rattle.flux_moments.specs.declared.plane_box.PlaneBox.{PlaneBox}
use Rattle.compartment_loss.specs.declared.flooded_hull.FloodedHull.{FloodedHull}
use Rattle.loading_sheet.specs.declared.loading.Loading.{Loading}
use Rattle.loading_sheet.specs.Centre.{displaced}
use Rattle.damage_box.specs.declared.draft_box.DraftBox.{DraftBox}
use Rattle.damage_box.specs.declared.reading.Corner.{Corner}
use Rattle.damage_box.specs.declared.settling.SettleFault.{SettleFault}
use Rattle.damage_box.specs.declared.settling.SettleFault.TheVariants.{Sinks, NoStart}
use Rattle.damage_box.specs.declared.tip.Tip.{Tip}
use Rattle.damage_box.specs.declared.tip.Tip.TheVariants.{Fore, Aft}
use Rattle.compartment_loss.specs.Upright.{IsUprightBox}
use Rattle.damage_box.specs.Residuals.{volume_at, owed_last, owed_first, last_at, first_at, volume_width, residual_width}
use Rattle.damage_box.specs.Candidates.{half_of, IsAt, Qualifies, EnclosesAt, IsTried, HasStart}

module _ (flood : FloodedHull) (loading : Loading) (water : Water) (stations : List Station) where
  -- ---- whether it floats: the volume that is left where the whole hull is under the plane of the greatest height
  abbrev pub top : ℤ
  top = pos 1024 *ℤ flood.faces.now.high_z

  pub record EnclosesWhole (lo hi : ℤ) : Type 0 where
    pub at : EnclosesAt flood loading water stations top top lo hi (volume_at stations flood.slabs.items top top) volume_width

  -- its enclosure lies below the volume that the load displaces; its ends can be printed
  pub record IsSunk (left : Span 20) : Type 0 where
    pub encloses : EnclosesWhole left.lo left.hi
    pub below : whole left.hi ≺ in_units 20 (displaced loading water)
    pub ends : EndsBelow 96 left.lo left.hi

  -- there is an enclosure that doesn't
  pub record IsAfloat : Type 0 where
    pub lo : ℤ
    pub hi : ℤ
    pub encloses : EnclosesWhole lo hi
    pub not_below : in_units 20 (displaced loading water) ≼ whole hi

  -- ---- boxes that can't be shrunk
  -- a residual at the plane of these levels is above 0 and below 0, but for the width of what is read there
  abbrev pub IsNearlyAbove : (a f : ℤ) → (ℤ → ℤ → Fraction) → Type 0
  IsNearlyAbove a f residual = (planes : PlaneBox) → IsUprightBox a f planes → negative (residual_width flood planes) ≺ residual a f

  abbrev pub IsNearlyBelow : (a f : ℤ) → (ℤ → ℤ → Fraction) → Type 0
  IsNearlyBelow a f residual = (planes : PlaneBox) → IsUprightBox a f planes → residual a f ≺ residual_width flood planes

  -- each side has met the opposite one, or about loses its sign where it moves inwards by one grid unit
  pub record IsTight (a1 a2 f1 f2 : ℤ) : Type 0 where
    pub aft_low : (a1 ≡ a2) ⊎ IsNearlyAbove (a1 +ℤ pos 1) f2 (last_at loading water stations flood.slabs.items)
    pub aft_high : (a1 ≡ a2) ⊎ IsNearlyBelow (a2 -ℤ pos 1) f1 (last_at loading water stations flood.slabs.items)
    pub fore_low : (f1 ≡ f2) ⊎ IsNearlyAbove a2 (f1 +ℤ pos 1) (first_at loading water stations flood.slabs.items)
    pub fore_high : (f1 ≡ f2) ⊎ IsNearlyBelow a1 (f2 -ℤ pos 1) (first_at loading water stations flood.slabs.items)

  -- the residuals have their signs at the sides, no side can move, the ship floats, and a candidate of each tip qualifies
  pub record IsSharpDamageBox (box : DraftBox) : Type 0 where
    pub sides : HasSignsAtSides stations flood.slabs.items (owed_last loading water stations) (owed_first loading water stations)
        (in_unit 10 box.a1) (in_unit 10 box.a2) (in_unit 10 box.f1) (in_unit 10 box.f2)
    pub tight : IsTight box.a1 box.a2 box.f1 box.f2
    pub afloat : IsAfloat
    pub fore : HasStart flood loading water stations Fore
    pub aft : HasStart flood loading water stations Aft

  -- ---- ships without a box
  -- the forward end is tried first
  abbrev pub HasEarlierStart : Tip → Type 0
  HasEarlierStart Fore = Unit {0}
  HasEarlierStart Aft = HasStart flood loading water stations Fore

  -- it floats, and none of the sixteen candidates of the tip qualifies
  pub record HasNoStart (tip : Tip) (tried : List Corner) : Type 0 where
    pub afloat : IsAfloat
    pub earlier : HasEarlierStart tip
    pub all : (k : ℕ) → k < 16 → (c : Corner) → IsAt tried k c → IsTried flood loading water stations tip (half_of k) c
    pub none : (k : ℕ) → k < 16 → (c : Corner) → IsAt tried k c → ¬ Qualifies tip c

  abbrev pub IsFaultOf : SettleFault → Type 0
  IsFaultOf (Sinks left) = IsSunk left
  IsFaultOf (NoStart tip tried) = HasNoStart tip tried
