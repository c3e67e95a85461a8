-- Boxes of levels round the upright planes at which the moments of what is left of a flooded hull are what is owed.
use mathlib.Core.Path.{refl}
use native.Mathlib.Nat.{zero-lt-suc}
use Rattle.std.specs.Prelude.{◌≡◌, true, List}
use Rattle.exact_algebra.proofs.Fraction.{Fraction, nought, ◌⊖◌, ◌≼◌}
use Rattle.hull_model.specs.declared.slab.Slab.{Slab}
use Rattle.hull_model.specs.declared.station.Station.{Station}
use Rattle.hull_model.specs.Body.{IsHull}
use Rattle.hull_model.specs.Waterplane.{Waterplane}
use Rattle.hull_model.specs.Slabs.{are_apart}
use Rattle.hull_polyhedron.specs.RisingLaw.{moment_from_last, moment_from_first}

-- upright planes: of any direction that has no sine, and with these levels at the first and at the last station
abbrev pub IsUpright : Waterplane → Type 0
IsUpright plane = plane.s ≡ 0

abbrev pub upright_at : Fraction → Fraction → Waterplane
upright_at a f = record { c = 1; s = 0; r = 1; round = refl; positive = zero-lt-suc 0; a = a; f = f }

module _ (stations : List Station) (slabs : List Slab) (owed_last owed_first : Fraction) where
  -- by how much the moment of what is left is above what is owed, about the last station and about the first
  abbrev pub residual_last : Waterplane → Fraction
  residual_last plane = moment_from_last plane stations slabs ⊖ owed_last

  abbrev pub residual_first : Waterplane → Fraction
  residual_first plane = moment_from_first plane stations slabs ⊖ owed_first

  -- the signs at the four sides of a box of levels, at every upright plane there
  pub record HasSignsAtSides (a1 a2 f1 f2 : Fraction) : Type 0 where
    pub aft_low : (plane : Waterplane) → IsUpright plane → plane.a ≡ a1 → f1 ≼ plane.f → plane.f ≼ f2 → residual_last plane ≼ nought
    pub aft_high : (plane : Waterplane) → IsUpright plane → plane.a ≡ a2 → f1 ≼ plane.f → plane.f ≼ f2 → nought ≼ residual_last plane
    pub fore_low : (plane : Waterplane) → IsUpright plane → plane.f ≡ f1 → a1 ≼ plane.a → plane.a ≼ a2 → residual_first plane ≼ nought
    pub fore_high : (plane : Waterplane) → IsUpright plane → plane.f ≡ f2 → a1 ≼ plane.a → plane.a ≼ a2 → nought ≼ residual_first plane

  -- the same at two corners
  pub record HasSignsAtCorners (a1 a2 f1 f2 : Fraction) : Type 0 where
    pub aft_low : residual_last (upright_at a1 f2) ≼ nought
    pub aft_high : nought ≼ residual_last (upright_at a2 f1)
    pub fore_low : residual_first (upright_at a2 f1) ≼ nought
    pub fore_high : nought ≼ residual_first (upright_at a1 f2)

-- for slabs of which no two share more than a plane, the signs at two corners decide those at all four sides
abbrev pub CornersDecide : Type 0
CornersDecide = (stations : List Station) → IsHull stations → (slabs : List Slab) → are_apart slabs ≡ true → (owed_last owed_first a1 a2 f1 f2 : Fraction)
    → HasSignsAtCorners stations slabs owed_last owed_first a1 a2 f1 f2 → HasSignsAtSides stations slabs owed_last owed_first a1 a2 f1 f2
