-- Strips that lie clear of the waterplanes of a box, and how wide the integrals below them may be by the faces of the others.
use Rattle.std.specs.Prelude.{◌≡◌, ◌⊎◌, ℕ, zero, suc, ◌<◌, Bool, true, cond, pos}
use Rattle.std.specs.List.{AllByRecursion}
use Rattle.exact_algebra.proofs.Fraction.{Fraction, nought, ◌⊕◌, ◌⊗◌, inverse}
use Rattle.exact_algebra.proofs.Whole.{whole}
use Rattle.hull_model.specs.declared.face.Face.{Face}
use Rattle.hull_model.specs.Fractions.{sum_over}
use Rattle.hull_polyhedron.specs.declared.faces.Faces.{Faces}
use Rattle.hull_polyhedron.specs.StripsOf.{strip_count, strip_faces, strip_nodes}
use Rattle.outward_interval.specs.Widths.{unit_of}
use Rattle.flux_moments.specs.Sizes.{spread, doubled_area, margin}
use Rattle.flux_moments.specs.Water.{IsUnderBy, IsOutBy}
use Rattle.flux_moments.specs.Widths.{size_of, reach_of}
use Rattle.flux_moments.specs.declared.plane_box.PlaneBox.{PlaneBox}

-- at every plane of the box each point of a strip and its mirror image lie under water, or each above it, by the width of the bracket's spans
-- times the reach and 2^-16 mm
abbrev pub IsClear : Faces → PlaneBox → ℕ → Type 0
IsClear faces planes n =
    AllByRecursion (IsUnderBy planes faces.first_x faces.last_x (margin (size_of planes) (reach_of faces planes))) (strip_nodes faces n)
    ⊎ AllByRecursion (IsOutBy planes faces.first_x faces.last_x (margin (size_of planes) (reach_of faces planes))) (strip_nodes faces n)

-- only strips that are clear are chosen
abbrev pub AreClear : Faces → PlaneBox → (ℕ → Bool) → Type 0
AreClear faces planes chosen = (n : ℕ) → n < strip_count faces → chosen n ≡ true → IsClear faces planes n

-- the sum of what each face of the first strips has, the chosen strips left out
abbrev pub open_to : Faces → (ℕ → Bool) → (Face → Fraction) → ℕ → Fraction
open_to faces chosen g zero = nought
open_to faces chosen g (suc n) = open_to faces chosen g n ⊕ cond (chosen n) nought (sum_over g (strip_faces faces n))

-- half the doubled area of a face, and 16 mm²
abbrev pub open_area : Face → Fraction
open_area f = doubled_area f ⊗ inverse (whole (pos 2)) ⊕ whole (pos 16)

-- how wide the volume may be, in mm³, by the strips that aren't chosen
unfoldable pub open_bound : Faces → PlaneBox → (ℕ → Bool) → Fraction
open_bound faces planes chosen = (whole (pos 8) ⊗ open_to faces chosen open_area (strip_count faces)) ⊗ (spread (size_of planes) (reach_of faces planes) ⊕ unit_of 16) ⊕ unit_of 10
