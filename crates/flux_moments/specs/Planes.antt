-- Boxes of waterplanes, and the planes in them.
use Rattle.std.specs.Prelude.{ℤ, pos, ◌+ℤ◌, ◌-ℤ◌, ◌*ℤ◌}
use Rattle.std.specs.Int.RustNames.{unsigned_abs}
use Rattle.exact_algebra.proofs.Fraction.{Fraction, ◌⊗◌, inverse}
use Rattle.exact_algebra.proofs.Whole.{whole}
use Rattle.exact_algebra.proofs.Span.{ContainsFraction}
use Rattle.angle_bounds.specs.declared.bracket.Bracket.{Bracket}
use Rattle.angle_bounds.specs.Directions.{IsDirectionWithin}
use Rattle.hull_model.specs.Waterplane.{Waterplane}
use Rattle.outward_interval.specs.Ends.{AreLeastEnds}
use Rattle.flux_moments.specs.declared.plane_box.PlaneBox.{PlaneBox}

-- the direction of the plane lies in the bracket
abbrev pub HasDirectionIn : Bracket → Waterplane → Type 0
HasDirectionIn bracket plane = IsDirectionWithin bracket.low.c bracket.low.s bracket.high.c bracket.high.s plane.c plane.s

-- the plane lies in the box: its direction in the bracket, its levels between the ends. A grid unit is 2^-10 mm
pub record IsIn (planes : PlaneBox) (plane : Waterplane) : Type 0 where
  pub direction : HasDirectionIn planes.bracket plane
  pub aft : ContainsFraction 10 planes.a1 planes.a2 plane.a
  pub fore : ContainsFraction 10 planes.f1 planes.f2 plane.f

-- the cosine and the sine of the plane's direction
abbrev pub cosine : Waterplane → Fraction
cosine plane = whole (pos plane.c) ⊗ inverse (whole (pos plane.r))

abbrev pub sine : Waterplane → Fraction
sine plane = whole (pos plane.s) ⊗ inverse (whole (pos plane.r))

-- the level at x in units of 2^-20 mm, times the length, from the levels at both ends in grid units
abbrev pub mixed_level : (first last x aft fore : ℤ) → ℤ
mixed_level first last x aft fore = (aft *ℤ (last -ℤ x) +ℤ fore *ℤ (x -ℤ first)) *ℤ pos 1024

-- the least span that holds the levels of a box at x
abbrev pub AreLevelEnds : PlaneBox → (first last x lo hi : ℤ) → Type 0
AreLevelEnds planes first last x lo hi =
    AreLeastEnds (mixed_level first last x planes.a1 planes.f1) (mixed_level first last x planes.a2 planes.f2) (unsigned_abs (last -ℤ first)) lo hi
