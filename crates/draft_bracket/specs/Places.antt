-- Levels that were looked at, by the enclosure of the volumes there.
use Rattle.std.specs.Prelude.{◌≡◌, Bool, true, false, not, ℤ}
use Rattle.exact_algebra.proofs.Fraction.{Fraction}
use Rattle.angle_bounds.specs.declared.bracket.Bracket.{Bracket}
use Rattle.hull_polyhedron.specs.declared.faces.Faces.{Faces}
use Rattle.draft_bracket.specs.declared.place.End.{End}
use Rattle.draft_bracket.specs.declared.place.End.TheVariants.{Upper, Lower}
use Rattle.draft_bracket.specs.DraftBracket.{OfHulls, DisplacesAtMost, DisplacesAtLeast, IsNearlyAbove, IsNearlyBelow}

-- what follows where the upper end is above the need or isn't, and where the lower end reaches it or doesn't
pub record IsPlace (faces : Faces) (bracket : Bracket) (need : Fraction) (at : ℤ) (is_over reaches : Bool) : Type 0 where
  pub at_most : is_over ≡ false → OfHulls faces (λ hull. DisplacesAtMost hull bracket need at)
  pub above : is_over ≡ true → OfHulls faces (λ hull. IsNearlyAbove faces hull bracket need at)
  pub at_least : reaches ≡ true → OfHulls faces (λ hull. DisplacesAtLeast hull bracket need at)
  pub below : reaches ≡ false → OfHulls faces (λ hull. IsNearlyBelow faces hull bracket need at)

-- on which side of the need a level lies, by the upper ends or by the lower ends
abbrev pub is_short : End → Bool → Bool → Bool
is_short Upper is_over reaches = not is_over
is_short Lower is_over reaches = not reaches
