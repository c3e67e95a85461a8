-- KN in the box of a draft bracket.
use Rattle.std.proofs.Common.{subst, ℤ}
use Rattle.exact_algebra.proofs.Fraction.{Fraction, ◌⊕◌, ◌⊗◌, inverse}
use Rattle.angle_bounds.specs.declared.bracket.Bracket.{Bracket}
use Rattle.hull_polyhedron.specs.declared.faces.Faces.{Faces}
use Rattle.outward_interval.specs.Widths.{unit_of, IsNarrow}
use Rattle.flux_moments.specs.declared.plane_box.PlaneBox.{PlaneBox}
use Rattle.flux_moments.specs.Widths.{reach_of, volume_bound}
use Rattle.draft_bracket.specs.DraftBracket.{IsBoxFrom}
use Rattle.draft_bracket.proofs.Looks.{same_reach, same_bound}
use Rattle.cross_curves.specs.Kn.{IsNarrowKn}

pub narrow_from : (faces : Faces) (bracket : Bracket) (need : Fraction) (d1 d2 lo hi : ℤ) (p : PlaneBox) → IsBoxFrom bracket d1 d2 p
    → IsNarrow 20 ((reach_of faces p ⊗ volume_bound faces p) ⊗ inverse need ⊕ unit_of 16) lo hi → IsNarrowKn faces bracket need d1 d2 lo hi
narrow_from faces bracket need d1 d2 lo hi p h narrow q k = subst (λ w. IsNarrow 20 w lo hi)
    (λ i. (same_reach faces bracket d1 d2 p q h k i ⊗ same_bound faces bracket d1 d2 p q h k i) ⊗ inverse need ⊕ unit_of 16) narrow
