-- Six times the volume of the three tetrahedra between a strip triangle and its feet: twice the triangle's area seen along y, times the
-- sum of its half-breadths.
use Rattle.std.proofs.Common.{zero, suc, ◌+◌, ◌*◌, ◌≡◌, refl, ◌∙◌, ap, ap₂, List, [], ◌∷◌, ℤ, pos, negsuc, ◌+ℤ◌, neg_ℤ, unsigned_abs, arith}
use Rattle.std.proofs.lemmas.Int.{unsigned_abs-mul}
use Rattle.exact_algebra.specs.Expression.{Expression, var, number, ◌:+◌, ◌:-◌, ◌:*◌, opposite}
use Rattle.exact_algebra.proofs.Ring.{ring}
use Rattle.exact_algebra.proofs.WholeNumbers.{integers}
use Rattle.hull_model.specs.declared.node.Node.{Node}
use Rattle.hull_model.specs.Boundary.{sum_of}
use Rattle.hull_model.specs.Nodes.{foot}
use Rattle.hull_model.specs.SignedFaces.{turn}
use Rattle.hull_model.specs.Tetrahedra.{to_centreplane, six_times}
use Rattle.hull_model.specs.TetrahedronCut.{Tetrahedron, tetrahedron}
use Rattle.hull_model.specs.TriangleCut.{Triangle}

abbrev pub six : Tetrahedron Node → ℤ
six t = pos (six_times t)

Corner : Type 0
Corner = Expression × Expression × Expression

-- six times the volume of four corners by their coordinates, as the definition has it
six_of_corners : Corner → Corner → Corner → Corner → Expression
unfolding Corner
six_of_corners a b c d =
    (((b.1 :- a.1) :* (c.2 :- a.2) :- (b.2 :- a.2) :* (c.1 :- a.1)) :* (d.0 :- a.0)
    :+ ((b.2 :- a.2) :* (c.0 :- a.0) :- (b.0 :- a.0) :* (c.2 :- a.2)) :* (d.1 :- a.1))
    :+ ((b.0 :- a.0) :* (c.1 :- a.1) :- (b.1 :- a.1) :* (c.0 :- a.0)) :* (d.2 :- a.2)

opposite_size : (n : ℤ) → unsigned_abs (neg_ℤ n) ≡ unsigned_abs n
opposite_size (pos zero) = refl
opposite_size (pos (suc n)) = refl
opposite_size (negsuc n) = refl

module _ (t : Triangle Node) where
  nine : List ℤ
  nine = t.a.x ∷ t.a.y ∷ t.a.z ∷ t.b.x ∷ t.b.y ∷ t.b.z ∷ t.c.x ∷ t.c.y ∷ t.c.z ∷ []

  turned : Expression
  turned = (var 3 :- var 0) :* (var 8 :- var 2) :- (var 5 :- var 2) :* (var 6 :- var 0)

  first : six_times (tetrahedron (foot t.a) (foot t.b) (foot t.c) t.c) ≡ unsigned_abs (turn t) * unsigned_abs t.c.y
  unfolding nine turned Corner six_of_corners
  first = ap unsigned_abs (ring integers nine (six_of_corners (var 0, number 0, var 2) (var 3, number 0, var 5) (var 6, number 0, var 8) (var 6, var 7, var 8)) (opposite (turned :* var 7)) refl)
      ∙ opposite_size _ ∙ unsigned_abs-mul (turn t) t.c.y

  second : six_times (tetrahedron (foot t.a) (foot t.b) t.b t.c) ≡ unsigned_abs (turn t) * unsigned_abs t.b.y
  unfolding nine turned Corner six_of_corners
  second = ap unsigned_abs (ring integers nine (six_of_corners (var 0, number 0, var 2) (var 3, number 0, var 5) (var 3, var 4, var 5) (var 6, var 7, var 8)) (turned :* var 4) refl)
      ∙ unsigned_abs-mul (turn t) t.b.y

  third : six_times (tetrahedron (foot t.a) t.a t.b t.c) ≡ unsigned_abs (turn t) * unsigned_abs t.a.y
  unfolding nine turned Corner six_of_corners
  third = ap unsigned_abs (ring integers nine (six_of_corners (var 0, number 0, var 2) (var 0, var 1, var 2) (var 3, var 4, var 5) (var 6, var 7, var 8)) (opposite (turned :* var 1)) refl)
      ∙ opposite_size _ ∙ unsigned_abs-mul (turn t) t.a.y

  pub column_six : sum_of six (to_centreplane t) ≡ pos (unsigned_abs (turn t) * (unsigned_abs t.a.y + unsigned_abs t.b.y + unsigned_abs t.c.y))
  column_six = ap₂ (λ m n. pos m +ℤ n) first (ap₂ (λ m n. pos m +ℤ n) second (ap (λ m. pos m +ℤ pos 0) third)) ∙ ap pos (omega arith)
