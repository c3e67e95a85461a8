-- What is summed over the kept pieces of a tetrahedron, where it is the closed form of each piece, is summed over the tetrahedron's faces.
use mathlib.Core.Path.{◌≡◌, refl, sym, ◌∙◌, ap}
use mathlib.Core.List.{List, [], ◌∷◌}
use mathlib.Core.Bool.{Bool, true, false}
use lib.IntN.{ℤ}
use Rattle.std.specs.List.{AllByRecursion}
use Rattle.exact_algebra.specs.Expression.{var, unit, number, ◌:+◌, ◌:*◌, opposite}
use Rattle.exact_algebra.proofs.Ring.{ring, ring_from, none, given}
use Rattle.exact_algebra.proofs.Fraction.{Fraction, nought, ◌⊕◌, ◌⊗◌, fraction_ring}
use Rattle.hull_model.specs.Fractions.{sum_over}
use Rattle.hull_model.specs.TriangleCut.{Corners}
use Rattle.hull_model.specs.TetrahedronCut.{Tetrahedron, is_kept, kept_pieces}
use Rattle.hull_model.specs.Waterplane.{Waterplane, Position, under}
use Rattle.hull_model.proofs.TetrahedronRounds.{depth_linear}
use Rattle.hull_polyhedron.specs.Columns.{depth, seen_sum}
use Rattle.hull_polyhedron.specs.CentralLaw.{faces_turned, PointOutwards}
use Rattle.hull_polyhedron.proofs.Pieces.{all_kept, sum_kept}
use Rattle.hull_model.proofs.EdgeSplits.{IsLinearFunction}
use Rattle.hull_polyhedron.proofs.Placed.{flow, flow_splits, flow_dry}
use Rattle.hull_polyhedron.proofs.Determinants.{with_sign, IsRight, right_outwards, right_parts}
use Rattle.hull_polyhedron.proofs.SeenForm.{N24, cancel_24, turned-flow}

module _ (plane : Waterplane) (first last : ℤ) where
  abbrev corners : Corners Position
  corners = under plane first last

  module _ (f g : Position → Fraction) (f_linear : IsLinearFunction f) (g_linear : IsLinearFunction g) where
    abbrev flow_of : Tetrahedron Position → Fraction
    flow_of = flow plane first last f g

    -- a twenty-fourth of the closed form of each kept piece
    abbrev pub IsPieceTerm : (Tetrahedron Position → Fraction) → Bool → Type 0
    IsPieceTerm term b = (p : Tetrahedron Position) → is_kept corners p ≡ true → IsRight b p → term p ⊗ N24 ≡ with_sign b (flow_of p)

    module _ (term : Tetrahedron Position → Fraction) (b : Bool) (is_term : IsPieceTerm term b) where
      sum_terms : (ps : List (Tetrahedron Position)) → AllByRecursion (λ p. (is_kept corners p ≡ true) × IsRight b p) ps → sum_over term ps ⊗ N24 ≡ with_sign b (sum_over flow_of ps)
      unfolding sum_over
      sum_terms [] all = none_left b
        where
          none_left : (b : Bool) → nought ⊗ N24 ≡ with_sign b nought
          none_left true = ring fraction_ring (N24 ∷ []) (number 0 :* var 0) (number 0) refl
          none_left false = ring fraction_ring (N24 ∷ []) (number 0 :* var 0) (opposite (number 0)) refl
      sum_terms (p ∷ ps) all = ring_from fraction_ring (term p ∷ sum_over term ps ∷ N24 ∷ with_sign b (flow_of p) ∷ with_sign b (sum_over flow_of ps) ∷ [])
          ((unit, var 0 :* var 2, var 3) ∷ (unit, var 1 :* var 2, var 4) ∷ []) (given (is_term p all.0.0 all.0.1) (given (sum_terms ps all.1) none))
          ((var 0 :+ var 1) :* var 2) (var 3 :+ var 4) refl
          ∙ added b (flow_of p) (sum_over flow_of ps)
        where
          added : (b : Bool) (x y : Fraction) → with_sign b x ⊕ with_sign b y ≡ with_sign b (x ⊕ y)
          added true x y = refl
          added false x y = ring fraction_ring (x ∷ y ∷ []) (opposite (var 0) :+ opposite (var 1)) (opposite (var 0 :+ var 1)) refl

      pub pieces_by_faces : (t : Tetrahedron Position) → PointOutwards b t → sum_over term (kept_pieces corners t) ≡ seen_sum plane first last f g (faces_turned b t)
      pieces_by_faces t out = cancel_24 (
          sum_terms (kept_pieces corners t) (all_kept corners (IsRight b) (right_parts (depth plane first last) (depth_linear plane first last) b) t (right_outwards b t out))
          ∙ ap (with_sign b) (sum_kept corners (depth_linear plane first last) flow_of (flow_splits plane first last f g f_linear g_linear) (flow_dry plane first last f g) t)
          ∙ sym (turned-flow plane first last f g b t))
