-- The law of the lid: the integrals over the lid of a hull are what is seen from above of faces that are balanced against its signed faces.
use native.Mathlib.Omega.{arith}
use mathlib.Core.Path.{◌≡◌, refl, sym, ◌∙◌, ap, ap₂, subst}
use mathlib.Core.List.{List, [], ◌∷◌}
use lib.IntN.{ℤ, pos}
use Rattle.std.specs.Prelude.{map}
use Rattle.std.specs.List.{AllByRecursion}
use Rattle.exact_algebra.specs.Expression.{Expression, var, unit, number, ◌:+◌, ◌:-◌, ◌:*◌, opposite}
use Rattle.exact_algebra.proofs.Ring.{ring_from, none, given}
use Rattle.exact_algebra.proofs.Fraction.{Fraction, one, ◌⊕◌, ◌⊗◌, inverse, negative, fraction_ring}
use Rattle.exact_algebra.proofs.Whole.{whole, whole-add, whole-one}
use Rattle.hull_model.specs.declared.node.Node.{Node}
use Rattle.hull_model.specs.Boundary.{AreBalanced}
use Rattle.hull_model.specs.Fractions.{sum_over}
use Rattle.hull_model.specs.Lid.{lid, lids, lid_of, level_area, first_moment, lid_area, lid_x, lid_yy, lid_xx}
use Rattle.hull_model.specs.SignedFaces.{Signed, signed_tetrahedra}
use Rattle.hull_model.specs.Submerged.{first_x, last_x, submerged_pieces}
use Rattle.hull_model.specs.Tetrahedra.{hull_tetrahedra}
use Rattle.hull_model.specs.TetrahedronCut.{Tetrahedron}
use Rattle.hull_model.specs.TriangleCut.{Triangle}
use Rattle.hull_model.specs.Waterplane.{Waterplane, Position, side_distance, upright, under}
use Rattle.hull_model.proofs.PartSums.{sum_over-flat_map}
use Rattle.hull_model.proofs.TriangleLaws.{N-twelve, twelve-twelfth}
use Rattle.hull_model.proofs.WetSum.{N12}
use Rattle.hull_polyhedron.specs.CentralLaw.{PointsOutwards, solids, all_outward_faces}
use Rattle.hull_polyhedron.specs.Columns.{triangle_at, seen_sum}
use Rattle.hull_polyhedron.specs.LidLaw.{AreLidSums, LidLawOfSolids, LidLaw}
use Rattle.hull_model.proofs.EdgeSplits.{IsLinearFunction}
use Rattle.hull_polyhedron.proofs.Placed.{area_of, six_by}
use Rattle.hull_polyhedron.proofs.SeenForm.{whole_inverse}
use Rattle.hull_polyhedron.proofs.OneTetrahedron.{IsFlat, one_linear, one_flat, x_flat, side_flat}
use Rattle.hull_polyhedron.proofs.LidOfTetrahedron.{lid_term, lids_by_faces, upright-side}
use Rattle.hull_polyhedron.proofs.OutwardSolids.{solids_point_outwards}
use Rattle.hull_polyhedron.proofs.SixVolume.{solids_of_hull}
use Rattle.hull_polyhedron.proofs.WholeHull.{sum_signed}

-- ---- area and first moment as integrals of products
three : whole (pos 3) ≡ one ⊕ one ⊕ one
three = whole-add (pos 2) (pos 1) ∙ ap₂ ◌⊕◌ (whole-add (pos 1) (pos 1) ∙ ap₂ ◌⊕◌ whole-one whole-one) whole-one

area-term : (t : Triangle Position) → level_area t ≡ lid_term (λ p. one) (λ p. one) t
area-term t = ring_from fraction_ring (level_area t ∷ N12 ∷ inverse N12 ∷ [])
    ((var 0 :* var 2, var 1, (unit :+ unit :+ unit :+ unit) :* (unit :+ unit :+ unit)) ∷ (opposite (var 0), var 1 :* var 2, unit) ∷ []) (given N-twelve (given twelve-twelfth none))
    (var 0) (var 0 :* ((unit :* unit :+ unit :* unit :+ unit :* unit) :+ (unit :+ unit :+ unit) :* (unit :+ unit :+ unit)) :* var 2) refl

twelve-fours : N12 ≡ (one ⊕ one ⊕ one ⊕ one) ⊗ whole (pos 3)
twelve-fours = N-twelve ∙ ap (λ n. (one ⊕ one ⊕ one ⊕ one) ⊗ n) (sym three)

moment-term : (t : Triangle Position) → first_moment (λ p. p.x) t ≡ lid_term (λ p. p.x) (λ p. one) t
moment-term t = ring_from fraction_ring (level_area t ∷ t.a.x ∷ t.b.x ∷ t.c.x ∷ N12 ∷ inverse N12 ∷ whole (pos 3) ∷ inverse (whole (pos 3)) ∷ [])
    ((opposite (M :* var 7), var 4 :* var 5, unit) ∷ (M :* var 7 :* var 5, var 4, four :* var 6) ∷ (four :* M :* var 5, var 6 :* var 7, unit) ∷ [])
    (given twelve-twelfth (given twelve-fours (given (whole_inverse 3 (omega arith)) none)))
    (var 0 :* (var 1 :+ var 2 :+ var 3) :* var 7) (var 0 :* ((var 1 :* unit :+ var 2 :* unit :+ var 3 :* unit) :+ (var 1 :+ var 2 :+ var 3) :* (unit :+ unit :+ unit)) :* var 5) refl
  where
    four : Expression
    four = unit :+ unit :+ unit :+ unit

    M : Expression
    M = var 0 :* (var 1 :+ var 2 :+ var 3)

module _ (at : Fraction) (first last : ℤ) where
  abbrev plane : Waterplane
  plane = upright at

  negative_flat : (f : Position → Fraction) → IsFlat plane first last f → IsFlat plane first last (λ p. negative (f p))
  unfolding six_by
  negative_flat f flat t = ring_from fraction_ring (area_of plane t.a t.b t.c ∷ area_of plane t.a t.b t.d ∷ area_of plane t.a t.c t.d ∷ f t.a ∷ f t.b ∷ f t.c ∷ f t.d ∷ [])
      ((opposite unit, six (var 3) (var 4) (var 5) (var 6), number 0) ∷ []) (given (flat t) none) (six (opposite (var 3)) (opposite (var 4)) (opposite (var 5)) (opposite (var 6))) (number 0) refl
    where
      six : Expression → Expression → Expression → Expression → Expression
      six a b c d = (d :- a) :* var 0 :- (c :- a) :* var 1 :+ (b :- a) :* var 2

  -- y is the opposite of the distance to the side
  y_flat : IsFlat plane first last (λ p. p.y)
  y_flat t = (λ i. six_by plane first last (λ p. opposite_side p i) t) ∙ negative_flat (side_distance plane) (side_flat plane first last) t
    where
      opposite_side : (p : Position) → p.y ≡ negative (side_distance plane p)
      opposite_side p = ring_from fraction_ring (p.y ∷ side_distance plane p ∷ []) ((unit, var 1, opposite (var 0)) ∷ []) (given (upright-side at first last p) none) (var 0) (opposite (var 1)) refl

  module _ (ss : List Signed) (right : AllByRecursion PointsOutwards ss) (faces : List (Triangle Node)) (balanced : AreBalanced faces (all_outward_faces ss)) where
    abbrev pieces : List (Tetrahedron Position)
    pieces = submerged_pieces plane first last (solids ss)

    abbrev seen_from_above : (Position → Fraction) → (Position → Fraction) → Fraction
    seen_from_above f g = seen_sum plane first last f g (map triangle_at faces)

    lids_seen : (f g : Position → Fraction) → IsLinearFunction f → IsLinearFunction g → IsFlat plane first last f → IsFlat plane first last g
        → sum_over (lid_term f g) (lids (under plane first last) pieces) ≡ seen_from_above f g
    lids_seen f g f_linear g_linear f_flat g_flat = sum_over-flat_map (lid_term f g) (lid_of (under plane first last)) pieces
        ∙ sum_signed plane first last f g (λ p. sum_over (lid_term f g) (lid_of (under plane first last) p)) (lids_by_faces at first last f g f_linear g_linear f_flat g_flat) ss right faces balanced

    lid_sums : AreLidSums at first last pieces (map triangle_at faces)
    lid_sums = record {
      area = (λ i. sum_over (λ t. area-term t i) (lids (under plane first last) pieces))
          ∙ lids_seen (λ p. one) (λ p. one) (one_linear plane first last) (one_linear plane first last) (one_flat plane first last) (one_flat plane first last);
      x = (λ i. sum_over (λ t. moment-term t i) (lids (under plane first last) pieces))
          ∙ lids_seen (λ p. p.x) (λ p. one) (λ t p q. refl) (one_linear plane first last) (x_flat plane first last) (one_flat plane first last);
      yy = lids_seen (λ p. p.y) (λ p. p.y) (λ t p q. refl) (λ t p q. refl) y_flat y_flat;
      xx = lids_seen (λ p. p.x) (λ p. p.x) (λ t p q. refl) (λ t p q. refl) (x_flat plane first last) (x_flat plane first last);
    }

pub lid_law_of_solids : LidLawOfSolids
lid_law_of_solids at first last ss right faces balanced = lid_sums at first last ss right faces balanced

-- the hull's tetrahedra are such
pub lid_law : LidLaw
unfolding lid lid_area lid_x lid_yy lid_xx
lid_law at stations hull faces balanced = record { area = law.area; x = law.x; yy = law.yy; xx = law.xx }
  where
    law : AreLidSums at (first_x stations) (last_x stations) (submerged_pieces (upright at) (first_x stations) (last_x stations) (hull_tetrahedra stations)) (map triangle_at faces)
    law = subst (λ (ts : List (Tetrahedron Node)). AreLidSums at (first_x stations) (last_x stations) (submerged_pieces (upright at) (first_x stations) (last_x stations) ts) (map triangle_at faces))
        (solids_of_hull stations) (lid_law_of_solids at (first_x stations) (last_x stations) (signed_tetrahedra stations) (solids_point_outwards stations hull) faces balanced)
