-- What is summed over the faces of a hull's tetrahedra has the same sum over faces that are balanced against them; the central law of the hull.
use mathlib.Core.Path.{◌≡◌, refl, sym, ◌∙◌, ap, ap₂, subst}
use mathlib.Core.List.{List, [], ◌∷◌}
use mathlib.Core.Bool.{Bool, true, false}
use Rattle.std.proofs.Common.{ℤ, pos, ◌-ℤ◌, ◌*ℤ◌}
use Rattle.std.specs.Prelude.{map}
use Rattle.std.specs.List.{flat_map, AllByRecursion}
use Rattle.std.proofs.lemmas.List.{map-append}
use Rattle.exact_algebra.specs.Expression.{var, number, ◌:+◌, ◌:*◌, opposite}
use Rattle.exact_algebra.proofs.Ring.{ring_from, none, given}
use Rattle.exact_algebra.proofs.Fraction.{Fraction, nought, one, ◌⊕◌, ◌⊗◌, ◌⊖◌, negative, inverse, fraction_ring}
use Rattle.exact_algebra.proofs.Whole.{whole, whole-nought, whole-sub}
use Rattle.hull_model.specs.declared.node.Node.{Node}
use Rattle.hull_model.specs.declared.vector.Vector.{Vector}
use Rattle.hull_model.specs.Boundary.{no_area, AreBalanced, IsAlternating, sum_in}
use Rattle.hull_model.specs.FaceParts.{area_y, area_z}
use Rattle.hull_model.specs.Faces.{doubled_area}
use Rattle.hull_model.specs.Fractions.{sum_over}
use Rattle.hull_model.specs.TriangleCut.{Triangle}
use Rattle.hull_model.specs.TetrahedronCut.{Tetrahedron, with_corners, kept_pieces}
use Rattle.hull_model.specs.SignedFaces.{Signed, outward_faces, faces_by, signed_tetrahedra}
use Rattle.hull_model.specs.Tetrahedra.{hull_tetrahedra}
use Rattle.hull_model.specs.Waterplane.{Waterplane, Position, position_of, height, side_distance, under}
use Rattle.hull_model.specs.WetMean.{product_mean, wet_mean}
use Rattle.hull_model.specs.Submerged.{first_x, last_x, submerged_pieces, submerged_volume, volume_of, mean_of, mx, mv, mu}
use Rattle.hull_model.proofs.Balance.{balanced_sums}
use Rattle.hull_polyhedron.proofs.SixVolume.{solids_of_hull}
use Rattle.hull_model.proofs.ShareSplits.{sum_over-append}
use Rattle.hull_polyhedron.specs.Columns.{depth, middle, by_corners, seen_area, column_sum, seen_part, seen_sum, triangle_at}
use Rattle.hull_polyhedron.specs.CentralLaw.{AreColumnSums, faces_turned, PointOutwards, PointsOutwards, solids, all_outward_faces, CentralLawOfSolids, CentralLaw}
use Rattle.hull_polyhedron.proofs.SeenForm.{seen-turned, seen-rotated, column_sum-seen}
use Rattle.hull_polyhedron.proofs.OneTetrahedron.{are_column_sums}
use Rattle.hull_polyhedron.proofs.OutwardSolids.{solids_point_outwards}
use Rattle.hull_polyhedron.proofs.Uncut.{whole_minor}

-- ---- the area vector of a triangle of nodes
minor-node : (a b c d e f g k : ℤ) → whole (((a -ℤ b) *ℤ (c -ℤ d)) -ℤ ((e -ℤ f) *ℤ (g -ℤ k))) ≡ (whole a ⊖ whole b) ⊗ (whole c ⊖ whole d) ⊖ (whole e ⊖ whole f) ⊗ (whole g ⊖ whole k)
minor-node a b c d e f g k = whole_minor (a -ℤ b) (c -ℤ d) (e -ℤ f) (g -ℤ k)
    ∙ ap₂ (λ x y. x ⊖ y) (ap₂ ◌⊗◌ (whole-sub a b) (whole-sub c d)) (ap₂ ◌⊗◌ (whole-sub e f) (whole-sub g k))

pub area_y-node : (t : Triangle Node) → area_y (triangle_at t) ≡ whole (doubled_area t).y
area_y-node t = sym (minor-node t.b.z t.a.z t.c.x t.a.x t.b.x t.a.x t.c.z t.a.z)

pub area_z-node : (t : Triangle Node) → area_z (triangle_at t) ≡ whole (doubled_area t).z
area_z-node t = sym (minor-node t.b.x t.a.x t.c.y t.a.y t.b.y t.a.y t.c.x t.a.x)

pub seen_area-node : (plane : Waterplane) (t : Triangle Node)
    → seen_area plane (triangle_at t) ≡ negative (whole (pos plane.s) ⊗ whole (doubled_area t).y ⊕ whole (pos plane.c) ⊗ whole (doubled_area t).z) ⊗ inverse (whole (pos plane.r))
unfolding seen_area
seen_area-node plane t = ap₂ (λ y z. negative (whole (pos plane.s) ⊗ y ⊕ whole (pos plane.c) ⊗ z) ⊗ inverse (whole (pos plane.r))) (area_y-node t) (area_z-node t)

pub sum_over-map : {B : Type 0} (g : B → Fraction) (make : Triangle Node → B) (xs : List (Triangle Node)) → sum_over g (map make xs) ≡ sum_in fraction_ring.operations (λ x. g (make x)) xs
unfolding sum_over
sum_over-map g make [] = refl
sum_over-map g make (x ∷ xs) = ap (λ s. g (make x) ⊕ s) (sum_over-map g make xs)

module _ (plane : Waterplane) (first last : ℤ) (f g : Position → Fraction) where
  abbrev node_part : Triangle Node → Fraction
  node_part t = seen_part plane first last f g (triangle_at t)

  seen-flat : (t : Triangle Node) → doubled_area t ≡ no_area → node_part t ≡ nought
  unfolding seen_part
  seen-flat t e = ring_from fraction_ring
      (seen_area plane (triangle_at t) ∷ inverse (whole (pos 2)) ∷ wet ∷ whole (pos plane.s) ∷ whole (pos plane.c) ∷ inverse (whole (pos plane.r)) ∷ whole (doubled_area t).y ∷ whole (doubled_area t).z ∷ [])
      ((var 1 :* var 2, var 0, opposite (var 3 :* var 6 :+ var 4 :* var 7) :* var 5) ∷ (opposite (var 1 :* var 2 :* var 3 :* var 5), var 6, number 0) ∷ (opposite (var 1 :* var 2 :* var 4 :* var 5), var 7, number 0) ∷ [])
      (given (seen_area-node plane t) (given (ap (λ (v : Vector). whole v.y) e ∙ whole-nought) (given (ap (λ (v : Vector). whole v.z) e ∙ whole-nought) none)))
      ((var 0 :* var 1) :* var 2) (number 0) refl
    where
      wet : Fraction
      wet = wet_mean (product_mean (by_corners (f (position_of t.a)) (f (position_of t.b)) (f (position_of t.c))) (by_corners (g (position_of t.a)) (g (position_of t.b)) (g (position_of t.c)))) (depth plane first last (position_of t.a)) (depth plane first last (position_of t.b)) (depth plane first last (position_of t.c))

  pub seen-alternating : IsAlternating fraction_ring.operations node_part
  seen-alternating = record {
    turned = λ t. seen-turned plane first last f g (triangle_at t);
    rotated = λ t. seen-rotated plane first last f g (triangle_at t);
    flat = seen-flat;
  }

  pub balanced_parts : (faces others : List (Triangle Node)) → AreBalanced faces others → seen_sum plane first last f g (map triangle_at faces) ≡ seen_sum plane first last f g (map triangle_at others)
  balanced_parts faces others balanced = sum_over-map (seen_part plane first last f g) triangle_at faces
      ∙ balanced_sums fraction_ring node_part seen-alternating faces others balanced
      ∙ sym (sum_over-map (seen_part plane first last f g) triangle_at others)

  -- ---- the faces of signed tetrahedra
  pub faces_at : (b : Bool) (t : Tetrahedron Node) → map triangle_at (faces_by b t) ≡ faces_turned b (with_corners position_of t)
  faces_at true t = refl
  faces_at false t = refl

  module _ (term : Tetrahedron Position → Fraction)
      (law : (b : Bool) (t : Tetrahedron Position) → PointOutwards b t → sum_over term (kept_pieces (under plane first last) t) ≡ seen_sum plane first last f g (faces_turned b t)) where
    abbrev pieces_of : List (Tetrahedron Node) → List (Tetrahedron Position)
    pieces_of ts = submerged_pieces plane first last ts

    sum_solids : (ss : List Signed) → AllByRecursion PointsOutwards ss
        → sum_over term (pieces_of (map (λ (s : Signed). s.solid) ss)) ≡ seen_sum plane first last f g (map triangle_at (flat_map outward_faces ss))
    unfolding submerged_pieces sum_over
    sum_solids [] all = refl
    sum_solids (s ∷ ss) all =
        sum_over-append term (kept_pieces (under plane first last) (with_corners position_of s.solid)) (pieces_of (map (λ (s : Signed). s.solid) ss))
        ∙ ap₂ ◌⊕◌ (law s.outwards (with_corners position_of s.solid) all.0 ∙ ap (seen_sum plane first last f g) (sym (faces_at s.outwards s.solid))) (sum_solids ss all.1)
        ∙ sym (sum_over-append (seen_part plane first last f g) (map triangle_at (outward_faces s)) (map triangle_at (flat_map outward_faces ss)))
        ∙ ap (seen_sum plane first last f g) (sym (map-append triangle_at (outward_faces s) (flat_map outward_faces ss)))

    pub sum_signed : (ss : List Signed) → AllByRecursion PointsOutwards ss → (faces : List (Triangle Node)) → AreBalanced faces (all_outward_faces ss)
        → sum_over term (pieces_of (solids ss)) ≡ seen_sum plane first last f g (map triangle_at faces)
    sum_signed ss right faces balanced = sum_solids ss right ∙ sym (balanced_parts faces (all_outward_faces ss) balanced)

-- ---- columns
module _ (plane : Waterplane) (first last : ℤ) (f : Position → Fraction) (term : Tetrahedron Position → Fraction)
    (law : (b : Bool) (t : Tetrahedron Position) → PointOutwards b t → sum_over term (kept_pieces (under plane first last) t) ≡ column_sum plane first last f (faces_turned b t)) where
  sum_columns : (ss : List Signed) → AllByRecursion PointsOutwards ss → (faces : List (Triangle Node)) → AreBalanced faces (all_outward_faces ss)
      → sum_over term (submerged_pieces plane first last (solids ss)) ≡ column_sum plane first last f (map triangle_at faces)
  sum_columns ss right faces balanced =
      sum_signed plane first last f (depth plane first last) term (λ b t out. law b t out ∙ column_sum-seen plane first last f (faces_turned b t)) ss right faces balanced
      ∙ sym (column_sum-seen plane first last f (map triangle_at faces))

-- at every waterplane
pub solids_law : CentralLawOfSolids
solids_law plane first last ss right faces balanced = record {
  volume = sum_columns plane first last (λ p. one) volume_of (λ b t out. (are_column_sums plane first last b t out).volume) ss right faces balanced;
  mx = sum_columns plane first last (λ p. p.x) (λ p. volume_of p ⊗ mean_of (λ p. p.x) p) (λ b t out. (are_column_sums plane first last b t out).mx) ss right faces balanced;
  mv = sum_columns plane first last (side_distance plane) (λ p. volume_of p ⊗ mean_of (side_distance plane) p) (λ b t out. (are_column_sums plane first last b t out).mv) ss right faces balanced;
  mu = sum_columns plane first last (middle plane first last) (λ p. volume_of p ⊗ mean_of (height plane) p) (λ b t out. (are_column_sums plane first last b t out).mu) ss right faces balanced;
}

-- the hull's tetrahedra are such
pub central_law : CentralLaw
unfolding submerged_volume mx mv mu
central_law plane stations hull faces balanced = record { volume = law.volume; mx = law.mx; mv = law.mv; mu = law.mu }
  where
    law : AreColumnSums plane (first_x stations) (last_x stations) (submerged_pieces plane (first_x stations) (last_x stations) (hull_tetrahedra stations)) (map triangle_at faces)
    law = subst (λ (ts : List (Tetrahedron Node)). AreColumnSums plane (first_x stations) (last_x stations) (submerged_pieces plane (first_x stations) (last_x stations) ts) (map triangle_at faces))
        (solids_of_hull stations) (solids_law plane (first_x stations) (last_x stations) (signed_tetrahedra stations) (solids_point_outwards stations hull) faces balanced)
