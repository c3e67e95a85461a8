-- The law of slabs of a hull, and what is left of its volume and integrals where slabs flood.
use mathlib.Core.Path.{◌≡◌, refl, sym, ◌∙◌, ap, ap₂}
use mathlib.Core.List.{List, [], ◌∷◌}
use mathlib.Core.Bool.{Bool}
use lib.IntN.{ℤ, pos}
use Rattle.std.specs.Prelude.{map}
use Rattle.std.specs.List.{flat_map, AllByRecursion}
use Rattle.std.proofs.lemmas.List.{map-append}
use Rattle.std.proofs.lemmas.Grind.{flat_map-append}
use Rattle.exact_algebra.specs.Expression.{var, number, ◌:+◌, ◌:*◌, opposite}
use Rattle.exact_algebra.proofs.Ring.{ring_from, none, given}
use Rattle.exact_algebra.proofs.Fraction.{Fraction, nought, one, ◌⊕◌, ◌⊗◌, ◌⊖◌, inverse, fraction_ring}
use Rattle.exact_algebra.proofs.Whole.{whole, whole-nought}
use Rattle.hull_model.specs.declared.node.Node.{Node}
use Rattle.hull_model.specs.declared.slab.Slab.{Slab}
use Rattle.hull_model.specs.declared.station.Station.{Station}
use Rattle.hull_model.specs.declared.vector.Vector.{Vector}
use Rattle.hull_model.specs.Body.{IsHull}
use Rattle.hull_model.specs.Boundary.{no_area, AreBalanced, IsAlternating}
use Rattle.hull_model.specs.FaceParts.{parts_between}
use Rattle.hull_model.specs.Faces.{doubled_area}
use Rattle.hull_model.specs.Flooded.{pieces_between, all_between, submerged_between, flooded_share, volume_left, mx_left, mv_left, mu_left}
use Rattle.hull_model.specs.Fractions.{sum_over}
use Rattle.hull_model.specs.TriangleCut.{Triangle}
use Rattle.hull_model.specs.TetrahedronCut.{Tetrahedron, with_corners, kept_pieces}
use Rattle.hull_model.specs.SignedFaces.{Signed, outward_faces, signed_tetrahedra, signed_faces}
use Rattle.hull_model.specs.Tetrahedra.{hull_tetrahedra}
use Rattle.hull_model.specs.Waterplane.{Waterplane, Position, position_of, height, side_distance, under}
use Rattle.hull_model.specs.Submerged.{first_x, last_x, submerged_volume, mx, mv, mu, volume_of, mean_of}
use Rattle.hull_model.proofs.Balance.{balanced_sums}
use Rattle.hull_model.proofs.ShareSplits.{sum_over-append}
use Rattle.hull_model.proofs.TetrahedronRounds.{depth_linear}
use Rattle.hull_polyhedron.specs.Columns.{depth, middle, seen_area, column_sum, triangle_at}
use Rattle.hull_polyhedron.specs.CentralLaw.{faces_turned, PointOutwards, IsSummedByColumns, PointsOutwards}
use Rattle.hull_polyhedron.specs.SlabLaw.{IsSummedBetween, SlabLaw, FloodedLaw}
use Rattle.hull_model.proofs.EdgeSplits.{IsLinearFunction}
use Rattle.hull_polyhedron.proofs.Placed.{side_linear}
use Rattle.hull_polyhedron.proofs.SeenForm.{column_sum-seen}
use Rattle.hull_polyhedron.proofs.OneTetrahedron.{one_linear, middle_linear, are_column_sums}
use Rattle.hull_polyhedron.proofs.OutwardSolids.{solids_point_outwards}
use Rattle.hull_polyhedron.proofs.SixVolume.{solids_of_hull}
use Rattle.hull_polyhedron.proofs.WholeHull.{seen_area-node, sum_over-map, faces_at, central_law}
use Rattle.hull_model.specs.TriangleSums.{value}
use Rattle.hull_model.specs.TriangleSums as Turns
use Rattle.hull_polyhedron.proofs.SlabOfTetrahedron.{part_of, part-alternating, part-vanishes, seen_parts-sum, slab_law}

-- a triangle of nodes without an area isn't seen
not_seen : (plane : Waterplane) (t : Triangle Node) → doubled_area t ≡ no_area → seen_area plane (triangle_at t) ≡ nought
not_seen plane t e = ring_from fraction_ring
    (seen_area plane (triangle_at t) ∷ whole (pos plane.s) ∷ whole (pos plane.c) ∷ inverse (whole (pos plane.r)) ∷ whole (doubled_area t).y ∷ whole (doubled_area t).z ∷ [])
    ((number 1, var 0, opposite (var 1 :* var 4 :+ var 2 :* var 5) :* var 3) ∷ (opposite (var 1 :* var 3), var 4, number 0) ∷ (opposite (var 2 :* var 3), var 5, number 0) ∷ [])
    (given (seen_area-node plane t) (given (ap (λ (v : Vector). whole v.y) e ∙ whole-nought) (given (ap (λ (v : Vector). whole v.z) e ∙ whole-nought) none)))
    (var 0) (number 0) refl

module _ (plane : Waterplane) (first last : ℤ) (f : Position → Fraction) (f_linear : IsLinearFunction f) (term : Tetrahedron Position → Fraction)
    (law : (b : Bool) (t : Tetrahedron Position) → PointOutwards b t → sum_over term (kept_pieces (under plane first last) t) ≡ column_sum plane first last f (faces_turned b t))
    (aft fore : ℤ) where
  abbrev part : Turns.Function
  part = part_of plane first last f (depth plane first last) f_linear (depth_linear plane first last) aft fore

  abbrev node_part : Triangle Node → Fraction
  node_part t = value part (triangle_at t)

  node-alternating : IsAlternating fraction_ring.operations node_part
  node-alternating = record {
    turned = λ t. alternating.swap (position_of t.a) (position_of t.b) (position_of t.c);
    rotated = λ t. alternating.roll (position_of t.a) (position_of t.b) (position_of t.c);
    flat = λ t e. part-vanishes plane first last f (depth plane first last) f_linear (depth_linear plane first last) aft fore (position_of t.a) (position_of t.b) (position_of t.c) (not_seen plane t e);
  }
    where
      alternating : Turns.IsAlternating part
      alternating = part-alternating plane first last f (depth plane first last) f_linear (depth_linear plane first last) aft fore

  abbrev pieces_of : List (Tetrahedron Node) → List (Tetrahedron Position)
  pieces_of ts = flat_map (kept_pieces (under plane first last)) (all_between aft fore ts)

  one_solid : (b : Bool) (t : Tetrahedron Position) → PointOutwards b t → sum_over term (flat_map (kept_pieces (under plane first last)) (pieces_between aft fore t)) ≡ sum_over (value part) (faces_turned b t)
  one_solid b t out = slab_law plane first last f (depth plane first last) f_linear (depth_linear plane first last) aft fore term
      (λ b t out. law b t out ∙ column_sum-seen plane first last f (faces_turned b t)) b t out

  sum_solids : (ss : List Signed) → AllByRecursion PointsOutwards ss
      → sum_over term (pieces_of (map (λ (s : Signed). s.solid) ss)) ≡ sum_over (value part) (map triangle_at (flat_map outward_faces ss))
  unfolding all_between sum_over
  sum_solids [] all = refl
  sum_solids (s ∷ ss) all =
      ap (sum_over term) (flat_map-append (kept_pieces (under plane first last)) (pieces_between aft fore (with_corners position_of s.solid)) (all_between aft fore (map (λ (s : Signed). s.solid) ss)))
      ∙ sum_over-append term (flat_map (kept_pieces (under plane first last)) (pieces_between aft fore (with_corners position_of s.solid))) (pieces_of (map (λ (s : Signed). s.solid) ss))
      ∙ ap₂ ◌⊕◌ (one_solid s.outwards (with_corners position_of s.solid) all.0 ∙ ap (sum_over (value part)) (sym (faces_at plane first last f (depth plane first last) s.outwards s.solid))) (sum_solids ss all.1)
      ∙ sym (sum_over-append (value part) (map triangle_at (outward_faces s)) (map triangle_at (flat_map outward_faces ss)))
      ∙ ap (sum_over (value part)) (sym (map-append triangle_at (outward_faces s) (flat_map outward_faces ss)))

  sum_between : (stations : List Station) → IsHull stations → (faces : List (Triangle Node)) → AreBalanced faces (signed_faces stations)
      → sum_over term (pieces_of (hull_tetrahedra stations)) ≡ column_sum plane first last f (flat_map (parts_between aft fore) (map triangle_at faces))
  sum_between stations hull faces balanced = ap (λ ts. sum_over term (pieces_of ts)) (sym (solids_of_hull stations))
      ∙ sum_solids (signed_tetrahedra stations) (solids_point_outwards stations hull)
      ∙ sum_over-map (value part) triangle_at (signed_faces stations)
      ∙ sym (balanced_sums fraction_ring node_part node-alternating faces (signed_faces stations) balanced)
      ∙ sym (sum_over-map (value part) triangle_at faces)
      ∙ sym (seen_parts-sum plane first last f (depth plane first last) f_linear (depth_linear plane first last) aft fore (map triangle_at faces))
      ∙ sym (column_sum-seen plane first last f (flat_map (parts_between aft fore) (map triangle_at faces)))

-- at every waterplane and between any two places
pub slab_law_of_hulls : SlabLaw
unfolding submerged_between
slab_law_of_hulls plane stations hull faces balanced aft fore = record {
  volume = sum_between plane first last (λ p. one) (one_linear plane first last) volume_of (λ b t out. (are_column_sums plane first last b t out).volume) aft fore stations hull faces balanced;
  mx = sum_between plane first last (λ p. p.x) (λ t p q. refl) (λ p. volume_of p ⊗ mean_of (λ p. p.x) p) (λ b t out. (are_column_sums plane first last b t out).mx) aft fore stations hull faces balanced;
  mv = sum_between plane first last (side_distance plane) (side_linear plane) (λ p. volume_of p ⊗ mean_of (side_distance plane) p) (λ b t out. (are_column_sums plane first last b t out).mv) aft fore stations hull faces balanced;
  mu = sum_between plane first last (middle plane first last) (middle_linear plane first last) (λ p. volume_of p ⊗ mean_of (height plane) p) (λ b t out. (are_column_sums plane first last b t out).mu) aft fore stations hull faces balanced;
}
  where
    first : ℤ
    first = first_x stations

    last : ℤ
    last = last_x stations

-- with the flooded share of each slab
pub flooded_law : FloodedLaw
unfolding volume_left mx_left mv_left mu_left submerged_volume mx mv mu
flooded_law plane stations hull faces balanced slabs = record {
  volume = λ i. whole_hull.volume i ⊖ sum_over (λ s. flooded_share s ⊗ (slab s).volume i) slabs;
  mx = λ i. whole_hull.mx i ⊖ sum_over (λ s. flooded_share s ⊗ (slab s).mx i) slabs;
  mv = λ i. whole_hull.mv i ⊖ sum_over (λ s. flooded_share s ⊗ (slab s).mv i) slabs;
  mu = λ i. whole_hull.mu i ⊖ sum_over (λ s. flooded_share s ⊗ (slab s).mu i) slabs;
}
  where
    whole_hull : IsSummedByColumns plane stations faces
    whole_hull = central_law plane stations hull faces balanced

    slab : (s : Slab) → IsSummedBetween plane stations s.aft s.fore faces
    slab s = slab_law_of_hulls plane stations hull faces balanced s.aft s.fore
