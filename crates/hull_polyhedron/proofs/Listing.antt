-- The boundary as it is kept: balanced against the signed faces, and each face of some area.
use Rattle.std.proofs.Common.{◌≡◌, refl, sym, ◌∙◌, ap, List, [], ◌∷◌, map, Bool, true, false, ℤ, pos, ◌+ℤ◌, arith}
use mathlib.Core.Path.{subst}
use Rattle.std.specs.Prelude.{filter, cond, not, ◌||◌}
use Rattle.std.specs.Ordering.{int_eq}
use Rattle.std.specs.List.{AllByRecursion}
use Rattle.exact_algebra.specs.Expression.{var, number, ◌:+◌}
use Rattle.exact_algebra.specs.Ring.{whole_numbers}
use Rattle.exact_algebra.proofs.Ring.{ring}
use Rattle.exact_algebra.proofs.WholeNumbers.{integers}
use Rattle.hull_model.specs.declared.node.Node.{Node}
use Rattle.hull_model.specs.declared.station.Station.{Station}
use Rattle.hull_model.specs.declared.vector.Vector.{Vector}
use Rattle.hull_model.specs.Lists.{Rises}
use Rattle.hull_model.specs.Body.{IsStation, IsHull}
use Rattle.hull_model.specs.TriangleCut.{Triangle}
use Rattle.hull_model.specs.Faces.{doubled_area, face_of, triangle_of}
use Rattle.hull_model.specs.SignedFaces.{turned, signed_faces}
use Rattle.hull_model.specs.Submerged.{first_x, last_x}
use Rattle.hull_polyhedron.proofs.Outward.{IsOutward, no_opposites}
use Rattle.hull_polyhedron.proofs.OutwardListed.{middle_of, hull_outward}
use Rattle.hull_model.specs.Boundary.{count, no_area, HasArea, sum_of, AreBalanced, IsBoundary, IsAlternating}
use Rattle.hull_model.proofs.Balance.{against, against-alternating}
use Rattle.hull_polyhedron.specs.Listed.{has_area, kept, listed}
use Rattle.hull_polyhedron.proofs.Hulls.{signed_sum}

-- ---- area by the test
area_parts : (v : Vector) → (not (int_eq v.x (pos 0)) || not (int_eq v.y (pos 0)) || not (int_eq v.z (pos 0))) ≡ false → (v.x ≡ pos 0) × (v.y ≡ pos 0) × (v.z ≡ pos 0)
area_parts v e = grind arith

some_part : (v : Vector) → (not (int_eq v.x (pos 0)) || not (int_eq v.y (pos 0)) || not (int_eq v.z (pos 0))) ≡ true → v.x ≡ pos 0 → v.y ≡ pos 0 → v.z ≡ pos 0 → ⊥
some_part v e f g h = grind arith

flat_by_test : (t : Triangle Node) → has_area t ≡ false → doubled_area t ≡ no_area
flat_by_test t e = λ i. record { x = (area_parts (doubled_area t) e).0 i; y = (area_parts (doubled_area t) e).1 i; z = (area_parts (doubled_area t) e).2 i }

area_by_test : (t : Triangle Node) → has_area t ≡ true → HasArea t
area_by_test t e f = some_part (doubled_area t) e (ap (λ (v : Vector). v.x) f) (ap (λ (v : Vector). v.y) f) (ap (λ (v : Vector). v.z) f)

-- ---- what is left out counts nothing
filtered_sum : (g : Triangle Node → ℤ) → IsAlternating whole_numbers g → (ts : List (Triangle Node)) → sum_of g (filter has_area ts) ≡ sum_of g ts
filtered_sum g alternating [] = refl
filtered_sum g alternating (t ∷ ts) = go (has_area t) refl ∙ ap (λ n. g t +ℤ n) (filtered_sum g alternating ts)
  where
    go : (b : Bool) → has_area t ≡ b → sum_of g (cond b (t ∷ filter has_area ts) (filter has_area ts)) ≡ g t +ℤ sum_of g (filter has_area ts)
    go true e = refl
    go false e = ring integers (sum_of g (filter has_area ts) ∷ []) (var 0) (number 0 :+ var 0) refl
        ∙ ap (λ n. n +ℤ sum_of g (filter has_area ts)) (sym (alternating.flat t (flat_by_test t e)))

filtered_areas : (ts : List (Triangle Node)) → AllByRecursion HasArea (filter has_area ts)
filtered_areas [] = tt
filtered_areas (t ∷ ts) = go (has_area t) refl (filtered_areas ts)
  where
    go : (b : Bool) → has_area t ≡ b → AllByRecursion HasArea (filter has_area ts) → AllByRecursion HasArea (cond b (t ∷ filter has_area ts) (filter has_area ts))
    go true e all = (area_by_test t e, all)
    go false e all = all

triangles_of_faces : (ts : List (Triangle Node)) → map triangle_of (map face_of ts) ≡ ts
triangles_of_faces [] = refl
triangles_of_faces (t ∷ ts) = ap (λ us. t ∷ us) (triangles_of_faces ts)

module _ (stations : List Station) (each : AllByRecursion IsStation stations) (rises : Rises (λ s. s.x) stations) where
  -- an alternating function over the kept faces
  pub kept_sum : (g : Triangle Node → ℤ) → IsAlternating whole_numbers g → sum_of g (map triangle_of (kept (listed stations))) ≡ sum_of g (signed_faces stations)
  kept_sum g alternating = ap (sum_of g) (triangles_of_faces (filter has_area (listed stations))) ∙ filtered_sum g alternating (listed stations) ∙ sym (signed_sum g alternating stations each rises)

  pub kept_balanced : AreBalanced (map triangle_of (kept (listed stations))) (signed_faces stations)
  unfolding against
  kept_balanced t area = kept_sum (against t) (against-alternating t area)

  pub kept_areas : AllByRecursion HasArea (map triangle_of (kept (listed stations)))
  kept_areas = subst (AllByRecursion HasArea) (sym (triangles_of_faces (filter has_area (listed stations)))) (filtered_areas (listed stations))

-- what points outwards where it has an area, among those of some area
filtered_outward : (P : Triangle Node → Type 0) (ts : List (Triangle Node)) → AllByRecursion (λ t. HasArea t → P t) ts → AllByRecursion P (filter has_area ts)
filtered_outward P [] all = tt
filtered_outward P (t ∷ ts) all = go (has_area t) refl (filtered_outward P ts all.1)
  where
    go : (b : Bool) → has_area t ≡ b → AllByRecursion P (filter has_area ts) → AllByRecursion P (cond b (t ∷ filter has_area ts) (filter has_area ts))
    go true e rest = (all.0 (area_by_test t e), rest)
    go false e rest = rest

pub kept_boundary : (stations : List Station) → IsHull stations → IsBoundary (map triangle_of (kept (listed stations))) (signed_faces stations)
kept_boundary stations hull = record {
  balanced = kept_balanced stations hull.each hull.places_rise;
  no_opposites = subst (λ (ts : List (Triangle Node)). AllByRecursion (λ f. count (turned f) ts ≡ pos 0) ts) (sym (triangles_of_faces (filter has_area (listed stations))))
      (no_opposites (middle_of stations) (first_x stations +ℤ last_x stations) (filter has_area (listed stations)) (filter has_area (listed stations)) outward outward);
  areas = kept_areas stations hull.each hull.places_rise;
}
  where
    outward : AllByRecursion (λ t. IsOutward (middle_of stations) (first_x stations +ℤ last_x stations) t) (filter has_area (listed stations))
    outward = filtered_outward (λ t. IsOutward (middle_of stations) (first_x stations +ℤ last_x stations) t) (listed stations) (hull_outward stations hull)
