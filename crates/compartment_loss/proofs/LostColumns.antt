-- The columns of the parts that are lost are the flooded shares of those between the planes of the slabs.
use Rattle.std.proofs.Common.{Bool, true, false, ◌&&◌, ℤ, ◌≡◌, refl, sym, ◌∙◌, ap, ap₂, List, [], ◌∷◌, map}
use Rattle.std.specs.List.{flat_map}
use Rattle.std.specs.Ordering.{int_eq}
use Rattle.std.proofs.lemmas.Bool.Decides.{Decides-int_eq}
use Rattle.exact_algebra.specs.Expression.{var, number, ◌:+◌, ◌:*◌}
use Rattle.exact_algebra.proofs.Fraction.{Fraction, ◌⊕◌, ◌⊗◌, fraction_ring}
use Rattle.exact_algebra.proofs.Ring.{ring}
use Rattle.exact_algebra.proofs.Whole.{whole}
use Rattle.hull_model.specs.declared.face.Face.{Face}
use Rattle.hull_model.specs.declared.slab.Slab.{Slab}
use Rattle.hull_model.specs.FaceParts.{parts_between}
use Rattle.hull_model.specs.Faces.{triangle_of}
use Rattle.hull_model.specs.Flooded.{flooded_share}
use Rattle.hull_model.specs.Fractions.{sum_over}
use Rattle.hull_model.specs.TriangleCut.{Triangle}
use Rattle.hull_model.specs.Waterplane.{Waterplane, Position}
use Rattle.hull_polyhedron.specs.Columns.{triangle_at, column, column_sum}
use Rattle.hull_polyhedron.proofs.ColumnParts.{same_columns, no_columns}
use Rattle.hull_model.proofs.EdgeSplits.{IsLinearFunction}
use Rattle.hull_model.proofs.ShareSplits.{sum_over-append}
use Rattle.plane_clip.specs.Between.{is_flat, unless_flat, clipped_face}
use Rattle.plane_clip.specs.Clipped.{clipped}
use Rattle.plane_clip.specs.Parts.{face_at}
use Rattle.plane_clip.proofs.ClippedSums.{clipped_make_up}
use Rattle.flux_moments.specs.Shared.{Shared, shared_column, shared_columns}
use Rattle.compartment_loss.specs.Flooding.{shared, face_in, faces_in, flooded_parts}

both : (a b : Bool) → (a && b) ≡ true → (a ≡ true) × (b ≡ true)
both true true h = (refl, refl)
both true false h = absurd (false-ne-true h)
  where
    false-ne-true : false ≡ true → ⊥
    false-ne-true e = cc
both false b h = absurd (false-ne-true h)
  where
    false-ne-true : false ≡ true → ⊥
    false-ne-true e = cc

module _ (plane : Waterplane) (first last : ℤ) (f : Position → Fraction) (f_linear : IsLinearFunction f) where
  columns : List (Triangle Position) → Fraction
  columns ts = column_sum plane first last f ts

  lost : List Shared → Fraction
  lost ts = shared_columns plane first last f ts

  shared-sum : (share : Fraction) (ts : List (Triangle Position)) → shared_columns plane first last f (shared share ts) ≡ share ⊗ column_sum plane first last f ts
  unfolding sum_over
  shared-sum share [] = ring fraction_ring (share ∷ []) (number 0) (var 0 :* number 0) refl
  shared-sum share (t ∷ ts) = ap (λ s. column plane first last f t ⊗ share ⊕ s) (shared-sum share ts)
      ∙ ring fraction_ring (share ∷ column plane first last f t ∷ column_sum plane first last f ts ∷ []) (var 1 :* var 0 :+ var 0 :* var 2) (var 0 :* (var 1 :+ var 2)) refl

  -- a face in a plane of constant x has none, and so have its parts
  by-flat : (aft fore : ℤ) (face : Face) (b : Bool) → is_flat face ≡ b → column_sum plane first last f (unless_flat b (clipped aft fore (face_at face))) ≡ column_sum plane first last f (parts_between aft fore (face_at face))
  unfolding sum_over
  by-flat aft fore face false e = same_columns plane first last f f_linear (clipped aft fore (face_at face)) (parts_between aft fore (face_at face)) (clipped_make_up aft fore (face_at face))
  by-flat aft fore face true e = sym (no_columns plane first last f f_linear aft fore (face_at face) (ap whole b_is) (ap whole c_is))
    where
      equal : (x y : ℤ) → int_eq x y ≡ true → x ≡ y
      equal x y h = (Decides-int_eq x y).0 h

      tests : (int_eq (triangle_of face).b.x (triangle_of face).a.x ≡ true) × (int_eq (triangle_of face).c.x (triangle_of face).a.x ≡ true)
      tests = both _ _ e

      b_is : (triangle_of face).b.x ≡ (triangle_of face).a.x
      b_is = equal _ _ tests.0

      c_is : (triangle_of face).c.x ≡ (triangle_of face).a.x
      c_is = equal _ _ tests.1

  face-sum : (s : Slab) (face : Face) → shared_columns plane first last f (face_in s face) ≡ flooded_share s ⊗ column_sum plane first last f (parts_between s.aft s.fore (face_at face))
  face-sum s face = shared-sum (flooded_share s) (clipped_face s.aft s.fore face) ∙ ap (λ x. flooded_share s ⊗ x) (by-flat s.aft s.fore face (is_flat face) refl)

  faces-sum : (s : Slab) (faces : List Face) → shared_columns plane first last f (faces_in faces s) ≡ flooded_share s ⊗ column_sum plane first last f (flat_map (parts_between s.aft s.fore) (map triangle_at (map triangle_of faces)))
  unfolding sum_over
  faces-sum s [] = ring fraction_ring (flooded_share s ∷ []) (number 0) (var 0 :* number 0) refl
  faces-sum s (face ∷ faces) = sum_over-append (shared_column plane first last f) (face_in s face) (faces_in faces s) ∙ ap₂ ◌⊕◌ (face-sum s face) (faces-sum s faces)
      ∙ ring fraction_ring (flooded_share s ∷ sum_over (column plane first last f) here ∷ sum_over (column plane first last f) there ∷ []) (var 0 :* var 1 :+ var 0 :* var 2) (var 0 :* (var 1 :+ var 2)) refl
      ∙ ap (λ x. flooded_share s ⊗ x) (sym (sum_over-append (column plane first last f) here there))
    where
      here : List (Triangle Position)
      here = parts_between s.aft s.fore (face_at face)

      there : List (Triangle Position)
      there = flat_map (parts_between s.aft s.fore) (map triangle_at (map triangle_of faces))

  pub lost-sum : (faces : List Face) (slabs : List Slab) → shared_columns plane first last f (flooded_parts faces slabs)
      ≡ sum_over (λ s. flooded_share s ⊗ column_sum plane first last f (flat_map (parts_between s.aft s.fore) (map triangle_at (map triangle_of faces)))) slabs
  unfolding sum_over
  lost-sum faces [] = refl
  lost-sum faces (s ∷ slabs) = sum_over-append (shared_column plane first last f) (faces_in faces s) (flooded_parts faces slabs) ∙ ap₂ ◌⊕◌ (faces-sum s faces) (lost-sum faces slabs)
