-- Integrals over the parts of a tetrahedron along the ship: over the part between two places it is the difference of those aft of each, and
-- over the part forward of a place what is left of the whole without the part aft of it.
use mathlib.Core.Path.{◌≡◌, refl, sym, ◌∙◌, ap, ap₂}
use mathlib.Core.List.{List, [], ◌∷◌}
use mathlib.Core.Bool.{Bool, true, false}
use native.Mathlib.Omega.{arith}
use lib.IntN.{ℤ}
use Rattle.std.specs.Prelude.{◌≤ℤ◌}
use Rattle.std.specs.List.{flat_map, AllByRecursion}
use Rattle.exact_algebra.specs.Expression.{var, ◌:-◌, opposite}
use Rattle.exact_algebra.specs.OrderedField.{Sign, below, level, above}
use Rattle.exact_algebra.proofs.Ring.{ring}
use Rattle.exact_algebra.proofs.Fraction.{Fraction, nought, ◌⊖◌, sign, fractions, fraction_ring}
use Rattle.exact_algebra.proofs.Order as Order
use Rattle.hull_model.specs.Fractions.{sum_over}
use Rattle.hull_model.specs.TetrahedronCut.{Tetrahedron, is_kept, kept_pieces}
use Rattle.hull_model.specs.Waterplane.{Waterplane, Position, under}
use Rattle.hull_model.specs.Submerged.{determinant}
use Rattle.hull_model.specs.Flooded.{cut_by, forward_of, aft_of, pieces_between}
use Rattle.hull_polyhedron.proofs.Proper.{all-append}
use Rattle.hull_polyhedron.proofs.Pieces.{AtEdges, all_kept}
use Rattle.hull_model.proofs.EdgeSplits.{IsLinearFunction}
use Rattle.hull_polyhedron.proofs.Determinants.{with_sign, IsRight, outwards_right, right_parts}
use Rattle.hull_polyhedron.specs.Columns.{seen_sum}
use Rattle.hull_polyhedron.specs.CentralLaw.{faces_turned, PointOutwards}
use Rattle.hull_model.specs.TriangleSums.{Function, IsAlternating, AddsUp}
use Rattle.hull_model.proofs.PartSums.{forward_linear, aft_linear}
use Rattle.hull_polyhedron.proofs.FacePieces.{over_faces}
use Rattle.hull_polyhedron.proofs.SlabOfTetrahedron.{sum_signed, faces-sum, area-across, seen, seen-alternating, seen-vanishes, seen-adds}
use Rattle.hull_polyhedron.proofs.AftParts.{sum_over-same, all-implied, aft_sum, sum_aft, sum_forward, sum_between}

-- ---- what holds of both parts of each split holds of the pieces between two places
pub all-flat : {A B : Type 0} (P : B → Type 0) (g : A → List B) (xs : List A) → AllByRecursion (λ x. AllByRecursion P (g x)) xs → AllByRecursion P (flat_map g xs)
all-flat P g [] all = tt
all-flat P g (x ∷ xs) all = all-append P (g x) (flat_map g xs) all.0 (all-flat P g xs all.1)

module _ (P : Tetrahedron Position → Type 0) (parts : (depth : Position → Fraction) → IsLinearFunction depth → AtEdges (cut_by depth) (λ t p q. P t → P p × P q)) where
  pub all_of_kept : (depth : Position → Fraction) (linear : IsLinearFunction depth) (t : Tetrahedron Position) → P t → AllByRecursion P (kept_pieces (cut_by depth) t)
  all_of_kept depth linear t h = all-implied (λ p. (is_kept (cut_by depth) p ≡ true) × P p) P (λ p k. k.1) (kept_pieces (cut_by depth) t) (all_kept (cut_by depth) P (parts depth linear) t h)

  pub all_of_between : (aft fore : ℤ) (t : Tetrahedron Position) → P t → AllByRecursion P (pieces_between aft fore t)
  unfolding pieces_between
  all_of_between aft fore t h = all-flat P (kept_pieces (cut_by (aft_of fore))) (kept_pieces (cut_by (forward_of aft)) t)
      (all-implied P (λ p. AllByRecursion P (kept_pieces (cut_by (aft_of fore)) p)) (all_of_kept (aft_of fore) (aft_linear fore)) (kept_pieces (cut_by (forward_of aft)) t)
      (all_of_kept (forward_of aft) (forward_linear aft) t h))

-- ---- a tetrahedron's faces point outwards in their order or each the other way round
pub some_right : (t : Tetrahedron Position) → (b : Bool) × IsRight b t
some_right t = go (sign (determinant t)) refl
  where
    below-ne-above : below ≡ above → ⊥
    below-ne-above h = grind arith

    below-ne-level : below ≡ level → ⊥
    below-ne-level h = grind arith

    go : (s : Sign) → sign (determinant t) ≡ s → (b : Bool) × IsRight b t
    go above e = (true, λ h. below-ne-above (sym h ∙ e))
    go level e = (true, λ h. below-ne-level (sym h ∙ e))
    go below e = (false, Order.nonnegative_positive fractions (Order.negative_below fractions e))

module _ (plane : Waterplane) (first last : ℤ) (f g : Position → Fraction) (f_linear : IsLinearFunction f) (g_linear : IsLinearFunction g) where
  abbrev face : Function
  face = seen plane first last f g

  face_alternating : IsAlternating face
  face_alternating = seen-alternating plane first last f g

  face_adds : AddsUp face
  face_adds = seen-adds plane first last f g f_linear g_linear

  face_across : (p q r : Position) → q.x ≡ p.x → r.x ≡ p.x → face p q r ≡ nought
  face_across p q r e k = seen-vanishes plane first last f g p q r (area-across plane p q r e k)

  -- a sum over the kept pieces that is what is seen of the outward faces
  module _ (term : Tetrahedron Position → Fraction)
      (law : (b : Bool) (t : Tetrahedron Position) → PointOutwards b t → sum_over term (kept_pieces (under plane first last) t) ≡ seen_sum plane first last f g (faces_turned b t)) where
    abbrev under_plane : Tetrahedron Position → Fraction
    under_plane t = sum_over term (kept_pieces (under plane first last) t)

    pub by_faces : (b : Bool) (t : Tetrahedron Position) → IsRight b t → under_plane t ≡ with_sign b (over_faces face t)
    by_faces b t right = law b t (outwards_right b t right) ∙ faces-sum face face_alternating b t

    sum_by_faces : (b : Bool) (ts : List (Tetrahedron Position)) → AllByRecursion (IsRight b) ts → sum_over under_plane ts ≡ with_sign b (sum_over (over_faces face) ts)
    sum_by_faces b ts all = sum_over-same under_plane (λ t. with_sign b (over_faces face t)) ts (all-implied (IsRight b) (λ t. under_plane t ≡ with_sign b (over_faces face t)) (by_faces b) ts all) ∙ sum_signed b (over_faces face) ts

    aft_by : ℤ → Tetrahedron Position → Fraction
    aft_by = aft_sum face face_alternating face_adds face_across

    signed_difference : (b : Bool) (x y u v w : Fraction) → x ≡ with_sign b (v ⊖ w) → y ≡ with_sign b v → u ≡ with_sign b w → x ≡ y ⊖ u
    signed_difference true x y u v w d e k = d ∙ ap₂ (λ p q. p ⊖ q) (sym e) (sym k)
    signed_difference false x y u v w d e k = d ∙ ring fraction_ring (v ∷ w ∷ []) (opposite (var 0 :- var 1)) (opposite (var 0) :- opposite (var 1)) refl ∙ ap₂ (λ p q. p ⊖ q) (sym e) (sym k)

    module _ (t : Tetrahedron Position) where
      abbrev b : Bool
      b = (some_right t).0

      right : IsRight b t
      right = (some_right t).1

      right_pieces : (depth : Position → Fraction) → IsLinearFunction depth → AtEdges (cut_by depth) (λ t p q. IsRight b t → IsRight b p × IsRight b q)
      right_pieces depth linear = right_parts depth linear b

      aft_of_place : (place : ℤ) → sum_over under_plane (kept_pieces (cut_by (aft_of place)) t) ≡ with_sign b (aft_by place t)
      unfolding aft_by
      aft_of_place place = sum_by_faces b (kept_pieces (cut_by (aft_of place)) t) (all_of_kept (IsRight b) right_pieces (aft_of place) (aft_linear place) t right)
          ∙ ap (with_sign b) (sum_aft face face_alternating face_adds face_across place t)

      pub part_between : (aft fore : ℤ) → aft ≤ℤ fore → sum_over under_plane (pieces_between aft fore t)
          ≡ sum_over under_plane (kept_pieces (cut_by (aft_of fore)) t) ⊖ sum_over under_plane (kept_pieces (cut_by (aft_of aft)) t)
      unfolding aft_by
      part_between aft fore h = signed_difference b _ _ _ (aft_by fore t) (aft_by aft t)
          (sum_by_faces b (pieces_between aft fore t) (all_of_between (IsRight b) right_pieces aft fore t right)
          ∙ ap (with_sign b) (sum_between face face_alternating face_adds face_across aft fore h t))
          (aft_of_place fore) (aft_of_place aft)

      pub part_forward : (place : ℤ) → sum_over under_plane (kept_pieces (cut_by (forward_of place)) t) ≡ under_plane t ⊖ sum_over under_plane (kept_pieces (cut_by (aft_of place)) t)
      unfolding aft_by
      part_forward place = signed_difference b _ _ _ (over_faces face t) (aft_by place t)
          (sum_by_faces b (kept_pieces (cut_by (forward_of place)) t) (all_of_kept (IsRight b) right_pieces (forward_of place) (forward_linear place) t right)
          ∙ ap (with_sign b) (sum_forward face face_alternating face_adds face_across place t))
          (by_faces b t right) (aft_of_place place)
