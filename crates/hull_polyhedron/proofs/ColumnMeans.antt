-- Columns, and what is seen of wet parts, by the means over the wet part of a face.
use Prim.Native.Nat.{ℕ}
use mathlib.Core.Path.{◌≡◌, refl, sym, ◌∙◌, ap}
use mathlib.Core.List.{List, [], ◌∷◌}
use lib.IntN.{pos}
use Rattle.exact_algebra.specs.Expression.{Expression, var, unit, number, ◌:+◌, ◌:*◌, opposite}
use Rattle.exact_algebra.proofs.Ring.{ring, ring_from, none, given}
use Rattle.exact_algebra.proofs.Fraction.{Fraction, one, ◌⊕◌, ◌⊗◌, inverse, fraction_ring}
use Rattle.exact_algebra.proofs.Whole.{whole, whole-add, whole-one}
use Rattle.hull_model.specs.Fractions.{sum_over}
use Rattle.hull_model.specs.TriangleCut.{Triangle, kept_pieces}
use Rattle.hull_model.specs.Waterplane.{Position}
use Rattle.hull_model.specs.WetMean.{Place, places, with_depths, share_of, wet_mean, linear_mean, product_mean, coordinate, wet_share, wet_corner, wet_pair}
use Rattle.hull_model.proofs.WetSum.{IsLinearOn, N12, wet_mean-form}
use Rattle.hull_model.proofs.MeanKinds.{product-swap}
use Rattle.hull_model.proofs.TriangleLaws.{by_twelve, constant, depth_at, constant_linear, depth_linear, coordinate_linear, share-twelfth, linear-twelfth}
use Rattle.hull_polyhedron.specs.Columns.{depth, by_corners, seen_area, column, seen_part}
use Rattle.hull_polyhedron.specs.ColumnMeans.{ColumnsAreKnownByMeans, SeenPartsAreKnownByMeans}
use Rattle.hull_polyhedron.proofs.SeenForm.{mean-form, mean_of_two-form}

-- the function that is 1 at each corner
abbrev ones : Place → Fraction
ones = by_corners one one one

-- ---- products with it
constant_mean : (g : Place → Fraction) → IsLinearOn g → (h k l : Fraction) → wet_mean (product_mean ones g) h k l ≡ wet_mean (linear_mean g) h k l
constant_mean g g_linear h k l = by_twelve _ _ (mean-form one one one g g_linear h k l ∙ sym (wet_mean-form (linear_mean g) constant g constant_linear g_linear (linear-twelfth g) h k l))

share_mean : (h k l : Fraction) → wet_mean (product_mean ones ones) h k l ≡ wet_share h k l
share_mean h k l = by_twelve _ _ (mean_of_two-form one one one one one one h k l ∙ sym (wet_mean-form (λ t. one) constant constant constant_linear constant_linear share-twelfth h k l))

-- ---- the order of the two functions
mean-swap : (f g : Place → Fraction) (h k l : Fraction) → wet_mean (product_mean f g) h k l ≡ wet_mean (product_mean g f) h k l
mean-swap f g h k l = λ i. wet_mean (λ t. product-swap f g t i) h k l

-- ---- by the corners of the first function
module _ (g : Place → Fraction) (u w z : Fraction) where
  mean-corners : (t : Triangle Place) → product_mean (by_corners u w z) g t ≡ (u ⊗ product_mean (coordinate 0) g t ⊕ w ⊗ product_mean (coordinate 1) g t) ⊕ z ⊗ product_mean (coordinate 2) g t
  mean-corners t = ring fraction_ring
      (u ∷ w ∷ z ∷ t.a.first ∷ t.a.second ∷ t.a.third ∷ t.b.first ∷ t.b.second ∷ t.b.third ∷ t.c.first ∷ t.c.second ∷ t.c.third ∷ g t.a ∷ g t.b ∷ g t.c ∷ inverse N12 ∷ [])
      (mean (at 3 4 5) (at 6 7 8) (at 9 10 11))
      ((var 0 :* mean (var 3) (var 6) (var 9) :+ var 1 :* mean (var 4) (var 7) (var 10)) :+ var 2 :* mean (var 5) (var 8) (var 11)) refl
    where
      at : ℕ → ℕ → ℕ → Expression
      at i j k = (var i :* var 0 :+ var j :* var 1) :+ var k :* var 2

      mean : Expression → Expression → Expression → Expression
      mean p q r = ((p :* var 12 :+ q :* var 13 :+ r :* var 14) :+ (p :+ q :+ r) :* (var 12 :+ var 13 :+ var 14)) :* var 15

  sum-corners : (ts : List (Triangle Place)) → sum_over (λ t. share_of t ⊗ product_mean (by_corners u w z) g t) ts
      ≡ (u ⊗ sum_over (λ t. share_of t ⊗ product_mean (coordinate 0) g t) ts ⊕ w ⊗ sum_over (λ t. share_of t ⊗ product_mean (coordinate 1) g t) ts) ⊕ z ⊗ sum_over (λ t. share_of t ⊗ product_mean (coordinate 2) g t) ts
  unfolding sum_over
  sum-corners [] = ring fraction_ring (u ∷ w ∷ z ∷ []) (number 0) ((var 0 :* number 0 :+ var 1 :* number 0) :+ var 2 :* number 0) refl
  sum-corners (t ∷ ts) = ring_from fraction_ring
      (u ∷ w ∷ z ∷ share_of t ∷ product_mean (by_corners u w z) g t ∷ m 0 ∷ m 1 ∷ m 2 ∷ rest (by_corners u w z) ∷ rest (coordinate 0) ∷ rest (coordinate 1) ∷ rest (coordinate 2) ∷ [])
      ((var 3, var 4, (var 0 :* var 5 :+ var 1 :* var 6) :+ var 2 :* var 7) ∷ (unit, var 8, (var 0 :* var 9 :+ var 1 :* var 10) :+ var 2 :* var 11) ∷ [])
      (given (mean-corners t) (given (sum-corners ts) none))
      (var 3 :* var 4 :+ var 8) ((var 0 :* (var 3 :* var 5 :+ var 9) :+ var 1 :* (var 3 :* var 6 :+ var 10)) :+ var 2 :* (var 3 :* var 7 :+ var 11)) refl
    where
      m : ℕ → Fraction
      m n = product_mean (coordinate n) g t

      rest : (Place → Fraction) → Fraction
      rest f = sum_over (λ t. share_of t ⊗ product_mean f g t) ts

  corner_means : (h k l : Fraction) → wet_mean (product_mean (by_corners u w z) g) h k l
      ≡ (u ⊗ wet_mean (product_mean (coordinate 0) g) h k l ⊕ w ⊗ wet_mean (product_mean (coordinate 1) g) h k l) ⊕ z ⊗ wet_mean (product_mean (coordinate 2) g) h k l
  unfolding wet_mean
  corner_means h k l = sum-corners (kept_pieces places (with_depths h k l))

pub columns_are_known_by_means : ColumnsAreKnownByMeans
unfolding column
columns_are_known_by_means plane first last t = record {
  constant = ap (λ m. seen_area plane t ⊗ inverse (whole (pos 2)) ⊗ m) (constant_mean depth_at depth_linear (h t.a) (h t.b) (h t.c));
  linear = λ f. ap (λ m. seen_area plane t ⊗ inverse (whole (pos 2)) ⊗ m) (corner_means depth_at (f t.a) (f t.b) (f t.c) (h t.a) (h t.b) (h t.c));
}
  where
    h : Position → Fraction
    h = depth plane first last

-- ---- what is seen
module _ (u w z h k l : Fraction) where
  abbrev F : Place → Fraction
  F = by_corners u w z

  linear_seen : wet_mean (product_mean F ones) h k l ≡ (u ⊗ wet_corner 0 h k l ⊕ w ⊗ wet_corner 1 h k l) ⊕ z ⊗ wet_corner 2 h k l
  linear_seen = corner_means ones u w z h k l ∙ (λ i. (u ⊗ at 0 i ⊕ w ⊗ at 1 i) ⊕ z ⊗ at 2 i)
    where
      at : (n : ℕ) → wet_mean (product_mean (coordinate n) ones) h k l ≡ wet_corner n h k l
      at n = mean-swap (coordinate n) ones h k l ∙ constant_mean (coordinate n) (coordinate_linear n) h k l

  whole_two : whole (pos 2) ≡ one ⊕ one
  whole_two = whole-add (pos 1) (pos 1) ∙ (λ i. whole-one i ⊕ whole-one i)

  square_seen : wet_mean (product_mean F F) h k l
      ≡ (u ⊗ u) ⊗ wet_pair 0 0 h k l ⊕ (u ⊗ w ⊗ whole (pos 2)) ⊗ wet_pair 0 1 h k l ⊕ (u ⊗ z ⊗ whole (pos 2)) ⊗ wet_pair 0 2 h k l
      ⊕ (w ⊗ w) ⊗ wet_pair 1 1 h k l ⊕ (w ⊗ z ⊗ whole (pos 2)) ⊗ wet_pair 1 2 h k l ⊕ (z ⊗ z) ⊗ wet_pair 2 2 h k l
  square_seen = ring_from fraction_ring
      (u ∷ w ∷ z ∷ whole (pos 2) ∷ wet_mean (product_mean F F) h k l ∷ part 0 ∷ part 1 ∷ part 2
      ∷ wet_pair 0 0 h k l ∷ wet_pair 0 1 h k l ∷ wet_pair 0 2 h k l ∷ wet_pair 1 0 h k l ∷ wet_pair 1 1 h k l ∷ wet_pair 1 2 h k l ∷ wet_pair 2 0 h k l ∷ wet_pair 2 1 h k l ∷ wet_pair 2 2 h k l ∷ [])
      ((unit, var 4, (var 0 :* var 5 :+ var 1 :* var 6) :+ var 2 :* var 7)
      ∷ (var 0, var 5, (var 0 :* var 8 :+ var 1 :* var 11) :+ var 2 :* var 14) ∷ (var 1, var 6, (var 0 :* var 9 :+ var 1 :* var 12) :+ var 2 :* var 15) ∷ (var 2, var 7, (var 0 :* var 10 :+ var 1 :* var 13) :+ var 2 :* var 16)
      ∷ (var 0 :* var 1, var 11, var 9) ∷ (var 0 :* var 2, var 14, var 10) ∷ (var 1 :* var 2, var 15, var 13)
      ∷ (opposite (var 0 :* var 1 :* var 9 :+ var 0 :* var 2 :* var 10 :+ var 1 :* var 2 :* var 13), var 3, unit :+ unit) ∷ [])
      (given (corner_means F u w z h k l) (given (by_part 0) (given (by_part 1) (given (by_part 2) (given (mean-swap (coordinate 1) (coordinate 0) h k l) (given (mean-swap (coordinate 2) (coordinate 0) h k l) (given (mean-swap (coordinate 2) (coordinate 1) h k l) (given whole_two none))))))))
      (var 4)
      ((var 0 :* var 0) :* var 8 :+ (var 0 :* var 1 :* var 3) :* var 9 :+ (var 0 :* var 2 :* var 3) :* var 10 :+ (var 1 :* var 1) :* var 12 :+ (var 1 :* var 2 :* var 3) :* var 13 :+ (var 2 :* var 2) :* var 16) refl
    where
      part : ℕ → Fraction
      part n = wet_mean (product_mean (coordinate n) F) h k l

      by_part : (n : ℕ) → part n ≡ (u ⊗ wet_pair 0 n h k l ⊕ w ⊗ wet_pair 1 n h k l) ⊕ z ⊗ wet_pair 2 n h k l
      by_part n = mean-swap (coordinate n) F h k l ∙ corner_means (coordinate n) u w z h k l

pub seen_parts_are_known_by_means : SeenPartsAreKnownByMeans
unfolding seen_part
seen_parts_are_known_by_means plane first last t = record {
  constant = ap (λ m. seen_area plane t ⊗ inverse (whole (pos 2)) ⊗ m) (share_mean (h t.a) (h t.b) (h t.c));
  linear = λ f. ap (λ m. seen_area plane t ⊗ inverse (whole (pos 2)) ⊗ m) (linear_seen (f t.a) (f t.b) (f t.c) (h t.a) (h t.b) (h t.c));
  square = λ f. ap (λ m. seen_area plane t ⊗ inverse (whole (pos 2)) ⊗ m) (square_seen (f t.a) (f t.b) (f t.c) (h t.a) (h t.b) (h t.c));
}
  where
    h : Position → Fraction
    h = depth plane first last
