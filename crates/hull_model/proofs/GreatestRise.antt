-- The mean of the depth where it is above nought rises by at most the greatest rise of a corner's depth.
use Prim.Native.Nat.{ℕ}
use native.Mathlib.Omega.{arith}
use mathlib.Core.Path.{◌≡◌, refl, sym, ◌∙◌, ap}
use mathlib.Core.List.{List, [], ◌∷◌}
use mathlib.Core.Logic.{◌≢◌}
use mathlib.Core.Bool.{Bool, true, false}
use Rattle.exact_algebra.specs.Expression.{Expression, var, unit, number, ◌:+◌, ◌:-◌, ◌:*◌, opposite}
use Rattle.exact_algebra.specs.OrderedField.{Sign, below, level, above}
use Rattle.exact_algebra.proofs.Ring.{ring, ring_from, none, given}
use Rattle.exact_algebra.proofs.Fraction.{Fraction, nought, one, ◌⊕◌, ◌⊗◌, ◌⊖◌, sign, fractions, fraction_ring, ◌≼◌}
use Rattle.exact_algebra.proofs.Whole.{positive-whole}
use Rattle.exact_algebra.proofs.Order as Order
use Rattle.exact_algebra.proofs.Order.{order_from, no_more, at_most, scaled, equal}
use Rattle.hull_model.specs.TriangleCut.{Triangle, triangle, is_kept_by, are_opposite, side, crossing}
use Rattle.hull_model.specs.WetMean.{Place, places, with_depths, linear_mean, wet_depth}
use Rattle.hull_model.specs.TriangleLaws.{between, RisesByAtMost}
use Rattle.hull_model.proofs.CutInduction.{IsInside, one_side, inside, crossing_parameter, cut_induction}
use Rattle.hull_model.proofs.WetSum.{N12, form_at, twelve_at, form_first, form_middle, form_last, wet_mean-form, not_kept_either, linear, form_kept, form_not_above}
use Rattle.hull_model.proofs.TriangleLaws.{constant, constant_linear, depth_at, depth_linear, linear-twelfth, N-twelve}
use Rattle.hull_model.proofs.Rising.{Raised, Rises, rises-between, high_corners, high_linear, constant_weight, depth_rising, mean_rises, form_nonnegative, between_both}

abbrev form : Place → Place → Place → Fraction
form a b c = form_at constant depth_at (triangle a b c)

abbrev twelve : Place → Place → Place → Fraction
twelve a b c = twelve_at constant depth_at (triangle a b c)

abbrev mean : Triangle Place → Fraction
mean t = linear_mean depth_at t

at_first : (t : Fraction) (a b c : Place) → form a b c ≡ t ⊗ form a (between t a b) c ⊕ (one ⊖ t) ⊗ form (between t a b) b c
at_first t a b c = form_first mean constant depth_at constant_linear depth_linear (linear-twelfth depth_at) t a b c

at_middle : (t : Fraction) (a b c : Place) → form a b c ≡ t ⊗ form a b (between t a c) ⊕ (one ⊖ t) ⊗ form (between t a c) b c
at_middle t a b c = form_middle mean constant depth_at constant_linear depth_linear (linear-twelfth depth_at) t a b c

at_last : (t : Fraction) (a b c : Place) → form a b c ≡ t ⊗ form a b (between t b c) ⊕ (one ⊖ t) ⊗ form a (between t b c) c
at_last t a b c = form_last mean constant depth_at constant_linear depth_linear (linear-twelfth depth_at) t a b c

-- t of x and the rest of y, which are at most x' and y'
mixed : (t : Fraction) → IsInside t → (w w' x y x' y' : Fraction) → w ≡ t ⊗ x ⊕ (one ⊖ t) ⊗ y → w' ≡ t ⊗ x' ⊕ (one ⊖ t) ⊗ y' → x ≼ x' → y ≼ y' → w ≼ w'
mixed t i w w' x y x' y' e f h k = order_from fractions (t ∷ w ∷ w' ∷ x ∷ y ∷ x' ∷ y' ∷ [])
    ((unit, var 1, var 0 :* var 3 :+ (unit :- var 0) :* var 4) ∷ (opposite unit, var 2, var 0 :* var 5 :+ (unit :- var 0) :* var 6) ∷ (var 0, var 3, var 5) ∷ (unit :- var 0, var 4, var 6) ∷ [])
    (equal e (equal f (scaled (Order.nonnegative_positive fractions i.0) h (scaled (Order.nonnegative_positive fractions i.1) k no_more)))) (var 1) (var 2) refl

-- ---- the form is at least what it would be without the cut
sums : Expression → Expression → Expression → Expression
sums x y z = (unit :* x :+ unit :* y :+ unit :* z) :+ (unit :+ unit :+ unit) :* (x :+ y :+ z)

unfoldable IsAtLeast : ℕ → Place → Place → Place → Type 0
IsAtLeast k a b c = twelve a b c ≼ form a b c

at_most_nought : (x : Fraction) → sign x ≢ above → x ≼ nought
at_most_nought x n e = n (go (sign x) refl)
  where
    go : (s : Sign) → sign x ≡ s → sign x ≡ above
    go above f = f
    go level f = absurd (Order.nonnegative_level fractions (ap sign (ring_from fraction_ring (x ∷ []) ((opposite unit, var 0, number 0) ∷ []) (given (fractions.laws.nought_from_sign x f) none) (number 0 :- var 0) (number 0) refl) ∙ fractions.laws.sign-nought) e)
    go below f = absurd (Order.nonnegative_positive fractions (Order.positive_same fractions (ring fraction_ring (x ∷ []) (number 0 :- var 0) (opposite (var 0)) refl) (Order.negative_below fractions f)) e)

settled_low : (k : ℕ) (a b c : Place) → are_opposite (side places a) (side places b) ≡ false → are_opposite (side places a) (side places c) ≡ false → are_opposite (side places b) (side places c) ≡ false → IsAtLeast k a b c
unfolding IsAtLeast sums
settled_low k a b c e h l = go (is_kept_by (sign a.depth) (sign b.depth) (sign c.depth)) refl
  where
    go : (u : Bool) → is_kept_by (sign a.depth) (sign b.depth) (sign c.depth) ≡ u → twelve a b c ≼ form a b c
    go true k = Order.≼_same fractions (sym (form_kept constant depth_at a b c k))
    go false k = let n = not_kept_either (sign a.depth) (sign b.depth) (sign c.depth) k (one_side (sign a.depth) (sign b.depth) (sign c.depth) e h l) in
        order_from fractions (a.depth ∷ b.depth ∷ c.depth ∷ form a b c ∷ []) ((number 4, var 0, number 0) ∷ (number 4, var 1, number 0) ∷ (number 4, var 2, number 0) ∷ (opposite unit, var 3, number 0) ∷ [])
        (scaled (Order.nonnegative-number fractions 4) (at_most_nought a.depth n.0) (scaled (Order.nonnegative-number fractions 4) (at_most_nought b.depth n.1) (scaled (Order.nonnegative-number fractions 4) (at_most_nought c.depth n.2) (equal (form_not_above constant depth_at a b c n) no_more))))
        (sums (var 0) (var 1) (var 2)) (var 3) refl

-- at a split the sums of depths are mixed as the forms are
abbrev X : Expression → Expression → Expression
X p q = (unit :- var 0) :* p :+ var 0 :* q

module _ (t : Fraction) (a b c : Place) where
  depths : List Fraction
  depths = t ∷ a.depth ∷ b.depth ∷ c.depth ∷ []

  sum_first : twelve a b c ≡ t ⊗ twelve a (between t a b) c ⊕ (one ⊖ t) ⊗ twelve (between t a b) b c
  unfolding depths sums
  sum_first = ring fraction_ring depths (sums (var 1) (var 2) (var 3)) (var 0 :* sums (var 1) (X (var 1) (var 2)) (var 3) :+ (unit :- var 0) :* sums (X (var 1) (var 2)) (var 2) (var 3)) refl

  sum_middle : twelve a b c ≡ t ⊗ twelve a b (between t a c) ⊕ (one ⊖ t) ⊗ twelve (between t a c) b c
  unfolding depths sums
  sum_middle = ring fraction_ring depths (sums (var 1) (var 2) (var 3)) (var 0 :* sums (var 1) (var 2) (X (var 1) (var 3)) :+ (unit :- var 0) :* sums (X (var 1) (var 3)) (var 2) (var 3)) refl

  sum_last : twelve a b c ≡ t ⊗ twelve a b (between t b c) ⊕ (one ⊖ t) ⊗ twelve a (between t b c) c
  unfolding depths sums
  sum_last = ring fraction_ring depths (sums (var 1) (var 2) (var 3)) (var 0 :* sums (var 1) (var 2) (X (var 2) (var 3)) :+ (unit :- var 0) :* sums (var 1) (X (var 2) (var 3)) (var 3)) refl

all_at_least : (a b c : Place) → IsAtLeast 3 a b c
unfolding IsAtLeast crossing
all_at_least = cut_induction places linear IsAtLeast settled_low
    (λ k a b c e l r. let t = crossing_parameter places linear a b in mixed t (inside places linear a b e) (twelve a b c) (form a b c) _ _ _ _ (sum_first t a b c) (at_first t a b c) r l)
    (λ k a b c _ e l r. let t = crossing_parameter places linear a c in mixed t (inside places linear a c e) (twelve a b c) (form a b c) _ _ _ _ (sum_middle t a b c) (at_middle t a b c) r l)
    (λ k a b c _ _ e l r. let t = crossing_parameter places linear b c in mixed t (inside places linear b c e) (twelve a b c) (form a b c) _ _ _ _ (sum_last t a b c) (at_last t a b c) r l)

at_least : (a b c : Place) → twelve a b c ≼ form a b c
unfolding IsAtLeast
at_least = all_at_least

-- ---- where each depth is greater by d
module _ (d : Fraction) (nonnegative : sign d ≢ below) where
  abbrev Lifted : Raised → Type 0
  Lifted x = x.1.depth ≡ x.0.depth ⊕ d

  lifted-between : (t : Fraction) (x y : Raised) → Lifted x → Lifted y → Lifted (between_both t x y)
  lifted-between t x y h k = ring_from fraction_ring (t ∷ x.0.depth ∷ y.0.depth ∷ x.1.depth ∷ y.1.depth ∷ d ∷ []) ((unit :- var 0, var 3, var 1 :+ var 5) ∷ (var 0, var 4, var 2 :+ var 5) ∷ [])
      (given h (given k none)) ((unit :- var 0) :* var 3 :+ var 0 :* var 4) (((unit :- var 0) :* var 1 :+ var 0 :* var 2) :+ var 5) refl

  unfoldable RisesBy : ℕ → Raised → Raised → Raised → Type 0
  RisesBy k a b c = Rises a → Rises b → Rises c → Lifted a → Lifted b → Lifted c → form a.1 b.1 c.1 ≼ form a.0 b.0 c.0 ⊕ N12 ⊗ d

  abbrev four_three : Expression
  four_three = (unit :+ unit :+ unit :+ unit) :* (unit :+ unit :+ unit)

  settled_high : (k : ℕ) (a b c : Raised) → are_opposite (side high_corners a) (side high_corners b) ≡ false → are_opposite (side high_corners a) (side high_corners c) ≡ false → are_opposite (side high_corners b) (side high_corners c) ≡ false → RisesBy k a b c
  unfolding RisesBy sums
  settled_high k a b c e h l x y z i j m = go (is_kept_by (sign a.1.depth) (sign b.1.depth) (sign c.1.depth)) refl
    where
      go : (u : Bool) → is_kept_by (sign a.1.depth) (sign b.1.depth) (sign c.1.depth) ≡ u → form a.1 b.1 c.1 ≼ form a.0 b.0 c.0 ⊕ N12 ⊗ d
      go true k = order_from fractions (a.0.depth ∷ b.0.depth ∷ c.0.depth ∷ a.1.depth ∷ b.1.depth ∷ c.1.depth ∷ d ∷ N12 ∷ form a.0 b.0 c.0 ∷ form a.1 b.1 c.1 ∷ [])
          ((unit, var 9, sums (var 3) (var 4) (var 5)) ∷ (number 4, var 3, var 0 :+ var 6) ∷ (number 4, var 4, var 1 :+ var 6) ∷ (number 4, var 5, var 2 :+ var 6) ∷ (opposite (var 6), var 7, four_three) ∷ (unit, sums (var 0) (var 1) (var 2), var 8) ∷ [])
          (equal (form_kept constant depth_at a.1 b.1 c.1 k) (equal i (equal j (equal m (equal N-twelve (at_most (at_least a.0 b.0 c.0) no_more)))))) (var 9) (var 8 :+ var 7 :* var 6) refl
      go false k = let n = not_kept_either (sign a.1.depth) (sign b.1.depth) (sign c.1.depth) k (one_side (sign a.1.depth) (sign b.1.depth) (sign c.1.depth) e h l) in
          order_from fractions (form a.0 b.0 c.0 ∷ form a.1 b.1 c.1 ∷ (N12 ⊗ d) ∷ []) ((unit, var 1, number 0) ∷ (unit, number 0, var 0) ∷ (unit, number 0, var 2) ∷ [])
          (equal (form_not_above constant depth_at a.1 b.1 c.1 n) (at_most (from_nought _ (form_nonnegative constant depth_at constant_weight depth_rising a b c x y z)) (at_most (from_nought _ (Order.nonnegative-mul fractions (Order.nonnegative_positive fractions (positive-whole 12 (omega arith))) nonnegative)) no_more)))
          (var 1) (var 0 :+ var 2) refl
        where
          from_nought : (q : Fraction) → sign q ≢ below → nought ≼ q
          from_nought q n = Order.nonnegative_same fractions (ring fraction_ring (q ∷ []) (var 0 :- number 0) (var 0) refl) n

  -- the rise is the same in both parts
  both : (t w p q : Fraction) → w ≡ t ⊗ p ⊕ (one ⊖ t) ⊗ q → w ⊕ N12 ⊗ d ≡ t ⊗ (p ⊕ N12 ⊗ d) ⊕ (one ⊖ t) ⊗ (q ⊕ N12 ⊗ d)
  both t w p q e = ring_from fraction_ring (t ∷ w ∷ p ∷ q ∷ (N12 ⊗ d) ∷ []) ((unit, var 1, var 0 :* var 2 :+ (unit :- var 0) :* var 3) ∷ []) (given e none) (var 1 :+ var 4) (var 0 :* (var 2 :+ var 4) :+ (unit :- var 0) :* (var 3 :+ var 4)) refl

  all_rise : (a b c : Raised) → RisesBy 3 a b c
  unfolding RisesBy crossing
  all_rise = cut_induction high_corners high_linear RisesBy settled_high
      (λ k a b c e l r x y z i j m. let t = crossing_parameter high_corners high_linear a b in let s = inside high_corners high_linear a b e in let v = rises-between t s a b x y in let u = lifted-between t a b i j in
      mixed t s (form a.1 b.1 c.1) (form a.0 b.0 c.0 ⊕ N12 ⊗ d) _ _ _ _ (at_first t a.1 b.1 c.1) (both t _ _ _ (at_first t a.0 b.0 c.0)) (r x v z i u m) (l v y z u j m))
      (λ k a b c _ e l r x y z i j m. let t = crossing_parameter high_corners high_linear a c in let s = inside high_corners high_linear a c e in let v = rises-between t s a c x z in let u = lifted-between t a c i m in
      mixed t s (form a.1 b.1 c.1) (form a.0 b.0 c.0 ⊕ N12 ⊗ d) _ _ _ _ (at_middle t a.1 b.1 c.1) (both t _ _ _ (at_middle t a.0 b.0 c.0)) (r x y v i j u) (l v y z u j m))
      (λ k a b c _ _ e l r x y z i j m. let t = crossing_parameter high_corners high_linear b c in let s = inside high_corners high_linear b c e in let v = rises-between t s b c y z in let u = lifted-between t b c j m in
      mixed t s (form a.1 b.1 c.1) (form a.0 b.0 c.0 ⊕ N12 ⊗ d) _ _ _ _ (at_last t a.1 b.1 c.1) (both t _ _ _ (at_last t a.0 b.0 c.0)) (r x y v i j u) (l x v z i u m))

  form_rises_by : (a b c : Raised) → Rises a → Rises b → Rises c → Lifted a → Lifted b → Lifted c → form a.1 b.1 c.1 ≼ form a.0 b.0 c.0 ⊕ N12 ⊗ d
  unfolding RisesBy
  form_rises_by = all_rise

  lifted : (h k l : Fraction) → wet_depth (h ⊕ d) (k ⊕ d) (l ⊕ d) ≼ wet_depth h k l ⊕ d
  lifted h k l = Order.≼_cancel fractions (positive-whole 12 (omega arith)) (order_from fractions (wet_depth h k l ∷ wet_depth (h ⊕ d) (k ⊕ d) (l ⊕ d) ∷ d ∷ N12 ∷ form low.a low.b low.c ∷ form high.a high.b high.c ∷ [])
      ((unit, var 1 :* var 3, var 5) ∷ (opposite unit, var 0 :* var 3, var 4) ∷ (unit, var 5, var 4 :+ var 3 :* var 2) ∷ [])
      (equal (known (h ⊕ d) (k ⊕ d) (l ⊕ d)) (equal (known h k l) (at_most (form_rises_by (low.a, high.a) (low.b, high.b) (low.c, high.c)
      (record { first = some; second = none_left; third = none_left; same_first = same one; same_second = same nought; same_third = same nought; deeper = more h })
      (record { first = none_left; second = some; third = none_left; same_first = same nought; same_second = same one; same_third = same nought; deeper = more k })
      (record { first = none_left; second = none_left; third = some; same_first = same nought; same_second = same nought; same_third = same one; deeper = more l }) refl refl refl) no_more)))
      (var 1 :* var 3) ((var 0 :+ var 2) :* var 3) refl)
    where
      low : Triangle Place
      low = with_depths h k l

      high : Triangle Place
      high = with_depths (h ⊕ d) (k ⊕ d) (l ⊕ d)

      known : (h k l : Fraction) → wet_depth h k l ⊗ N12 ≡ form (with_depths h k l).a (with_depths h k l).b (with_depths h k l).c
      known h k l = wet_mean-form mean constant depth_at constant_linear depth_linear (linear-twelfth depth_at) h k l

      some : sign one ≢ below
      some = Order.nonnegative-one fractions

      none_left : sign nought ≢ below
      none_left = Order.nonnegative-nought fractions

      same : (q : Fraction) → q ≼ q
      same q = Order.≼_refl fractions q

      more : (q : Fraction) → q ≼ q ⊕ d
      more q = Order.nonnegative_same fractions (ring fraction_ring (q ∷ d ∷ []) ((var 0 :+ var 1) :- var 0) (var 1) refl) nonnegative

pub rises_by_at_most : RisesByAtMost
rises_by_at_most d h k l h' k' l' n x y z = Order.≼_trans fractions
    (mean_rises constant depth_at constant_weight depth_rising mean (linear-twelfth depth_at) h' k' l' (h ⊕ d) (k ⊕ d) (l ⊕ d) x y z)
    (lifted d (Order.nonnegative_from fractions n) h k l)
