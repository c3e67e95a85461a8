-- The rounded depth means are bounds of the exact ones, at depths of whole units.
use Prim.Native.Nat.{ℕ, ◌+◌, ◌-◌, ◌<◌, ◌^◌}
use native.Mathlib.Omega.{arith}
use mathlib.Core.Path.{◌≡◌, refl, sym, ◌∙◌, ap, subst}
use mathlib.Core.List.{[], ◌∷◌}
use mathlib.Core.Bool.{Bool, true, false}
use lib.IntN.{ℤ, pos, ◌+ℤ◌, ◌*ℤ◌}
use lib.Signed.{◌≤ℤ◌, ◌<ℤ◌}
use borrow.Author.Differences.{ints}
use Rattle.std.specs.Prelude.{unsigned_abs}
use Rattle.std.specs.Int.{int_div_euclid}
use Rattle.exact_algebra.specs.Expression.{var, unit, number, ◌:+◌, ◌:-◌, ◌:*◌, opposite}
use Rattle.exact_algebra.specs.OrderedField.{above}
use Rattle.exact_algebra.proofs.Ring.{ring, ring_from, none, given}
use Rattle.exact_algebra.proofs.WholeNumbers.{integers}
use Rattle.exact_algebra.proofs.Fraction.{Fraction, nought, one, ◌⊕◌, ◌⊗◌, ◌⊖◌, negative, sign, fractions, fraction_ring, ◌≼◌}
use Rattle.exact_algebra.proofs.Whole.{whole, whole-add, whole-mul, whole-nought, whole-≼, positive-whole}
use Rattle.exact_algebra.proofs.Division.{floor_of-floor}
use Rattle.exact_algebra.proofs.Order as Order
use Rattle.exact_algebra.proofs.Order.{order_from, no_more, at_most, scaled, equal}
use Rattle.exact_algebra.proofs.WetForm as Form
use Rattle.plane_clip.specs.Rounded.{is_over, cube, bound, rest, part, part_by, quotient_of_sum, Tip, depth_tip, no_tip, DepthEnds, sum_of, depths_from, depths_by, first_depths, second_depths, third_depths, depths_in_turn, depth_ends}
use Rattle.hull_model.proofs.MeanKinds.{depth_kind, weighted_kind, mean_at, kind_turn, depth_turn, weighted_turn0, weighted_turn1, weighted_turn2}
use Rattle.plane_clip.proofs.TipValues.{dry_value, wet_value, when_one, when_two, depth_whole, weighted0_whole, weighted1_whole, weighted2_whole, depth_values, weighted0_values, weighted1_values, weighted2_values}
use Rattle.plane_clip.proofs.RoundedBounds.{N, same, BoundAt, scale-bound, cube-bound, bound-add, bound-one, bound-twice, IsPartOf, bound-part, bound-rest}
use Rattle.plane_clip.proofs.Crossings.{over-whole, whole-over, whole-under, crossing_down, crossing_up}

abbrev IsPart : Fraction → Fraction → Fraction → Type 0
IsPart x y t = Form.IsPart fractions x y t

-- z is at most, or at least, m
abbrev pub IsRoundedWhole : Bool → ℤ → Fraction → Type 0
IsRoundedWhole false z m = whole z ≼ m
IsRoundedWhole true z m = m ≼ whole z

-- ---- quotients: k times the mean is w and e, of which n is a bound
floor-low : (k : ℕ) (a : ℤ) → 0 < k → (int_div_euclid a (pos k) *ℤ pos k) ≤ℤ a
floor-low k a o = (floor_of-floor a k o).below

ceiling-high : (k : ℕ) (a : ℤ) → 0 < k → a ≤ℤ (int_div_euclid (a +ℤ pos (k - 1)) (pos k) *ℤ pos k)
ceiling-high k a o = back (int_div_euclid (a +ℤ pos (k - 1)) (pos k)) (floor_of-floor (a +ℤ pos (k - 1)) k o).next
  where
    moved : (r s : ℤ) → s ≡ r +ℤ pos k → (a +ℤ pos (k - 1)) <ℤ s → a ≤ℤ r
    moved r s e h = omega (arith, ints, o, e, h)

    back : (q : ℤ) → (a +ℤ pos (k - 1)) <ℤ ((q +ℤ pos 1) *ℤ pos k) → a ≤ℤ (q *ℤ pos k)
    back q h = moved (q *ℤ pos k) ((q +ℤ pos 1) *ℤ pos k) (ring integers (q ∷ pos k ∷ []) ((var 0 :+ unit) :* var 1) (var 0 :* var 1 :+ var 1) refl) h

nothing_added : (a : ℤ) → a +ℤ pos 0 ≡ a
nothing_added a = omega (arith, ints)

sum_end : (up : Bool) (k n : ℕ) (w : ℤ) (m e : Fraction) → 0 < k → m ⊗ N k ≡ whole w ⊕ e → BoundAt up n e → IsRoundedWhole up (quotient_of_sum up k w n) m
sum_end false k n w m e o i b = Order.≼_cancel fractions (positive-whole k o) (order_from fractions (m ∷ N k ∷ whole q ∷ whole w ∷ e ∷ N n ∷ whole (q *ℤ pos k) ∷ whole (w +ℤ pos n) ∷ [])
    ((opposite unit, var 0 :* var 1, var 3 :+ var 4) ∷ (opposite unit, var 6, var 2 :* var 1) ∷ (unit, var 7, var 3 :+ var 5) ∷ (unit, var 6, var 7) ∷ (unit, var 5, var 4) ∷ [])
    (equal i (equal (whole-mul q (pos k)) (equal (whole-add w (pos n)) (at_most (whole-≼ low) (at_most b no_more))))) (var 2 :* var 1) (var 0 :* var 1) refl)
  where
    q : ℤ
    q = quotient_of_sum false k w n

    low : (q *ℤ pos k) ≤ℤ (w +ℤ pos n)
    low = subst (λ a. (int_div_euclid a (pos k) *ℤ pos k) ≤ℤ (w +ℤ pos n)) (sym (nothing_added (w +ℤ pos n))) (floor-low k (w +ℤ pos n) o)
sum_end true k n w m e o i b = Order.≼_cancel fractions (positive-whole k o) (order_from fractions (m ∷ N k ∷ whole q ∷ whole w ∷ e ∷ N n ∷ whole (q *ℤ pos k) ∷ whole (w +ℤ pos n) ∷ [])
    ((unit, var 0 :* var 1, var 3 :+ var 4) ∷ (unit, var 6, var 2 :* var 1) ∷ (opposite unit, var 7, var 3 :+ var 5) ∷ (unit, var 7, var 6) ∷ (unit, var 4, var 5) ∷ [])
    (equal i (equal (whole-mul q (pos k)) (equal (whole-add w (pos n)) (at_most (whole-≼ (ceiling-high k (w +ℤ pos n) o)) (at_most b.1 no_more))))) (var 0 :* var 1) (var 2 :* var 1) refl)
  where
    q : ℤ
    q = quotient_of_sum true k w n

-- ---- the numbers of a tip whose corner has the depth x
pub record TipBounds (up : Bool) (n : Tip) (x t s : Fraction) : Type 0 where
  pub depth : BoundAt up n.depth (x ⊗ (t ⊗ s))
  pub first : BoundAt up n.first ((x ⊗ (t ⊗ s)) ⊗ ((one ⊕ one) ⊕ (one ⊖ t) ⊕ (one ⊖ s)))
  pub second : BoundAt up n.second ((x ⊗ (t ⊗ s)) ⊗ t)
  pub third : BoundAt up n.third ((x ⊗ (t ⊗ s)) ⊗ s)

tip_bounds_at : (up : Bool) (a b c : ℕ) (t s : Fraction) → 0 < a + b → 0 < a + c → IsPartOf a b t → IsPartOf a c s → TipBounds up (depth_tip up a (part a b) (part a c)) (N a) t s
tip_bounds_at up a b c t s ab ac i j = record {
  depth = depth;
  first = scale-bound up d (2 ^ 41 + rest up T + rest up S) (N a ⊗ (t ⊗ s)) ((one ⊕ one) ⊕ (one ⊖ t) ⊕ (one ⊖ s)) depth
      (bound-add up (2 ^ 41 + rest up T) (rest up S) ((one ⊕ one) ⊕ (one ⊖ t)) (one ⊖ s) (bound-add up (2 ^ 41) (rest up T) (one ⊕ one) (one ⊖ t) (bound-twice up (2 ^ 40) one (bound-one up)) (bound-rest a b t ab i up)) (bound-rest a c s ac j up));
  second = scale-bound up d (bound up T) (N a ⊗ (t ⊗ s)) t depth (bound-part a b t ab i up);
  third = scale-bound up d (bound up S) (N a ⊗ (t ⊗ s)) s depth (bound-part a c s ac j up);
}
  where
    T : ℕ
    T = part a b

    S : ℕ
    S = part a c

    d : ℕ
    d = cube up a (bound up T) (bound up S)

    depth : BoundAt up d (N a ⊗ (t ⊗ s))
    depth = cube-bound up a (bound up T) (bound up S) t s (bound-part a b t ab i up) (bound-part a c s ac j up)

bound-none : (up : Bool) → BoundAt up 0 nought
bound-none false = same whole-nought
bound-none true = (Order.nonnegative-nought fractions, same (sym whole-nought))

-- ---- the means at three depths, of which p units make 1
pub record AreRoundedDepths (up : Bool) (n : DepthEnds) (x y z p : Fraction) : Type 0 where
  pub depth : IsRoundedWhole up n.depth (mean_at depth_kind x y z ⊗ p)
  pub first : IsRoundedWhole up n.first (mean_at (weighted_kind 0) x y z ⊗ p)
  pub second : IsRoundedWhole up n.second (mean_at (weighted_kind 1) x y z ⊗ p)
  pub third : IsRoundedWhole up n.third (mean_at (weighted_kind 2) x y z ⊗ p)

whole-sum : (x y z : ℤ) → whole (sum_of x y z) ≡ whole x ⊕ whole y ⊕ whole z
whole-sum x y z = whole-add (x +ℤ y) z ∙ ap (λ u. u ⊕ whole z) (whole-add x y)

module _ (up : Bool) (X Y Z p : Fraction) (x y z : ℤ) (positive : sign p ≡ above) (at_x : X ⊗ p ≡ whole x) (at_y : Y ⊗ p ≡ whole y) (at_z : Z ⊗ p ≡ whole z) where
  abbrev a : ℕ
  a = unsigned_abs x

  abbrev b : ℕ
  b = unsigned_abs y

  abbrev c : ℕ
  c = unsigned_abs z

  nothing : whole (sum_of (pos 0) (pos 0) (pos 0)) ≡ nought
  nothing = whole-sum (pos 0) (pos 0) (pos 0) ∙ ring_from fraction_ring (whole (pos 0) ∷ []) ((number 3, var 0, number 0) ∷ []) (given whole-nought none) (var 0 :+ var 0 :+ var 0) (number 0) refl

  -- the depths of the whole triangle in units
  whole_depth : (X ⊕ Y ⊕ Z) ⊗ p ≡ whole (sum_of x y z)
  whole_depth = ring_from fraction_ring (X ∷ Y ∷ Z ∷ p ∷ whole x ∷ whole y ∷ whole z ∷ whole (sum_of x y z) ∷ []) ((unit, var 0 :* var 3, var 4) ∷ (unit, var 1 :* var 3, var 5) ∷ (unit, var 2 :* var 3, var 6) ∷ (opposite unit, var 7, var 4 :+ var 5 :+ var 6) ∷ [])
      (given at_x (given at_y (given at_z (given (whole-sum x y z) none)))) ((var 0 :+ var 1 :+ var 2) :* var 3) (var 7) refl

  whole_weighted : (W : Fraction) (w : ℤ) → W ⊗ p ≡ whole w → ((X ⊕ Y ⊕ Z) ⊕ W) ⊗ p ≡ whole (sum_of x y z +ℤ w)
  whole_weighted W w e = ring_from fraction_ring ((X ⊕ Y ⊕ Z) ∷ W ∷ p ∷ whole (sum_of x y z) ∷ whole w ∷ whole (sum_of x y z +ℤ w) ∷ []) ((unit, var 0 :* var 2, var 3) ∷ (unit, var 1 :* var 2, var 4) ∷ (opposite unit, var 5, var 3 :+ var 4) ∷ [])
      (given whole_depth (given e (given (whole-add (sum_of x y z) w) none))) ((var 0 :+ var 1) :* var 2) (var 5) refl

  none_left : whole (sum_of (pos 0) (pos 0) (pos 0) +ℤ pos 0) ≡ nought
  none_left = whole-add (sum_of (pos 0) (pos 0) (pos 0)) (pos 0) ∙ ring_from fraction_ring (whole (sum_of (pos 0) (pos 0) (pos 0)) ∷ whole (pos 0) ∷ []) ((unit, var 0, number 0) ∷ (unit, var 1, number 0) ∷ []) (given nothing (given whole-nought none)) (var 0 :+ var 1) (number 0) refl

  -- k times the mean, without a whole triangle and with one
  alone : (k : ℕ) (m e e' w : Fraction) → m ⊗ N k ≡ e → e ⊗ p ≡ e' → w ≡ nought → (m ⊗ p) ⊗ N k ≡ w ⊕ e'
  alone k m e e' w i j l = ring_from fraction_ring (m ∷ N k ∷ p ∷ e ∷ e' ∷ w ∷ []) ((var 2, var 0 :* var 1, var 3) ∷ (unit, var 3 :* var 2, var 4) ∷ (opposite unit, var 5, number 0) ∷ [])
      (given i (given j (given l none))) ((var 0 :* var 2) :* var 1) (var 5 :+ var 4) refl

  filled : (k : ℕ) (m e e' w w' : Fraction) → m ⊗ N k ≡ w ⊖ e → w ⊗ p ≡ w' → e ⊗ p ≡ negative e' → (m ⊗ p) ⊗ N k ≡ w' ⊕ e'
  filled k m e e' w w' i j l = ring_from fraction_ring (m ∷ N k ∷ p ∷ e ∷ e' ∷ w ∷ w' ∷ []) ((var 2, var 0 :* var 1, var 5 :- var 3) ∷ (unit, var 5 :* var 2, var 6) ∷ (opposite unit, var 3 :* var 2, opposite (var 4)) ∷ [])
      (given i (given j (given l none))) ((var 0 :* var 2) :* var 1) (var 6 :+ var 4) refl

  less_nought : (w : Fraction) → w ≡ w ⊖ nought
  less_nought w = ring fraction_ring (w ∷ []) (var 0) (var 0 :- number 0) refl

  minus_nought : nought ≡ negative nought
  minus_nought = ring fraction_ring [] (number 0) (opposite (number 0)) refl

  none_at_p : nought ⊗ p ≡ nought
  none_at_p = ring fraction_ring (p ∷ []) (number 0 :* var 0) (number 0) refl

  dry_depths : is_over x ≡ false → is_over y ≡ false → is_over z ≡ false → AreRoundedDepths up (depths_from up (pos 0) (pos 0) (pos 0) no_tip) X Y Z p
  dry_depths e f g = record {
    depth = sum_end up 3 0 (sum_of (pos 0) (pos 0) (pos 0)) (mean_at depth_kind X Y Z ⊗ p) nought (omega arith) (alone 3 (mean_at depth_kind X Y Z) nought nought (whole (sum_of (pos 0) (pos 0) (pos 0))) (dry_value depth_kind 3 X Y Z (X ⊕ Y ⊕ Z) (depth_whole X Y Z) (over-whole X p x positive at_x ∙ e) (over-whole Y p y positive at_y ∙ f) (over-whole Z p z positive at_z ∙ g)) none_at_p nothing) (bound-none up);
    first = sum_end up 12 0 (sum_of (pos 0) (pos 0) (pos 0) +ℤ pos 0) (mean_at (weighted_kind 0) X Y Z ⊗ p) nought (omega arith) (alone 12 (mean_at (weighted_kind 0) X Y Z) nought nought (whole (sum_of (pos 0) (pos 0) (pos 0) +ℤ pos 0)) (dry_value (weighted_kind 0) 12 X Y Z ((X ⊕ Y ⊕ Z) ⊕ X) (weighted0_whole X Y Z) (over-whole X p x positive at_x ∙ e) (over-whole Y p y positive at_y ∙ f) (over-whole Z p z positive at_z ∙ g)) none_at_p none_left) (bound-none up);
    second = sum_end up 12 0 (sum_of (pos 0) (pos 0) (pos 0) +ℤ pos 0) (mean_at (weighted_kind 1) X Y Z ⊗ p) nought (omega arith) (alone 12 (mean_at (weighted_kind 1) X Y Z) nought nought (whole (sum_of (pos 0) (pos 0) (pos 0) +ℤ pos 0)) (dry_value (weighted_kind 1) 12 X Y Z ((X ⊕ Y ⊕ Z) ⊕ Y) (weighted1_whole X Y Z) (over-whole X p x positive at_x ∙ e) (over-whole Y p y positive at_y ∙ f) (over-whole Z p z positive at_z ∙ g)) none_at_p none_left) (bound-none up);
    third = sum_end up 12 0 (sum_of (pos 0) (pos 0) (pos 0) +ℤ pos 0) (mean_at (weighted_kind 2) X Y Z ⊗ p) nought (omega arith) (alone 12 (mean_at (weighted_kind 2) X Y Z) nought nought (whole (sum_of (pos 0) (pos 0) (pos 0) +ℤ pos 0)) (dry_value (weighted_kind 2) 12 X Y Z ((X ⊕ Y ⊕ Z) ⊕ Z) (weighted2_whole X Y Z) (over-whole X p x positive at_x ∙ e) (over-whole Y p y positive at_y ∙ f) (over-whole Z p z positive at_z ∙ g)) none_at_p none_left) (bound-none up);
  }

  wet_depths : is_over x ≡ true → is_over y ≡ true → is_over z ≡ true → AreRoundedDepths up (depths_from up x y z no_tip) X Y Z p
  wet_depths e f g = record {
    depth = sum_end up 3 0 (sum_of x y z) (mean_at depth_kind X Y Z ⊗ p) nought (omega arith) (filled 3 (mean_at depth_kind X Y Z) nought nought (X ⊕ Y ⊕ Z) (whole (sum_of x y z)) (wet_value depth_kind 3 X Y Z (X ⊕ Y ⊕ Z) (depth_whole X Y Z) (over-whole X p x positive at_x ∙ e) (over-whole Y p y positive at_y ∙ f) (over-whole Z p z positive at_z ∙ g) ∙ less_nought (X ⊕ Y ⊕ Z)) whole_depth (none_at_p ∙ minus_nought)) (bound-none up);
    first = sum_end up 12 0 (sum_of x y z +ℤ x) (mean_at (weighted_kind 0) X Y Z ⊗ p) nought (omega arith) (filled 12 (mean_at (weighted_kind 0) X Y Z) nought nought ((X ⊕ Y ⊕ Z) ⊕ X) (whole (sum_of x y z +ℤ x)) (wet_value (weighted_kind 0) 12 X Y Z ((X ⊕ Y ⊕ Z) ⊕ X) (weighted0_whole X Y Z) (over-whole X p x positive at_x ∙ e) (over-whole Y p y positive at_y ∙ f) (over-whole Z p z positive at_z ∙ g) ∙ less_nought ((X ⊕ Y ⊕ Z) ⊕ X)) (whole_weighted X x at_x) (none_at_p ∙ minus_nought)) (bound-none up);
    second = sum_end up 12 0 (sum_of x y z +ℤ y) (mean_at (weighted_kind 1) X Y Z ⊗ p) nought (omega arith) (filled 12 (mean_at (weighted_kind 1) X Y Z) nought nought ((X ⊕ Y ⊕ Z) ⊕ Y) (whole (sum_of x y z +ℤ y)) (wet_value (weighted_kind 1) 12 X Y Z ((X ⊕ Y ⊕ Z) ⊕ Y) (weighted1_whole X Y Z) (over-whole X p x positive at_x ∙ e) (over-whole Y p y positive at_y ∙ f) (over-whole Z p z positive at_z ∙ g) ∙ less_nought ((X ⊕ Y ⊕ Z) ⊕ Y)) (whole_weighted Y y at_y) (none_at_p ∙ minus_nought)) (bound-none up);
    third = sum_end up 12 0 (sum_of x y z +ℤ z) (mean_at (weighted_kind 2) X Y Z ⊗ p) nought (omega arith) (filled 12 (mean_at (weighted_kind 2) X Y Z) nought nought ((X ⊕ Y ⊕ Z) ⊕ Z) (whole (sum_of x y z +ℤ z)) (wet_value (weighted_kind 2) 12 X Y Z ((X ⊕ Y ⊕ Z) ⊕ Z) (weighted2_whole X Y Z) (over-whole X p x positive at_x ∙ e) (over-whole Y p y positive at_y ∙ f) (over-whole Z p z positive at_z ∙ g) ∙ less_nought ((X ⊕ Y ⊕ Z) ⊕ Z)) (whole_weighted Z z at_z) (none_at_p ∙ minus_nought)) (bound-none up);
  }

  one_depths_by : (n : Tip) (t s : Fraction) → is_over x ≡ true → is_over y ≡ false → is_over z ≡ false → IsPart X Y t → IsPart X Z s → TipBounds up n (N a) t s → AreRoundedDepths up (depths_from up (pos 0) (pos 0) (pos 0) n) X Y Z p
  one_depths_by n t s e f g i j bounds = record {
    depth = sum_end up 3 n.depth (sum_of (pos 0) (pos 0) (pos 0)) (mean_at depth_kind X Y Z ⊗ p) (N a ⊗ (t ⊗ s)) (omega arith) (alone 3 (mean_at depth_kind X Y Z) (X ⊗ (t ⊗ s)) (N a ⊗ (t ⊗ s)) (whole (sum_of (pos 0) (pos 0) (pos 0))) (when_one depth_kind 3 X Y Z t s (X ⊕ Y ⊕ Z) (X ⊗ (t ⊗ s)) (depth_values X Y Z t s i j) (over-whole X p x positive at_x ∙ e) (over-whole Y p y positive at_y ∙ f) (over-whole Z p z positive at_z ∙ g) i j) (ring_from fraction_ring (X ∷ t ∷ s ∷ p ∷ N a ∷ []) (((var 1 :* var 2), var 0 :* var 3, var 4) ∷ []) (given (at_x ∙ whole-over x e) none) ((var 0 :* (var 1 :* var 2)) :* var 3) (var 4 :* (var 1 :* var 2)) refl) nothing) bounds.depth;
    first = sum_end up 12 n.first (sum_of (pos 0) (pos 0) (pos 0) +ℤ pos 0) (mean_at (weighted_kind 0) X Y Z ⊗ p) ((N a ⊗ (t ⊗ s)) ⊗ ((one ⊕ one) ⊕ (one ⊖ t) ⊕ (one ⊖ s))) (omega arith) (alone 12 (mean_at (weighted_kind 0) X Y Z) ((X ⊗ (t ⊗ s)) ⊗ ((one ⊕ one) ⊕ (one ⊖ t) ⊕ (one ⊖ s))) ((N a ⊗ (t ⊗ s)) ⊗ ((one ⊕ one) ⊕ (one ⊖ t) ⊕ (one ⊖ s))) (whole (sum_of (pos 0) (pos 0) (pos 0) +ℤ pos 0)) (when_one (weighted_kind 0) 12 X Y Z t s ((X ⊕ Y ⊕ Z) ⊕ X) ((X ⊗ (t ⊗ s)) ⊗ ((one ⊕ one) ⊕ (one ⊖ t) ⊕ (one ⊖ s))) (weighted0_values X Y Z t s i j) (over-whole X p x positive at_x ∙ e) (over-whole Y p y positive at_y ∙ f) (over-whole Z p z positive at_z ∙ g) i j) (ring_from fraction_ring (X ∷ t ∷ s ∷ p ∷ N a ∷ []) (((var 1 :* var 2) :* ((unit :+ unit) :+ (unit :- var 1) :+ (unit :- var 2)), var 0 :* var 3, var 4) ∷ []) (given (at_x ∙ whole-over x e) none) (((var 0 :* (var 1 :* var 2)) :* ((unit :+ unit) :+ (unit :- var 1) :+ (unit :- var 2))) :* var 3) ((var 4 :* (var 1 :* var 2)) :* ((unit :+ unit) :+ (unit :- var 1) :+ (unit :- var 2))) refl) none_left) bounds.first;
    second = sum_end up 12 n.second (sum_of (pos 0) (pos 0) (pos 0) +ℤ pos 0) (mean_at (weighted_kind 1) X Y Z ⊗ p) ((N a ⊗ (t ⊗ s)) ⊗ t) (omega arith) (alone 12 (mean_at (weighted_kind 1) X Y Z) ((X ⊗ (t ⊗ s)) ⊗ t) ((N a ⊗ (t ⊗ s)) ⊗ t) (whole (sum_of (pos 0) (pos 0) (pos 0) +ℤ pos 0)) (when_one (weighted_kind 1) 12 X Y Z t s ((X ⊕ Y ⊕ Z) ⊕ Y) ((X ⊗ (t ⊗ s)) ⊗ t) (weighted1_values X Y Z t s i j) (over-whole X p x positive at_x ∙ e) (over-whole Y p y positive at_y ∙ f) (over-whole Z p z positive at_z ∙ g) i j) (ring_from fraction_ring (X ∷ t ∷ s ∷ p ∷ N a ∷ []) (((var 1 :* var 2) :* var 1, var 0 :* var 3, var 4) ∷ []) (given (at_x ∙ whole-over x e) none) (((var 0 :* (var 1 :* var 2)) :* var 1) :* var 3) ((var 4 :* (var 1 :* var 2)) :* var 1) refl) none_left) bounds.second;
    third = sum_end up 12 n.third (sum_of (pos 0) (pos 0) (pos 0) +ℤ pos 0) (mean_at (weighted_kind 2) X Y Z ⊗ p) ((N a ⊗ (t ⊗ s)) ⊗ s) (omega arith) (alone 12 (mean_at (weighted_kind 2) X Y Z) ((X ⊗ (t ⊗ s)) ⊗ s) ((N a ⊗ (t ⊗ s)) ⊗ s) (whole (sum_of (pos 0) (pos 0) (pos 0) +ℤ pos 0)) (when_one (weighted_kind 2) 12 X Y Z t s ((X ⊕ Y ⊕ Z) ⊕ Z) ((X ⊗ (t ⊗ s)) ⊗ s) (weighted2_values X Y Z t s i j) (over-whole X p x positive at_x ∙ e) (over-whole Y p y positive at_y ∙ f) (over-whole Z p z positive at_z ∙ g) i j) (ring_from fraction_ring (X ∷ t ∷ s ∷ p ∷ N a ∷ []) (((var 1 :* var 2) :* var 2, var 0 :* var 3, var 4) ∷ []) (given (at_x ∙ whole-over x e) none) (((var 0 :* (var 1 :* var 2)) :* var 2) :* var 3) ((var 4 :* (var 1 :* var 2)) :* var 2) refl) none_left) bounds.third;
  }

  two_depths_by : (n : Tip) (t s : Fraction) → is_over x ≡ false → is_over y ≡ true → is_over z ≡ true → IsPart X Y t → IsPart X Z s → TipBounds up n (N a) t s → AreRoundedDepths up (depths_from up x y z n) X Y Z p
  two_depths_by n t s e f g i j bounds = record {
    depth = sum_end up 3 n.depth (sum_of x y z) (mean_at depth_kind X Y Z ⊗ p) (N a ⊗ (t ⊗ s)) (omega arith) (filled 3 (mean_at depth_kind X Y Z) (X ⊗ (t ⊗ s)) (N a ⊗ (t ⊗ s)) (X ⊕ Y ⊕ Z) (whole (sum_of x y z)) (when_two depth_kind 3 X Y Z t s (X ⊕ Y ⊕ Z) (X ⊗ (t ⊗ s)) (depth_values X Y Z t s i j) (over-whole X p x positive at_x ∙ e) (over-whole Y p y positive at_y ∙ f) (over-whole Z p z positive at_z ∙ g) i j) whole_depth (ring_from fraction_ring (X ∷ t ∷ s ∷ p ∷ N a ∷ []) (((var 1 :* var 2), var 0 :* var 3, opposite (var 4)) ∷ []) (given (at_x ∙ whole-under x e) none) ((var 0 :* (var 1 :* var 2)) :* var 3) (opposite (var 4 :* (var 1 :* var 2))) refl)) bounds.depth;
    first = sum_end up 12 n.first (sum_of x y z +ℤ x) (mean_at (weighted_kind 0) X Y Z ⊗ p) ((N a ⊗ (t ⊗ s)) ⊗ ((one ⊕ one) ⊕ (one ⊖ t) ⊕ (one ⊖ s))) (omega arith) (filled 12 (mean_at (weighted_kind 0) X Y Z) ((X ⊗ (t ⊗ s)) ⊗ ((one ⊕ one) ⊕ (one ⊖ t) ⊕ (one ⊖ s))) ((N a ⊗ (t ⊗ s)) ⊗ ((one ⊕ one) ⊕ (one ⊖ t) ⊕ (one ⊖ s))) ((X ⊕ Y ⊕ Z) ⊕ X) (whole (sum_of x y z +ℤ x)) (when_two (weighted_kind 0) 12 X Y Z t s ((X ⊕ Y ⊕ Z) ⊕ X) ((X ⊗ (t ⊗ s)) ⊗ ((one ⊕ one) ⊕ (one ⊖ t) ⊕ (one ⊖ s))) (weighted0_values X Y Z t s i j) (over-whole X p x positive at_x ∙ e) (over-whole Y p y positive at_y ∙ f) (over-whole Z p z positive at_z ∙ g) i j) (whole_weighted X x at_x) (ring_from fraction_ring (X ∷ t ∷ s ∷ p ∷ N a ∷ []) (((var 1 :* var 2) :* ((unit :+ unit) :+ (unit :- var 1) :+ (unit :- var 2)), var 0 :* var 3, opposite (var 4)) ∷ []) (given (at_x ∙ whole-under x e) none) (((var 0 :* (var 1 :* var 2)) :* ((unit :+ unit) :+ (unit :- var 1) :+ (unit :- var 2))) :* var 3) (opposite ((var 4 :* (var 1 :* var 2)) :* ((unit :+ unit) :+ (unit :- var 1) :+ (unit :- var 2)))) refl)) bounds.first;
    second = sum_end up 12 n.second (sum_of x y z +ℤ y) (mean_at (weighted_kind 1) X Y Z ⊗ p) ((N a ⊗ (t ⊗ s)) ⊗ t) (omega arith) (filled 12 (mean_at (weighted_kind 1) X Y Z) ((X ⊗ (t ⊗ s)) ⊗ t) ((N a ⊗ (t ⊗ s)) ⊗ t) ((X ⊕ Y ⊕ Z) ⊕ Y) (whole (sum_of x y z +ℤ y)) (when_two (weighted_kind 1) 12 X Y Z t s ((X ⊕ Y ⊕ Z) ⊕ Y) ((X ⊗ (t ⊗ s)) ⊗ t) (weighted1_values X Y Z t s i j) (over-whole X p x positive at_x ∙ e) (over-whole Y p y positive at_y ∙ f) (over-whole Z p z positive at_z ∙ g) i j) (whole_weighted Y y at_y) (ring_from fraction_ring (X ∷ t ∷ s ∷ p ∷ N a ∷ []) (((var 1 :* var 2) :* var 1, var 0 :* var 3, opposite (var 4)) ∷ []) (given (at_x ∙ whole-under x e) none) (((var 0 :* (var 1 :* var 2)) :* var 1) :* var 3) (opposite ((var 4 :* (var 1 :* var 2)) :* var 1)) refl)) bounds.second;
    third = sum_end up 12 n.third (sum_of x y z +ℤ z) (mean_at (weighted_kind 2) X Y Z ⊗ p) ((N a ⊗ (t ⊗ s)) ⊗ s) (omega arith) (filled 12 (mean_at (weighted_kind 2) X Y Z) ((X ⊗ (t ⊗ s)) ⊗ s) ((N a ⊗ (t ⊗ s)) ⊗ s) ((X ⊕ Y ⊕ Z) ⊕ Z) (whole (sum_of x y z +ℤ z)) (when_two (weighted_kind 2) 12 X Y Z t s ((X ⊕ Y ⊕ Z) ⊕ Z) ((X ⊗ (t ⊗ s)) ⊗ s) (weighted2_values X Y Z t s i j) (over-whole X p x positive at_x ∙ e) (over-whole Y p y positive at_y ∙ f) (over-whole Z p z positive at_z ∙ g) i j) (whole_weighted Z z at_z) (ring_from fraction_ring (X ∷ t ∷ s ∷ p ∷ N a ∷ []) (((var 1 :* var 2) :* var 2, var 0 :* var 3, opposite (var 4)) ∷ []) (given (at_x ∙ whole-under x e) none) (((var 0 :* (var 1 :* var 2)) :* var 2) :* var 3) (opposite ((var 4 :* (var 1 :* var 2)) :* var 2)) refl)) bounds.third;
  }

  by_sides : (u v : Bool) → is_over x ≡ u → is_over y ≡ v → is_over z ≡ v → AreRoundedDepths up (depths_by up u v x y z (part_by u v a b) (part_by u v a c)) X Y Z p
  by_sides false false e f g = dry_depths e f g
  by_sides true true e f g = wet_depths e f g
  by_sides true false e f g =
      let first = crossing_down X Y p x y positive at_x at_y e f in
      let second = crossing_down X Z p x z positive at_x at_z e g in
      one_depths_by (depth_tip up a (part a b) (part a c)) first.t second.t e f g first.is_part second.is_part (tip_bounds_at up a b c first.t second.t first.some second.some first.part_of second.part_of)
  by_sides false true e f g =
      let first = crossing_up X Y p x y positive at_x at_y e f in
      let second = crossing_up X Z p x z positive at_x at_z e g in
      two_depths_by (depth_tip up a (part a b) (part a c)) first.t second.t e f g first.is_part second.is_part (tip_bounds_at up a b c first.t second.t first.some second.some first.part_of second.part_of)

  -- where the second and the third corner lie on one side
  pub first_rounded_depths : (v : Bool) → is_over y ≡ v → is_over z ≡ v → AreRoundedDepths up (first_depths up x y z) X Y Z p
  first_rounded_depths v f g = subst (λ w. AreRoundedDepths up (depths_by up (is_over x) (is_over y) x y z (part_by (is_over x) (is_over y) a b) (part_by (is_over x) w a c)) X Y Z p) (f ∙ sym g)
      (by_sides (is_over x) (is_over y) refl refl (g ∙ sym f))

-- ---- the corners in turn
rounded-same : (up : Bool) (n : ℤ) (m l : Fraction) → m ≡ l → IsRoundedWhole up n l → IsRoundedWhole up n m
rounded-same up n m l e r = subst (λ x. IsRoundedWhole up n x) (sym e) r

pub turned_depths : (up : Bool) (n : DepthEnds) (x y z p : Fraction) → AreRoundedDepths up n y z x p → AreRoundedDepths up (second_depths n) x y z p
turned_depths up n x y z p r = record {
  depth = rounded-same up n.depth (mean_at depth_kind x y z ⊗ p) _ (ap (λ m. m ⊗ p) (kind_turn depth_kind depth_kind depth_turn x y z)) r.depth;
  first = rounded-same up n.third (mean_at (weighted_kind 0) x y z ⊗ p) _ (ap (λ m. m ⊗ p) (kind_turn (weighted_kind 0) (weighted_kind 2) weighted_turn0 x y z)) r.third;
  second = rounded-same up n.first (mean_at (weighted_kind 1) x y z ⊗ p) _ (ap (λ m. m ⊗ p) (kind_turn (weighted_kind 1) (weighted_kind 0) weighted_turn1 x y z)) r.first;
  third = rounded-same up n.second (mean_at (weighted_kind 2) x y z ⊗ p) _ (ap (λ m. m ⊗ p) (kind_turn (weighted_kind 2) (weighted_kind 1) weighted_turn2 x y z)) r.second;
}

pub rounded_depths : (up : Bool) (X Y Z p : Fraction) (x y z : ℤ) → sign p ≡ above → X ⊗ p ≡ whole x → Y ⊗ p ≡ whole y → Z ⊗ p ≡ whole z → AreRoundedDepths up (depth_ends up x y z) X Y Z p
rounded_depths up X Y Z p x y z h i j k = go (is_over x) (is_over y) (is_over z) refl refl refl
  where
    first : (v : Bool) → is_over y ≡ v → is_over z ≡ v → AreRoundedDepths up (first_depths up x y z) X Y Z p
    first v f g = first_rounded_depths up X Y Z p x y z h i j k v f g

    second : (v : Bool) → is_over z ≡ v → is_over x ≡ v → AreRoundedDepths up (second_depths (first_depths up y z x)) X Y Z p
    second v f g = turned_depths up (first_depths up y z x) X Y Z p (first_rounded_depths up Y Z X p y z x h j k i v f g)

    third : (v : Bool) → is_over x ≡ v → is_over y ≡ v → AreRoundedDepths up (third_depths (first_depths up z x y)) X Y Z p
    third v f g = turned_depths up (second_depths (first_depths up z x y)) X Y Z p (turned_depths up (first_depths up z x y) Y Z X p (first_rounded_depths up Z X Y p z x y h k i j v f g))

    go : (u v w : Bool) → is_over x ≡ u → is_over y ≡ v → is_over z ≡ w → AreRoundedDepths up (depths_in_turn up u v w x y z) X Y Z p
    go false false false e f g = first false f g
    go true true true e f g = first true f g
    go true false false e f g = first false f g
    go false true true e f g = first true f g
    go false true false e f g = second false g e
    go true false true e f g = second true g e
    go false false true e f g = third false e f
    go true true false e f g = third true e f
