-- The rounded shares and means of coordinates are bounds of the exact ones, at depths of whole units.
use Prim.Native.Nat.{ℕ, ◌+◌, ◌-◌, ◌*◌, ◌<◌, ◌≤◌, ◌^◌}
use native.Mathlib.Omega.{arith}
use mathlib.Core.Path.{◌≡◌, refl, sym, ◌∙◌, ap, subst}
use mathlib.Core.List.{[], ◌∷◌}
use mathlib.Core.Logic.{◌⊎◌, inl, inr}
use mathlib.Core.Bool.{Bool, true, false}
use lib.IntN.{ℤ}
use Rattle.std.specs.Prelude.{unsigned_abs}
use Rattle.std.proofs.Math.Nat.{div-mul-le_self}
use Rattle.std.proofs.lemmas.Bool.{cases_lt}
use Rattle.std.proofs.lemmas.Grind.{div_ceil_times}
use Rattle.exact_algebra.specs.Expression.{var, unit, number, ◌:+◌, ◌:-◌, ◌:*◌, opposite}
use Rattle.exact_algebra.specs.OrderedField.{above}
use Rattle.exact_algebra.proofs.Ring.{ring}
use Rattle.exact_algebra.proofs.Fraction.{Fraction, nought, one, ◌⊕◌, ◌⊗◌, ◌⊖◌, sign, fractions, fraction_ring, ◌≼◌}
use Rattle.exact_algebra.proofs.Whole.{whole, whole-nought, positive-whole, nonnegative-whole}
use Rattle.exact_algebra.proofs.Order as Order
use Rattle.exact_algebra.proofs.Order.{order_from, no_more, at_most, scaled, equal}
use Rattle.exact_algebra.proofs.WetForm as Form
use Rattle.plane_clip.specs.declared.shares.Shares.{Shares}
use Rattle.plane_clip.specs.Rounded.{is_over, not, scale, quotient, bound, rest, part, part_by, tip_shares, tip_at, nothing, tip_ends, rest_ends, shares_by, first_shares, second_shares, third_shares, shares_in_turn, share_ends}
use Rattle.hull_model.proofs.MeanKinds.{Kind, share_kind, corner_kind, pair_kind, mean_at, kind_nonnegative, kind_turn, pair_swap, share_turn, corner_turn0, corner_turn1, corner_turn2, pair_turn00, pair_turn01, pair_turn02, pair_turn11, pair_turn12, pair_turn22}
use Rattle.plane_clip.proofs.TipValues.{dry_value, wet_value, when_one, when_two, share_whole, corner0_whole, corner1_whole, corner2_whole, pair00_whole, pair01_whole, pair02_whole, pair11_whole, pair12_whole, pair22_whole, share_values, corner0_values, corner1_values, corner2_values, pair00_values, pair01_values, pair02_values, pair11_values, pair12_values, pair22_values}
use Rattle.plane_clip.proofs.RoundedBounds.{NonNegative, N, P40, N-add, N-mul, N_le, same, Bound, bound-mul, bound-add, bound-twice, bound-one, bound-nought, IsPartOf, bound-part, bound-rest}
use Rattle.plane_clip.proofs.Crossings.{over-whole, crossing_down, crossing_up}

abbrev IsPart : Fraction → Fraction → Fraction → Type 0
IsPart x y t = Form.IsPart fractions x y t

-- q is at most, or at least, m in units of 2^-40
abbrev pub IsRounded : Bool → ℕ → Fraction → Type 0
IsRounded false q m = N q ≼ m ⊗ P40
IsRounded true q m = m ⊗ P40 ≼ N q

-- ---- quotients
quotient-low : (k n : ℕ) → 0 < k → quotient false k n * k ≤ n
quotient-low k n o = div-mul-le_self n k

quotient-high : (k n : ℕ) → 0 < k → n ≤ quotient true k n * k
quotient-high k n o = (div_ceil_times n k o).0

-- k times the mean is e, of which n is a bound
tip_end : (up : Bool) (k n : ℕ) (m e : Fraction) → 0 < k → m ⊗ N k ≡ e → Bound up n e → IsRounded up (quotient up k n) m
tip_end false k n m e o i b = Order.≼_cancel fractions (positive-whole k o) (order_from fractions (m ∷ N k ∷ e ∷ P40 ∷ N (quotient false k n) ∷ N (quotient false k n * k) ∷ N n ∷ [])
    ((opposite (var 3), var 0 :* var 1, var 2) ∷ (opposite unit, var 5, var 4 :* var 1) ∷ (unit, var 5, var 6) ∷ (unit, var 6, var 2 :* var 3) ∷ [])
    (equal i (equal (N-mul (quotient false k n) k) (at_most (N_le _ _ (quotient-low k n o)) (at_most b no_more)))) (var 4 :* var 1) ((var 0 :* var 3) :* var 1) refl)
tip_end true k n m e o i b = Order.≼_cancel fractions (positive-whole k o) (order_from fractions (m ∷ N k ∷ e ∷ P40 ∷ N (quotient true k n) ∷ N (quotient true k n * k) ∷ N n ∷ [])
    ((var 3, var 0 :* var 1, var 2) ∷ (unit, var 5, var 4 :* var 1) ∷ (unit, var 6, var 5) ∷ (unit, var 2 :* var 3, var 6) ∷ [])
    (equal i (equal (N-mul (quotient true k n) k) (at_most (N_le _ _ (quotient-high k n o)) (at_most b.1 no_more)))) ((var 0 :* var 3) :* var 1) (var 4 :* var 1) refl)

at_least_nought : (x : Fraction) → NonNegative x → N 0 ≼ x
at_least_nought x n = Order.≼_trans fractions (same whole-nought) (Order.nonnegative_same fractions (ring fraction_ring (x ∷ []) (var 0 :- number 0) (var 0) refl) n)

-- the complement of what a bound of the other side bounds
rest-bound : (up : Bool) (n : ℕ) (e : Fraction) → NonNegative (one ⊖ e) → Bound (not up) n e → Bound up (2 ^ 40 - n) (one ⊖ e)
rest-bound false n e p b = go (cases_lt (2 ^ 40) n)
  where
    filled : (n : ℕ) → n ≤ 2 ^ 40 → (2 ^ 40 - n) + n ≡ 2 ^ 40
    filled n h = omega (arith, h)

    empty : (n : ℕ) → 2 ^ 40 < n → 0 ≡ 2 ^ 40 - n
    empty n h = omega (arith, h)

    go : (2 ^ 40 < n) ⊎ (n ≤ 2 ^ 40) → N (2 ^ 40 - n) ≼ (one ⊖ e) ⊗ P40
    go (inr h) = order_from fractions (e ∷ P40 ∷ N (2 ^ 40 - n) ∷ N n ∷ []) ((unit, var 0 :* var 1, var 3) ∷ (opposite unit, var 1, var 2 :+ var 3) ∷ [])
        (at_most b.1 (equal (ap N (sym (filled n h)) ∙ N-add (2 ^ 40 - n) n) no_more)) (var 2) ((unit :- var 0) :* var 1) refl
    go (inl h) = subst (λ k. N k ≼ (one ⊖ e) ⊗ P40) (empty n h) (at_least_nought _ (Order.nonnegative-mul fractions p (nonnegative-whole (2 ^ 40))))
rest-bound true n e p b = (
  Order.nonnegative-mul fractions p (nonnegative-whole (2 ^ 40)),
  order_from fractions (e ∷ P40 ∷ N (2 ^ 40 - n) ∷ N n ∷ N ((2 ^ 40 - n) + n) ∷ []) ((unit, var 3, var 0 :* var 1) ∷ (unit, var 1, var 4) ∷ (unit, var 4, var 2 :+ var 3) ∷ [])
      (at_most b (at_most (N_le _ _ (most n)) (equal (N-add (2 ^ 40 - n) n) no_more))) ((unit :- var 0) :* var 1) (var 2) refl,
)
  where
    most : (n : ℕ) → 2 ^ 40 ≤ (2 ^ 40 - n) + n
    most n = omega arith

-- k times the mean is 1 - e
rest_end : (κ : Kind) (up : Bool) (k n : ℕ) (x y z e : Fraction) → 0 < k → mean_at κ x y z ⊗ N k ≡ one ⊖ e → Bound (not up) n e → IsRounded up (quotient up k (2 ^ 40 - n)) (mean_at κ x y z)
rest_end κ up k n x y z e o i b = tip_end up k (2 ^ 40 - n) (mean_at κ x y z) (one ⊖ e) o i
    (rest-bound up n e (Order.nonnegative_same fractions (sym i) (Order.nonnegative-mul fractions (kind_nonnegative κ x y z) (nonnegative-whole k))) b)

whole_end : (κ : Kind) (up : Bool) (k : ℕ) (x y z : Fraction) → 0 < k → mean_at κ x y z ⊗ N k ≡ one → IsRounded up (quotient up k (2 ^ 40 - 0)) (mean_at κ x y z)
whole_end κ up k x y z o i = rest_end κ up k 0 x y z nought o (i ∙ ring fraction_ring [] unit (unit :- number 0) refl) (bound-nought (not up))

dry_end : (up : Bool) (k : ℕ) (m : Fraction) → 0 < k → m ⊗ N k ≡ nought → IsRounded up 0 m
dry_end up k m o i = go up
  where
    is_nought : m ⊗ P40 ≡ nought
    is_nought = ap (λ x. x ⊗ P40) (Order.mul_cancel fractions (Order.not_nought fractions (positive-whole k o)) (i ∙ ring fraction_ring (N k ∷ []) (number 0) (number 0 :* var 0) refl)) ∙ ring fraction_ring (P40 ∷ []) (number 0 :* var 0) (number 0) refl

    go : (up : Bool) → IsRounded up 0 m
    go false = same (whole-nought ∙ sym is_nought)
    go true = same (is_nought ∙ sym whole-nought)

-- ---- the ten numbers of a tip
pub record TipBounds (up : Bool) (n : Shares) (t s : Fraction) : Type 0 where
  pub share : Bound up n.share ((t ⊗ s))
  pub c0 : Bound up n.c0 ((t ⊗ s) ⊗ (one ⊕ (one ⊖ t) ⊕ (one ⊖ s)))
  pub c1 : Bound up n.c1 ((t ⊗ s) ⊗ t)
  pub c2 : Bound up n.c2 ((t ⊗ s) ⊗ s)
  pub p00 : Bound up n.p00 ((t ⊗ s) ⊗ (one ⊕ (one ⊖ t) ⊕ (one ⊖ s) ⊕ (one ⊖ t) ⊗ (one ⊖ t) ⊕ (one ⊖ s) ⊗ (one ⊖ s) ⊕ (one ⊖ t) ⊗ (one ⊖ s)))
  pub p01 : Bound up n.p01 (((t ⊗ s) ⊗ t) ⊗ (one ⊕ ((one ⊖ t) ⊕ (one ⊖ t)) ⊕ (one ⊖ s)))
  pub p02 : Bound up n.p02 (((t ⊗ s) ⊗ s) ⊗ (one ⊕ (one ⊖ t) ⊕ ((one ⊖ s) ⊕ (one ⊖ s))))
  pub p11 : Bound up n.p11 (((t ⊗ s) ⊗ t) ⊗ t)
  pub p12 : Bound up n.p12 (((t ⊗ s) ⊗ t) ⊗ s)
  pub p22 : Bound up n.p22 (((t ⊗ s) ⊗ s) ⊗ s)

module _ (up : Bool) (T S U V : ℕ) (t s : Fraction) (ht : Bound up T t) (hs : Bound up S s) (hu : Bound up U (one ⊖ t)) (hv : Bound up V (one ⊖ s)) where
  abbrev u : Fraction
  u = one ⊖ t

  abbrev v : Fraction
  v = one ⊖ s

  abbrev n : Shares
  n = tip_shares up T S U V

  square : Bound up n.share (t ⊗ s)
  square = bound-mul up T S t s ht hs

  with_t : Bound up n.c1 ((t ⊗ s) ⊗ t)
  with_t = bound-mul up n.share T (t ⊗ s) t square ht

  with_s : Bound up n.c2 ((t ⊗ s) ⊗ s)
  with_s = bound-mul up n.share S (t ⊗ s) s square hs

  rests : Bound up (2 ^ 40 + U + V) (one ⊕ u ⊕ v)
  rests = bound-add up (2 ^ 40 + U) V (one ⊕ u) v (bound-add up (2 ^ 40) U one u (bound-one up) hu) hv

  squares : Bound up (2 ^ 40 + U + V + scale up U U + scale up V V + scale up U V) (one ⊕ u ⊕ v ⊕ u ⊗ u ⊕ v ⊗ v ⊕ u ⊗ v)
  squares = bound-add up (2 ^ 40 + U + V + scale up U U + scale up V V) (scale up U V) (one ⊕ u ⊕ v ⊕ u ⊗ u ⊕ v ⊗ v) (u ⊗ v) (bound-add up (2 ^ 40 + U + V + scale up U U) (scale up V V) (one ⊕ u ⊕ v ⊕ u ⊗ u) (v ⊗ v) (bound-add up (2 ^ 40 + U + V) (scale up U U) (one ⊕ u ⊕ v) (u ⊗ u) rests (bound-mul up U U u u hu hu)) (bound-mul up V V v v hv hv)) (bound-mul up U V u v hu hv)

  pub tip_bounds : TipBounds up n t s
  tip_bounds = record {
    share = square;
    c0 = bound-mul up n.share (2 ^ 40 + U + V) (t ⊗ s) (one ⊕ u ⊕ v) square rests;
    c1 = with_t;
    c2 = with_s;
    p00 = bound-mul up n.share (2 ^ 40 + U + V + scale up U U + scale up V V + scale up U V) (t ⊗ s) (one ⊕ u ⊕ v ⊕ u ⊗ u ⊕ v ⊗ v ⊕ u ⊗ v) square squares;
    p01 = bound-mul up n.c1 (2 ^ 40 + 2 * U + V) ((t ⊗ s) ⊗ t) (one ⊕ (u ⊕ u) ⊕ v) with_t (bound-add up (2 ^ 40 + 2 * U) V (one ⊕ (u ⊕ u)) v (bound-add up (2 ^ 40) (2 * U) one (u ⊕ u) (bound-one up) (bound-twice up U u hu)) hv);
    p02 = bound-mul up n.c2 (2 ^ 40 + U + 2 * V) ((t ⊗ s) ⊗ s) (one ⊕ u ⊕ (v ⊕ v)) with_s (bound-add up (2 ^ 40 + U) (2 * V) (one ⊕ u) (v ⊕ v) (bound-add up (2 ^ 40) U one u (bound-one up) hu) (bound-twice up V v hv));
    p11 = bound-mul up n.c1 T ((t ⊗ s) ⊗ t) t with_t ht;
    p12 = bound-mul up n.c1 S ((t ⊗ s) ⊗ t) s with_t hs;
    p22 = bound-mul up n.c2 S ((t ⊗ s) ⊗ s) s with_s hs;
  }

tip_bounds_at : (up : Bool) (a b c : ℕ) (t s : Fraction) → 0 < a + b → 0 < a + c → IsPartOf a b t → IsPartOf a c s → TipBounds up (tip_at up (part a b) (part a c)) t s
tip_bounds_at up a b c t s ab ac i j = tip_bounds up (bound up (part a b)) (bound up (part a c)) (rest up (part a b)) (rest up (part a c)) t s (bound-part a b t ab i up) (bound-part a c s ac j up) (bound-rest a b t ab i up) (bound-rest a c s ac j up)

-- ---- the means at three depths
pub record AreRoundedShares (up : Bool) (n : Shares) (x y z : Fraction) : Type 0 where
  pub share : IsRounded up n.share (mean_at share_kind x y z)
  pub c0 : IsRounded up n.c0 (mean_at (corner_kind 0) x y z)
  pub c1 : IsRounded up n.c1 (mean_at (corner_kind 1) x y z)
  pub c2 : IsRounded up n.c2 (mean_at (corner_kind 2) x y z)
  pub p00 : IsRounded up n.p00 (mean_at (pair_kind 0 0) x y z)
  pub p01 : IsRounded up n.p01 (mean_at (pair_kind 0 1) x y z)
  pub p02 : IsRounded up n.p02 (mean_at (pair_kind 0 2) x y z)
  pub p11 : IsRounded up n.p11 (mean_at (pair_kind 1 1) x y z)
  pub p12 : IsRounded up n.p12 (mean_at (pair_kind 1 2) x y z)
  pub p22 : IsRounded up n.p22 (mean_at (pair_kind 2 2) x y z)

module _ (up : Bool) (X Y Z p : Fraction) (x y z : ℤ) (positive : sign p ≡ above) (at_x : X ⊗ p ≡ whole x) (at_y : Y ⊗ p ≡ whole y) (at_z : Z ⊗ p ≡ whole z) where
  abbrev a : ℕ
  a = unsigned_abs x

  abbrev b : ℕ
  b = unsigned_abs y

  abbrev c : ℕ
  c = unsigned_abs z

  dry_shares : is_over x ≡ false → is_over y ≡ false → is_over z ≡ false → AreRoundedShares up nothing X Y Z
  dry_shares e f g = record {
    share = dry_end up 1 (mean_at share_kind X Y Z) (omega arith) (dry_value share_kind 1 X Y Z one (share_whole X Y Z) (over-whole X p x positive at_x ∙ e) (over-whole Y p y positive at_y ∙ f) (over-whole Z p z positive at_z ∙ g));
    c0 = dry_end up 3 (mean_at (corner_kind 0) X Y Z) (omega arith) (dry_value (corner_kind 0) 3 X Y Z one (corner0_whole X Y Z) (over-whole X p x positive at_x ∙ e) (over-whole Y p y positive at_y ∙ f) (over-whole Z p z positive at_z ∙ g));
    c1 = dry_end up 3 (mean_at (corner_kind 1) X Y Z) (omega arith) (dry_value (corner_kind 1) 3 X Y Z one (corner1_whole X Y Z) (over-whole X p x positive at_x ∙ e) (over-whole Y p y positive at_y ∙ f) (over-whole Z p z positive at_z ∙ g));
    c2 = dry_end up 3 (mean_at (corner_kind 2) X Y Z) (omega arith) (dry_value (corner_kind 2) 3 X Y Z one (corner2_whole X Y Z) (over-whole X p x positive at_x ∙ e) (over-whole Y p y positive at_y ∙ f) (over-whole Z p z positive at_z ∙ g));
    p00 = dry_end up 6 (mean_at (pair_kind 0 0) X Y Z) (omega arith) (dry_value (pair_kind 0 0) 6 X Y Z one (pair00_whole X Y Z) (over-whole X p x positive at_x ∙ e) (over-whole Y p y positive at_y ∙ f) (over-whole Z p z positive at_z ∙ g));
    p01 = dry_end up 12 (mean_at (pair_kind 0 1) X Y Z) (omega arith) (dry_value (pair_kind 0 1) 12 X Y Z one (pair01_whole X Y Z) (over-whole X p x positive at_x ∙ e) (over-whole Y p y positive at_y ∙ f) (over-whole Z p z positive at_z ∙ g));
    p02 = dry_end up 12 (mean_at (pair_kind 0 2) X Y Z) (omega arith) (dry_value (pair_kind 0 2) 12 X Y Z one (pair02_whole X Y Z) (over-whole X p x positive at_x ∙ e) (over-whole Y p y positive at_y ∙ f) (over-whole Z p z positive at_z ∙ g));
    p11 = dry_end up 6 (mean_at (pair_kind 1 1) X Y Z) (omega arith) (dry_value (pair_kind 1 1) 6 X Y Z one (pair11_whole X Y Z) (over-whole X p x positive at_x ∙ e) (over-whole Y p y positive at_y ∙ f) (over-whole Z p z positive at_z ∙ g));
    p12 = dry_end up 12 (mean_at (pair_kind 1 2) X Y Z) (omega arith) (dry_value (pair_kind 1 2) 12 X Y Z one (pair12_whole X Y Z) (over-whole X p x positive at_x ∙ e) (over-whole Y p y positive at_y ∙ f) (over-whole Z p z positive at_z ∙ g));
    p22 = dry_end up 6 (mean_at (pair_kind 2 2) X Y Z) (omega arith) (dry_value (pair_kind 2 2) 6 X Y Z one (pair22_whole X Y Z) (over-whole X p x positive at_x ∙ e) (over-whole Y p y positive at_y ∙ f) (over-whole Z p z positive at_z ∙ g));
  }

  wet_shares : is_over x ≡ true → is_over y ≡ true → is_over z ≡ true → AreRoundedShares up (rest_ends up nothing) X Y Z
  wet_shares e f g = record {
    share = whole_end share_kind up 1 X Y Z (omega arith) (wet_value share_kind 1 X Y Z one (share_whole X Y Z) (over-whole X p x positive at_x ∙ e) (over-whole Y p y positive at_y ∙ f) (over-whole Z p z positive at_z ∙ g));
    c0 = whole_end (corner_kind 0) up 3 X Y Z (omega arith) (wet_value (corner_kind 0) 3 X Y Z one (corner0_whole X Y Z) (over-whole X p x positive at_x ∙ e) (over-whole Y p y positive at_y ∙ f) (over-whole Z p z positive at_z ∙ g));
    c1 = whole_end (corner_kind 1) up 3 X Y Z (omega arith) (wet_value (corner_kind 1) 3 X Y Z one (corner1_whole X Y Z) (over-whole X p x positive at_x ∙ e) (over-whole Y p y positive at_y ∙ f) (over-whole Z p z positive at_z ∙ g));
    c2 = whole_end (corner_kind 2) up 3 X Y Z (omega arith) (wet_value (corner_kind 2) 3 X Y Z one (corner2_whole X Y Z) (over-whole X p x positive at_x ∙ e) (over-whole Y p y positive at_y ∙ f) (over-whole Z p z positive at_z ∙ g));
    p00 = whole_end (pair_kind 0 0) up 6 X Y Z (omega arith) (wet_value (pair_kind 0 0) 6 X Y Z one (pair00_whole X Y Z) (over-whole X p x positive at_x ∙ e) (over-whole Y p y positive at_y ∙ f) (over-whole Z p z positive at_z ∙ g));
    p01 = whole_end (pair_kind 0 1) up 12 X Y Z (omega arith) (wet_value (pair_kind 0 1) 12 X Y Z one (pair01_whole X Y Z) (over-whole X p x positive at_x ∙ e) (over-whole Y p y positive at_y ∙ f) (over-whole Z p z positive at_z ∙ g));
    p02 = whole_end (pair_kind 0 2) up 12 X Y Z (omega arith) (wet_value (pair_kind 0 2) 12 X Y Z one (pair02_whole X Y Z) (over-whole X p x positive at_x ∙ e) (over-whole Y p y positive at_y ∙ f) (over-whole Z p z positive at_z ∙ g));
    p11 = whole_end (pair_kind 1 1) up 6 X Y Z (omega arith) (wet_value (pair_kind 1 1) 6 X Y Z one (pair11_whole X Y Z) (over-whole X p x positive at_x ∙ e) (over-whole Y p y positive at_y ∙ f) (over-whole Z p z positive at_z ∙ g));
    p12 = whole_end (pair_kind 1 2) up 12 X Y Z (omega arith) (wet_value (pair_kind 1 2) 12 X Y Z one (pair12_whole X Y Z) (over-whole X p x positive at_x ∙ e) (over-whole Y p y positive at_y ∙ f) (over-whole Z p z positive at_z ∙ g));
    p22 = whole_end (pair_kind 2 2) up 6 X Y Z (omega arith) (wet_value (pair_kind 2 2) 6 X Y Z one (pair22_whole X Y Z) (over-whole X p x positive at_x ∙ e) (over-whole Y p y positive at_y ∙ f) (over-whole Z p z positive at_z ∙ g));
  }

  one_shares_by : (n : Shares) (t s : Fraction) → is_over x ≡ true → is_over y ≡ false → is_over z ≡ false → IsPart X Y t → IsPart X Z s → TipBounds up n t s → AreRoundedShares up (tip_ends up n) X Y Z
  one_shares_by n t s e f g i j bounds = record {
    share = tip_end up 1 n.share (mean_at share_kind X Y Z) ((t ⊗ s)) (omega arith) (when_one share_kind 1 X Y Z t s one ((t ⊗ s)) (share_values X Y Z t s) (over-whole X p x positive at_x ∙ e) (over-whole Y p y positive at_y ∙ f) (over-whole Z p z positive at_z ∙ g) i j) bounds.share;
    c0 = tip_end up 3 n.c0 (mean_at (corner_kind 0) X Y Z) ((t ⊗ s) ⊗ (one ⊕ (one ⊖ t) ⊕ (one ⊖ s))) (omega arith) (when_one (corner_kind 0) 3 X Y Z t s one ((t ⊗ s) ⊗ (one ⊕ (one ⊖ t) ⊕ (one ⊖ s))) (corner0_values X Y Z t s) (over-whole X p x positive at_x ∙ e) (over-whole Y p y positive at_y ∙ f) (over-whole Z p z positive at_z ∙ g) i j) bounds.c0;
    c1 = tip_end up 3 n.c1 (mean_at (corner_kind 1) X Y Z) ((t ⊗ s) ⊗ t) (omega arith) (when_one (corner_kind 1) 3 X Y Z t s one ((t ⊗ s) ⊗ t) (corner1_values X Y Z t s) (over-whole X p x positive at_x ∙ e) (over-whole Y p y positive at_y ∙ f) (over-whole Z p z positive at_z ∙ g) i j) bounds.c1;
    c2 = tip_end up 3 n.c2 (mean_at (corner_kind 2) X Y Z) ((t ⊗ s) ⊗ s) (omega arith) (when_one (corner_kind 2) 3 X Y Z t s one ((t ⊗ s) ⊗ s) (corner2_values X Y Z t s) (over-whole X p x positive at_x ∙ e) (over-whole Y p y positive at_y ∙ f) (over-whole Z p z positive at_z ∙ g) i j) bounds.c2;
    p00 = tip_end up 6 n.p00 (mean_at (pair_kind 0 0) X Y Z) ((t ⊗ s) ⊗ (one ⊕ (one ⊖ t) ⊕ (one ⊖ s) ⊕ (one ⊖ t) ⊗ (one ⊖ t) ⊕ (one ⊖ s) ⊗ (one ⊖ s) ⊕ (one ⊖ t) ⊗ (one ⊖ s))) (omega arith) (when_one (pair_kind 0 0) 6 X Y Z t s one ((t ⊗ s) ⊗ (one ⊕ (one ⊖ t) ⊕ (one ⊖ s) ⊕ (one ⊖ t) ⊗ (one ⊖ t) ⊕ (one ⊖ s) ⊗ (one ⊖ s) ⊕ (one ⊖ t) ⊗ (one ⊖ s))) (pair00_values X Y Z t s) (over-whole X p x positive at_x ∙ e) (over-whole Y p y positive at_y ∙ f) (over-whole Z p z positive at_z ∙ g) i j) bounds.p00;
    p01 = tip_end up 12 n.p01 (mean_at (pair_kind 0 1) X Y Z) (((t ⊗ s) ⊗ t) ⊗ (one ⊕ ((one ⊖ t) ⊕ (one ⊖ t)) ⊕ (one ⊖ s))) (omega arith) (when_one (pair_kind 0 1) 12 X Y Z t s one (((t ⊗ s) ⊗ t) ⊗ (one ⊕ ((one ⊖ t) ⊕ (one ⊖ t)) ⊕ (one ⊖ s))) (pair01_values X Y Z t s) (over-whole X p x positive at_x ∙ e) (over-whole Y p y positive at_y ∙ f) (over-whole Z p z positive at_z ∙ g) i j) bounds.p01;
    p02 = tip_end up 12 n.p02 (mean_at (pair_kind 0 2) X Y Z) (((t ⊗ s) ⊗ s) ⊗ (one ⊕ (one ⊖ t) ⊕ ((one ⊖ s) ⊕ (one ⊖ s)))) (omega arith) (when_one (pair_kind 0 2) 12 X Y Z t s one (((t ⊗ s) ⊗ s) ⊗ (one ⊕ (one ⊖ t) ⊕ ((one ⊖ s) ⊕ (one ⊖ s)))) (pair02_values X Y Z t s) (over-whole X p x positive at_x ∙ e) (over-whole Y p y positive at_y ∙ f) (over-whole Z p z positive at_z ∙ g) i j) bounds.p02;
    p11 = tip_end up 6 n.p11 (mean_at (pair_kind 1 1) X Y Z) (((t ⊗ s) ⊗ t) ⊗ t) (omega arith) (when_one (pair_kind 1 1) 6 X Y Z t s one (((t ⊗ s) ⊗ t) ⊗ t) (pair11_values X Y Z t s) (over-whole X p x positive at_x ∙ e) (over-whole Y p y positive at_y ∙ f) (over-whole Z p z positive at_z ∙ g) i j) bounds.p11;
    p12 = tip_end up 12 n.p12 (mean_at (pair_kind 1 2) X Y Z) (((t ⊗ s) ⊗ t) ⊗ s) (omega arith) (when_one (pair_kind 1 2) 12 X Y Z t s one (((t ⊗ s) ⊗ t) ⊗ s) (pair12_values X Y Z t s) (over-whole X p x positive at_x ∙ e) (over-whole Y p y positive at_y ∙ f) (over-whole Z p z positive at_z ∙ g) i j) bounds.p12;
    p22 = tip_end up 6 n.p22 (mean_at (pair_kind 2 2) X Y Z) (((t ⊗ s) ⊗ s) ⊗ s) (omega arith) (when_one (pair_kind 2 2) 6 X Y Z t s one (((t ⊗ s) ⊗ s) ⊗ s) (pair22_values X Y Z t s) (over-whole X p x positive at_x ∙ e) (over-whole Y p y positive at_y ∙ f) (over-whole Z p z positive at_z ∙ g) i j) bounds.p22;
  }

  one_shares : is_over x ≡ true → is_over y ≡ false → is_over z ≡ false → AreRoundedShares up (tip_ends up (tip_at up (part a b) (part a c))) X Y Z
  one_shares e f g =
      let first = crossing_down X Y p x y positive at_x at_y e f in
      let second = crossing_down X Z p x z positive at_x at_z e g in
      one_shares_by (tip_at up (part a b) (part a c)) first.t second.t e f g first.is_part second.is_part (tip_bounds_at up a b c first.t second.t first.some second.some first.part_of second.part_of)

  two_shares_by : (n : Shares) (t s : Fraction) → is_over x ≡ false → is_over y ≡ true → is_over z ≡ true → IsPart X Y t → IsPart X Z s → TipBounds (not up) n t s → AreRoundedShares up (rest_ends up n) X Y Z
  two_shares_by n t s e f g i j bounds = record {
    share = rest_end share_kind up 1 n.share X Y Z ((t ⊗ s)) (omega arith) (when_two share_kind 1 X Y Z t s one ((t ⊗ s)) (share_values X Y Z t s) (over-whole X p x positive at_x ∙ e) (over-whole Y p y positive at_y ∙ f) (over-whole Z p z positive at_z ∙ g) i j) bounds.share;
    c0 = rest_end (corner_kind 0) up 3 n.c0 X Y Z ((t ⊗ s) ⊗ (one ⊕ (one ⊖ t) ⊕ (one ⊖ s))) (omega arith) (when_two (corner_kind 0) 3 X Y Z t s one ((t ⊗ s) ⊗ (one ⊕ (one ⊖ t) ⊕ (one ⊖ s))) (corner0_values X Y Z t s) (over-whole X p x positive at_x ∙ e) (over-whole Y p y positive at_y ∙ f) (over-whole Z p z positive at_z ∙ g) i j) bounds.c0;
    c1 = rest_end (corner_kind 1) up 3 n.c1 X Y Z ((t ⊗ s) ⊗ t) (omega arith) (when_two (corner_kind 1) 3 X Y Z t s one ((t ⊗ s) ⊗ t) (corner1_values X Y Z t s) (over-whole X p x positive at_x ∙ e) (over-whole Y p y positive at_y ∙ f) (over-whole Z p z positive at_z ∙ g) i j) bounds.c1;
    c2 = rest_end (corner_kind 2) up 3 n.c2 X Y Z ((t ⊗ s) ⊗ s) (omega arith) (when_two (corner_kind 2) 3 X Y Z t s one ((t ⊗ s) ⊗ s) (corner2_values X Y Z t s) (over-whole X p x positive at_x ∙ e) (over-whole Y p y positive at_y ∙ f) (over-whole Z p z positive at_z ∙ g) i j) bounds.c2;
    p00 = rest_end (pair_kind 0 0) up 6 n.p00 X Y Z ((t ⊗ s) ⊗ (one ⊕ (one ⊖ t) ⊕ (one ⊖ s) ⊕ (one ⊖ t) ⊗ (one ⊖ t) ⊕ (one ⊖ s) ⊗ (one ⊖ s) ⊕ (one ⊖ t) ⊗ (one ⊖ s))) (omega arith) (when_two (pair_kind 0 0) 6 X Y Z t s one ((t ⊗ s) ⊗ (one ⊕ (one ⊖ t) ⊕ (one ⊖ s) ⊕ (one ⊖ t) ⊗ (one ⊖ t) ⊕ (one ⊖ s) ⊗ (one ⊖ s) ⊕ (one ⊖ t) ⊗ (one ⊖ s))) (pair00_values X Y Z t s) (over-whole X p x positive at_x ∙ e) (over-whole Y p y positive at_y ∙ f) (over-whole Z p z positive at_z ∙ g) i j) bounds.p00;
    p01 = rest_end (pair_kind 0 1) up 12 n.p01 X Y Z (((t ⊗ s) ⊗ t) ⊗ (one ⊕ ((one ⊖ t) ⊕ (one ⊖ t)) ⊕ (one ⊖ s))) (omega arith) (when_two (pair_kind 0 1) 12 X Y Z t s one (((t ⊗ s) ⊗ t) ⊗ (one ⊕ ((one ⊖ t) ⊕ (one ⊖ t)) ⊕ (one ⊖ s))) (pair01_values X Y Z t s) (over-whole X p x positive at_x ∙ e) (over-whole Y p y positive at_y ∙ f) (over-whole Z p z positive at_z ∙ g) i j) bounds.p01;
    p02 = rest_end (pair_kind 0 2) up 12 n.p02 X Y Z (((t ⊗ s) ⊗ s) ⊗ (one ⊕ (one ⊖ t) ⊕ ((one ⊖ s) ⊕ (one ⊖ s)))) (omega arith) (when_two (pair_kind 0 2) 12 X Y Z t s one (((t ⊗ s) ⊗ s) ⊗ (one ⊕ (one ⊖ t) ⊕ ((one ⊖ s) ⊕ (one ⊖ s)))) (pair02_values X Y Z t s) (over-whole X p x positive at_x ∙ e) (over-whole Y p y positive at_y ∙ f) (over-whole Z p z positive at_z ∙ g) i j) bounds.p02;
    p11 = rest_end (pair_kind 1 1) up 6 n.p11 X Y Z (((t ⊗ s) ⊗ t) ⊗ t) (omega arith) (when_two (pair_kind 1 1) 6 X Y Z t s one (((t ⊗ s) ⊗ t) ⊗ t) (pair11_values X Y Z t s) (over-whole X p x positive at_x ∙ e) (over-whole Y p y positive at_y ∙ f) (over-whole Z p z positive at_z ∙ g) i j) bounds.p11;
    p12 = rest_end (pair_kind 1 2) up 12 n.p12 X Y Z (((t ⊗ s) ⊗ t) ⊗ s) (omega arith) (when_two (pair_kind 1 2) 12 X Y Z t s one (((t ⊗ s) ⊗ t) ⊗ s) (pair12_values X Y Z t s) (over-whole X p x positive at_x ∙ e) (over-whole Y p y positive at_y ∙ f) (over-whole Z p z positive at_z ∙ g) i j) bounds.p12;
    p22 = rest_end (pair_kind 2 2) up 6 n.p22 X Y Z (((t ⊗ s) ⊗ s) ⊗ s) (omega arith) (when_two (pair_kind 2 2) 6 X Y Z t s one (((t ⊗ s) ⊗ s) ⊗ s) (pair22_values X Y Z t s) (over-whole X p x positive at_x ∙ e) (over-whole Y p y positive at_y ∙ f) (over-whole Z p z positive at_z ∙ g) i j) bounds.p22;
  }

  two_shares : is_over x ≡ false → is_over y ≡ true → is_over z ≡ true → AreRoundedShares up (rest_ends up (tip_at (not up) (part a b) (part a c))) X Y Z
  two_shares e f g =
      let first = crossing_up X Y p x y positive at_x at_y e f in
      let second = crossing_up X Z p x z positive at_x at_z e g in
      two_shares_by (tip_at (not up) (part a b) (part a c)) first.t second.t e f g first.is_part second.is_part (tip_bounds_at (not up) a b c first.t second.t first.some second.some first.part_of second.part_of)

  by_sides : (u v : Bool) → is_over x ≡ u → is_over y ≡ v → is_over z ≡ v → AreRoundedShares up (shares_by up u v (part_by u v a b) (part_by u v a c)) X Y Z
  by_sides false false e f g = dry_shares e f g
  by_sides true true e f g = wet_shares e f g
  by_sides true false e f g = one_shares e f g
  by_sides false true e f g = two_shares e f g

  -- where the second and the third corner lie on one side
  pub first_rounded_shares : (v : Bool) → is_over y ≡ v → is_over z ≡ v → AreRoundedShares up (first_shares up x y z) X Y Z
  first_rounded_shares v f g = subst (λ w. AreRoundedShares up (shares_by up (is_over x) (is_over y) (part_by (is_over x) (is_over y) a b) (part_by (is_over x) w a c)) X Y Z) (f ∙ sym g)
      (by_sides (is_over x) (is_over y) refl refl (g ∙ sym f))

-- ---- the corners in turn
rounded-same : (up : Bool) (n : ℕ) (m l : Fraction) → m ≡ l → IsRounded up n l → IsRounded up n m
rounded-same up n m l e r = subst (λ x. IsRounded up n x) (sym e) r

pub turned_shares : (up : Bool) (n : Shares) (x y z : Fraction) → AreRoundedShares up n y z x → AreRoundedShares up (second_shares n) x y z
turned_shares up n x y z r = record {
  share = rounded-same up n.share (mean_at share_kind x y z) _ (kind_turn share_kind share_kind share_turn x y z) r.share;
  c0 = rounded-same up n.c2 (mean_at (corner_kind 0) x y z) _ (kind_turn (corner_kind 0) (corner_kind 2) corner_turn0 x y z) r.c2;
  c1 = rounded-same up n.c0 (mean_at (corner_kind 1) x y z) _ (kind_turn (corner_kind 1) (corner_kind 0) corner_turn1 x y z) r.c0;
  c2 = rounded-same up n.c1 (mean_at (corner_kind 2) x y z) _ (kind_turn (corner_kind 2) (corner_kind 1) corner_turn2 x y z) r.c1;
  p00 = rounded-same up n.p22 (mean_at (pair_kind 0 0) x y z) _ (kind_turn (pair_kind 0 0) (pair_kind 2 2) pair_turn00 x y z) r.p22;
  p01 = rounded-same up n.p02 (mean_at (pair_kind 0 1) x y z) _ (kind_turn (pair_kind 0 1) (pair_kind 2 0) pair_turn01 x y z ∙ pair_swap 2 0 y z x) r.p02;
  p02 = rounded-same up n.p12 (mean_at (pair_kind 0 2) x y z) _ (kind_turn (pair_kind 0 2) (pair_kind 2 1) pair_turn02 x y z ∙ pair_swap 2 1 y z x) r.p12;
  p11 = rounded-same up n.p00 (mean_at (pair_kind 1 1) x y z) _ (kind_turn (pair_kind 1 1) (pair_kind 0 0) pair_turn11 x y z) r.p00;
  p12 = rounded-same up n.p01 (mean_at (pair_kind 1 2) x y z) _ (kind_turn (pair_kind 1 2) (pair_kind 0 1) pair_turn12 x y z) r.p01;
  p22 = rounded-same up n.p11 (mean_at (pair_kind 2 2) x y z) _ (kind_turn (pair_kind 2 2) (pair_kind 1 1) pair_turn22 x y z) r.p11;
}

pub rounded_shares : (up : Bool) (X Y Z p : Fraction) (x y z : ℤ) → sign p ≡ above → X ⊗ p ≡ whole x → Y ⊗ p ≡ whole y → Z ⊗ p ≡ whole z → AreRoundedShares up (share_ends up x y z) X Y Z
rounded_shares up X Y Z p x y z h i j k = go (is_over x) (is_over y) (is_over z) refl refl refl
  where
    first : (v : Bool) → is_over y ≡ v → is_over z ≡ v → AreRoundedShares up (first_shares up x y z) X Y Z
    first v f g = first_rounded_shares up X Y Z p x y z h i j k v f g

    second : (v : Bool) → is_over z ≡ v → is_over x ≡ v → AreRoundedShares up (second_shares (first_shares up y z x)) X Y Z
    second v f g = turned_shares up (first_shares up y z x) X Y Z (first_rounded_shares up Y Z X p y z x h j k i v f g)

    third : (v : Bool) → is_over x ≡ v → is_over y ≡ v → AreRoundedShares up (third_shares (first_shares up z x y)) X Y Z
    third v f g = turned_shares up (second_shares (first_shares up z x y)) X Y Z (turned_shares up (first_shares up z x y) Y Z X (first_rounded_shares up Z X Y p z x y h k i j v f g))

    go : (u v w : Bool) → is_over x ≡ u → is_over y ≡ v → is_over z ≡ w → AreRoundedShares up (shares_in_turn up u v w x y z) X Y Z
    go false false false e f g = first false f g
    go true true true e f g = first true f g
    go true false false e f g = first false f g
    go false true true e f g = first true f g
    go false true false e f g = second false g e
    go true false true e f g = second true g e
    go false false true e f g = third false e f
    go true true false e f g = third true e f
