-- What a span contains, over fractions: the same as by cross products, for a fraction given by numerator and denominator.
-- The least span of a fraction, and sums, products and quotients rounded outwards.
use Prim.Native.Nat.{ℕ, ◌*◌, ◌<◌, ◌^◌}
use native.Mathlib.Omega.{arith}
use native.Mathlib.Nat.{mul-pos}
use mathlib.Core.Path.{◌≡◌, refl, sym, subst}
use mathlib.Core.List.{[], ◌∷◌}
use lib.IntN.{ℤ, pos, ◌+ℤ◌, ◌-ℤ◌, ◌*ℤ◌, neg_ℤ}
use lib.Signed.{◌≤ℤ◌, ◌<ℤ◌, ≤ℤ_refl}
use borrow.Author.Differences.{ints}
use Rattle.std.proofs.lemmas.Nat.{pow_pos}
use Rattle.exact_algebra.specs.Expression.{var, unit, ◌:+◌, ◌:*◌, opposite}
use Rattle.exact_algebra.specs.OrderedField.{above}
use Rattle.exact_algebra.specs.Span.{ContainsRatio, IsFloor, IsCeiling, IsLeastSpan, IsBelowProducts, IsAboveProducts, LeastSpanExists, LeastSpanIsLeast, LeastSpanIsUnique, SameRatioHasSameSpans, SumLiesInSum, ProductLiesInProducts}
use Rattle.exact_algebra.proofs.Ring.{ring_from, none, given}
use Rattle.exact_algebra.proofs.Fraction.{Fraction, ◌⊕◌, ◌⊗◌, negative, inverse, sign, over, fractions, fraction_ring, ◌≼◌, ◌≺◌}
use Rattle.exact_algebra.proofs.Whole.{whole, whole-add, whole-negative, whole-mul, whole-≼, whole-≺_out, positive-whole, positive-whole_above, ≼_scaled, ≺_scaled, ≼_scaled_out, ≺_scaled_out, over-den, over-add, over-mul, over_same}
use Rattle.exact_algebra.proofs.Division.{floor_of-floor, ceiling_of-ceiling}
use Rattle.exact_algebra.proofs.Order as Order
use Rattle.exact_algebra.proofs.Order.{order_from, no_more, at_most, scaled, equal}
use Rattle.exact_algebra.proofs.Bounds as Bounds

-- x in units of 2^-F
abbrev pub in_units : ℕ → Fraction → Fraction
in_units F x = x ⊗ whole (pos (2 ^ F))

-- the span from lo to hi in units of 2^-F contains x
pub record ContainsFraction (F : ℕ) (lo hi : ℤ) (x : Fraction) : Type 0 where
  pub from : whole lo ≼ in_units F x
  pub to : in_units F x ≼ whole hi

-- z is the greatest whole number at most x in units of 2^-F
pub record IsFloorOf (F : ℕ) (x : Fraction) (z : ℤ) : Type 0 where
  pub below : whole z ≼ in_units F x
  pub next : in_units F x ≺ whole (z +ℤ pos 1)

-- z is the least whole number at least x in units of 2^-F
pub record IsCeilingOf (F : ℕ) (x : Fraction) (z : ℤ) : Type 0 where
  pub above : in_units F x ≼ whole z
  pub before : whole (z -ℤ pos 1) ≺ in_units F x

-- lo and hi are the ends of the least span of scale F that contains x
pub record IsLeastSpanOf (F : ℕ) (lo hi : ℤ) (x : Fraction) : Type 0 where
  pub low : IsFloorOf F x lo
  pub high : IsCeilingOf F x hi

pub positive-unit : (F : ℕ) → sign (whole (pos (2 ^ F))) ≡ above
positive-unit F = positive-whole (2 ^ F) (pow_pos F)

-- ---- the same by cross products
numerator : (F : ℕ) (n : ℤ) (d : ℕ) (h : 0 < d) → in_units F (over n d h) ⊗ whole (pos d) ≡ whole (n *ℤ pos (2 ^ F))
numerator F n d h = ring_from fraction_ring (over n d h ∷ whole (pos (2 ^ F)) ∷ whole (pos d) ∷ whole n ∷ whole (n *ℤ pos (2 ^ F)) ∷ []) ((var 1, var 0 :* var 2, var 3) ∷ (opposite unit, var 4, var 3 :* var 1) ∷ [])
    (given (over-den n d h) (given (whole-mul n (pos (2 ^ F))) none)) ((var 0 :* var 1) :* var 2) (var 4) refl

whole_scaled : (z : ℤ) (d : ℕ) → whole z ⊗ whole (pos d) ≡ whole (z *ℤ pos d)
whole_scaled z d = sym (whole-mul z (pos d))

pub contains_over : {F : ℕ} {lo hi : ℤ} (n : ℤ) (d : ℕ) (h : 0 < d) → ContainsRatio F lo hi n d → ContainsFraction F lo hi (over n d h)
contains_over {F} {lo} {hi} n d h c = record {
  from = ≼_scaled _ _ _ (lo *ℤ pos d) (n *ℤ pos (2 ^ F)) (positive-whole d h) (whole_scaled lo d) (numerator F n d h) c.from;
  to = ≼_scaled _ _ _ (n *ℤ pos (2 ^ F)) (hi *ℤ pos d) (positive-whole d h) (numerator F n d h) (whole_scaled hi d) c.to;
}

pub contains_over_out : {F : ℕ} {lo hi : ℤ} (n : ℤ) (d : ℕ) (h : 0 < d) → ContainsFraction F lo hi (over n d h) → ContainsRatio F lo hi n d
contains_over_out {F} {lo} {hi} n d h c = record {
  from = ≼_scaled_out _ _ _ (lo *ℤ pos d) (n *ℤ pos (2 ^ F)) (positive-whole d h) (whole_scaled lo d) (numerator F n d h) c.from;
  to = ≼_scaled_out _ _ _ (n *ℤ pos (2 ^ F)) (hi *ℤ pos d) (positive-whole d h) (numerator F n d h) (whole_scaled hi d) c.to;
}

pub floor_over : {F : ℕ} {z : ℤ} (n : ℤ) (d : ℕ) (h : 0 < d) → IsFloor (n *ℤ pos (2 ^ F)) d z → IsFloorOf F (over n d h) z
floor_over {F} {z} n d h f = record {
  below = ≼_scaled _ _ _ (z *ℤ pos d) (n *ℤ pos (2 ^ F)) (positive-whole d h) (whole_scaled z d) (numerator F n d h) f.below;
  next = ≺_scaled _ _ _ (n *ℤ pos (2 ^ F)) ((z +ℤ pos 1) *ℤ pos d) (positive-whole d h) (numerator F n d h) (whole_scaled (z +ℤ pos 1) d) f.next;
}

pub floor_over_out : {F : ℕ} {z : ℤ} (n : ℤ) (d : ℕ) (h : 0 < d) → IsFloorOf F (over n d h) z → IsFloor (n *ℤ pos (2 ^ F)) d z
floor_over_out {F} {z} n d h f = record {
  below = ≼_scaled_out _ _ _ (z *ℤ pos d) (n *ℤ pos (2 ^ F)) (positive-whole d h) (whole_scaled z d) (numerator F n d h) f.below;
  next = ≺_scaled_out _ _ _ (n *ℤ pos (2 ^ F)) ((z +ℤ pos 1) *ℤ pos d) (positive-whole d h) (numerator F n d h) (whole_scaled (z +ℤ pos 1) d) f.next;
}

pub ceiling_over : {F : ℕ} {z : ℤ} (n : ℤ) (d : ℕ) (h : 0 < d) → IsCeiling (n *ℤ pos (2 ^ F)) d z → IsCeilingOf F (over n d h) z
ceiling_over {F} {z} n d h c = record {
  above = ≼_scaled _ _ _ (n *ℤ pos (2 ^ F)) (z *ℤ pos d) (positive-whole d h) (numerator F n d h) (whole_scaled z d) c.above;
  before = ≺_scaled _ _ _ ((z -ℤ pos 1) *ℤ pos d) (n *ℤ pos (2 ^ F)) (positive-whole d h) (whole_scaled (z -ℤ pos 1) d) (numerator F n d h) c.before;
}

pub ceiling_over_out : {F : ℕ} {z : ℤ} (n : ℤ) (d : ℕ) (h : 0 < d) → IsCeilingOf F (over n d h) z → IsCeiling (n *ℤ pos (2 ^ F)) d z
ceiling_over_out {F} {z} n d h c = record {
  above = ≼_scaled_out _ _ _ (n *ℤ pos (2 ^ F)) (z *ℤ pos d) (positive-whole d h) (numerator F n d h) (whole_scaled z d) c.above;
  before = ≺_scaled_out _ _ _ ((z -ℤ pos 1) *ℤ pos d) (n *ℤ pos (2 ^ F)) (positive-whole d h) (whole_scaled (z -ℤ pos 1) d) (numerator F n d h) c.before;
}

pub least_span_over : {F : ℕ} {lo hi : ℤ} (n : ℤ) (d : ℕ) (h : 0 < d) → IsLeastSpan F lo hi n d → IsLeastSpanOf F lo hi (over n d h)
least_span_over n d h s = record { low = floor_over n d h s.low; high = ceiling_over n d h s.high }

pub least_span_over_out : {F : ℕ} {lo hi : ℤ} (n : ℤ) (d : ℕ) (h : 0 < d) → IsLeastSpanOf F lo hi (over n d h) → IsLeastSpan F lo hi n d
least_span_over_out n d h s = record { low = floor_over_out n d h s.low; high = ceiling_over_out n d h s.high }

-- ---- the least span
-- a whole number at most x in units is at most the floor
pub floor_greatest : {F : ℕ} {x : Fraction} {z w : ℤ} → IsFloorOf F x z → whole w ≼ in_units F x → w ≤ℤ z
floor_greatest {F} {x} {z} {w} f h = back (whole-≺_out w (z +ℤ pos 1) (Order.≼-≺_trans fractions h f.next))
  where
    back : {a b : ℤ} → a <ℤ (b +ℤ pos 1) → a ≤ℤ b
    back h = omega (arith, ints)

pub ceiling_least : {F : ℕ} {x : Fraction} {z w : ℤ} → IsCeilingOf F x z → in_units F x ≼ whole w → z ≤ℤ w
ceiling_least {F} {x} {z} {w} c h = back (whole-≺_out (z -ℤ pos 1) w (Order.≺-≼_trans fractions c.before h))
  where
    back : {a b : ℤ} → (a -ℤ pos 1) <ℤ b → a ≤ℤ b
    back h = omega (arith, ints)

pub least_span_contains : {F : ℕ} {lo hi : ℤ} {x : Fraction} → IsLeastSpanOf F lo hi x → ContainsFraction F lo hi x
least_span_contains s = record { from = s.low.below; to = s.high.above }

pub least_span_within : {F : ℕ} {lo hi a b : ℤ} {x : Fraction} → IsLeastSpanOf F lo hi x → ContainsFraction F a b x → (a ≤ℤ lo) × (hi ≤ℤ b)
least_span_within s c = (floor_greatest s.low c.from, ceiling_least s.high c.to)

antisym : {a b : ℤ} → a ≤ℤ b → b ≤ℤ a → a ≡ b
antisym h k = omega (arith, ints)

pub least_span_unique : {F : ℕ} {lo hi a b : ℤ} {x : Fraction} → IsLeastSpanOf F lo hi x → IsLeastSpanOf F a b x → (a ≡ lo) × (b ≡ hi)
least_span_unique s t = (
  antisym (least_span_within s (least_span_contains t)).0 (least_span_within t (least_span_contains s)).0,
  antisym (least_span_within t (least_span_contains s)).1 (least_span_within s (least_span_contains t)).1,
)

pub contains_wider : {F : ℕ} {lo hi a b : ℤ} {x : Fraction} → ContainsFraction F lo hi x → a ≤ℤ lo → hi ≤ℤ b → ContainsFraction F a b x
contains_wider c h k = record { from = Order.≼_trans fractions (whole-≼ h) c.from; to = Order.≼_trans fractions c.to (whole-≼ k) }

-- ---- sums, opposites, products and quotients of what spans contain
pub contains_whole : (F : ℕ) (z : ℤ) → ContainsFraction F (z *ℤ pos (2 ^ F)) (z *ℤ pos (2 ^ F)) (whole z)
contains_whole F z = record { from = Order.≼_same fractions (whole-mul z (pos (2 ^ F))); to = Order.≼_same fractions (sym (whole-mul z (pos (2 ^ F)))) }

pub contains_sum : {F : ℕ} {a b c d : ℤ} {x y : Fraction} → ContainsFraction F a b x → ContainsFraction F c d y → ContainsFraction F (a +ℤ c) (b +ℤ d) (x ⊕ y)
contains_sum {F} {a} {b} {c} {d} {x} {y} h k = record {
  from = order_from fractions (whole a ∷ whole c ∷ x ∷ y ∷ whole (pos (2 ^ F)) ∷ whole (a +ℤ c) ∷ []) ((unit, var 0, var 2 :* var 4) ∷ (unit, var 1, var 3 :* var 4) ∷ (unit, var 5, var 0 :+ var 1) ∷ [])
      (at_most h.from (at_most k.from (equal (whole-add a c) no_more))) (var 5) ((var 2 :+ var 3) :* var 4) refl;
  to = order_from fractions (whole b ∷ whole d ∷ x ∷ y ∷ whole (pos (2 ^ F)) ∷ whole (b +ℤ d) ∷ []) ((unit, var 2 :* var 4, var 0) ∷ (unit, var 3 :* var 4, var 1) ∷ (unit, var 0 :+ var 1, var 5) ∷ [])
      (at_most h.to (at_most k.to (equal (sym (whole-add b d)) no_more))) ((var 2 :+ var 3) :* var 4) (var 5) refl;
}

pub contains_negative : {F : ℕ} {a b : ℤ} {x : Fraction} → ContainsFraction F a b x → ContainsFraction F (neg_ℤ b) (neg_ℤ a) (negative x)
contains_negative {F} {a} {b} {x} h = record {
  from = order_from fractions (whole b ∷ x ∷ whole (pos (2 ^ F)) ∷ whole (neg_ℤ b) ∷ []) ((unit, var 1 :* var 2, var 0) ∷ (unit, var 3, opposite (var 0)) ∷ [])
      (at_most h.to (equal (whole-negative b) no_more)) (var 3) (opposite (var 1) :* var 2) refl;
  to = order_from fractions (whole a ∷ x ∷ whole (pos (2 ^ F)) ∷ whole (neg_ℤ a) ∷ []) ((unit, var 0, var 1 :* var 2) ∷ (unit, opposite (var 0), var 3) ∷ [])
      (at_most h.from (equal (sym (whole-negative a)) no_more)) (opposite (var 1) :* var 2) (var 3) refl;
}

-- z is at most the product in units, if z 2^F is at most a lower bound m of the four products of the ends
pub product_from : {F : ℕ} {a b c d : ℤ} {x y : Fraction} (m z : ℤ) → ContainsFraction F a b x → ContainsFraction F c d y
    → m ≤ℤ (a *ℤ c) → m ≤ℤ (a *ℤ d) → m ≤ℤ (b *ℤ c) → m ≤ℤ (b *ℤ d) → (z *ℤ pos (2 ^ F)) ≤ℤ m → whole z ≼ in_units F (x ⊗ y)
product_from {F} {a} {b} {c} {d} {x} {y} m z h k ac ad bc bd zm = Order.≼_cancel fractions (positive-unit F)
    (order_from fractions (x ∷ y ∷ p ∷ whole z ∷ whole (z *ℤ pos (2 ^ F)) ∷ whole m ∷ []) ((unit, var 3 :* var 2, var 4) ∷ (unit, var 4, var 5) ∷ (unit, var 5, (var 0 :* var 2) :* (var 1 :* var 2)) ∷ [])
    (equal (sym (whole-mul z (pos (2 ^ F)))) (at_most (whole-≼ zm) (at_most least no_more))) (var 3 :* var 2) (((var 0 :* var 1) :* var 2) :* var 2) refl)
  where
    p : Fraction
    p = whole (pos (2 ^ F))

    at : (i j : ℤ) → m ≤ℤ (i *ℤ j) → whole m ≼ whole i ⊗ whole j
    at i j h = Order.≼_trans fractions (whole-≼ h) (Order.≼_same fractions (whole-mul i j))

    least : whole m ≼ (x ⊗ p) ⊗ (y ⊗ p)
    least = Bounds.product_above fractions h.from h.to k.from k.to (at a c ac) (at a d ad) (at b c bc) (at b d bd)

-- z is at least the product in units, if z 2^F is at least an upper bound m of the four products of the ends
pub product_to : {F : ℕ} {a b c d : ℤ} {x y : Fraction} (m z : ℤ) → ContainsFraction F a b x → ContainsFraction F c d y
    → (a *ℤ c) ≤ℤ m → (a *ℤ d) ≤ℤ m → (b *ℤ c) ≤ℤ m → (b *ℤ d) ≤ℤ m → m ≤ℤ (z *ℤ pos (2 ^ F)) → in_units F (x ⊗ y) ≼ whole z
product_to {F} {a} {b} {c} {d} {x} {y} m z h k ac ad bc bd zm = Order.≼_cancel fractions (positive-unit F)
    (order_from fractions (x ∷ y ∷ p ∷ whole z ∷ whole (z *ℤ pos (2 ^ F)) ∷ whole m ∷ []) ((unit, var 4, var 3 :* var 2) ∷ (unit, var 5, var 4) ∷ (unit, (var 0 :* var 2) :* (var 1 :* var 2), var 5) ∷ [])
    (equal (whole-mul z (pos (2 ^ F))) (at_most (whole-≼ zm) (at_most most no_more))) (((var 0 :* var 1) :* var 2) :* var 2) (var 3 :* var 2) refl)
  where
    p : Fraction
    p = whole (pos (2 ^ F))

    at : (i j : ℤ) → (i *ℤ j) ≤ℤ m → whole i ⊗ whole j ≼ whole m
    at i j h = Order.≼_trans fractions (Order.≼_same fractions (sym (whole-mul i j))) (whole-≼ h)

    most : (x ⊗ p) ⊗ (y ⊗ p) ≼ whole m
    most = Bounds.product_below fractions h.from h.to k.from k.to (at a c ac) (at a d ad) (at b c bc) (at b d bd)

pub contains_product : {F : ℕ} {a b c d lo hi : ℤ} {x y : Fraction} → ContainsFraction F a b x → ContainsFraction F c d y → IsBelowProducts F lo a b c d → IsAboveProducts F hi a b c d → ContainsFraction F lo hi (x ⊗ y)
contains_product {F} {a} {b} {c} {d} {lo} {hi} h k low high = record {
  from = product_from (lo *ℤ pos (2 ^ F)) lo h k low.first low.second low.third low.fourth (≤ℤ_refl (lo *ℤ pos (2 ^ F)));
  to = product_to (hi *ℤ pos (2 ^ F)) hi h k high.first high.second high.third high.fourth (≤ℤ_refl (hi *ℤ pos (2 ^ F)));
}

-- ---- a number whose span lies above nought, and a quotient by it
pub positive_from_span : {F : ℕ} {c d : ℤ} {y : Fraction} → pos 0 <ℤ c → ContainsFraction F c d y → sign y ≡ above
positive_from_span {F} {c} {d} {y} o k = Order.positive_factor fractions (positive-unit F) (Order.positive_from fractions (positive-whole_above o) k.from)

-- the quotient in units, from both numbers in units
quotient_units : (F : ℕ) (x y : Fraction) → sign y ≡ above → (in_units F x ⊗ whole (pos (2 ^ F))) ⊗ inverse (in_units F y) ≡ in_units F (x ⊗ inverse y)
quotient_units F x y o = ring_from fraction_ring (x ∷ y ∷ whole (pos (2 ^ F)) ∷ inverse y ∷ inverse (in_units F y) ∷ [])
    ((opposite (((var 0 :* var 2) :* var 2) :* var 4), var 1 :* var 3, unit) ∷ ((var 0 :* var 2) :* var 3, (var 1 :* var 2) :* var 4, unit) ∷ [])
    (given (Bounds.mul-inverse_positive fractions o) (given (Bounds.mul-inverse_positive fractions (Order.positive-mul fractions o (positive-unit F))) none))
    (((var 0 :* var 2) :* var 2) :* var 4) ((var 0 :* var 3) :* var 2) refl

-- z is at most the quotient in units, if z c and z d are at most a 2^F
pub quotient_from : {F : ℕ} {a b c d : ℤ} {x y : Fraction} (z : ℤ) → pos 0 <ℤ c → ContainsFraction F a b x → ContainsFraction F c d y
    → (z *ℤ c) ≤ℤ (a *ℤ pos (2 ^ F)) → (z *ℤ d) ≤ℤ (a *ℤ pos (2 ^ F)) → whole z ≼ in_units F (x ⊗ inverse y)
quotient_from {F} {a} {b} {c} {d} {x} {y} z o h k zc zd = Order.≼_trans fractions
    (Bounds.quotient_above fractions (positive-whole_above o) (Order.≼-mul fractions (Order.nonnegative_positive fractions (positive-unit F)) h.from) k.from k.to (at c zc) (at d zd))
    (Order.≼_same fractions (quotient_units F x y (positive_from_span o k)))
  where
    at : (i : ℤ) → (z *ℤ i) ≤ℤ (a *ℤ pos (2 ^ F)) → whole z ⊗ whole i ≼ whole a ⊗ whole (pos (2 ^ F))
    at i h = Order.≼_trans fractions (Order.≼_same fractions (sym (whole-mul z i))) (Order.≼_trans fractions (whole-≼ h) (Order.≼_same fractions (whole-mul a (pos (2 ^ F)))))

-- z is at least the quotient in units, if z c and z d are at least b 2^F
pub quotient_to : {F : ℕ} {a b c d : ℤ} {x y : Fraction} (z : ℤ) → pos 0 <ℤ c → ContainsFraction F a b x → ContainsFraction F c d y
    → (b *ℤ pos (2 ^ F)) ≤ℤ (z *ℤ c) → (b *ℤ pos (2 ^ F)) ≤ℤ (z *ℤ d) → in_units F (x ⊗ inverse y) ≼ whole z
quotient_to {F} {a} {b} {c} {d} {x} {y} z o h k zc zd = Order.≼_trans fractions
    (Order.≼_same fractions (sym (quotient_units F x y (positive_from_span o k))))
    (Bounds.quotient_below fractions (positive-whole_above o) (Order.≼-mul fractions (Order.nonnegative_positive fractions (positive-unit F)) h.to) k.from k.to (at c zc) (at d zd))
  where
    at : (i : ℤ) → (b *ℤ pos (2 ^ F)) ≤ℤ (z *ℤ i) → whole b ⊗ whole (pos (2 ^ F)) ≼ whole z ⊗ whole i
    at i h = Order.≼_trans fractions (Order.≼_same fractions (sym (whole-mul b (pos (2 ^ F))))) (Order.≼_trans fractions (whole-≼ h) (Order.≼_same fractions (whole-mul z i)))

-- ---- the laws of specs/Span
pub least_span_is_least : LeastSpanIsLeast
least_span_is_least F d n lo hi h s = (
  contains_over_out n d h (least_span_contains (least_span_over n d h s)),
  λ a b c. least_span_within (least_span_over n d h s) (contains_over n d h c),
)

pub least_span_is_unique : LeastSpanIsUnique
least_span_is_unique F d n lo hi a b h s t = least_span_unique (least_span_over n d h s) (least_span_over n d h t)

pub least_span_exists : LeastSpanExists
least_span_exists F d n h = record { low = floor_of-floor (n *ℤ pos (2 ^ F)) d h; high = ceiling_of-ceiling (n *ℤ pos (2 ^ F)) d h }

pub same_ratio_has_same_spans : SameRatioHasSameSpans
same_ratio_has_same_spans F d e n m lo hi h k r = (
  λ c. contains_over_out m e k (subst (λ (x : Fraction). ContainsFraction F lo hi x) (over_same n m d e h k r) (contains_over n d h c)),
  λ s. least_span_over_out m e k (subst (λ (x : Fraction). IsLeastSpanOf F lo hi x) (over_same n m d e h k r) (least_span_over n d h s)),
)

pub sum_lies_in_sum : SumLiesInSum
sum_lies_in_sum F d e n m a b a' b' h k x y = contains_over_out (n *ℤ pos e +ℤ m *ℤ pos d) (d * e) (mul-pos h k)
    (subst (λ (q : Fraction). ContainsFraction F (a +ℤ a') (b +ℤ b') q) (over-add n m d e h k) (contains_sum (contains_over n d h x) (contains_over m e k y)))

pub product_lies_in_products : ProductLiesInProducts
product_lies_in_products F d e n m a b a' b' lo hi h k x y low high = contains_over_out (n *ℤ m) (d * e) (mul-pos h k)
    (subst (λ (q : Fraction). ContainsFraction F lo hi q) (over-mul n m d e h k) (contains_product (contains_over n d h x) (contains_over m e k y) low high))
