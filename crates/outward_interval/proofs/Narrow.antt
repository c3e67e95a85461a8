-- How wide results are and how far from 0 they lie, by the same of their parts.
use Rattle.std.proofs.Common.{◌≡◌, ◌≢◌, negsuc, inl, inr, refl, sym, ◌∙◌, ap, ap₂, ℕ, zero, suc, ◌+◌, ◌*◌, ◌^◌, ◌<◌, [], ◌∷◌, ℤ, pos, neg_ℤ, unsigned_abs, ◌+ℤ◌, ◌-ℤ◌, ◌*ℤ◌, ◌≤ℤ◌, ◌<ℤ◌, arith}
use Rattle.std.proofs.lemmas.Int.{ints, clamps}
use Rattle.std.specs.Int.{int_min, int_max}
use Rattle.exact_algebra.specs.Expression.{var, unit, number, ◌:+◌, ◌:-◌, ◌:*◌, opposite}
use Rattle.exact_algebra.specs.OrderedField.{below, above}
use Rattle.exact_algebra.specs.Ring.{number_value}
use Rattle.exact_algebra.specs.Span.{IsFloor, IsCeiling}
use Rattle.exact_algebra.proofs.Bounds as Bounds
use Rattle.exact_algebra.proofs.Fraction.{Fraction, nought, one, ◌⊕◌, ◌⊗◌, ◌⊖◌, negative, inverse, sign, fractions, fraction_ring, ◌≼◌}
use Rattle.exact_algebra.proofs.Order as Order
use Rattle.exact_algebra.proofs.Order.{order_from, no_more, at_most, scaled, equal}
use Rattle.exact_algebra.proofs.Products.{magnitude, least_of, greatest_of, rounded_product-width}
use Rattle.exact_algebra.proofs.Ring.{ring, ring_from, none, given}
use Rattle.exact_algebra.proofs.Span.{ContainsFraction, in_units, positive-unit, positive_from_span}
use Rattle.exact_algebra.proofs.Whole.{whole, whole-nought, whole-one, whole-add, whole-sub, whole-mul, whole-negative, whole-≼, whole-≼_out, positive-whole, positive-whole_above, nonnegative-whole}
use Rattle.outward_interval.specs.Ends.{AreEnds, AreLeastEnds, AreQuotientEnds, least_product, greatest_product}
use Rattle.outward_interval.specs.Widths.{unit_of, units, IsNarrow, IsNear, nearer}
use Rattle.outward_interval.proofs.Widths.{quotient-sharp_width}

-- ---- units, and whole numbers as sums of ones
after : (n : ℕ) → suc n ≡ 1 + n
after n = omega arith

pub whole-number : (n : ℕ) → whole (pos n) ≡ number_value fraction_ring.operations n
whole-number zero = whole-nought
whole-number (suc n) = ap (λ m. whole (pos m)) (after n) ∙ whole-add (pos 1) (pos n) ∙ ap₂ ◌⊕◌ whole-one (whole-number n)

pub unit-in : (F : ℕ) → in_units F (unit_of F) ≡ one
unfolding unit_of
unit-in F = ring fraction_ring (whole (pos (2 ^ F)) ∷ inverse (whole (pos (2 ^ F))) ∷ []) (var 1 :* var 0) (var 0 :* var 1) refl ∙ Bounds.mul-inverse_positive fractions (positive-unit F)

pub positive-unit_of : (F : ℕ) → sign (unit_of F) ≡ above
unfolding unit_of
positive-unit_of F = Bounds.positive-inverse fractions (positive-unit F)

pub nonnegative-unit_of : (F : ℕ) → sign (unit_of F) ≢ below
nonnegative-unit_of F = Order.nonnegative_positive fractions (positive-unit_of F)

pub units-in : (F k : ℕ) → in_units F (units F k) ≡ whole (pos k)
units-in F k = ring_from fraction_ring (number_value fraction_ring.operations k ∷ whole (pos (2 ^ F)) ∷ unit_of F ∷ []) ((var 0, var 2 :* var 1, unit) ∷ []) (given (unit-in F) none) ((var 0 :* var 2) :* var 1) (var 0) refl ∙ sym (whole-number k)

pub nonnegative-units : (F k : ℕ) → sign (units F k) ≢ below
nonnegative-units F k = Order.nonnegative-mul fractions (Order.nonnegative-number fractions k) (nonnegative-unit_of F)

pub units-at_most : (F k : ℕ) → pos k ≤ℤ pos (2 ^ F) → units F k ≼ one
units-at_most F k h = Order.≼_cancel fractions (positive-unit F) (Order.≼_trans fractions (Order.≼_same fractions (units-in F k)) (Order.≼_trans fractions (whole-≼ h)
    (Order.≼_same fractions (ring fraction_ring (whole (pos (2 ^ F)) ∷ []) (var 0) (unit :* var 0) refl))))

nonnegative-scale : (F : ℕ) → sign (whole (pos (2 ^ F))) ≢ below
nonnegative-scale F = Order.nonnegative_positive fractions (positive-unit F)

weak : {a b : ℤ} → a <ℤ b → a ≤ℤ b
weak h = omega (arith, ints)

-- ---- greater bounds
pub narrow-wider : {F : ℕ} {lo hi : ℤ} {w v : Fraction} → w ≼ v → IsNarrow F w lo hi → IsNarrow F v lo hi
narrow-wider {F} {lo} {hi} {w} {v} h n = record {
  width = order_from fractions (whole lo ∷ whole hi ∷ w ∷ v ∷ whole (pos (2 ^ F)) ∷ []) ((unit, var 1 :- var 0, var 2 :* var 4) ∷ (var 4, var 2, var 3) ∷ [])
      (at_most n.width (scaled (nonnegative-scale F) h no_more)) (var 1 :- var 0) (var 3 :* var 4) refl;
}

pub near-wider : {F : ℕ} {lo hi : ℤ} {m n : Fraction} → m ≼ n → IsNear F m lo hi → IsNear F n lo hi
near-wider {F} {lo} {hi} {m} {n} h k = record {
  from = order_from fractions (whole lo ∷ m ∷ n ∷ whole (pos (2 ^ F)) ∷ []) ((unit, opposite (var 1 :* var 3), var 0) ∷ (var 3, var 1, var 2) ∷ [])
      (at_most k.from (scaled (nonnegative-scale F) h no_more)) (opposite (var 2 :* var 3)) (var 0) refl;
  to = order_from fractions (whole hi ∷ m ∷ n ∷ whole (pos (2 ^ F)) ∷ []) ((unit, var 0, var 1 :* var 3) ∷ (var 3, var 1, var 2) ∷ [])
      (at_most k.to (scaled (nonnegative-scale F) h no_more)) (var 0) (var 2 :* var 3) refl;
}

-- ---- sums, differences, opposites
pub narrow-sum : {F : ℕ} {a b c d lo hi : ℤ} {w v : Fraction} → AreEnds (a +ℤ c) (b +ℤ d) lo hi → IsNarrow F w a b → IsNarrow F v c d → IsNarrow F (w ⊕ v) lo hi
narrow-sum {F} {a} {b} {c} {d} {lo} {hi} {w} {v} e h k = record {
  width = order_from fractions (whole a ∷ whole b ∷ whole c ∷ whole d ∷ whole lo ∷ whole hi ∷ w ∷ v ∷ whole (pos (2 ^ F)) ∷ [])
      ((unit, var 1 :- var 0, var 6 :* var 8) ∷ (unit, var 3 :- var 2, var 7 :* var 8) ∷ (opposite unit, var 4, var 0 :+ var 2) ∷ (unit, var 5, var 1 :+ var 3) ∷ [])
      (at_most h.width (at_most k.width (equal (ap whole e.low ∙ whole-add a c) (equal (ap whole e.high ∙ whole-add b d) no_more)))) (var 5 :- var 4) ((var 6 :+ var 7) :* var 8) refl;
}

pub near-sum : {F : ℕ} {a b c d lo hi : ℤ} {m n : Fraction} → AreEnds (a +ℤ c) (b +ℤ d) lo hi → IsNear F m a b → IsNear F n c d → IsNear F (m ⊕ n) lo hi
near-sum {F} {a} {b} {c} {d} {lo} {hi} {m} {n} e h k = record {
  from = order_from fractions (whole a ∷ whole c ∷ whole lo ∷ m ∷ n ∷ whole (pos (2 ^ F)) ∷ []) ((unit, opposite (var 3 :* var 5), var 0) ∷ (unit, opposite (var 4 :* var 5), var 1) ∷ (opposite unit, var 2, var 0 :+ var 1) ∷ [])
      (at_most h.from (at_most k.from (equal (ap whole e.low ∙ whole-add a c) no_more))) (opposite ((var 3 :+ var 4) :* var 5)) (var 2) refl;
  to = order_from fractions (whole b ∷ whole d ∷ whole hi ∷ m ∷ n ∷ whole (pos (2 ^ F)) ∷ []) ((unit, var 0, var 3 :* var 5) ∷ (unit, var 1, var 4 :* var 5) ∷ (unit, var 2, var 0 :+ var 1) ∷ [])
      (at_most h.to (at_most k.to (equal (ap whole e.high ∙ whole-add b d) no_more))) (var 2) ((var 3 :+ var 4) :* var 5) refl;
}

pub narrow-negative : {F : ℕ} {a b lo hi : ℤ} {w : Fraction} → AreEnds (neg_ℤ b) (neg_ℤ a) lo hi → IsNarrow F w a b → IsNarrow F w lo hi
narrow-negative {F} {a} {b} {lo} {hi} {w} e h = record {
  width = order_from fractions (whole a ∷ whole b ∷ whole lo ∷ whole hi ∷ w ∷ whole (pos (2 ^ F)) ∷ []) ((unit, var 1 :- var 0, var 4 :* var 5) ∷ (opposite unit, var 2, opposite (var 1)) ∷ (unit, var 3, opposite (var 0)) ∷ [])
      (at_most h.width (equal (ap whole e.low ∙ whole-negative b) (equal (ap whole e.high ∙ whole-negative a) no_more))) (var 3 :- var 2) (var 4 :* var 5) refl;
}

pub near-negative : {F : ℕ} {a b lo hi : ℤ} {m : Fraction} → AreEnds (neg_ℤ b) (neg_ℤ a) lo hi → IsNear F m a b → IsNear F m lo hi
near-negative {F} {a} {b} {lo} {hi} {m} e h = record {
  from = order_from fractions (whole b ∷ whole lo ∷ m ∷ whole (pos (2 ^ F)) ∷ []) ((unit, var 0, var 2 :* var 3) ∷ (opposite unit, var 1, opposite (var 0)) ∷ [])
      (at_most h.to (equal (ap whole e.low ∙ whole-negative b) no_more)) (opposite (var 2 :* var 3)) (var 1) refl;
  to = order_from fractions (whole a ∷ whole hi ∷ m ∷ whole (pos (2 ^ F)) ∷ []) ((unit, opposite (var 2 :* var 3), var 0) ∷ (unit, var 1, opposite (var 0)) ∷ [])
      (at_most h.from (equal (ap whole e.high ∙ whole-negative a) no_more)) (var 1) (var 2 :* var 3) refl;
}

pub narrow-difference : {F : ℕ} {a b c d lo hi : ℤ} {w v : Fraction} → AreEnds (a -ℤ d) (b -ℤ c) lo hi → IsNarrow F w a b → IsNarrow F v c d → IsNarrow F (w ⊕ v) lo hi
narrow-difference {F} {a} {b} {c} {d} e h k = narrow-sum e h (narrow-negative {lo = neg_ℤ d} {hi = neg_ℤ c} (record { low = refl; high = refl }) k)

pub near-difference : {F : ℕ} {a b c d lo hi : ℤ} {m n : Fraction} → AreEnds (a -ℤ d) (b -ℤ c) lo hi → IsNear F m a b → IsNear F n c d → IsNear F (m ⊕ n) lo hi
near-difference {F} {a} {b} {c} {d} e h k = near-sum e h (near-negative {lo = neg_ℤ d} {hi = neg_ℤ c} (record { low = refl; high = refl }) k)

-- ---- whole multiples
pub narrow-multiple : {F : ℕ} {a b lo hi : ℤ} {w : Fraction} (k : ℕ) → hi -ℤ lo ≡ pos k *ℤ (b -ℤ a) → IsNarrow F w a b → IsNarrow F (w ⊗ whole (pos k)) lo hi
narrow-multiple {F} {a} {b} {lo} {hi} {w} k e h = record {
  width = order_from fractions (whole a ∷ whole b ∷ whole lo ∷ whole hi ∷ w ∷ whole (pos k) ∷ whole (pos (2 ^ F)) ∷ []) ((unit, var 3 :- var 2, var 5 :* (var 1 :- var 0)) ∷ (var 5, var 1 :- var 0, var 4 :* var 6) ∷ [])
      (equal same (scaled (nonnegative-whole k) h.width no_more)) (var 3 :- var 2) ((var 4 :* var 5) :* var 6) refl;
}
  where
    same : whole hi ⊖ whole lo ≡ whole (pos k) ⊗ (whole b ⊖ whole a)
    same = sym (whole-sub hi lo) ∙ ap whole e ∙ whole-mul (pos k) (b -ℤ a) ∙ ap (λ x. whole (pos k) ⊗ x) (whole-sub b a)

-- ---- the magnitude of a span
-- the greatest magnitude of two ends is that of the upper end or that of the lower
pub magnitude-within : {F : ℕ} {a b : ℤ} {m : Fraction} → a ≤ℤ b → IsNear F m a b → whole (pos (magnitude a b)) ≼ in_units F m
magnitude-within {F} {a} {b} {m} order h = elim (Order.≼_total fractions (whole b) (whole (neg_ℤ a))) [
  | inl k ↦ Order.≼_trans fractions (whole-≼ (lower a b order (whole-≼_out b (neg_ℤ a) k))) turned
  | inr k ↦ Order.≼_trans fractions (whole-≼ (upper a b order (whole-≼_out (neg_ℤ a) b k))) h.to
]
  where
    lower : (a b : ℤ) → a ≤ℤ b → b ≤ℤ neg_ℤ a → pos (magnitude a b) ≤ℤ neg_ℤ a
    lower a b order h = omega (arith, ints)

    upper : (a b : ℤ) → a ≤ℤ b → neg_ℤ a ≤ℤ b → pos (magnitude a b) ≤ℤ b
    upper a b order h = omega (arith, ints)

    turned : whole (neg_ℤ a) ≼ in_units F m
    turned = order_from fractions (whole a ∷ whole (neg_ℤ a) ∷ m ∷ whole (pos (2 ^ F)) ∷ []) ((unit, opposite (var 2 :* var 3), var 0) ∷ (unit, var 1, opposite (var 0)) ∷ [])
        (at_most h.from (equal (whole-negative a) no_more)) (var 1) (var 2 :* var 3) refl

-- a whole bound of the ends
pub near-from : {F : ℕ} {m : Fraction} (lo hi : ℤ) (k : ℕ) → unsigned_abs lo < suc k → unsigned_abs hi < suc k → whole (pos k) ≼ in_units F m → IsNear F m lo hi
near-from {F} {m} lo hi k low high h = record {
  from = order_from fractions (whole lo ∷ whole (neg_ℤ (pos k)) ∷ whole (pos k) ∷ m ∷ whole (pos (2 ^ F)) ∷ []) ((unit, var 1, var 0) ∷ (unit, var 2, var 3 :* var 4) ∷ (opposite unit, var 1, opposite (var 2)) ∷ [])
      (at_most (whole-≼ (above lo low)) (at_most h (equal (whole-negative (pos k)) no_more))) (opposite (var 3 :* var 4)) (var 0) refl;
  to = Order.≼_trans fractions (whole-≼ (below hi high)) h;
}
  where
    above : (z : ℤ) → unsigned_abs z < suc k → neg_ℤ (pos k) ≤ℤ z
    above z h = omega (arith, ints)

    below : (z : ℤ) → unsigned_abs z < suc k → z ≤ℤ pos k
    below z h = omega (arith, ints)

-- ---- results rounded outwards
-- what is known of a rounded width: times d it is at most s and two d
pub rounded : {F : ℕ} {lo hi : ℤ} (w s : Fraction) (d : ℕ) → 0 < d → (whole hi ⊖ whole lo) ⊗ whole (pos d) ≼ s ⊕ whole (pos (2 * d)) → s ≼ in_units F w ⊗ whole (pos d) → IsNarrow F (w ⊕ units F 2) lo hi
rounded {F} {lo} {hi} w s d some h k = record {
  width = Order.≼_cancel fractions (positive-whole d some) (order_from fractions (whole lo ∷ whole hi ∷ w ∷ s ∷ whole (pos d) ∷ whole (pos (2 * d)) ∷ whole (pos 2) ∷ units F 2 ∷ whole (pos (2 ^ F)) ∷ [])
      ((unit, (var 1 :- var 0) :* var 4, var 3 :+ var 5) ∷ (unit, var 3, (var 2 :* var 8) :* var 4) ∷ (unit, var 5, var 6 :* var 4) ∷ (opposite (var 4), var 7 :* var 8, var 6) ∷ [])
      (at_most h (at_most k (equal (whole-mul (pos 2) (pos d)) (equal (units-in F 2) no_more)))) ((var 1 :- var 0) :* var 4) (((var 2 :+ var 7) :* var 8) :* var 4) refl);
}

-- a span of another scale
pub narrow-rescaled : {F G : ℕ} {a b lo hi : ℤ} {w : Fraction} → ((hi -ℤ lo) *ℤ pos (2 ^ F)) ≤ℤ (((b -ℤ a) *ℤ pos (2 ^ G)) +ℤ pos (2 * 2 ^ F)) → 0 < 2 ^ F → IsNarrow F w a b → IsNarrow G (w ⊕ units G 2) lo hi
narrow-rescaled {F} {G} {a} {b} {lo} {hi} {w} h some n = rounded w ((whole b ⊖ whole a) ⊗ whole (pos (2 ^ G))) (2 ^ F) some
    (rw (← whole-sub hi lo, ← whole-mul (hi -ℤ lo) (pos (2 ^ F)), ← whole-sub b a, ← whole-mul (b -ℤ a) (pos (2 ^ G)), ← whole-add ((b -ℤ a) *ℤ pos (2 ^ G)) (pos (2 * 2 ^ F))) (whole-≼ h))
    (order_from fractions (whole a ∷ whole b ∷ w ∷ whole (pos (2 ^ F)) ∷ whole (pos (2 ^ G)) ∷ []) ((var 4, var 1 :- var 0, var 2 :* var 3) ∷ []) (scaled (nonnegative-scale G) n.width no_more)
    ((var 1 :- var 0) :* var 4) ((var 2 :* var 4) :* var 3) refl)

-- over a whole number
pub narrow-over : {F : ℕ} {a b lo hi : ℤ} {w : Fraction} (t : Fraction) (n : ℕ) → 0 < n → ((hi -ℤ lo) *ℤ pos n) ≤ℤ ((b -ℤ a) +ℤ pos (2 * n)) → IsNarrow F w a b → w ≼ t ⊗ whole (pos n) → IsNarrow F (t ⊕ units F 2) lo hi
narrow-over {F} {a} {b} {lo} {hi} {w} t n some h k part = rounded t (whole b ⊖ whole a) n some
    (rw (← whole-sub hi lo, ← whole-mul (hi -ℤ lo) (pos n), ← whole-sub b a, ← whole-add (b -ℤ a) (pos (2 * n))) (whole-≼ h))
    (order_from fractions (whole a ∷ whole b ∷ w ∷ t ∷ whole (pos n) ∷ whole (pos (2 ^ F)) ∷ []) ((unit, var 1 :- var 0, var 2 :* var 5) ∷ (var 5, var 2, var 3 :* var 4) ∷ []) (at_most k.width (scaled (nonnegative-scale F) part no_more))
    (var 1 :- var 0) ((var 3 :* var 5) :* var 4) refl)

-- a product with a span of scale G: each magnitude times the other's width
pub narrow-scaled : {F G : ℕ} {a b c d lo hi : ℤ} {w v m n : Fraction} → a ≤ℤ b → c ≤ℤ d → 0 < 2 ^ G
    → ((hi -ℤ lo) *ℤ pos (2 ^ G)) ≤ℤ ((pos (magnitude a b) *ℤ (d -ℤ c) +ℤ pos (magnitude c d) *ℤ (b -ℤ a)) +ℤ pos (2 * 2 ^ G))
    → IsNarrow F w a b → IsNear F m a b → IsNarrow G v c d → IsNear G n c d → IsNarrow F ((m ⊗ v ⊕ n ⊗ w) ⊕ units F 2) lo hi
narrow-scaled {F} {G} {a} {b} {c} {d} {lo} {hi} {w} {v} {m} {n} ab cd some h wide near wide' near' = rounded (m ⊗ v ⊕ n ⊗ w) (M ⊗ (whole d ⊖ whole c) ⊕ N ⊗ (whole b ⊖ whole a)) (2 ^ G) some
    (rw (
      ← whole-sub hi lo,
      ← whole-mul (hi -ℤ lo) (pos (2 ^ G)),
      ← whole-sub d c,
      ← whole-sub b a,
      ← whole-mul (pos (magnitude a b)) (d -ℤ c),
      ← whole-mul (pos (magnitude c d)) (b -ℤ a),
      ← whole-add (pos (magnitude a b) *ℤ (d -ℤ c)) (pos (magnitude c d) *ℤ (b -ℤ a)),
      ← whole-add (pos (magnitude a b) *ℤ (d -ℤ c) +ℤ pos (magnitude c d) *ℤ (b -ℤ a)) (pos (2 * 2 ^ G)),
    ) (whole-≼ h))
    (order_from fractions (whole a ∷ whole b ∷ whole c ∷ whole d ∷ w ∷ v ∷ m ∷ n ∷ M ∷ N ∷ whole (pos (2 ^ F)) ∷ whole (pos (2 ^ G)) ∷ [])
    ((var 3 :- var 2, var 8, var 6 :* var 10) ∷ (var 6 :* var 10, var 3 :- var 2, var 5 :* var 11) ∷ (var 1 :- var 0, var 9, var 7 :* var 11) ∷ (var 7 :* var 11, var 1 :- var 0, var 4 :* var 10) ∷ [])
    (scaled (whole-≼ cd) (magnitude-within ab near) (scaled (reached (magnitude a b) _ (magnitude-within ab near)) wide'.width (scaled (whole-≼ ab) (magnitude-within cd near') (scaled (reached (magnitude c d) _ (magnitude-within cd near')) wide.width no_more))))
    (var 8 :* (var 3 :- var 2) :+ var 9 :* (var 1 :- var 0)) (((var 6 :* var 5 :+ var 7 :* var 4) :* var 10) :* var 11) refl)
  where
    M : Fraction
    M = whole (pos (magnitude a b))

    N : Fraction
    N = whole (pos (magnitude c d))

    reached : (k : ℕ) (x : Fraction) → whole (pos k) ≼ x → sign x ≢ below
    reached k x h = Order.nonnegative_from fractions (Order.≼_trans fractions (Order.nought-≼ fractions (nonnegative-whole k)) h)

-- ---- how far from 0 what is rounded outwards lies
pub floor-from : (K : Fraction) (n z : ℤ) (d : ℕ) → 0 < d → IsFloor n d z → negative (K ⊗ whole (pos d)) ≼ whole n → negative (K ⊕ one) ≼ whole z
floor-from K n z d some f h = Order.≼_cancel fractions (positive-whole d some)
    (order_from fractions (K ∷ whole n ∷ whole z ∷ whole (pos d) ∷ []) ((unit, opposite (var 0 :* var 3), var 1) ∷ (unit, var 1, (var 2 :+ unit) :* var 3) ∷ [])
    (at_most h (at_most next no_more)) (opposite (var 0 :+ unit) :* var 3) (var 2 :* var 3) refl)
  where
    next : whole n ≼ (whole z ⊕ one) ⊗ whole (pos d)
    next = Order.≼_trans fractions (whole-≼ (weak f.next)) (Order.≼_same fractions (whole-mul (z +ℤ pos 1) (pos d) ∙ ap (λ x. x ⊗ whole (pos d)) (whole-add z (pos 1) ∙ ap (λ x. whole z ⊕ x) whole-one)))

pub ceiling-to : (K : Fraction) (n z : ℤ) (d : ℕ) → 0 < d → IsCeiling n d z → whole n ≼ K ⊗ whole (pos d) → whole z ≼ K ⊕ one
ceiling-to K n z d some f h = Order.≼_cancel fractions (positive-whole d some)
    (order_from fractions (K ∷ whole n ∷ whole z ∷ whole (pos d) ∷ []) ((unit, var 1, var 0 :* var 3) ∷ (unit, (var 2 :- unit) :* var 3, var 1) ∷ [])
    (at_most h (at_most before no_more)) (var 2 :* var 3) ((var 0 :+ unit) :* var 3) refl)
  where
    before : (whole z ⊖ one) ⊗ whole (pos d) ≼ whole n
    before = Order.≼_trans fractions (Order.≼_same fractions (sym (whole-mul (z -ℤ pos 1) (pos d) ∙ ap (λ x. x ⊗ whole (pos d)) (whole-sub z (pos 1) ∙ ap (λ x. whole z ⊖ x) whole-one)))) (whole-≼ (weak f.before))

-- the ends of a least span lie one unit farther at most
pub near-rounded : {F : ℕ} (m : Fraction) (low high lo hi : ℤ) (d : ℕ) → 0 < d → AreLeastEnds low high d lo hi → negative (in_units F m ⊗ whole (pos d)) ≼ whole low → whole high ≼ in_units F m ⊗ whole (pos d) → IsNear F (m ⊕ units F 1) lo hi
near-rounded {F} m low high lo hi d some e h k = record {
  from = order_from fractions (whole lo ∷ m ∷ units F 1 ∷ whole (pos (2 ^ F)) ∷ []) ((unit, opposite (var 1 :* var 3 :+ unit), var 0) ∷ (opposite unit, var 2 :* var 3, unit) ∷ [])
      (at_most (floor-from (in_units F m) low lo d some e.low h) (equal one_in no_more)) (opposite ((var 1 :+ var 2) :* var 3)) (var 0) refl;
  to = order_from fractions (whole hi ∷ m ∷ units F 1 ∷ whole (pos (2 ^ F)) ∷ []) ((unit, var 0, var 1 :* var 3 :+ unit) ∷ (opposite unit, var 2 :* var 3, unit) ∷ [])
      (at_most (ceiling-to (in_units F m) high hi d some e.high k) (equal one_in no_more)) (var 0) ((var 1 :+ var 2) :* var 3) refl;
}
  where
    one_in : in_units F (units F 1) ≡ one
    one_in = units-in F 1 ∙ whole-one

pub near-rescaled : {F G : ℕ} {a b lo hi : ℤ} {m : Fraction} → 0 < 2 ^ F → AreLeastEnds (a *ℤ pos (2 ^ G)) (b *ℤ pos (2 ^ G)) (2 ^ F) lo hi → IsNear F m a b → IsNear G (m ⊕ units G 1) lo hi
near-rescaled {F} {G} {a} {b} {lo} {hi} {m} some e h = near-rounded m (a *ℤ pos (2 ^ G)) (b *ℤ pos (2 ^ G)) lo hi (2 ^ F) some e
    (order_from fractions (whole a ∷ whole (a *ℤ pos (2 ^ G)) ∷ m ∷ whole (pos (2 ^ F)) ∷ whole (pos (2 ^ G)) ∷ []) ((var 4, opposite (var 2 :* var 3), var 0) ∷ (opposite unit, var 1, var 0 :* var 4) ∷ [])
    (scaled (nonnegative-scale G) h.from (equal (whole-mul a (pos (2 ^ G))) no_more)) (opposite ((var 2 :* var 4) :* var 3)) (var 1) refl)
    (order_from fractions (whole b ∷ whole (b *ℤ pos (2 ^ G)) ∷ m ∷ whole (pos (2 ^ F)) ∷ whole (pos (2 ^ G)) ∷ []) ((var 4, var 0, var 2 :* var 3) ∷ (unit, var 1, var 0 :* var 4) ∷ [])
    (scaled (nonnegative-scale G) h.to (equal (whole-mul b (pos (2 ^ G))) no_more)) (var 1) ((var 2 :* var 4) :* var 3) refl)

-- the product of two numbers within s and t
pub product-within : (s t x y : Fraction) → negative s ≼ x → x ≼ s → negative t ≼ y → y ≼ t → (negative (s ⊗ t) ≼ x ⊗ y) × (x ⊗ y ≼ s ⊗ t)
product-within s t x y sx xs ty yt = (
  Order.≼_cancel fractions (Order.positive-number fractions 1) (order_from fractions (s ∷ t ∷ x ∷ y ∷ []) ((var 1 :+ var 3, opposite (var 0), var 2) ∷ (var 1 :- var 3, var 2, var 0) ∷ [])
      (scaled (sum_of ty) sx (scaled yt xs no_more)) (opposite (var 0 :* var 1) :* number 2) ((var 2 :* var 3) :* number 2) refl),
  Order.≼_cancel fractions (Order.positive-number fractions 1) (order_from fractions (s ∷ t ∷ x ∷ y ∷ []) ((var 1 :+ var 3, var 2, var 0) ∷ (var 1 :- var 3, opposite (var 0), var 2) ∷ [])
      (scaled (sum_of ty) xs (scaled yt sx no_more)) ((var 2 :* var 3) :* number 2) ((var 0 :* var 1) :* number 2) refl),
)
  where
    sum_of : negative t ≼ y → sign (t ⊕ y) ≢ below
    sum_of h = Order.nonnegative_same fractions (ring fraction_ring (t ∷ y ∷ []) (var 0 :+ var 1) (var 1 :- opposite (var 0)) refl) h

-- the least and the greatest of four
least-above : (K : Fraction) (p q r s : ℤ) → K ≼ whole p → K ≼ whole q → K ≼ whole r → K ≼ whole s → K ≼ whole (least_of p q r s)
least-above K p q r s hp hq hr hs = two (int_min p q) (int_min r s) (two p q hp hq) (two r s hr hs)
  where
    left : (p q : ℤ) → p ≤ℤ q → p ≤ℤ int_min p q
    left p q h = omega (arith, ints, clamps)

    right : (p q : ℤ) → q ≤ℤ p → q ≤ℤ int_min p q
    right p q h = omega (arith, ints, clamps)

    two : (p q : ℤ) → K ≼ whole p → K ≼ whole q → K ≼ whole (int_min p q)
    two p q h k = elim (Order.≼_total fractions (whole p) (whole q)) [
      | inl e ↦ Order.≼_trans fractions h (whole-≼ (left p q (whole-≼_out p q e)))
      | inr e ↦ Order.≼_trans fractions k (whole-≼ (right p q (whole-≼_out q p e)))
    ]

greatest-below : (K : Fraction) (p q r s : ℤ) → whole p ≼ K → whole q ≼ K → whole r ≼ K → whole s ≼ K → whole (greatest_of p q r s) ≼ K
greatest-below K p q r s hp hq hr hs = two (int_max p q) (int_max r s) (two p q hp hq) (two r s hr hs)
  where
    left : (p q : ℤ) → q ≤ℤ p → int_max p q ≤ℤ p
    left p q h = omega (arith, ints, clamps)

    right : (p q : ℤ) → p ≤ℤ q → int_max p q ≤ℤ q
    right p q h = omega (arith, ints, clamps)

    two : (p q : ℤ) → whole p ≼ K → whole q ≼ K → whole (int_max p q) ≼ K
    two p q h k = elim (Order.≼_total fractions (whole p) (whole q)) [
      | inl e ↦ Order.≼_trans fractions (whole-≼ (right p q (whole-≼_out p q e))) k
      | inr e ↦ Order.≼_trans fractions (whole-≼ (left p q (whole-≼_out q p e))) h
    ]

-- both ends, of a span in order
lower-to : {F : ℕ} {m : Fraction} {lo hi : ℤ} → lo ≤ℤ hi → IsNear F m lo hi → whole lo ≼ in_units F m
lower-to order h = Order.≼_trans fractions (whole-≼ order) h.to

upper-from : {F : ℕ} {m : Fraction} {lo hi : ℤ} → lo ≤ℤ hi → IsNear F m lo hi → negative (in_units F m) ≼ whole hi
upper-from order h = Order.≼_trans fractions h.from (whole-≼ order)

pub near-scaled : {F G : ℕ} {a b c d lo hi : ℤ} {m n : Fraction} → a ≤ℤ b → c ≤ℤ d → 0 < 2 ^ G → AreLeastEnds (least_product a b c d) (greatest_product a b c d) (2 ^ G) lo hi
    → IsNear F m a b → IsNear G n c d → IsNear F (m ⊗ n ⊕ units F 1) lo hi
near-scaled {F} {G} {a} {b} {c} {d} {lo} {hi} {m} {n} ab cd some e h k = near-rounded (m ⊗ n) (least_product a b c d) (greatest_product a b c d) lo hi (2 ^ G) some e
    (Order.≼_trans fractions (Order.≼_same fractions (ap negative same)) (least-above (negative (M ⊗ N)) (a *ℤ c) (a *ℤ d) (b *ℤ c) (b *ℤ d) ac.0 ad.0 bc.0 bd.0))
    (Order.≼_trans fractions (greatest-below (M ⊗ N) (a *ℤ c) (a *ℤ d) (b *ℤ c) (b *ℤ d) ac.1 ad.1 bc.1 bd.1) (Order.≼_same fractions (sym same)))
  where
    M : Fraction
    M = in_units F m

    N : Fraction
    N = in_units G n

    same : in_units F (m ⊗ n) ⊗ whole (pos (2 ^ G)) ≡ M ⊗ N
    same = ring fraction_ring (m ∷ n ∷ whole (pos (2 ^ F)) ∷ whole (pos (2 ^ G)) ∷ []) (((var 0 :* var 1) :* var 2) :* var 3) ((var 0 :* var 2) :* (var 1 :* var 3)) refl

    at : (x y : ℤ) → negative M ≼ whole x → whole x ≼ M → negative N ≼ whole y → whole y ≼ N → (negative (M ⊗ N) ≼ whole (x *ℤ y)) × (whole (x *ℤ y) ≼ M ⊗ N)
    at x y i j p q = let both = product-within M N (whole x) (whole y) i j p q in (
      Order.≼_trans fractions both.0 (Order.≼_same fractions (sym (whole-mul x y))),
      Order.≼_trans fractions (Order.≼_same fractions (whole-mul x y)) both.1,
    )

    ac : (negative (M ⊗ N) ≼ whole (a *ℤ c)) × (whole (a *ℤ c) ≼ M ⊗ N)
    ac = at a c h.from (lower-to ab h) k.from (lower-to cd k)

    ad : (negative (M ⊗ N) ≼ whole (a *ℤ d)) × (whole (a *ℤ d) ≼ M ⊗ N)
    ad = at a d h.from (lower-to ab h) (upper-from cd k) k.to

    bc : (negative (M ⊗ N) ≼ whole (b *ℤ c)) × (whole (b *ℤ c) ≼ M ⊗ N)
    bc = at b c (upper-from ab h) h.to k.from (lower-to cd k)

    bd : (negative (M ⊗ N) ≼ whole (b *ℤ d)) × (whole (b *ℤ d) ≼ M ⊗ N)
    bd = at b d (upper-from ab h) h.to (upper-from cd k) k.to

-- ---- a product of spans of one scale
pub narrow-product : {F : ℕ} {a b c d lo hi : ℤ} {w v m n : Fraction} → a ≤ℤ b → c ≤ℤ d → 0 < 2 ^ F → AreLeastEnds (least_product a b c d) (greatest_product a b c d) (2 ^ F) lo hi
    → IsNarrow F w a b → IsNear F m a b → IsNarrow F v c d → IsNear F n c d → IsNarrow F ((m ⊗ v ⊕ n ⊗ w) ⊕ units F 2) lo hi
narrow-product {F} {a} {b} {c} {d} {lo} {hi} ab cd some e wide near wide' near' = narrow-scaled {F = F} {G = F} ab cd some (rounded_product-width (2 ^ F) a b c d lo hi ab cd e.low e.high) wide near wide' near'

-- ---- a quotient
-- the nearer end of a span of x, where y times the bound of x / y is no less than x
nearer-within : (F : ℕ) (a b : ℤ) (x y bound : Fraction) → ContainsFraction F a b x → x ≼ bound ⊗ y → negative x ≼ bound ⊗ y → nought ≼ bound ⊗ y → whole (pos (nearer a b)) ≼ in_units F (bound ⊗ y)
nearer-within F (pos a) b x y bound is upper lower some = Order.≼_trans fractions is.from (Order.≼-mul fractions (nonnegative-scale F) upper)
nearer-within F (negsuc a) (pos b) x y bound is upper lower some = Order.≼_trans fractions (Order.≼_same fractions whole-nought)
    (Order.≼_trans fractions (Order.≼_same fractions (ring fraction_ring (whole (pos (2 ^ F)) ∷ []) (number 0) (number 0 :* var 0) refl)) (Order.≼-mul fractions (nonnegative-scale F) some))
nearer-within F (negsuc a) (negsuc b) x y bound is upper lower some = order_from fractions (x ∷ (bound ⊗ y) ∷ whole (negsuc b) ∷ whole (pos (suc b)) ∷ whole (pos (2 ^ F)) ∷ [])
    ((unit, var 0 :* var 4, var 2) ∷ (unit, var 3, opposite (var 2)) ∷ (var 4, opposite (var 0), var 1) ∷ [])
    (at_most is.to (equal (whole-negative (negsuc b)) (scaled (nonnegative-scale F) lower no_more))) (var 3) (var 1 :* var 4) refl

-- the quotient of x by y, of which the magnitude is at most the bound, where the divisor's lower end is at least q: the width of x's span, and the
-- bound times that of y's, over q
pub narrow-quotient : {F : ℕ} {a b c d lo hi : ℤ} {w v : Fraction} (x y bound q : Fraction) → pos 1 ≤ℤ c → c ≤ℤ d → a ≤ℤ b → AreQuotientEnds F a b c d lo hi
    → ContainsFraction F a b x → ContainsFraction F c d y → x ≼ bound ⊗ y → negative x ≼ bound ⊗ y → sign bound ≢ below → sign q ≡ above → in_units F q ≼ whole c
    → IsNarrow F w a b → IsNarrow F v c d → IsNarrow F ((w ⊕ bound ⊗ v) ⊗ inverse q ⊕ units F 2) lo hi
narrow-quotient {F} {a} {b} {c} {d} {lo} {hi} {w} {v} x y bound q some cd ab ends in_x in_y above_x below_x bounded positive least wide wide' = record {
  width = Order.≼_cancel fractions (Order.positive-mul fractions (positive-whole_above (over_nought c some)) (positive-whole_above (over_nought d (further some cd))))
      (order_from fractions (whole a ∷ whole b ∷ whole c ∷ whole d ∷ whole lo ∷ whole hi ∷ w ∷ v ∷ bound ∷ y ∷ q ∷ inverse q ∷ whole (pos (nearer a b)) ∷ whole (pos (2 ^ F)) ∷ units F 2 ∷ whole (pos 2) ∷ [])
      ((unit, (var 5 :- var 4) :* (var 2 :* var 3), ((var 1 :- var 0) :* var 3 :+ var 12 :* (var 3 :- var 2)) :* var 13 :+ var 15 :* (var 2 :* var 3))
      ∷ (opposite (var 2 :* var 3), var 14 :* var 13, var 15)
      ∷ (var 3 :* var 13, var 1 :- var 0, var 6 :* var 13)
      ∷ ((var 3 :- var 2) :* var 13, var 12, (var 8 :* var 9) :* var 13) ∷ ((var 3 :- var 2) :* var 13 :* var 8, var 9 :* var 13, var 3)
      ∷ (var 8 :* var 3 :* var 13, var 3 :- var 2, var 7 :* var 13)
      ∷ ((var 6 :+ var 8 :* var 7) :* var 13 :* var 3 :* var 11, var 10 :* var 13, var 2) ∷ ((var 6 :+ var 8 :* var 7) :* var 13 :* var 3 :* var 13, unit, var 10 :* var 11) ∷ [])
      (at_most clause (equal (units-in F 2) (scaled (Order.nonnegative-mul fractions nonnegative_d (nonnegative-scale F)) wide.width
      (scaled (Order.nonnegative-mul fractions (whole-≼ cd) (nonnegative-scale F)) (nearer-within F a b x y bound in_x above_x below_x (Order.nought-≼ fractions (Order.nonnegative-mul fractions bounded (Order.nonnegative_positive fractions (positive_from_span (over_nought c some) in_y)))))
      (scaled (Order.nonnegative-mul fractions (Order.nonnegative-mul fractions (whole-≼ cd) (nonnegative-scale F)) bounded) in_y.to
      (scaled (Order.nonnegative-mul fractions (Order.nonnegative-mul fractions bounded nonnegative_d) (nonnegative-scale F)) wide'.width
      (scaled (Order.nonnegative-mul fractions (Order.nonnegative-mul fractions (Order.nonnegative-mul fractions (Order.nonnegative-add fractions (nonnegative_by a b w ab wide) (Order.nonnegative-mul fractions bounded (nonnegative_by c d v cd wide'))) (nonnegative-scale F)) nonnegative_d) (Order.nonnegative_positive fractions (Bounds.positive-inverse fractions positive))) least
      (equal (sym (Bounds.mul-inverse_positive fractions positive)) no_more))))))))
      ((var 5 :- var 4) :* (var 2 :* var 3)) (((((var 6 :+ var 8 :* var 7) :* var 11) :+ var 14) :* var 13) :* (var 2 :* var 3)) refl);
}
  where
    over_nought : (z : ℤ) → pos 1 ≤ℤ z → pos 0 <ℤ z
    over_nought z h = omega (arith, ints)

    further : {c d : ℤ} → pos 1 ≤ℤ c → c ≤ℤ d → pos 1 ≤ℤ d
    further h k = omega (arith, ints)

    nonnegative_d : sign (whole d) ≢ below
    nonnegative_d = Order.nonnegative_positive fractions (positive-whole_above (over_nought d (further some cd)))

    nonnegative_by : (lo hi : ℤ) (w : Fraction) → lo ≤ℤ hi → IsNarrow F w lo hi → sign w ≢ below
    nonnegative_by lo hi w order n = Order.nonnegative_factor fractions (positive-unit F) (Order.nonnegative_from fractions
        (order_from fractions (whole lo ∷ whole hi ∷ w ∷ whole (pos (2 ^ F)) ∷ []) ((unit, var 0, var 1) ∷ (unit, var 1 :- var 0, var 2 :* var 3) ∷ []) (at_most (whole-≼ order) (at_most n.width no_more)) (number 0) (var 2 :* var 3) refl))

    clause : (whole hi ⊖ whole lo) ⊗ (whole c ⊗ whole d) ≼ ((whole b ⊖ whole a) ⊗ whole d ⊕ whole (pos (nearer a b)) ⊗ (whole d ⊖ whole c)) ⊗ whole (pos (2 ^ F)) ⊕ whole (pos 2) ⊗ (whole c ⊗ whole d)
    clause = rw (
      ← whole-sub hi lo,
      ← whole-mul c d,
      ← whole-mul (hi -ℤ lo) (c *ℤ d),
      ← whole-sub b a,
      ← whole-sub d c,
      ← whole-mul (b -ℤ a) d,
      ← whole-mul (pos (nearer a b)) (d -ℤ c),
      ← whole-add ((b -ℤ a) *ℤ d) (pos (nearer a b) *ℤ (d -ℤ c)),
      ← whole-mul ((b -ℤ a) *ℤ d +ℤ pos (nearer a b) *ℤ (d -ℤ c)) (pos (2 ^ F)),
      ← whole-mul (pos 2) (c *ℤ d),
      ← whole-add (((b -ℤ a) *ℤ d +ℤ pos (nearer a b) *ℤ (d -ℤ c)) *ℤ pos (2 ^ F)) (pos 2 *ℤ (c *ℤ d)),
    ) (whole-≼ (quotient-sharp_width F a b c d lo hi some cd ab ends))
