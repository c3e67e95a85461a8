-- A ratio against the ends of a span, by cross products.
use Rattle.std.proofs.Common.{◌≡◌, refl, [], ◌∷◌, ◌↔◌, ℕ, ◌*◌, ◌<◌, ◌≤◌, ◌^◌, ℤ, pos, negsuc, ◌*ℤ◌, ◌≤ℤ◌, ◌<ℤ◌, unsigned_abs, sym, arith}
use Rattle.std.proofs.Math.Nat.{mul-le-mul_left}
use Rattle.std.proofs.lemmas.Int.{ints, unsigned_abs-mul}
use Rattle.exact_fraction.specs.Bounds.{MagnitudeBelow}
use Rattle.exact_fraction.specs.Fraction.{fraction_of, denominator, denominator-positive}
use Rattle.exact_fraction.specs.declared.ratio.Ratio.{Ratio}
use Rattle.exact_algebra.specs.Expression.{var, unit, ◌:*◌, opposite}
use Rattle.exact_algebra.proofs.Ring.{ring_from, none, given}
use Rattle.exact_algebra.proofs.Fraction.{fraction_ring, ◌⊗◌, ◌≼◌, ◌≺◌}
use Rattle.exact_algebra.proofs.Whole.{whole, whole-mul, over-den, positive-whole, ≼_scaled, ≼_scaled_out, ≺_scaled, ≺_scaled_out}
use Rattle.exact_algebra.proofs.Span.{ContainsFraction, in_units, contains_over, contains_over_out}

-- a number below 2^90 in magnitude times a denominator
pub over-small : (n : ℤ) (q : Ratio) → MagnitudeBelow 90 n → MagnitudeBelow 126 (n *ℤ q.den)
over-small n q small = rw (unsigned_abs-mul n q.den) (below (unsigned_abs n) (unsigned_abs q.den) small (size q.den q.bounds.positive q.bounds.most))
  where
    size : (z : ℤ) → pos 1 ≤ℤ z → z ≤ℤ pos (2 ^ 36) → unsigned_abs z ≤ 2 ^ 36
    size (pos n) h k = omega (arith, ints)
    size (negsuc n) h k = absurd (omega (arith, ints))

    below : (a k : ℕ) → a < 2 ^ 90 → k ≤ 2 ^ 36 → a * k < 2 ^ 126
    below a k h most = omega (arith, h, mul-le-mul_left a most)

-- a ratio in units, times its denominator
numerator : (F : ℕ) (q : Ratio) → in_units F (fraction_of q) ⊗ whole (pos (denominator q)) ≡ whole (q.num *ℤ pos (2 ^ F))
numerator F q = ring_from fraction_ring (fraction_of q ∷ whole (pos (2 ^ F)) ∷ whole (pos (denominator q)) ∷ whole q.num ∷ whole (q.num *ℤ pos (2 ^ F)) ∷ [])
    ((var 1, var 0 :* var 2, var 3) ∷ (opposite unit, var 4, var 3 :* var 1) ∷ [])
    (given (over-den q.num (denominator q) (denominator-positive q)) (given (whole-mul q.num (pos (2 ^ F))) none)) ((var 0 :* var 1) :* var 2) (var 4) refl

pub meets_is : (F : ℕ) (lo hi : ℤ) (q : Ratio)
    → (((lo *ℤ pos (denominator q)) ≤ℤ (q.num *ℤ pos (2 ^ F))) × ((q.num *ℤ pos (2 ^ F)) ≤ℤ (hi *ℤ pos (denominator q)))) ↔ ContainsFraction F lo hi (fraction_of q)
meets_is F lo hi q = (
  λ h. contains_over q.num (denominator q) (denominator-positive q) (record { from = h.0; to = h.1 }),
  λ h. let c = contains_over_out q.num (denominator q) (denominator-positive q) h in (c.from, c.to),
)

pub upper_below_is : (F : ℕ) (hi : ℤ) (q : Ratio) → ((hi *ℤ pos (denominator q)) <ℤ (q.num *ℤ pos (2 ^ F))) ↔ (whole hi ≺ in_units F (fraction_of q))
upper_below_is F hi q = (
  ≺_scaled (whole hi) (in_units F (fraction_of q)) (whole (pos (denominator q))) (hi *ℤ pos (denominator q)) (q.num *ℤ pos (2 ^ F)) (positive-whole (denominator q) (denominator-positive q)) (sym (whole-mul hi (pos (denominator q)))) (numerator F q),
  ≺_scaled_out (whole hi) (in_units F (fraction_of q)) (whole (pos (denominator q))) (hi *ℤ pos (denominator q)) (q.num *ℤ pos (2 ^ F)) (positive-whole (denominator q) (denominator-positive q)) (sym (whole-mul hi (pos (denominator q)))) (numerator F q),
)

pub lower_reaches_is : (F : ℕ) (lo : ℤ) (q : Ratio) → ((q.num *ℤ pos (2 ^ F)) ≤ℤ (lo *ℤ pos (denominator q))) ↔ (in_units F (fraction_of q) ≼ whole lo)
lower_reaches_is F lo q = (
  ≼_scaled (in_units F (fraction_of q)) (whole lo) (whole (pos (denominator q))) (q.num *ℤ pos (2 ^ F)) (lo *ℤ pos (denominator q)) (positive-whole (denominator q) (denominator-positive q)) (numerator F q) (sym (whole-mul lo (pos (denominator q)))),
  ≼_scaled_out (in_units F (fraction_of q)) (whole lo) (whole (pos (denominator q))) (q.num *ℤ pos (2 ^ F)) (lo *ℤ pos (denominator q)) (positive-whole (denominator q) (denominator-positive q)) (numerator F q) (sym (whole-mul lo (pos (denominator q)))),
)
