-- The totals of a strip, divided: the ends and the widths of the quotients.
use Rattle.std.proofs.Common.{◌≡◌, refl, ap, [], ◌∷◌, ℕ, ◌+◌, ◌*◌, ◌^◌, ◌<◌, ◌≤◌, ℤ, pos, ◌+ℤ◌, ◌-ℤ◌, ◌*ℤ◌, ◌≤ℤ◌, unsigned_abs, arith}
use Rattle.std.proofs.lemmas.Int.{ints, unsigned_abs-mul}
use Rattle.std.specs.Int.{int_min, int_max}
use Rattle.exact_algebra.specs.Expression.{var, unit, number, ◌:+◌, ◌:-◌, ◌:*◌, opposite}
use Rattle.exact_algebra.proofs.Fraction.{Fraction, nought, ◌⊕◌, ◌⊗◌, fractions, fraction_ring, ◌≼◌}
use Rattle.exact_algebra.proofs.Order as Order
use Rattle.exact_algebra.proofs.Order.{order_from, no_more, at_most, equal, scaled}
use Rattle.exact_algebra.proofs.Ring.{ring}
use Rattle.exact_algebra.proofs.Span.{ContainsFraction, positive-unit, contains_whole}
use Rattle.exact_algebra.proofs.Whole.{whole, whole-mul, whole-≼}
use Rattle.outward_interval.specs.Ends.{EndsBelow, AreEnds, AreLeastEnds}
use Rattle.outward_interval.specs.Widths.{unit_of, units, IsNarrow}
use Rattle.outward_interval.proofs.Narrow.{whole-number, unit-in, narrow-wider, narrow-multiple, narrow-over, narrow-rescaled}
use Rattle.flux_moments.specs.Limits.{EndsAtMost}
use Rattle.flux_moments.proofs.BoxWidths.{nonnegative_width}
use Rattle.flux_moments.proofs.ColumnSums.{quotient_at_most}
use Rattle.flux_moments.proofs.Heights.{products_at_most}
use Rattle.flux_moments.proofs.ProductEnds.{multiple_fits, at_most_less}

-- ---- of whole numbers
pub in_units_at_most : (n : ℤ) {lo hi : ℤ} → (lo ≡ n *ℤ pos (2 ^ 20)) × (hi ≡ n *ℤ pos (2 ^ 20)) → EndsAtMost (unsigned_abs n * 2 ^ 20) lo hi
in_units_at_most n {lo} {hi} e = record { low = same lo e.0; high = same hi e.1 }
  where
    same : (z : ℤ) → z ≡ n *ℤ pos (2 ^ 20) → unsigned_abs z ≤ unsigned_abs n * 2 ^ 20
    same z e = omega (arith, ap unsigned_abs e, unsigned_abs-mul n (pos (2 ^ 20)))

pub contains_units : (n : ℤ) {lo hi : ℤ} → (lo ≡ n *ℤ pos (2 ^ 20)) × (hi ≡ n *ℤ pos (2 ^ 20)) → ContainsFraction 20 lo hi (whole n)
contains_units n e = rw (e.0, e.1) (contains_whole 20 n)

pub divisor-positive : (d : ℤ) → pos 1 ≤ℤ d → 0 < unsigned_abs d
divisor-positive d h = omega (arith, ints, h)

alone-narrow : {lo hi : ℤ} → lo ≡ hi → IsNarrow 20 nought lo hi
alone-narrow {lo} {hi} e = record {
  width = order_from fractions (whole lo ∷ whole hi ∷ whole (pos (2 ^ 20)) ∷ []) ((opposite unit, var 0, var 1) ∷ [])
      (equal (ap whole e) no_more) (var 1 :- var 0) (number 0 :* var 2) refl;
}

pub quotient-narrow : (d : ℕ) {a b lo hi : ℤ} → 0 < d → a ≡ b → ((hi -ℤ lo) *ℤ pos d) ≤ℤ ((b -ℤ a) +ℤ pos (2 * d)) → IsNarrow 20 (units 20 2) lo hi
quotient-narrow d some e h = narrow-wider (Order.≼_same fractions (ring fraction_ring (unit_of 20 ∷ []) (number 0 :+ number 2 :* var 0) (number 2 :* var 0) refl))
    (narrow-over nought d some h (alone-narrow e) (Order.≼_same fractions (ring fraction_ring (whole (pos d) ∷ []) (number 0) (number 0 :* var 0) refl)))

-- ---- of multiples of a span from 0 to 1
pub turned_fits : {a b : ℤ} (n : ℤ) → EndsAtMost (2 ^ 40) a b → unsigned_abs n ≤ 2 ^ 82 → EndsBelow 126 (a *ℤ n) (b *ℤ n)
turned_fits n ends small = multiple_fits (2 ^ 40 + 1) (2 ^ 83) n (omega arith) (at_most_less (2 ^ 40) ends) (omega (arith, small))

-- the multiple, divided, and of another scale
module _ {a b lo hi : ℤ} (p q u v n : ℤ) (d : ℕ) (some : 0 < d) where
  pub turned_ends : EndsAtMost (2 ^ 40) a b → AreEnds (int_min (a *ℤ n) (b *ℤ n)) (int_max (a *ℤ n) (b *ℤ n)) p q → AreLeastEnds p q d u v
      → AreLeastEnds (u *ℤ pos (2 ^ 20)) (v *ℤ pos (2 ^ 20)) (2 ^ 40) lo hi → (most : ℕ) → unsigned_abs n ≤ most * d → EndsAtMost (most * 2 ^ 20 + 1) lo hi
  turned_ends part product quotient rescaled most h = quotient_at_most ((2 ^ 40 * most + 1) * 2 ^ 20) (most * 2 ^ 20 + 1) (2 ^ 40) (less most)
      (record { low = scaled_by u within.low; high = scaled_by v within.high }) rescaled
    where
      below : (k m : ℕ) → 0 < d → k ≤ m * d → 2 ^ 40 * k < (2 ^ 40 * m + 1) * d
      below k m i h = omega (arith, i, h)

      less : (m : ℕ) → (2 ^ 40 * m + 1) * 2 ^ 20 < (m * 2 ^ 20 + 1) * 2 ^ 40
      less m = omega arith

      within : EndsAtMost (2 ^ 40 * most + 1) u v
      within = quotient_at_most (2 ^ 40 * unsigned_abs n) (2 ^ 40 * most + 1) d (below (unsigned_abs n) most some h) (products_at_most a b n p q part product) quotient

      scaled_by : (z : ℤ) → unsigned_abs z ≤ 2 ^ 40 * most + 1 → unsigned_abs (z *ℤ pos (2 ^ 20)) ≤ (2 ^ 40 * most + 1) * 2 ^ 20
      scaled_by z h = omega (arith, h, unsigned_abs-mul z (pos (2 ^ 20)))

  pub turned_narrow : a ≤ℤ b → q -ℤ p ≡ pos (unsigned_abs n) *ℤ (b -ℤ a) → ((v -ℤ u) *ℤ pos d) ≤ℤ ((q -ℤ p) +ℤ pos (2 * d))
      → ((hi -ℤ lo) *ℤ pos (2 ^ 40)) ≤ℤ (((v -ℤ u) *ℤ pos (2 ^ 20)) +ℤ pos (2 * 2 ^ 40))
      → (e : Fraction) (most : ℕ) → IsNarrow 40 e a b → unsigned_abs n ≤ most * d → IsNarrow 20 (e ⊗ whole (pos most) ⊕ units 20 3) lo hi
  turned_narrow order product quotient rescaled e most narrow h = narrow-wider more
      (narrow-rescaled {a = u} {b = v} rescaled (omega arith) (narrow-over {a = p} {b = q} (e ⊗ whole (pos most)) d some quotient (narrow-multiple (unsigned_abs n) product narrow) enough))
    where
      enough : e ⊗ whole (pos (unsigned_abs n)) ≼ (e ⊗ whole (pos most)) ⊗ whole (pos d)
      enough = order_from fractions (e ∷ whole (pos (unsigned_abs n)) ∷ whole (pos most) ∷ whole (pos d) ∷ whole (pos (most * d)) ∷ [])
          ((var 0, var 1, var 4) ∷ (var 0, var 4, var 2 :* var 3) ∷ [])
          (scaled (nonnegative_width a b order narrow) (whole-≼ (at_most_in (unsigned_abs n) (most * d) h)) (equal (whole-mul (pos most) (pos d)) no_more))
          (var 0 :* var 1) ((var 0 :* var 2) :* var 3) refl
        where
          at_most_in : (k m : ℕ) → k ≤ m → pos k ≤ℤ pos m
          at_most_in k m h = omega (arith, ints, h)

      -- two units of 2^-40 are less than one of 2^-20
      fine : units 40 2 ≼ units 20 1
      fine = Order.≼_cancel fractions (positive-unit 40) (order_from fractions (unit_of 40 ∷ unit_of 20 ∷ whole (pos (2 ^ 20)) ∷ whole (pos (2 ^ 40)) ∷ whole (pos 2) ∷ [])
          ((number 2, var 0 :* var 3, unit) ∷ (opposite (var 1), var 3, var 2 :* var 2) ∷ (opposite (var 2), var 1 :* var 2, unit) ∷ (unit, var 4, var 2) ∷ (opposite unit, var 4, number 2) ∷ [])
          (equal (unit-in 40) (equal (whole-mul (pos (2 ^ 20)) (pos (2 ^ 20))) (equal (unit-in 20) (at_most (whole-≼ two) (equal (whole-number 2) no_more)))))
          ((number 2 :* var 0) :* var 3) ((number 1 :* var 1) :* var 3) refl)
        where
          two : pos 2 ≤ℤ pos (2 ^ 20)
          two = omega (arith, ints)

      more : (e ⊗ whole (pos most) ⊕ units 40 2) ⊕ units 20 2 ≼ e ⊗ whole (pos most) ⊕ units 20 3
      more = order_from fractions ((e ⊗ whole (pos most)) ∷ units 40 2 ∷ unit_of 20 ∷ []) ((unit, var 1, number 1 :* var 2) ∷ []) (at_most fine no_more)
          ((var 0 :+ var 1) :+ number 2 :* var 2) (var 0 :+ number 3 :* var 2) refl
