-- How wide the product of a length and an integral is.
use Rattle.std.proofs.Common.{◌≢◌, refl, sym, inl, inr, [], ◌∷◌, ◌*◌, ◌^◌, ◌<◌, ℤ, pos, unsigned_abs, ◌+ℤ◌, ◌-ℤ◌, ◌*ℤ◌, ◌≤ℤ◌, neg_ℤ, arith}
use Rattle.std.proofs.lemmas.Int.{ints}
use Rattle.exact_algebra.specs.Expression.{var, unit, number, ◌:+◌, ◌:*◌, opposite}
use Rattle.exact_algebra.specs.OrderedField.{below}
use Rattle.exact_algebra.specs.Ring.{number_value}
use Rattle.exact_algebra.proofs.Fraction.{Fraction, ◌⊕◌, ◌⊗◌, sign, fractions, fraction_ring, ◌≼◌}
use Rattle.exact_algebra.proofs.Order as Order
use Rattle.exact_algebra.proofs.Order.{order_from, no_more, at_most, scaled, equal}
use Rattle.exact_algebra.proofs.Products.{magnitude}
use Rattle.exact_algebra.proofs.Span.{positive-unit}
use Rattle.exact_algebra.proofs.Whole.{whole, whole-mul, whole-negative, whole-≼, whole-≼_out}
use Rattle.outward_interval.specs.Ends.{EndsBelow, AreLeastEnds}
use Rattle.outward_interval.specs.Widths.{unit_of, IsNarrow, IsNear}
use Rattle.outward_interval.specs.declared.span.Span.{Span}
use Rattle.outward_interval.proofs.Narrow.{whole-number, unit-in, units-at_most, nonnegative-unit_of, narrow-wider, narrow-scaled, narrow-rescaled, near-rescaled}
use Rattle.hydro_tables.specs.Extent.{product_width}
use Rattle.hydro_tables.proofs.RowWidths.{least_width, nonnegative_width}

nonnegative_near : (s : Span 20) (m : Fraction) → IsNear 20 m s.lo s.hi → sign m ≢ below
nonnegative_near s m h = Order.nonnegative_factor fractions (Order.positive-mul fractions (Order.positive-number fractions 1) (positive-unit 20))
    (Order.nonnegative_from fractions (order_from fractions (whole s.lo ∷ whole s.hi ∷ m ∷ whole (pos (2 ^ 20)) ∷ [])
    ((unit, opposite (var 2 :* var 3), var 0) ∷ (unit, var 0, var 1) ∷ (unit, var 1, var 2 :* var 3) ∷ [])
    (at_most h.from (at_most (whole-≼ s.ordered) (at_most h.to no_more))) (number 0) (var 2 :* (number 2 :* var 3)) refl))

nonnegative_narrow : (s : Span 20) (w : Fraction) → IsNarrow 20 w s.lo s.hi → sign w ≢ below
nonnegative_narrow s w h = Order.nonnegative_from fractions (Order.≼_trans fractions (Order.nought-≼ fractions (nonnegative_width s)) (least_width s h))

module _ (length sx : Span 20) (m n w v : Fraction) where
  module _ (near : IsNear 20 m length.lo length.hi) (near_sx : IsNear 20 n sx.lo sx.hi) (wide : IsNarrow 20 w length.lo length.hi) where
    sizes : sign (m ⊕ w) ≢ below
    sizes = Order.nonnegative-add fractions (nonnegative_near length m near) (nonnegative_narrow length w wide)

    more : sign (((m ⊕ w) ⊗ n) ⊗ unit_of 60) ≢ below
    more = Order.nonnegative-mul fractions (Order.nonnegative-mul fractions sizes (nonnegative_near sx n near_sx)) (nonnegative-unit_of 60)

  pub fine_narrow : {lo hi : ℤ} → ((hi -ℤ lo) *ℤ pos (2 ^ 20)) ≤ℤ ((pos (magnitude length.lo length.hi) *ℤ (sx.hi -ℤ sx.lo) +ℤ pos (magnitude sx.lo sx.hi) *ℤ (length.hi -ℤ length.lo)) +ℤ pos (2 * 2 ^ 20))
      → IsNear 20 m length.lo length.hi → IsNear 20 n sx.lo sx.hi → IsNarrow 20 w length.lo length.hi → IsNarrow 20 v sx.lo sx.hi → IsNarrow 20 (product_width m n w v) lo hi
  fine_narrow h near near_sx wide wide_sx = narrow-wider
      (order_from fractions ((m ⊗ v ⊕ n ⊗ w) ∷ (((m ⊕ w) ⊗ n) ⊗ unit_of 60) ∷ unit_of 20 ∷ []) ((unit, number 0, var 1) ∷ [])
      (at_most (Order.nought-≼ fractions (more near near_sx wide)) no_more) (var 0 :+ number 2 :* var 2) ((var 0 :+ var 1) :+ number 2 :* var 2) refl)
      (narrow-scaled {F = 20} {G = 20} length.ordered sx.ordered (omega arith) h wide near wide_sx near_sx)

  -- 2^61 mm³ are twice the inverse of 2^-60
  great : whole (pos (2 ^ 61)) ≼ n → number_value fraction_ring.operations 2 ≼ n ⊗ unit_of 60
  great h = order_from fractions (n ∷ unit_of 60 ∷ whole (pos (2 ^ 61)) ∷ whole (pos (2 ^ 60)) ∷ whole (pos 2) ∷ [])
      ((var 1, var 2, var 0) ∷ (var 1, var 4 :* var 3, var 2) ∷ (var 4, unit, var 1 :* var 3) ∷ (unit, number 2, var 4) ∷ [])
      (scaled (nonnegative-unit_of 60) h (equal (sym (whole-mul (pos 2) (pos (2 ^ 60)))) (equal (sym (unit-in 60)) (equal (sym (whole-number 2)) no_more)))) (number 2) (var 0 :* var 1) refl

  pub coarse_narrow : {low high lo hi : ℤ} → AreLeastEnds (sx.lo *ℤ pos (2 ^ 10)) (sx.hi *ℤ pos (2 ^ 10)) (2 ^ 20) low high
      → ((high -ℤ low) *ℤ pos (2 ^ 20)) ≤ℤ (((sx.hi -ℤ sx.lo) *ℤ pos (2 ^ 10)) +ℤ pos (2 * 2 ^ 20)) → low ≤ℤ high
      → ((hi -ℤ lo) *ℤ pos (2 ^ 10)) ≤ℤ ((pos (magnitude length.lo length.hi) *ℤ (high -ℤ low) +ℤ pos (magnitude low high) *ℤ (length.hi -ℤ length.lo)) +ℤ pos (2 * 2 ^ 10))
      → (EndsBelow 83 sx.lo sx.hi → ⊥)
      → IsNear 20 m length.lo length.hi → IsNear 20 n sx.lo sx.hi → IsNarrow 20 w length.lo length.hi → IsNarrow 20 v sx.lo sx.hi → IsNarrow 20 (product_width m n w v) lo hi
  coarse_narrow ends rescaled order h no_room near near_sx wide wide_sx = narrow-wider
      (order_from fractions (m ∷ n ∷ w ∷ v ∷ unit_of 10 ∷ unit_of 60 ∷ unit_of 20 ∷ [])
      ((var 0 :+ var 2, number 2, var 1 :* var 5) ∷ (number 2 :* (var 0 :+ var 2), number 1 :* var 4, unit) ∷ (var 2, number 0, var 4) ∷ [])
      (scaled (sizes near near_sx wide) (great large) (scaled (Order.nonnegative-mul fractions (Order.nonnegative-number fractions 2) (sizes near near_sx wide)) (units-at_most 10 1 (omega (arith, ints)))
      (scaled (nonnegative_narrow length w wide) (Order.nought-≼ fractions (nonnegative-unit_of 10)) no_more)))
      ((var 0 :* (var 3 :+ number 2 :* var 4) :+ (var 1 :+ number 1 :* var 4) :* var 2) :+ number 2 :* var 6)
      (((var 0 :* var 3 :+ var 1 :* var 2) :+ ((var 0 :+ var 2) :* var 1) :* var 5) :+ number 2 :* var 6) refl)
      (narrow-scaled {F = 20} {G = 10} length.ordered order (omega arith) h wide near (narrow-rescaled {F = 20} {G = 10} rescaled (omega arith) wide_sx) (near-rescaled {F = 20} {G = 10} (omega arith) ends near_sx))
    where
      large : whole (pos (2 ^ 61)) ≼ n
      large = elim (Order.≼_total fractions (whole (pos (2 ^ 61))) n) [
        | inl k ↦ k
        | inr k ↦ absurd (no_room (record {
          low = low_below sx.lo (whole-≼_out _ sx.lo (from k)) (whole-≼_out sx.lo _ (Order.≼_trans fractions (whole-≼ sx.ordered) (to k)));
          high = low_below sx.hi (whole-≼_out _ sx.hi (Order.≼_trans fractions (from k) (whole-≼ sx.ordered))) (whole-≼_out sx.hi _ (to k));
        }))
      ]
        where
          to : n ≼ whole (pos (2 ^ 61)) → whole sx.hi ≼ whole (pos (2 ^ 81))
          to k = Order.≼_trans fractions near_sx.to (Order.≼_trans fractions (Order.≼-mul fractions (Order.nonnegative_positive fractions (positive-unit 20)) k) (Order.≼_same fractions (sym (whole-mul (pos (2 ^ 61)) (pos (2 ^ 20))))))

          from : n ≼ whole (pos (2 ^ 61)) → whole (neg_ℤ (pos (2 ^ 81))) ≼ whole sx.lo
          from k = order_from fractions (whole sx.lo ∷ n ∷ whole (pos (2 ^ 61)) ∷ whole (pos (2 ^ 20)) ∷ whole (pos (2 ^ 81)) ∷ whole (neg_ℤ (pos (2 ^ 81))) ∷ [])
              ((unit, opposite (var 1 :* var 3), var 0) ∷ (var 3, var 1, var 2) ∷ (unit, var 5, opposite (var 4)) ∷ (opposite unit, var 4, var 2 :* var 3) ∷ [])
              (at_most near_sx.from (scaled (Order.nonnegative_positive fractions (positive-unit 20)) k (equal (whole-negative (pos (2 ^ 81))) (equal (whole-mul (pos (2 ^ 61)) (pos (2 ^ 20))) no_more)))) (var 5) (var 0) refl

          low_below : (z : ℤ) → neg_ℤ (pos (2 ^ 81)) ≤ℤ z → z ≤ℤ pos (2 ^ 81) → unsigned_abs z < 2 ^ 83
          low_below z h k = omega (arith, ints)
