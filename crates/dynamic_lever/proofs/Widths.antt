-- How wide levers and heights are.
use Rattle.std.proofs.Common.{refl, sym, subst, ◌*◌, ◌^◌, ◌<◌, ◌≤◌, ℤ, pos, ◌-ℤ◌, ◌+ℤ◌, ◌*ℤ◌, ◌≤ℤ◌, ◌<ℤ◌, [], ◌∷◌, arith}
use Rattle.std.proofs.lemmas.Int.{ints}
use Rattle.exact_algebra.specs.Expression.{var, unit, number, ◌:+◌, ◌:*◌}
use Rattle.exact_algebra.specs.Span.{IsLeastSpan}
use Rattle.exact_algebra.proofs.Fraction.{Fraction, ◌⊕◌, ◌⊗◌, fractions}
use Rattle.exact_algebra.proofs.Order as Order
use Rattle.exact_algebra.proofs.Order.{order_from, no_more, at_most, scaled, equal}
use Rattle.exact_algebra.proofs.Span.{IsLeastSpanOf, least_span_over_out}
use Rattle.exact_algebra.proofs.Whole.{whole-sub, whole-≼, whole-≺_out, over_is}
use Rattle.hull_model.specs.declared.water.Water.{Water}
use Rattle.loading_sheet.specs.Centre.{z_g}
use Rattle.loading_sheet.specs.declared.loading.Loading.{Loading}
use Rattle.outward_interval.specs.Ends.{AreEnds, AreLeastEnds}
use Rattle.outward_interval.specs.Widths.{unit_of, units, IsNarrow}
use Rattle.outward_interval.proofs.Narrow.{nonnegative-unit_of, units-in, narrow-wider, narrow-difference}
use Rattle.flux_moments.specs.Limits.{EndsAtMost}
use Rattle.flux_moments.proofs.TotalWidths.{sixteen}
use Rattle.dynamic_lever.specs.Levers.{over_volume, distance_of_centre, quotient_bound, lever_bound}
use Rattle.dynamic_lever.proofs.Ends.{quotient_ends}

module _ (loading : Loading) (water : Water) where
  pub quotient_within : (w : Fraction) {lo hi : ℤ} → IsNarrow 20 (over_volume loading water w ⊕ units 20 3) lo hi → IsNarrow 20 (quotient_bound loading water w) lo hi
  quotient_within w h = narrow-wider (order_from fractions (over_volume loading water w ∷ unit_of 20 ∷ unit_of 16 ∷ []) ((number 13, number 0, var 1) ∷ (unit, number 16 :* var 1, var 2) ∷ [])
      (scaled (Order.nonnegative-number fractions 13) (Order.nought-≼ fractions (nonnegative-unit_of 20)) (equal (sym sixteen) no_more)) (var 0 :+ number 3 :* var 1) (var 0 :+ var 2) refl) h

  pub gz_narrow : (w e : Fraction) {a b c d lo hi : ℤ} → AreEnds (a -ℤ d) (b -ℤ c) lo hi → IsNarrow 20 (over_volume loading water w ⊕ units 20 3) a b → IsNarrow 20 (distance_of_centre loading ⊗ e ⊕ units 20 4) c d → IsNarrow 20 (lever_bound loading water w e) lo hi
  gz_narrow w e are h k = narrow-wider (order_from fractions (over_volume loading water w ∷ (distance_of_centre loading ⊗ e) ∷ unit_of 20 ∷ unit_of 16 ∷ []) ((number 9, number 0, var 2) ∷ (unit, number 16 :* var 2, var 3) ∷ [])
      (scaled (Order.nonnegative-number fractions 9) (Order.nought-≼ fractions (nonnegative-unit_of 20)) (equal (sym sixteen) no_more))
      ((var 0 :+ number 3 :* var 2) :+ (var 1 :+ number 4 :* var 2)) ((var 0 :+ var 1) :+ var 3) refl) (narrow-difference are h k)

  pub separation_narrow : (w e : Fraction) {a b c d lo hi : ℤ} → AreEnds (a -ℤ d) (b -ℤ c) lo hi → IsNarrow 20 (distance_of_centre loading ⊗ e ⊕ units 20 4) a b → IsNarrow 20 (over_volume loading water w ⊕ units 20 3) c d → IsNarrow 20 (lever_bound loading water w e) lo hi
  separation_narrow w e are h k = narrow-wider (order_from fractions (over_volume loading water w ∷ (distance_of_centre loading ⊗ e) ∷ unit_of 20 ∷ unit_of 16 ∷ []) ((number 9, number 0, var 2) ∷ (unit, number 16 :* var 2, var 3) ∷ [])
      (scaled (Order.nonnegative-number fractions 9) (Order.nought-≼ fractions (nonnegative-unit_of 20)) (equal (sym sixteen) no_more))
      ((var 1 :+ number 4 :* var 2) :+ (var 0 :+ number 3 :* var 2)) ((var 0 :+ var 1) :+ var 3) refl) (narrow-difference are h k)

  pub gm_narrow : (w v : Fraction) {lo hi : ℤ} → IsNarrow 20 (((over_volume loading water w ⊕ units 20 3) ⊕ (over_volume loading water v ⊕ units 20 3)) ⊕ units 20 2) lo hi → IsNarrow 20 (quotient_bound loading water w ⊕ quotient_bound loading water v) lo hi
  gm_narrow w v h = narrow-wider (order_from fractions (over_volume loading water w ∷ over_volume loading water v ∷ unit_of 20 ∷ unit_of 16 ∷ []) ((number 24, number 0, var 2) ∷ (number 2, number 16 :* var 2, var 3) ∷ [])
      (scaled (Order.nonnegative-number fractions 24) (Order.nought-≼ fractions (nonnegative-unit_of 20)) (equal (sym sixteen) no_more))
      (((var 0 :+ number 3 :* var 2) :+ (var 1 :+ number 3 :* var 2)) :+ number 2 :* var 2) ((var 0 :+ var 3) :+ (var 1 :+ var 3)) refl) h

-- ---- a least span
pub least_narrow : {lo hi : ℤ} (x : Fraction) → IsLeastSpanOf 20 lo hi x → IsNarrow 20 (units 20 2) lo hi
least_narrow {lo} {hi} x h = record { width = Order.≼_trans fractions (Order.≼_same fractions (sym (whole-sub hi lo))) (Order.≼_trans fractions (whole-≼ close) (Order.≼_same fractions (sym (units-in 20 2)))) }
  where
    near : (hi -ℤ pos 1) <ℤ (lo +ℤ pos 1)
    near = whole-≺_out (hi -ℤ pos 1) (lo +ℤ pos 1) (Order.≺_trans fractions h.high.before h.low.next)

    close : (hi -ℤ lo) ≤ℤ pos 2
    close = omega (arith, ints, near)

pub kg_ends : (loading : Loading) {lo hi : ℤ} → IsLeastSpanOf 20 lo hi (z_g loading) → EndsAtMost (2 ^ 75) lo hi
kg_ends loading {lo} {hi} h = quotient_ends (2 ^ 75) loading.mass some small least
  where
    some : 0 < loading.mass
    some = omega (arith, loading.limits.some)

    ratio : IsLeastSpan 20 lo hi (pos loading.mz) loading.mass
    ratio = least_span_over_out (pos loading.mz) loading.mass some (subst (λ (x : Fraction). IsLeastSpanOf 20 lo hi x) (sym (over_is (pos loading.mz) loading.mass some)) h)

    least : AreLeastEnds (pos loading.mz *ℤ pos (2 ^ 20)) (pos loading.mz *ℤ pos (2 ^ 20)) loading.mass lo hi
    least = record { low = ratio.low; high = ratio.high }

    within : loading.mz * 2 ^ 20 ≤ 2 ^ 75 * loading.mass
    within = omega (arith, loading.limits.height, loading.limits.some)

    small : EndsAtMost (2 ^ 75 * loading.mass) (pos loading.mz *ℤ pos (2 ^ 20)) (pos loading.mz *ℤ pos (2 ^ 20))
    small = record { low = within; high = within }
