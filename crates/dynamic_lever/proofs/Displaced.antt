-- Over the displaced volume: over 1000, times the density, and over the mass times 10^6.
use Rattle.std.proofs.Common.{◌≡◌, refl, sym, ◌∙◌, ap, ℕ, ◌*◌, ◌^◌, ◌<◌, ℤ, pos, ◌≤ℤ◌, ◌-ℤ◌, ◌+ℤ◌, ◌*ℤ◌, [], ◌∷◌, arith}
use Rattle.std.proofs.lemmas.Int.{ints}
use Rattle.exact_algebra.specs.Expression.{var, unit, number, opposite, ◌:+◌, ◌:*◌}
use Rattle.exact_algebra.specs.OrderedField.{above}
use Rattle.exact_algebra.proofs.Ring.{ring, ring_from, given, none}
use Rattle.exact_algebra.proofs.Fraction.{Fraction, ◌⊕◌, ◌⊗◌, inverse, sign, fractions, fraction_ring, ◌≼◌}
use Rattle.exact_algebra.proofs.Order as Order
use Rattle.exact_algebra.proofs.Order.{order_from, no_more, at_most, scaled, equal}
use Rattle.exact_algebra.proofs.Bounds as Bounds
use Rattle.exact_algebra.proofs.Whole.{whole, whole-add, whole-mul, whole-≼, positive-whole}
use Rattle.hull_model.specs.declared.water.Water.{Water}
use Rattle.loading_sheet.specs.Centre.{displaced}
use Rattle.loading_sheet.specs.declared.loading.Loading.{Loading}
use Rattle.outward_interval.specs.Widths.{unit_of, units, IsNarrow}
use Rattle.outward_interval.proofs.Narrow.{nonnegative-unit_of, narrow-wider, narrow-multiple, narrow-over}
use Rattle.dynamic_lever.specs.Levers.{over_volume}

module _ (loading : Loading) (water : Water) where
  abbrev M6 : Fraction
  M6 = whole (pos (loading.mass * 1000000))

  abbrev M9 : Fraction
  M9 = whole (pos (loading.mass * 10 ^ 9))

  abbrev T : Fraction
  T = whole (pos 1000)

  abbrev D : Fraction
  D = whole (pos water.density)

  some_mass : 0 < loading.mass
  some_mass = omega (arith, loading.limits.some)

  some_density : 0 < water.density
  some_density = omega (arith, water.limits.lightest)

  pub some_divisor : 0 < loading.mass * 1000000
  some_divisor = omega (arith, loading.limits.some)

  some_mass_times : 0 < loading.mass * 10 ^ 9
  some_mass_times = omega (arith, loading.limits.some)

  positive_D : sign D ≡ above
  positive_D = positive-whole water.density some_density

  positive_displaced : sign (displaced loading water) ≡ above
  positive_displaced = Order.positive-mul fractions (positive-whole (loading.mass * 10 ^ 9) some_mass_times) (Bounds.positive-inverse fractions positive_D)

  parted : M9 ≡ M6 ⊗ T
  parted = ap (λ (n : ℕ). whole (pos n)) same ∙ whole-mul (pos (loading.mass * 1000000)) (pos 1000)
    where
      same : loading.mass * 10 ^ 9 ≡ loading.mass * 1000000 * 1000
      same = omega arith

  pub quotient_is : (m : Fraction) → ((m ⊗ inverse T) ⊗ D) ⊗ inverse M6 ≡ over_volume loading water m
  quotient_is m = ring_from fraction_ring (m ∷ inverse T ∷ D ∷ inverse M6 ∷ inverse (displaced loading water) ∷ M9 ∷ M6 ∷ T ∷ inverse D ∷ [])
      ((opposite (((var 0 :* var 1) :* var 2) :* var 3), (var 5 :* var 8) :* var 4, unit)
      ∷ (((((var 0 :* var 1) :* var 2) :* var 3) :* var 8) :* var 4, var 5, var 6 :* var 7)
      ∷ (((((var 0 :* var 4) :* var 3) :* var 6) :* var 2) :* var 8, var 7 :* var 1, unit)
      ∷ ((((var 0 :* var 4) :* var 2) :* var 8), var 6 :* var 3, unit)
      ∷ (var 0 :* var 4, var 2 :* var 8, unit) ∷ [])
      (given (Bounds.mul-inverse_positive fractions positive_displaced) (given parted (given (Bounds.mul-inverse_positive fractions (positive-whole 1000 (omega arith)))
      (given (Bounds.mul-inverse_positive fractions (positive-whole (loading.mass * 1000000) some_divisor)) (given (Bounds.mul-inverse_positive fractions positive_D) none)))))
      (((var 0 :* var 1) :* var 2) :* var 3) (var 0 :* var 4) refl

  -- ---- how wide
  divided_again : (w : Fraction) → (w ⊗ inverse T) ⊗ D ≡ over_volume loading water w ⊗ M6
  divided_again w = ring_from fraction_ring (w ∷ inverse T ∷ D ∷ inverse M6 ∷ over_volume loading water w ∷ M6 ∷ [])
      ((opposite ((var 0 :* var 1) :* var 2), var 5 :* var 3, unit) ∷ (var 5, ((var 0 :* var 1) :* var 2) :* var 3, var 4) ∷ [])
      (given (Bounds.mul-inverse_positive fractions (positive-whole (loading.mass * 1000000) some_divisor)) (given (quotient_is w) none))
      ((var 0 :* var 1) :* var 2) (var 4 :* var 5) refl

  twice : D ⊕ D ≼ M6
  twice = Order.≼_trans fractions (Order.≼_same fractions (sym (whole-add D' D'))) (whole-≼ few)
    where
      D' : ℤ
      D' = pos water.density

      few : (pos water.density +ℤ pos water.density) ≤ℤ pos (loading.mass * 1000000)
      few = omega (arith, ints, water.limits.heaviest, loading.limits.some)

  module _ (a b a1 b1 a2 b2 lo hi : ℤ) (first : ((b1 -ℤ a1) *ℤ pos 1000) ≤ℤ ((b -ℤ a) +ℤ pos (2 * 1000))) (second : b2 -ℤ a2 ≡ pos water.density *ℤ (b1 -ℤ a1))
      (third : ((hi -ℤ lo) *ℤ pos (loading.mass * 1000000)) ≤ℤ ((b2 -ℤ a2) +ℤ pos (2 * (loading.mass * 1000000)))) where
    pub quotient_narrow : (w : Fraction) → IsNarrow 20 w a b → IsNarrow 20 (over_volume loading water w ⊕ units 20 3) lo hi
    quotient_narrow w h =
        let one_part : IsNarrow 20 (w ⊗ inverse T ⊕ units 20 2) a1 b1 = narrow-over (w ⊗ inverse T) 1000 (omega arith) first h (Order.≼_same fractions (ring_from fraction_ring (w ∷ T ∷ inverse T ∷ []) ((opposite (var 0), var 1 :* var 2, unit) ∷ [])
        (given (Bounds.mul-inverse_positive fractions (positive-whole 1000 (omega arith))) none) (var 0) ((var 0 :* var 2) :* var 1) refl)) in
        let times : IsNarrow 20 ((w ⊗ inverse T ⊕ units 20 2) ⊗ D) a2 b2 = narrow-multiple water.density second one_part in
        let divided : IsNarrow 20 ((over_volume loading water w ⊕ units 20 1) ⊕ units 20 2) lo hi = narrow-over (over_volume loading water w ⊕ units 20 1) (loading.mass * 1000000) some_divisor third times
        (order_from fractions ((w ⊗ inverse T) ∷ D ∷ over_volume loading water w ∷ M6 ∷ unit_of 20 ∷ []) ((unit, var 0 :* var 1, var 2 :* var 3) ∷ (var 4, var 1 :+ var 1, var 3) ∷ [])
        (equal (divided_again w) (scaled (nonnegative-unit_of 20) twice no_more)) ((var 0 :+ number 2 :* var 4) :* var 1) ((var 2 :+ number 1 :* var 4) :* var 3) refl) in
        narrow-wider (Order.≼_same fractions (ring fraction_ring (over_volume loading water w ∷ unit_of 20 ∷ []) ((var 0 :+ number 1 :* var 1) :+ number 2 :* var 1) (var 0 :+ number 3 :* var 1) refl)) divided
