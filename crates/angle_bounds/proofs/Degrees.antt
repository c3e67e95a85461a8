-- Degrees rise with the direction, and the direction with its number.
use Rattle.std.proofs.Common.{◌≡◌, ℕ, zero, suc, ◌+◌, ◌*◌, ◌<◌, ◌≤◌, ◌⊎◌, pos, refl, ◌∙◌, ap, arith}
use mathlib.Core.Logic.{inl, inr}
use Rattle.std.proofs.Math.Nat.{mul-le-mul_left}
use Rattle.std.proofs.lemmas.Int.{ints}
use Rattle.angle_bounds.specs.Directions.{IsDirection}
use Rattle.angle_bounds.specs.Degrees.{DegreesRise}
use Rattle.angle_bounds.proofs.Remainders.{Remainder, remainder, power_is, positive}
use Rattle.angle_bounds.proofs.Rising.{IsBefore, remainder_rises}

-- a direction has a leg
pub some_leg : (c s r : ℕ) → IsDirection c s r → 0 < c + s
some_leg zero zero r d = omega (arith, d.square, mul-le-mul_left r d.positive, d.positive)
some_leg zero (suc s) r d = omega arith
some_leg (suc c) s r d = omega arith

no_part : (n a m b : ℕ) → 0 < b → n * b ≤ m * a → m ≡ 0 → n ≡ 0
no_part zero a m b some h e = refl
no_part (suc n) a m b some h e = absurd (omega (arith, h, ap (λ t. t * a) e, mul-le-mul_left (suc n) some))

nought_is : (n : ℕ) → pos n ≡ pos 0 → n ≡ 0
nought_is n e = omega (arith, ints, e)

at_most_before : (k : ℕ) (w v : Remainder) → 0 < v.re → IsBefore w v → (v.turns < k) ⊎ ((v.turns ≡ k) × (pos v.im ≡ pos 0)) → (w.turns < k) ⊎ ((w.turns ≡ k) × (pos w.im ≡ pos 0))
at_most_before k w v some (inl h) (inl m) = inl (omega (arith, h, m))
at_most_before k w v some (inl h) (inr m) = inl (omega (arith, h, m.0))
at_most_before k w v some (inr h) (inl m) = inl (omega (arith, h.0, m))
at_most_before k w v some (inr h) (inr m) = inr (h.0 ∙ m.0, ap pos (no_part w.im w.re v.im v.re some h.1 (nought_is v.im m.1)))

at_least_before : (k : ℕ) (w v : Remainder) → IsBefore w v → k ≤ w.turns → k ≤ v.turns
at_least_before k w v (inl h) m = omega (arith, h, m)
at_least_before k w v (inr h) m = omega (arith, h.0, m)

pub degrees_rise : DegreesRise
degrees_rise k c s r x y z d e h =
    let before = remainder_rises c s x y (some_leg c s r d) (some_leg x y z e) h 90 in
    rw (power_is 90 c s, power_is 90 x y) (
      at_least_before k (remainder 90 c s) (remainder 90 x y) before,
      at_most_before k (remainder 90 c s) (remainder 90 x y) (positive 90 x y (some_leg x y z e)) before,
    )
