-- The directions of numbers: they rise with the number, and a test that a number is that of a degree.
use Rattle.std.proofs.Common.{◌≡◌, ℕ, ◌+◌, ◌-◌, ◌*◌, ◌^◌, ◌<◌, ◌≤◌, ap, arith}
use Rattle.std.proofs.Math.Nat.{mul-le-mul_left, mul-le-mul}
use Rattle.angle_bounds.specs.Directions.{IsDirection, IsTriple, IsAtMost}
use Rattle.angle_bounds.specs.Degrees.{IsAtMostDegrees, last_number, c_of, s_of, r_of, IsNumberOf, NumbersRise}
use Rattle.angle_bounds.proofs.Degrees.{degrees_rise}

square : (p q c : ℕ) → c + q * q ≡ p * p → c * c + (2 * p * q) * (2 * p * q) ≡ (p * p + q * q) * (p * p + q * q)
square p q c e = omega (arith, ap (λ t. t * c) e, ap (λ t. t * (q * q)) e, ap (λ t. t * (p * p)) e)

less : (p q : ℕ) → q ≤ p → p * p - q * q + q * q ≡ p * p
less p q h = omega (arith, mul-le-mul h h)

is_direction : (p q : ℕ) → 0 < p → q ≤ p → IsDirection (p * p - q * q) (2 * p * q) (p * p + q * q)
is_direction p q some h = record { square = square p q (p * p - q * q) (less p q h); positive = omega (arith, mul-le-mul some some) }

is_at_most : (p q n : ℕ) → q ≤ n → n ≤ p → IsAtMost (p * p - q * q) (2 * p * q) (p * p - n * n) (2 * p * n)
is_at_most p q n h k = mul-le-mul (mul-le-mul_left (2 * p) h) (omega (arith, mul-le-mul h h))

pub numbers_rise : NumbersRise
numbers_rise q n h k = (is_direction last_number q (omega arith) (omega (arith, h, k)), is_at_most last_number q n h k)

pub direction_is : (q : ℕ) → q ≤ last_number → IsDirection (c_of q) (s_of q) (r_of q)
direction_is q h = is_direction last_number q (omega arith) h

pub is_triple : (p q : ℕ) → p ≡ 2 ^ 24 → q ≤ 2 ^ 24 → IsTriple (p * p - q * q) (2 * p * q) (p * p + q * q)
is_triple p q e h = record { direction = is_direction p q (omega (arith, e)) (omega (arith, e, h)); most = omega (arith, mul-le-mul h h, ap (λ t. t * p) e, e) }

-- a number whose direction is at most k degrees, but the next one's isn't, or there is none
pub is_number : (k q : ℕ) → q ≤ last_number → IsAtMostDegrees k (c_of q) (s_of q) → (q < last_number → IsAtMostDegrees k (c_of (q + 1)) (s_of (q + 1)) → ⊥) → IsNumberOf k q
is_number k q h at_most next = record {
  last = h;
  at_most = at_most;
  greatest = λ n few m. not_less (λ above.
      next (omega (arith, above, few))
      ((degrees_rise k (c_of (q + 1)) (s_of (q + 1)) (r_of (q + 1)) (c_of n) (s_of n) (r_of n) (direction_is (q + 1) (omega (arith, above, few))) (direction_is n few) (numbers_rise (q + 1) n (omega (arith, above)) few).1).1 m));
}
  where
    not_less : {a b : ℕ} → ((b < a) → ⊥) → a ≤ b
    not_less n = omega (arith, n)
