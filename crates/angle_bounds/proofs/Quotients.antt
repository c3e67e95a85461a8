-- The ends of the least span of two quotients are ends of a span.
use Rattle.std.proofs.Common.{ℕ, ◌+◌, ◌-◌, ◌*◌, ◌/◌, ◌<◌, ◌≤◌, ◌^◌, to_z, arith}
use Rattle.std.proofs.Math.Nat.{div-le_self, div-mul-le_self, le_of_mul-le-mul_left, mul-le-mul_right}
use Rattle.std.proofs.lemmas.Nat.{le-div}
use Rattle.std.proofs.lemmas.Int.{ints}
use Rattle.std.specs.Int.{w128}
use Rattle.outward_interval.specs.Kept.{IsSpan}

is_span : (a b : ℕ) → a ≤ b → b < 2 ^ 126 → IsSpan 40 (to_z w128 a) (to_z w128 b)
is_span a b order small = record { ordered = omega (arith, ints); low = omega (arith, ints); high = omega (arith, ints); scaled = omega arith }

-- the floor of a quotient and the ceiling of one that is as great, in units 2^-40
pub quotients-are_span : (n d m e : ℕ) → 1 ≤ d → 1 ≤ e → m ≤ 2 ^ 49 → e ≤ 2 ^ 49 → n * e ≤ m * d → IsSpan 40 (to_z w128 (n * 2 ^ 40 / d)) (to_z w128 ((m * 2 ^ 40 + (e - 1)) / e))
quotients-are_span n d m e some more small few order = is_span _ _ (le-div (n * 2 ^ 40 / d) _ e more (omega (arith, less))) (omega (arith, div-le_self (m * 2 ^ 40 + (e - 1)) e))
  where
    less : n * 2 ^ 40 / d * e ≤ m * 2 ^ 40
    less = le_of_mul-le-mul_left {k = d} (omega (arith, mul-le-mul_right e (div-mul-le_self (n * 2 ^ 40) d), order)) some
