-- No leg of a direction is longer than its radius.
use Rattle.std.proofs.Common.{◌≡◌, ℕ, ◌+◌, ◌*◌, ◌<◌, ◌≤◌, arith}
use Rattle.std.proofs.Math.Nat.{mul-le-mul_left, mul-le-mul_right}

not_less : {a b : ℕ} → ((b < a) → ⊥) → a ≤ b
not_less n = omega (arith, n)

-- a number is at most another whose square is as great
pub le_of-square : (a b : ℕ) → a * a ≤ b * b → a ≤ b
le_of-square a b h = not_less (λ k. omega (arith, h, k, mul-le-mul_left a k, mul-le-mul_right b k))

pub legs : (c s r : ℕ) → c * c + s * s ≡ r * r → (c ≤ r) × (s ≤ r)
legs c s r h = (le_of-square c r (omega (arith, h)), le_of-square s r (omega (arith, h)))
