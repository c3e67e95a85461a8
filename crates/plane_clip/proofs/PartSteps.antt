-- Two divisions of one word give the long one.
use Rattle.std.proofs.Common.{◌≡◌, sym, ◌∙◌, ap, ℕ, ◌*◌, ◌+◌, ◌/◌, ◌%◌, ◌<◌, ◌≤◌, ◌^◌, arith}
use Rattle.std.proofs.lemmas.Nat.{div-add-mod'}
use Rattle.std.proofs.Math.Nat.{mul-add-div_right, div-le_of_le-mul}
use Rattle.plane_clip.specs.Rounded.{part}

pub in_two_steps : (a d : ℕ) → 0 < d → (a * 4194304) / d * 262144 + (a * 4194304) % d * 262144 / d ≡ (a * 1099511627776) / d
in_two_steps a d h = sym (mul-add-div_right h (q * 262144) (r * 262144)) ∙ ap (λ x. x / d) (joined q r (div-add-mod' (a * 4194304) d))
  where
    q : ℕ
    q = (a * 4194304) / d

    r : ℕ
    r = (a * 4194304) % d

    joined : (q r : ℕ) → q * d + r ≡ a * 4194304 → q * 262144 * d + r * 262144 ≡ a * 1099511627776
    joined q r e = omega (arith, e, ap (λ x. x * 262144) e)

pub quotient-most : (a b : ℕ) → 0 < a + b → (a * 1099511627776) / (a + b) ≤ 1099511627776
quotient-most a b h = div-le_of_le-mul (a + b) (omega arith)

pub part-most : (a b : ℕ) → part a b ≤ 2 ^ 40
unfolding part
part-most a b = div-le_of_le-mul (a + b) (omega arith)
