-- Digits of a number, one by one.
use Rattle.std.proofs.Common.{◌≡◌, ◌<◌, ◌+◌, ◌-◌, ◌/◌, ◌%◌, ◌++◌, [], ◌∷◌, ℕ, zero, suc, refl, arith}
use Rattle.outward_interval.specs.Text.{last_digits}

-- the last digits of a number are those of its tenth, and then its last digit
pub last_digits_more : (k n : ℕ) → 0 < k → last_digits k n ≡ last_digits (k - 1) (n / 10) ++ (48 + n % 10) ∷ []
last_digits_more zero n h = absurd (omega arith)
last_digits_more (suc k) n h =
    let e : suc k - 1 ≡ k = omega arith in
    rw e refl
