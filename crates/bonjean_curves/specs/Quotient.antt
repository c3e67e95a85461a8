-- Fractions as quotients of natural numbers.
use Rattle.std.specs.Prelude.{◌≡◌, ℕ, pos}
use Rattle.exact_algebra.proofs.Fraction.{Fraction, ◌⊗◌}
use Rattle.exact_algebra.proofs.Whole.{whole}

-- x is n / d, where d is above 0
pub record IsQuotient (x : Fraction) (n d : ℕ) : Type 0 where
  pub product : x ⊗ whole (pos d) ≡ whole (pos n)
