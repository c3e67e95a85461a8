-- That a span contains a number has one proof at most.
use Rattle.std.proofs.Common.{ℕ, ℤ, ◌≡◌}
use Rattle.exact_algebra.proofs.Fraction.{Fraction}
use Rattle.exact_algebra.proofs.Span.{ContainsFraction}
use Rattle.outward_interval.specs.Widths.{IsNarrow}

refused : {A : Type 0} (f g : A → ⊥) → f ≡ g
refused f g = λ i a. (apart a) i
  where
    apart : (a : _) → f a ≡ g a
    apart a = absurd (f a)

pub contains-prop : (F : ℕ) (lo hi : ℤ) (x : Fraction) → IsProp (ContainsFraction F lo hi x)
contains-prop F lo hi x c d = λ i. record { from = refused c.from d.from i; to = refused c.to d.to i }

-- and so has that it is narrow
pub narrow-prop : (F : ℕ) (w : Fraction) (lo hi : ℤ) → IsProp (IsNarrow F w lo hi)
narrow-prop F w lo hi c d = λ i. record { width = refused c.width d.width i }
