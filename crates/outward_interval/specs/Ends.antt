-- The ends of what operators on spans give.
use Rattle.std.specs.Prelude.{◌≡◌, ℕ, ◌^◌, ℤ, pos, negsuc, ◌*ℤ◌}
use Rattle.std.specs.Int.RustNames.{unsigned_abs}
use Rattle.exact_fraction.specs.Bounds.{MagnitudeBelow}
use Rattle.exact_algebra.specs.Span.{IsFloor, IsCeiling}
use Rattle.exact_algebra.proofs.Products.{least_of, greatest_of}

-- both ends are below 2^bits in magnitude
pub record EndsBelow (bits : ℕ) (lo hi : ℤ) : Type 0 where
  pub low : MagnitudeBelow bits lo
  pub high : MagnitudeBelow bits hi

-- lo and hi are exactly these ends
pub record AreEnds (low_end high_end lo hi : ℤ) : Type 0 where
  pub low : lo ≡ low_end
  pub high : hi ≡ high_end

-- lo and hi are the ends of the least span of all from low_end / d to high_end / d, in units
pub record AreLeastEnds (low_end high_end : ℤ) (d : ℕ) (lo hi : ℤ) : Type 0 where
  pub low : IsFloor low_end d lo
  pub high : IsCeiling high_end d hi

-- the four products of an end of a, b and an end of c, d are below 2^bits in magnitude
pub record ProductsBelow (bits : ℕ) (a b c d : ℤ) : Type 0 where
  pub first : MagnitudeBelow bits (a *ℤ c)
  pub second : MagnitudeBelow bits (a *ℤ d)
  pub third : MagnitudeBelow bits (b *ℤ c)
  pub fourth : MagnitudeBelow bits (b *ℤ d)

-- the least and the greatest of the four products
abbrev pub least_product : ℤ → ℤ → ℤ → ℤ → ℤ
least_product a b c d = least_of (a *ℤ c) (a *ℤ d) (b *ℤ c) (b *ℤ d)

abbrev pub greatest_product : ℤ → ℤ → ℤ → ℤ → ℤ
greatest_product a b c d = greatest_of (a *ℤ c) (a *ℤ d) (b *ℤ c) (b *ℤ d)

-- which of the divisors c ≤ d, both above 0, gives the least quotient of a number, and which the greatest
abbrev pub least_divisor : ℤ → ℤ → ℤ → ℤ
least_divisor (pos n) c d = d
least_divisor (negsuc n) c d = c

abbrev pub greatest_divisor : ℤ → ℤ → ℤ → ℤ
greatest_divisor (pos n) c d = c
greatest_divisor (negsuc n) c d = d

-- lo and hi are the ends of the least span of scale F of all quotients of a number from a to b by one from c to d, c above 0
pub record AreQuotientEnds (F : ℕ) (a b c d lo hi : ℤ) : Type 0 where
  pub low : IsFloor (a *ℤ pos (2 ^ F)) (unsigned_abs (least_divisor a c d)) lo
  pub high : IsCeiling (b *ℤ pos (2 ^ F)) (unsigned_abs (greatest_divisor b c d)) hi
