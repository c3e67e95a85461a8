-- Products of cosine and sine with the spans of a part of a face: how far their ends may lie, as those of whole numbers do.
use Rattle.std.proofs.Common.{ℕ, suc, ◌*◌, ◌^◌, ◌<◌, ◌≤◌, ℤ, pos, ◌+ℤ◌, ◌-ℤ◌, ◌*ℤ◌, unsigned_abs, refl, arith}
use Rattle.std.proofs.lemmas.Int.{ints, clamps, unsigned_abs-mul}
use Rattle.std.proofs.lemmas.Nat.{mul-le}
use Rattle.exact_algebra.proofs.Products.{least_of, greatest_of}
use Rattle.outward_interval.specs.declared.span.Span.{Span}
use Rattle.outward_interval.specs.Ends.{EndsBelow, AreLeastEnds, ProductsBelow, least_product, greatest_product}
use Rattle.plane_clip.proofs.QuotientSizes.{floor-size, ceiling-size}
use Rattle.flux_moments.specs.Limits.{EndsAtMost}
use Rattle.flux_moments.proofs.Heights.{sum_at_most, difference_at_most}
use Rattle.flux_moments.proofs.ProductEnds.{products_fit, at_most_less, at_most_below}

product_at_most : (M N : ℕ) (a c : ℤ) → unsigned_abs a ≤ M → unsigned_abs c ≤ N → unsigned_abs (a *ℤ c) ≤ M * N
product_at_most M N a c h k = omega (arith, unsigned_abs-mul a c, mul-le (unsigned_abs a) (unsigned_abs c) M N h k)

least_at_most : (B : ℕ) (p q r s : ℤ) → unsigned_abs p ≤ B → unsigned_abs q ≤ B → unsigned_abs r ≤ B → unsigned_abs s ≤ B → unsigned_abs (least_of p q r s) ≤ B
least_at_most B p q r s h i j k = omega (arith, ints, clamps)

greatest_at_most : (B : ℕ) (p q r s : ℤ) → unsigned_abs p ≤ B → unsigned_abs q ≤ B → unsigned_abs r ≤ B → unsigned_abs s ≤ B → unsigned_abs (greatest_of p q r s) ≤ B
greatest_at_most B p q r s h i j k = omega (arith, ints, clamps)

-- a span of parts of 1 in units of 2^-40, and a span whose ends are at most m units of 2^-20
module _ (m : ℕ) {a b c d : ℤ} (h : EndsAtMost (2 ^ 40) a b) (k : EndsAtMost m c d) where
  pub turned_fits : m < 2 ^ 60 → ProductsBelow 126 a b c d
  turned_fits few = products_fit (suc (2 ^ 40)) (suc m) (omega (arith, few)) (at_most_less (2 ^ 40) h) (at_most_less m k)

  pub turned_ends : {lo hi : ℤ} → AreLeastEnds (least_product a b c d) (greatest_product a b c d) (2 ^ 20) lo hi → EndsAtMost (2 ^ 20 * m) lo hi
  turned_ends {lo} {hi} e = record {
    low = floor-size (least_product a b c d) lo (2 ^ 20) (2 ^ 20 * m) (omega arith) (within (least_at_most (2 ^ 40 * m) (a *ℤ c) (a *ℤ d) (b *ℤ c) (b *ℤ d) p q r s)) e.low;
    high = ceiling-size (greatest_product a b c d) hi (2 ^ 20) (2 ^ 20 * m) (omega arith) (within (greatest_at_most (2 ^ 40 * m) (a *ℤ c) (a *ℤ d) (b *ℤ c) (b *ℤ d) p q r s)) e.high;
  }
    where
      p : unsigned_abs (a *ℤ c) ≤ 2 ^ 40 * m
      p = product_at_most (2 ^ 40) m a c h.low k.low

      q : unsigned_abs (a *ℤ d) ≤ 2 ^ 40 * m
      q = product_at_most (2 ^ 40) m a d h.low k.high

      r : unsigned_abs (b *ℤ c) ≤ 2 ^ 40 * m
      r = product_at_most (2 ^ 40) m b c h.high k.low

      s : unsigned_abs (b *ℤ d) ≤ 2 ^ 40 * m
      s = product_at_most (2 ^ 40) m b d h.high k.high

      within : {n : ℕ} → n ≤ 2 ^ 40 * m → n ≤ 2 ^ 20 * m * 2 ^ 20
      within i = omega (arith, i)

-- so many units are so many mm
pub in_mm : (n : ℕ) {lo hi : ℤ} → EndsAtMost (2 ^ 20 * (n * 2 ^ 20)) lo hi → EndsAtMost (2 ^ 40 * n) lo hi
in_mm n e = record { low = omega (arith, e.low); high = omega (arith, e.high) }

-- sums and differences of two of them
module _ {a b c d : ℤ} (h : EndsAtMost (2 ^ 40 * 65535) a b) (k : EndsAtMost (2 ^ 40 * 65535) c d) where
  pub heights_add : EndsBelow 126 (a +ℤ c) (b +ℤ d)
  heights_add = at_most_below (2 ^ 40 * 131070) 126 (omega arith) (sum_at_most 65535 65535 a b c d _ _ (omega arith) (omega arith) h k (record { low = refl; high = refl }))

  pub heights_subtract : EndsBelow 126 (a -ℤ d) (b -ℤ c)
  heights_subtract = at_most_below (2 ^ 40 * 131070) 126 (omega arith) (difference_at_most 65535 65535 a b c d _ _ (omega arith) (omega arith) h k (record { low = refl; high = refl }))

-- a span that is taken to another scale as it is
pub as_it_is : {F : ℕ} (s : Span F) → EndsBelow 126 (s.lo *ℤ pos 1) (s.hi *ℤ pos 1)
as_it_is s = small s.lo s.hi s.low s.high
  where
    small : (lo hi : ℤ) → unsigned_abs lo < 2 ^ 126 → unsigned_abs hi < 2 ^ 126 → EndsBelow 126 (lo *ℤ pos 1) (hi *ℤ pos 1)
    small lo hi h k = record { low = omega (arith, ints, h); high = omega (arith, ints, k) }
