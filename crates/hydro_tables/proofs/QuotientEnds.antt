-- The ends of quotients: which they are, and how far they lie, by how small a moment is beside its divisor.
use Rattle.std.proofs.Common.{ℕ, ◌≡◌, sym, subst, ◌+◌, ◌*◌, ◌^◌, ◌<◌, ◌≤◌, ℤ, pos, negsuc, ◌*ℤ◌, ◌≤ℤ◌, ◌<ℤ◌, unsigned_abs, arith}
use Rattle.std.proofs.Math.Nat.{mul-le-mul_left, mul-le-mul_right, pow-le-pow_right}
use Rattle.std.proofs.lemmas.Int.{ints, unsigned_abs-mul}
use Rattle.std.proofs.lemmas.Nat.{pow-add}
use Rattle.flux_moments.proofs.ProductEnds.{floor_at_most, ceiling_at_most}
use Rattle.flux_moments.specs.Limits.{EndsAtMost}
use Rattle.exact_algebra.specs.Span.{IsFloor, IsCeiling}
use Rattle.outward_interval.proofs.Quotients.{le-times}
use Rattle.outward_interval.specs.declared.span.Span.{Span}
use Rattle.outward_interval.specs.Ends.{AreQuotientEnds, least_divisor, greatest_divisor}
use Rattle.hydro_tables.specs.Bounds.{IsSmallBeside}

-- a magnitude below c 2^reach, in units and over at least c, stays below 2^reach in units
below : (u c d power : ℕ) → u < c * power → c ≤ d → u * 1048576 < (power * 1048576) * d
below u c d power h k = omega (arith, h, mul-le-mul_right power k)

in_units : (reach : ℕ) (a : ℤ) (c d : ℕ) → unsigned_abs a < c * 2 ^ reach → c ≤ d → unsigned_abs (a *ℤ pos 1048576) < 2 ^ (reach + 20) * d
in_units reach a c d h k = subst (λ (n : ℕ). unsigned_abs (a *ℤ pos 1048576) < n * d) (sym (pow-add 2 reach 20))
    (subst (λ (n : ℕ). n < (2 ^ reach * 1048576) * d) (sym (unsigned_abs-mul a (pos 1048576))) (below (unsigned_abs a) c d (2 ^ reach) h k))

-- either divisor is at least the lower one
least_is : (n : ℤ) (c d : ℤ) → pos 1 ≤ℤ c → c ≤ℤ d → unsigned_abs c ≤ unsigned_abs (least_divisor n c d)
least_is (pos n) c d o h = omega (arith, ints)
least_is (negsuc n) c d o h = omega arith

greatest_is : (n : ℤ) (c d : ℤ) → pos 1 ≤ℤ c → c ≤ℤ d → unsigned_abs c ≤ unsigned_abs (greatest_divisor n c d)
greatest_is (pos n) c d o h = omega arith
greatest_is (negsuc n) c d o h = omega (arith, ints)

beside : (u power : ℕ) (c : ℤ) → pos 1 ≤ℤ c → pos u <ℤ (c *ℤ pos power) → u < unsigned_abs c * power
beside u power (pos c) o h = omega (arith, ints)
beside u power (negsuc c) o h = absurd (omega (arith, ints))

pub quotient_ends : (reach : ℕ) (a b c d lo hi : ℤ) → pos 1 ≤ℤ c → c ≤ℤ d → pos (unsigned_abs a) <ℤ (c *ℤ pos (2 ^ reach)) → pos (unsigned_abs b) <ℤ (c *ℤ pos (2 ^ reach))
    → AreQuotientEnds 20 a b c d lo hi → EndsAtMost (2 ^ (reach + 20)) lo hi
quotient_ends reach a b c d lo hi o order low high ends = record {
  low = floor_at_most (2 ^ (reach + 20)) (unsigned_abs (least_divisor a c d)) (a *ℤ pos 1048576) lo
      (in_units reach a (unsigned_abs c) (unsigned_abs (least_divisor a c d)) (beside (unsigned_abs a) (2 ^ reach) c o low) (least_is a c d o order)) ends.low;
  high = ceiling_at_most (2 ^ (reach + 20)) (unsigned_abs (greatest_divisor b c d)) (b *ℤ pos 1048576) hi
      (in_units reach b (unsigned_abs c) (unsigned_abs (greatest_divisor b c d)) (beside (unsigned_abs b) (2 ^ reach) c o high) (greatest_is b c d o order)) ends.high;
}

later : {a b c : ℤ} → a <ℤ b → b ≤ℤ c → a <ℤ c
later h k = omega (arith, ints)

-- a moment that is small beside the least divisor is small beside the one that it is taken by
by_least : (u k : ℕ) (n c d : ℤ) → c ≤ℤ d → pos u <ℤ (c *ℤ pos k) → pos u <ℤ (least_divisor n c d *ℤ pos k)
by_least u k (pos n) c d h l = later l (le-times k c d h)
by_least u k (negsuc n) c d h l = l

by_greatest : (u k : ℕ) (n c d : ℤ) → c ≤ℤ d → pos u <ℤ (c *ℤ pos k) → pos u <ℤ (greatest_divisor n c d *ℤ pos k)
by_greatest u k (pos n) c d h l = l
by_greatest u k (negsuc n) c d h l = later l (le-times k c d h)

pub small_by_least : (divisor : Span 20) (a n by : ℤ) → n ≡ a → by ≡ least_divisor n divisor.lo divisor.hi → pos (unsigned_abs a) <ℤ (divisor.lo *ℤ pos (2 ^ 94))
    → pos (unsigned_abs n) <ℤ (by *ℤ pos (2 ^ 94))
small_by_least divisor a n by e f h = subst (λ (z : ℤ). pos (unsigned_abs n) <ℤ (z *ℤ pos (2 ^ 94))) (sym f)
    (by_least (unsigned_abs n) (2 ^ 94) n divisor.lo divisor.hi divisor.ordered (subst (λ (z : ℤ). pos (unsigned_abs z) <ℤ (divisor.lo *ℤ pos (2 ^ 94))) (sym e) h))

pub small_by_greatest : (divisor : Span 20) (a n by : ℤ) → n ≡ a → by ≡ greatest_divisor n divisor.lo divisor.hi → pos (unsigned_abs a) <ℤ (divisor.lo *ℤ pos (2 ^ 94))
    → pos (unsigned_abs n) <ℤ (by *ℤ pos (2 ^ 94))
small_by_greatest divisor a n by e f h = subst (λ (z : ℤ). pos (unsigned_abs n) <ℤ (z *ℤ pos (2 ^ 94))) (sym f)
    (by_greatest (unsigned_abs n) (2 ^ 94) n divisor.lo divisor.hi divisor.ordered (subst (λ (z : ℤ). pos (unsigned_abs z) <ℤ (divisor.lo *ℤ pos (2 ^ 94))) (sym e) h))

-- it is small by a greater reach too
pub small_within : (reach : ℕ) (divisor moment : Span 20) → reach ≤ 94 → pos 1 ≤ℤ divisor.lo → IsSmallBeside reach divisor moment → IsSmallBeside 94 divisor moment
small_within reach divisor moment few some h = record { low = wider divisor.lo some h.low; high = wider divisor.lo some h.high }
  where
    some_base : 1 ≤ 2
    some_base = omega arith

    more : (u c : ℕ) → u < c * 2 ^ reach → u < c * 2 ^ 94
    more u c l = omega (arith, l, mul-le-mul_left c (pow-le-pow_right some_base few))

    wider : {u : ℕ} (c : ℤ) → pos 1 ≤ℤ c → pos u <ℤ (c *ℤ pos (2 ^ reach)) → pos u <ℤ (c *ℤ pos (2 ^ 94))
    wider {u} (pos c) o l = into (more u c (out l))
      where
        out : pos u <ℤ (pos c *ℤ pos (2 ^ reach)) → u < c * 2 ^ reach
        out l = omega (arith, ints)

        into : u < c * 2 ^ 94 → pos u <ℤ (pos c *ℤ pos (2 ^ 94))
        into l = omega (arith, ints)
    wider (negsuc c) o l = absurd (omega (arith, ints))

-- the floor by one divisor and the ceiling by the other are the ends of the quotients
pub are_quotient_ends : (a b c d low high least greatest from to : ℤ) {lo hi : ℤ} → low ≡ a → high ≡ b → least ≡ least_divisor low c d → greatest ≡ greatest_divisor high c d
    → IsFloor (low *ℤ pos 1048576) (unsigned_abs least) from → IsCeiling (high *ℤ pos 1048576) (unsigned_abs greatest) to → lo ≡ from → hi ≡ to → AreQuotientEnds 20 a b c d lo hi
are_quotient_ends a b c d low high least greatest from to {lo} {hi} is_low is_high is_least is_greatest floor ceiling e f = record {
  low = subst (λ (z : ℤ). IsFloor (a *ℤ pos 1048576) (unsigned_abs (least_divisor a c d)) z) (sym e)
      (subst (λ (z : ℤ). IsFloor (z *ℤ pos 1048576) (unsigned_abs (least_divisor z c d)) from) is_low (subst (λ (z : ℤ). IsFloor (low *ℤ pos 1048576) (unsigned_abs z) from) is_least floor));
  high = subst (λ (z : ℤ). IsCeiling (b *ℤ pos 1048576) (unsigned_abs (greatest_divisor b c d)) z) (sym f)
      (subst (λ (z : ℤ). IsCeiling (z *ℤ pos 1048576) (unsigned_abs (greatest_divisor z c d)) to) is_high (subst (λ (z : ℤ). IsCeiling (high *ℤ pos 1048576) (unsigned_abs z) to) is_greatest ceiling));
}
