-- What quotients and joins of spans contain.
use Rattle.std.proofs.Common.{◌⊎◌, inl, inr, ℕ, ◌^◌, ◌<◌, ℤ, pos, negsuc, ◌≤ℤ◌, ◌<ℤ◌, unsigned_abs, arith}
use Rattle.std.specs.Int.{int_min, int_max}
use Rattle.std.proofs.lemmas.Int.{ints}
use Rattle.std.proofs.lemmas.Nat.{pow_pos}
use Rattle.exact_algebra.proofs.Fraction.{Fraction, ◌⊗◌, inverse}
use Rattle.exact_algebra.proofs.Span.{ContainsFraction, quotient_from, quotient_to}
use Rattle.exact_algebra.proofs.Products.{contains_over_whole, contains_joined_left, contains_joined_right}
use Rattle.exact_algebra.proofs.Whole.{whole}
use Rattle.outward_interval.specs.Ends.{AreEnds, AreLeastEnds, AreQuotientEnds}
use Rattle.outward_interval.proofs.Divisors.{floor-below_both, both-below_ceiling}

pub quotient_contains : (F : ℕ) (a b c d lo hi : ℤ) (x y : Fraction) → pos 1 ≤ℤ c → c ≤ℤ d → AreQuotientEnds F a b c d lo hi
    → ContainsFraction F a b x → ContainsFraction F c d y → ContainsFraction F lo hi (x ⊗ inverse y)
quotient_contains F a b c d lo hi x y h o ends p q =
    let low = floor-below_both a c d lo (2 ^ F) (pow_pos F) h o ends.low in
    let high = both-below_ceiling b c d hi (2 ^ F) (pow_pos F) h o ends.high in
    record { from = quotient_from lo (above c h) p q low.0 low.1; to = quotient_to hi (above c h) p q high.0 high.1 }
  where
    above : (c : ℤ) → pos 1 ≤ℤ c → pos 0 <ℤ c
    above c h = omega (arith, ints)

pub whole_quotient_contains : (F : ℕ) (a b n lo hi : ℤ) (x : Fraction) → pos 1 ≤ℤ n → AreLeastEnds a b (unsigned_abs n) lo hi
    → ContainsFraction F a b x → ContainsFraction F lo hi (x ⊗ inverse (whole n))
whole_quotient_contains F a b (pos k) lo hi x some ends h = contains_over_whole k (above some) h ends.low ends.high
  where
    above : {k : ℕ} → pos 1 ≤ℤ pos k → 0 < k
    above h = omega (arith, ints)
whole_quotient_contains F a b (negsuc k) lo hi x some ends h = absurd (omega (arith, ints))

pub joined_contains : (F : ℕ) (a b c d lo hi : ℤ) (x : Fraction) → AreEnds (int_min a c) (int_max b d) lo hi
    → ContainsFraction F a b x ⊎ ContainsFraction F c d x → ContainsFraction F lo hi x
joined_contains F a b c d lo hi x ends h = rw (ends.low, ends.high) (elim h [ inl k ↦ contains_joined_left a b c d k | inr k ↦ contains_joined_right a b c d k ])
