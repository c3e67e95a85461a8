-- How far the ends of the moment to change trim lie.
use Rattle.std.proofs.Common.{ℕ, ◌*◌, ◌^◌, ◌<◌, ◌≤◌, ℤ, ◌*ℤ◌, unsigned_abs, arith}
use Rattle.std.specs.Int.{int_min, int_max}
use Rattle.flux_moments.proofs.ProductEnds.{floor_at_most, ceiling_at_most, multiple_ends, less, at_most_below}
use Rattle.flux_moments.specs.Limits.{EndsLess}
use Rattle.outward_interval.specs.Ends.{EndsBelow, AreEnds, AreLeastEnds}

pub moment_ends : (n : ℤ) (length : ℕ) {a b p q lo hi : ℤ} → unsigned_abs n < 2 ^ 11 → 1 ≤ length → EndsBelow 115 a b
    → AreEnds (int_min (a *ℤ n) (b *ℤ n)) (int_max (a *ℤ n) (b *ℤ n)) p q → AreLeastEnds p q (10 ^ 14 * length) lo hi → EndsBelow 96 lo hi
moment_ends n length {a} {b} {p} {q} {lo} {hi} h some small are ends = at_most_below (2 ^ 95) 96 (omega arith) (record {
  low = floor_at_most (2 ^ 95) (10 ^ 14 * length) p lo (within times.low) ends.low;
  high = ceiling_at_most (2 ^ 95) (10 ^ 14 * length) q hi (within times.high) ends.high;
})
  where
    times : EndsLess (2 ^ 115 * 2 ^ 11) p q
    times = multiple_ends (2 ^ 115) (2 ^ 11) n (less 115 small) h are

    within : {k : ℕ} → k < 2 ^ 115 * 2 ^ 11 → k < 2 ^ 95 * (10 ^ 14 * length)
    within i = omega (arith, i, some)
