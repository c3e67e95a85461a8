-- How far the ends of a span lie at a coarser scale.
use Rattle.std.proofs.Common.{◌*◌, ◌^◌, ◌<◌, ℤ, pos, ◌*ℤ◌, unsigned_abs, arith}
use Rattle.std.proofs.lemmas.Int.{unsigned_abs-mul}
use Rattle.flux_moments.proofs.ProductEnds.{floor_at_most, ceiling_at_most}
use Rattle.flux_moments.specs.Limits.{EndsAtMost}
use Rattle.outward_interval.specs.Ends.{EndsBelow, AreLeastEnds}

pub coarse_ends : (a b lo hi : ℤ) → EndsBelow 93 a b → AreLeastEnds (a *ℤ pos (2 ^ 10)) (b *ℤ pos (2 ^ 10)) (2 ^ 20) lo hi → EndsAtMost (2 ^ 83) lo hi
coarse_ends a b lo hi small ends = record {
  low = floor_at_most (2 ^ 83) (2 ^ 20) (a *ℤ pos (2 ^ 10)) lo (scaled a small.low) ends.low;
  high = ceiling_at_most (2 ^ 83) (2 ^ 20) (b *ℤ pos (2 ^ 10)) hi (scaled b small.high) ends.high;
}
  where
    scaled : (n : ℤ) → unsigned_abs n < 2 ^ 93 → unsigned_abs (n *ℤ pos (2 ^ 10)) < 2 ^ 83 * 2 ^ 20
    scaled n h = omega (arith, unsigned_abs-mul n (pos (2 ^ 10)), h)
