-- The product fits, so its bits have its value.
use Rattle.std.proofs.Common.{◌*ℤ◌, unsigned_abs, ℤ, pos, negsuc, ◌≤ℤ◌, ◌≤◌, ◌^◌, arith}
use Rattle.std.proofs.lemmas.Int.{fits_signed_mul, ints, to_z-of_z}
use Rattle.std.specs.Int.{w128}
use mir.Val.{SFits}
use Rattle.exact_fraction.specs.Bounds.{IsRatio}
use Rattle.exact_fraction.proofs.comparison.product.Goals as goal

product_fits : (num den : ℤ) → IsRatio num den → SFits w128 (num *ℤ den)
product_fits num den h = fits_signed_mul w128 num den (2 ^ 90) (2 ^ 36) (omega (arith, h.size)) (below den h.positive h.most) (omega arith)
  where
    below : (z : ℤ) → pos 1 ≤ℤ z → z ≤ℤ pos (2 ^ 36) → unsigned_abs z ≤ 2 ^ 36
    below (pos n) h k = omega (arith, ints)
    below (negsuc n) h k = absurd (omega (arith, ints))

pub returns : goal.returns
returns c =
    let num : SFits w128 c.args.num = c.ranges.num in
    let den : SFits w128 c.args.den = c.ranges.den in
    let whole : SFits w128 (c.args.num *ℤ c.args.den) = product_fits c.args.num c.args.den c.requires in
    simp to_z-of_z
