use Rattle.std.proofs.Common.{rules, arith, ◌-ℤ◌}
use Rattle.outward_interval.specs.Ends.{EndsBelow, least_product, greatest_product}
use Rattle.outward_interval.proofs.Quotients.{least_ends-unique}
use Rattle.outward_interval.proofs.tests.residual.Goals as goal

pub excess-requires-clause-less_moment : goal.excess-requires-clause-less_moment
excess-requires-clause-less_moment c p gives =
    let same = least_ends-unique (least_product c.args.x_end.lo c.args.x_end.hi c.args.volume.lo c.args.volume.hi) (greatest_product c.args.x_end.lo c.args.x_end.hi c.args.volume.lo c.args.volume.hi) 1 c.mul-product.result.lo c.mul-product.result.hi p.lo p.hi (omega arith) c.mul-product.ensures gives in
    let small : EndsBelow 126 (c.mul-product.result.lo -ℤ c.args.moment.hi) (c.mul-product.result.hi -ℤ c.args.moment.lo) = c.has_small_differences.ensures (search rules) in
    rw (same.0, same.1) small

pub excess-requires-clause-less_owed : goal.excess-requires-clause-less_owed
excess-requires-clause-less_owed c p d gives less =
    let same = least_ends-unique (least_product c.args.x_end.lo c.args.x_end.hi c.args.volume.lo c.args.volume.hi) (greatest_product c.args.x_end.lo c.args.x_end.hi c.args.volume.lo c.args.volume.hi) 1 c.mul-product.result.lo c.mul-product.result.hi p.lo p.hi (omega arith) c.mul-product.ensures gives in
    let small : EndsBelow 126 (c.sub-difference.result.lo -ℤ c.args.owed.hi) (c.sub-difference.result.hi -ℤ c.args.owed.lo) = c.has_small_differences-then-has_small_differences.ensures (search rules) in
    rw (less.low, less.high, same.0, same.1, ← c.sub-difference.ensures.low, ← c.sub-difference.ensures.high) small
