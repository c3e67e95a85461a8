use Rattle.std.proofs.Common.{unsigned_abs}
use Rattle.std.proofs.lemmas.Int.{to_z-of_z}
use Rattle.std.specs.Int.{w128}
use mir.Val.{SFits}
use Rattle.flux_moments.proofs.StripQuotients.{turned_ends, turned_narrow, divisor-positive}
use Rattle.flux_moments.proofs.strip_sums.turned.Goals as goal

pub returns-clause-ends : goal.returns-clause-ends
returns-clause-ends c most h =
    let n : SFits w128 c.args.n = c.ranges.n in
    let d : SFits w128 c.args.divisor = c.ranges.divisor in
    turned_ends c.times_whole.result.lo c.times_whole.result.hi c.over_whole.result.lo c.over_whole.result.hi
    c.args.n (unsigned_abs c.args.divisor) (divisor-positive c.args.divisor c.requires.divisor) c.requires.part
    (simp to_z-of_z at c.times_whole.ensures.ends) (simp to_z-of_z at c.over_whole.ensures.ends) c.rescale.ensures.ends most h

pub returns-clause-contains : goal.returns-clause-contains
returns-clause-contains c x h =
    let n : SFits w128 c.args.n = c.ranges.n in
    let d : SFits w128 c.args.divisor = c.ranges.divisor in
    simp to_z-of_z at (c.rescale.ensures.contains _ (c.over_whole.ensures.contains _ (c.times_whole.ensures.contains x h)))

pub returns-clause-narrow : goal.returns-clause-narrow
returns-clause-narrow c e most narrow h =
    let n : SFits w128 c.args.n = c.ranges.n in
    let d : SFits w128 c.args.divisor = c.ranges.divisor in
    turned_narrow c.times_whole.result.lo c.times_whole.result.hi c.over_whole.result.lo c.over_whole.result.hi
    c.args.n (unsigned_abs c.args.divisor) (divisor-positive c.args.divisor c.requires.divisor) c.args.part.ordered
    (simp to_z-of_z at c.times_whole.ensures.width) (simp to_z-of_z at c.over_whole.ensures.width) c.rescale.ensures.width e most narrow h
