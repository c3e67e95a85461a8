use Rattle.std.proofs.Common.{◌^◌, unsigned_abs}
use Rattle.std.proofs.lemmas.Int.{to_z-of_z}
use Rattle.std.specs.Int.{w128}
use mir.Val.{SFits}
use Rattle.outward_interval.proofs.Narrow.{narrow-multiple}
use Rattle.dynamic_lever.proofs.Ends.{multiple_at_most}
use Rattle.dynamic_lever.proofs.centre.times.Goals as goal

pub returns-clause-contains : goal.returns-clause-contains
returns-clause-contains c x h =
    let moment : SFits w128 c.args.moment = c.ranges.moment in
    simp to_z-of_z at (c.times_whole.ensures.contains x h)

pub returns-clause-narrow : goal.returns-clause-narrow
returns-clause-narrow c e h =
    let moment : SFits w128 c.args.moment = c.ranges.moment in
    narrow-multiple (unsigned_abs c.args.moment) (simp to_z-of_z at c.times_whole.ensures.width) h

pub returns-clause-ends : goal.returns-clause-ends
returns-clause-ends c =
    let moment : SFits w128 c.args.moment = c.ranges.moment in
    multiple_at_most (2 ^ 40) (2 ^ 55) c.args.moment c.requires.ratio c.requires.moment (simp to_z-of_z at c.times_whole.ensures.ends)
