use Rattle.intact_criteria.specs.Readings.{HasEnds, separation_at}
use Rattle.intact_criteria.proofs.ReadRows.{separation_read, ends_below}
use Rattle.intact_criteria.proofs.SmallArms.{separation_small}
use Rattle.intact_criteria.proofs.readings.separation.Goals as goal

pub returns-clause-ends : goal.returns-clause-ends
returns-clause-ends c = separation_read c.args.arms.now c.args.side c.args.degree c.arm_at.result.now c.arm_at.ensures.row c.of_side.result c.of_side.ensures

pub returns-clause-small : goal.returns-clause-small
returns-clause-small c small =
    let ends : HasEnds (separation_at c.args.arms.now c.args.side c.args.degree) c.of_side.result
    = separation_read c.args.arms.now c.args.side c.args.degree c.arm_at.result.now c.arm_at.ensures.row c.of_side.result c.of_side.ensures in
    ends_below 95 (separation_at c.args.arms.now c.args.side c.args.degree) c.of_side.result ends (separation_small c.args.arms.now c.arm_at.ensures.count small c.args.side c.args.degree c.requires)
