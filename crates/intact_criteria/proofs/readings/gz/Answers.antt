use Rattle.intact_criteria.specs.Readings.{HasEnds, gz_at}
use Rattle.intact_criteria.proofs.ReadRows.{gz_read, ends_below}
use Rattle.intact_criteria.proofs.SmallArms.{gz_small}
use Rattle.intact_criteria.proofs.readings.gz.Goals as goal

pub returns-clause-ends : goal.returns-clause-ends
returns-clause-ends c = gz_read c.args.arms.now c.args.side c.args.degree c.arm_at.result.now c.arm_at.ensures.row c.of_side.result c.of_side.ensures

pub returns-clause-small : goal.returns-clause-small
returns-clause-small c small =
    let ends : HasEnds (gz_at c.args.arms.now c.args.side c.args.degree) c.of_side.result
    = gz_read c.args.arms.now c.args.side c.args.degree c.arm_at.result.now c.arm_at.ensures.row c.of_side.result c.of_side.ensures in
    ends_below 95 (gz_at c.args.arms.now c.args.side c.args.degree) c.of_side.result ends (gz_small c.args.arms.now c.arm_at.ensures.count small c.args.side c.args.degree c.requires)
