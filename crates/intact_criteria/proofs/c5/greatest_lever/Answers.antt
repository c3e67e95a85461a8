use Rattle.std.proofs.Common.{rules}
use Rattle.intact_criteria.specs.Readings.{gz_at}
use Rattle.intact_criteria.proofs.LeverLaws.{found_to_fail, found_unsure}
use Rattle.intact_criteria.proofs.c5.greatest_lever.Goals as goal

pub returns-then-is_below : goal.returns-then-is_below
returns-then-is_below c = found_to_fail (gz_at c.args.arms.now c.args.side) c.first_greatest-lower_before.result c.first_greatest-upper_after.result
    c.first_greatest-lower_before.ensures c.first_greatest-upper_after.ensures (c.is_below.ensures.0 c.if-is_below.true)

pub returns-else-is_below : goal.returns-else-is_below
returns-else-is_below c = found_unsure (gz_at c.args.arms.now c.args.side) c.first_greatest-lower_before.result c.first_greatest-upper_before.result c.first_greatest-lower_after.result c.first_greatest-upper_after.result
    c.first_greatest-lower_before.ensures c.first_greatest-upper_before.ensures c.first_greatest-lower_after.ensures c.first_greatest-upper_after.ensures (search rules) (search rules)
