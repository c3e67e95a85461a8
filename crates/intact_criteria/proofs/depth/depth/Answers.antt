use Rattle.std.proofs.Common.{sym, subst}
use Rattle.intact_criteria.specs.Readings.{Ends, HasEnds}
use Rattle.intact_criteria.proofs.ReadRows.{depth_read}
use Rattle.intact_criteria.proofs.depth.depth.Goals as goal

pub returns : goal.returns
returns c = subst (λ (ends : Ends). HasEnds ends c.depth_between.result)
    (sym (depth_read c.args.brackets.now c.args.arms.now c.args.openings.now c.args.place c.args.degree c.bracket_at.result.now c.arm_at.result.now c.opening_at.result.now c.bracket_at.ensures c.arm_at.ensures.row c.opening_at.ensures))
    c.depth_between.ensures
