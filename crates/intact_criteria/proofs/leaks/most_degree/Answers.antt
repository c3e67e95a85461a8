use Rattle.std.proofs.Common.{arith}
use Rattle.intact_criteria.specs.Readings.{leaks_of}
use Rattle.intact_criteria.proofs.LeakSteps.{most_before, most_of_all}
use Rattle.intact_criteria.proofs.leaks.most_degree.Goals as goal

pub returns-then-some_passes-clause-most : goal.returns-then-some_passes-clause-most
returns-then-some_passes-clause-most c = most_before (leaks_of c.args.brackets.now c.args.arms.now c.args.openings.now) c.loop-degree.degree c.saturating_sub.result (omega arith) c.saturating_sub.ensures
    (c.some_passes.ensures.0 c.if-some_passes.true) c.loop-degree.invariant

pub returns-clause-most : goal.returns-clause-most
returns-clause-most c = most_of_all (leaks_of c.args.brackets.now c.args.arms.now c.args.openings.now) c.loop-degree.degree (omega arith) c.loop-degree.invariant
