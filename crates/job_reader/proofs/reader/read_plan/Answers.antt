use Rattle.std.proofs.Common.{sym}
use Rattle.job_reader.proofs.PartsFacts.{plan_said}
use Rattle.job_reader.proofs.reader.read_plan.Goals as goal

pub returns-clause-plan : goal.returns-clause-plan
returns-clause-plan c =
    let found = rw c.in-Some.is at (sym c.value_at.ensures) in
    let is_table = rw c.in-Some-as_table.is at (sym c.as_table.ensures) in
    plan_said _ _ _ _ found is_table c.in_ok-plan_of.ensures.says
