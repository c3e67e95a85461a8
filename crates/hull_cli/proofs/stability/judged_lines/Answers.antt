use Rattle.intact_criteria.proofs.Rows.{rows_suffice}
use Rattle.hull_cli.proofs.Listed.{of_each_ok}
use Rattle.hull_cli.proofs.stability.judged_lines.Goals as goal

pub arm_lines-requires : goal.arm_lines-requires
arm_lines-requires c = rows_suffice.small_arms c.args.faces.now c.args.loading.now c.args.job.now.water c.args.standing.now.arms c.args.standing.now.upright c.requires.rows

pub returns-clause-lines : goal.returns-clause-lines
returns-clause-lines c =
    let found = rw c.deref.ensures.value at c.finding_lines.ensures.lines in
    of_each_ok _ _ (λ lines found hull is are. record {
      arms = c.args.standing.now.arms;
      levers = c.in_ok-levers.levers.items;
      arm_lines = c.in_ok-levers.ensures.lines;
      found = found hull is are;
    }) c.finding_lines.result found
