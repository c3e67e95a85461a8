use Rattle.hull_cli.proofs.Listed.{of_each_ok}
use Rattle.hull_cli.proofs.made.made_report.Goals as goal

pub returns-clause-reports : goal.returns-clause-reports
returns-clause-reports c =
    let whole = rw (c.deref.ensures.value, c.first_lines-first.ensures.lines) at c.report_lines.ensures.lines in
    of_each_ok _ _ (λ lines whole. record {
      job = c.in_ok-job.job;
      made = c.in_ok-job.ensures;
      rows = c.in_ok-rows.rows.items;
      right = rw c.in_ok-hull.ensures at c.in_ok-rows.ensures.lines;
      whole = rw c.in_ok-job.ensures.version at (rw c.in_ok-hull.ensures at whole);
    }) c.report_lines.result whole
