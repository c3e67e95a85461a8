use Rattle.hull_cli.proofs.tables.tables_report.Goals as goal

pub returns-clause-reports : goal.returns-clause-reports
returns-clause-reports c = record {
  rows = c.in_ok-rows.rows.items;
  right = c.in_ok-rows.ensures.lines;
  whole = rw (c.deref.ensures.value, c.first_lines-first.ensures.lines) at c.in_ok-report_lines.ensures.lines;
}
