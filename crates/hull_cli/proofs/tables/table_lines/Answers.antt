use Rattle.std.proofs.Common.{arith, ap, length}
use Rattle.hull_cli.proofs.Counts.{few_drafts, few_masses, few_lines}
use Rattle.hull_cli.proofs.Listed.{of_each_ok}
use Rattle.hull_cli.proofs.tables.table_lines.Goals as goal

pub returns-in_ok-hydro_lines-in-Hydro-clause-lines : goal.returns-in_ok-hydro_lines-in-Hydro-clause-lines
returns-in_ok-hydro_lines-in-Hydro-clause-lines c =
    let rows = rw c.as_slice-drafts.ensures at c.in_ok-hydro_lines-in-Hydro.ensures.lines in
    rw c.in-Hydro.is (rows c.args.hull.now c.requires.hull c.requires.faces)

pub returns-in_ok-bonjean_lines-in-Bonjean-clause-few : goal.returns-in_ok-bonjean_lines-in-Bonjean-clause-few
returns-in_ok-bonjean_lines-in-Bonjean-clause-few c =
    let drafts = c.args.job.now.drafts in
    let count = rw c.as_slice-drafts.ensures at c.in_ok-bonjean_lines-in-Bonjean.ensures.count in
    few_lines _ _ _ count (few_drafts c.args.job.now.margin drafts c.args.job.now.masses c.args.job.now.limits) c.requires.hull.few

pub returns-in-Cross-clause-few : goal.returns-in-Cross-clause-few
returns-in-Cross-clause-few c =
    let job = c.args.job.now in
    let masses = few_masses job.margin job.drafts job.masses job.limits in
    of_each_ok _ _ (λ lines count. omega (arith, count, ap length c.as_slice.ensures, masses)) c.cross_lines.result c.cross_lines.ensures.count
