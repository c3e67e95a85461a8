use Rattle.hull_report.proofs.Texts.{read_as, bad_at}
use Rattle.hull_report.proofs.reading.lines_of.Goals as goal

pub returns-clause-only : goal.returns-clause-only
returns-clause-only c lines good e = read_as c.args.bytes.now c.all_lines.result lines c.all_lines.ensures good e

pub returns-clause-bad_only : goal.returns-clause-bad_only
returns-clause-bad_only c n first = bad_at c.args.bytes.now c.all_lines.result n c.all_lines.ensures first
