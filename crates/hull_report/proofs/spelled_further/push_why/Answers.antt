use Rattle.hull_report.proofs.Spaced.{one_word}
use Rattle.hull_report.proofs.spelled_further.push_why.Goals as goal

pub returns-in-EndOfRange : goal.returns-in-EndOfRange
returns-in-EndOfRange c = rw c.in-EndOfRange.is (one_word c.push_name.result _ _ _ c.push_name.ensures)
