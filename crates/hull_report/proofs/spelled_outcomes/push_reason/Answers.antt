use Rattle.hull_report.proofs.Spaced.{one_word}
use Rattle.hull_report.proofs.spelled_outcomes.push_reason.Goals as goal

pub returns-in-EndOfShip : goal.returns-in-EndOfShip
returns-in-EndOfShip c = rw c.in-EndOfShip.is (one_word c.push_name-in-EndOfShip.result _ _ _ c.push_name-in-EndOfShip.ensures)
