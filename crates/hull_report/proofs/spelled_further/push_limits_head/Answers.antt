use Rattle.hull_report.proofs.Spaced.{two_words}
use Rattle.hull_report.proofs.spelled_further.push_limits_head.Goals as goal

pub returns : goal.returns
returns c = two_words c.push_name.result _ _ _ _ _ c.in_ok-push_first.ensures c.push_name.ensures
