use Rattle.intact_criteria.proofs.Decided.{marks_are_decided}
use Rattle.intact_criteria.proofs.laws.marks_are_decided.Goals as goal

pub returns : goal.returns
returns c = marks_are_decided
