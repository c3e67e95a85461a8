use Rattle.hull_model.specs.Section.{under}
use Rattle.hull_model.proofs.Rounds.{three_rounds_settle}
use Rattle.hull_model.proofs.Strip.{linear}
use Rattle.hull_model.proofs.laws.nothing_is_left_to_split.Goals as goal

pub returns : goal.returns
returns c = λ draft t. three_rounds_settle (under draft) (linear draft) t
