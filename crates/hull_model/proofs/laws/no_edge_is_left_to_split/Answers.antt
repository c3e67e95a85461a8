use Rattle.hull_model.specs.Waterplane.{under}
use Rattle.hull_model.proofs.TetrahedronRounds.{four_rounds_settle, depth_linear}
use Rattle.hull_model.proofs.laws.no_edge_is_left_to_split.Goals as goal

pub returns : goal.returns
returns c = λ plane first last t. four_rounds_settle (under plane first last) (depth_linear plane first last) t
