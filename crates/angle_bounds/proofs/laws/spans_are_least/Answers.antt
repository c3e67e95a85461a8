use Rattle.angle_bounds.proofs.Order.{spans_are_least}
use Rattle.angle_bounds.proofs.laws.spans_are_least.Goals as goal

pub returns : goal.returns
returns c = spans_are_least
