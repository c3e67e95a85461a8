use Rattle.angle_bounds.proofs.Order.{spans_contain_each_direction}
use Rattle.angle_bounds.proofs.laws.spans_contain_each_direction.Goals as goal

pub returns : goal.returns
returns c = spans_contain_each_direction
