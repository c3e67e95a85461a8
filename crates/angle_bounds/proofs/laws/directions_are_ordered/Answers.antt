use Rattle.angle_bounds.proofs.Order.{directions_are_ordered}
use Rattle.angle_bounds.proofs.laws.directions_are_ordered.Goals as goal

pub returns : goal.returns
returns c = directions_are_ordered
