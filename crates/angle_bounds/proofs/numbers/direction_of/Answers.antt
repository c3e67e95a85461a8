use Rattle.angle_bounds.proofs.NumberedDirections.{is_triple}
use Rattle.angle_bounds.proofs.numbers.direction_of.Goals as goal

pub invariant_of-result : goal.invariant_of-result
invariant_of-result c = record { direction = is_triple c.from-p.result c.from-q.result c.from-p.ensures (rw c.from-q.ensures c.requires) }
