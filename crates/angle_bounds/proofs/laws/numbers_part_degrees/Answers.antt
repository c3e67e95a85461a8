use Rattle.angle_bounds.proofs.DegreeNumbers.{numbers_part_degrees}
use Rattle.angle_bounds.proofs.laws.numbers_part_degrees.Goals as goal

pub returns : goal.returns
returns c = numbers_part_degrees
