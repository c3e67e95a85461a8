use Rattle.angle_bounds.proofs.DegreeNumbers.{numbers_stand_apart}
use Rattle.angle_bounds.proofs.laws.numbers_stand_apart.Goals as goal

pub returns : goal.returns
returns c = numbers_stand_apart
