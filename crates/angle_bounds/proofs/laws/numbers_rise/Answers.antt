use Rattle.angle_bounds.proofs.NumberedDirections.{numbers_rise}
use Rattle.angle_bounds.proofs.laws.numbers_rise.Goals as goal

pub returns : goal.returns
returns c = numbers_rise
