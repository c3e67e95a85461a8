use Rattle.angle_bounds.proofs.Degrees.{degrees_rise}
use Rattle.angle_bounds.proofs.laws.degrees_rise.Goals as goal

pub returns : goal.returns
returns c = degrees_rise
