use Rattle.angle_bounds.proofs.CountedPowers.{powers_are_counted}
use Rattle.angle_bounds.proofs.laws.powers_are_counted.Goals as goal

pub returns : goal.returns
returns c = powers_are_counted
