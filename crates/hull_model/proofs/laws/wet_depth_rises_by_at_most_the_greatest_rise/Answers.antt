use Rattle.hull_model.proofs.GreatestRise.{rises_by_at_most}
use Rattle.hull_model.proofs.laws.wet_depth_rises_by_at_most_the_greatest_rise.Goals as goal

pub returns : goal.returns
returns c = rises_by_at_most
