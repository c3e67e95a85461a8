use Rattle.hull_maker.proofs.Floating.{made_ship_floats}
use Rattle.hull_maker.proofs.laws.the_made_ship_floats.Goals as goal

pub returns-clause-floats : goal.returns-clause-floats
returns-clause-floats c = made_ship_floats
