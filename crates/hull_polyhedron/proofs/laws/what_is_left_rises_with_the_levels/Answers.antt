use Rattle.hull_polyhedron.proofs.RisingHull.{rising_law, weights_are_known, moments_rise}
use Rattle.hull_polyhedron.proofs.laws.what_is_left_rises_with_the_levels.Goals as goal

pub returns-clause-law : goal.returns-clause-law
returns-clause-law c = rising_law

pub returns-clause-weights : goal.returns-clause-weights
returns-clause-weights c = weights_are_known

pub returns-clause-moments : goal.returns-clause-moments
returns-clause-moments c = moments_rise
