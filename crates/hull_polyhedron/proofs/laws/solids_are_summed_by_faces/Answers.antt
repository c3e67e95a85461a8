use Rattle.hull_polyhedron.proofs.LidOfHull.{lid_law_of_solids}
use Rattle.hull_polyhedron.proofs.WholeHull.{solids_law}
use Rattle.hull_polyhedron.proofs.laws.solids_are_summed_by_faces.Goals as goal

pub returns-clause-columns : goal.returns-clause-columns
returns-clause-columns c = solids_law

pub returns-clause-lids : goal.returns-clause-lids
returns-clause-lids c = lid_law_of_solids
