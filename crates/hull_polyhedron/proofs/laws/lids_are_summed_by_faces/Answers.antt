use Rattle.hull_polyhedron.proofs.LidOfHull.{lid_law}
use Rattle.hull_polyhedron.proofs.laws.lids_are_summed_by_faces.Goals as goal

pub returns : goal.returns
returns c = lid_law
