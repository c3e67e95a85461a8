use Rattle.hull_polyhedron.proofs.OneTetrahedron.{central_law_of_tetrahedra}
use Rattle.hull_polyhedron.proofs.laws.tetrahedra_are_summed_by_columns.Goals as goal

pub returns : goal.returns
returns c = central_law_of_tetrahedra
