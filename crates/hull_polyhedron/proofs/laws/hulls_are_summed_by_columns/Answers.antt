use Rattle.hull_polyhedron.proofs.WholeHull.{central_law}
use Rattle.hull_polyhedron.proofs.laws.hulls_are_summed_by_columns.Goals as goal

pub returns : goal.returns
returns c = central_law
