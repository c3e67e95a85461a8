use Rattle.hull_polyhedron.proofs.SlabOfHull.{slab_law_of_hulls, flooded_law}
use Rattle.hull_polyhedron.proofs.laws.slabs_are_summed_by_columns.Goals as goal

pub returns-clause-between : goal.returns-clause-between
returns-clause-between c = slab_law_of_hulls

pub returns-clause-left : goal.returns-clause-left
returns-clause-left c = flooded_law
