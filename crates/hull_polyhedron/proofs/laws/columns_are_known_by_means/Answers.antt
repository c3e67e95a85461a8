use Rattle.hull_polyhedron.proofs.ColumnMeans.{columns_are_known_by_means, seen_parts_are_known_by_means}
use Rattle.hull_polyhedron.proofs.WholeHull.{seen_area-node}
use Rattle.hull_polyhedron.proofs.laws.columns_are_known_by_means.Goals as goal

pub returns-clause-means : goal.returns-clause-means
returns-clause-means c = columns_are_known_by_means

pub returns-clause-seen : goal.returns-clause-seen
returns-clause-seen c = seen_parts_are_known_by_means

pub returns-clause-areas : goal.returns-clause-areas
returns-clause-areas c = seen_area-node
