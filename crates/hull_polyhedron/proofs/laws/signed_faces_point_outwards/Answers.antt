use Rattle.hull_polyhedron.proofs.OutwardSolids.{solids_point_outwards}
use Rattle.hull_polyhedron.proofs.laws.signed_faces_point_outwards.Goals as goal

pub returns : goal.returns
returns c = solids_point_outwards
