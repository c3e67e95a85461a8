use Rattle.std.proofs.Common.{map, length}
use Rattle.hull_model.specs.Boundary.{sum_of}
use Rattle.hull_model.specs.Faces.{determinant, triangle_of}
use Rattle.hull_polyhedron.proofs.FaceSums.{Left}
use Rattle.hull_polyhedron.proofs.calls.sum_of_determinants.Given as goal

abbrev pub invariant-loop-rest : goal.invariant-loop-rest
invariant-loop-rest l = Left l.rest l.sum (sum_of determinant (map triangle_of l.faces))

abbrev pub decreases-loop-rest : goal.decreases-loop-rest
decreases-loop-rest l = length l.rest
