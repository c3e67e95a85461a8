use Rattle.std.proofs.Common.{◌≡◌, drop}
use Rattle.hull_polyhedron.specs.Widening.{with_points}
use Rattle.hull_polyhedron.proofs.extent.Extent.with_points.Given as goal

abbrev pub invariant-loop-point : goal.invariant-loop-point
invariant-loop-point l = with_points l.extent (drop l.point-index l.points) ≡ with_points l.fn.self l.points
