use Rattle.std.proofs.Common.{◌≡◌, ◌++◌, length}
use Rattle.std.specs.List.{AllByRecursion}
use Rattle.hull_model.specs.Nodes.{IsNode}
use Rattle.hull_polyhedron.specs.Listed.{kept, end_wall}
use Rattle.hull_polyhedron.proofs.boundary.push_end.Given as goal

abbrev pub invariant-loop-rest : goal.invariant-loop-rest
invariant-loop-rest l = AllByRecursion IsNode l.rest × (l.faces ++ kept (end_wall l.outwards l.rest) ≡ l.fn.faces ++ kept (end_wall l.outwards l.chain))

abbrev pub decreases-loop-rest : goal.decreases-loop-rest
decreases-loop-rest l = length l.rest
