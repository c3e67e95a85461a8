use Rattle.std.proofs.Common.{◌≡◌, ◌++◌, map, drop}
use Rattle.std.specs.List.{flat_map}
use Rattle.hull_model.specs.Strips.{corners_of}
use Rattle.hull_polyhedron.specs.Listed.{kept, sides}
use Rattle.hull_polyhedron.proofs.boundary.push_sides.Given as goal

abbrev pub invariant-loop-t : goal.invariant-loop-t
invariant-loop-t l = l.faces ++ kept (flat_map sides (map corners_of (drop l.t-index l.triangles))) ≡ l.fn.faces ++ kept (flat_map sides (map corners_of l.triangles))
