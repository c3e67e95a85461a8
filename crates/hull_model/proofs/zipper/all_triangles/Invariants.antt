use Rattle.std.proofs.Common.{◌≡◌, ◌++◌, map, length}
use Rattle.std.specs.List.{AllByRecursion}
use Rattle.hull_model.specs.Body.{IsStation}
use Rattle.hull_model.specs.Zipper.{strip_triangles}
use Rattle.hull_model.specs.Strips.{corners_of}
use Rattle.hull_model.proofs.zipper.all_triangles.Given as goal

abbrev pub invariant-loop-rest : goal.invariant-loop-rest
invariant-loop-rest l = AllByRecursion IsStation l.rest × (map corners_of l.triangles.items ++ strip_triangles l.rest ≡ strip_triangles l.stations)

abbrev pub decreases-loop-rest : goal.decreases-loop-rest
decreases-loop-rest l = length l.rest
