use Rattle.std.proofs.Common.{◌≡◌, ◌++◌, map, drop}
use Rattle.offset_reader.specs.Points.{point_of}
use Rattle.offset_reader.proofs.stations.points_of.Given as goal

abbrev pub invariant-loop-row : goal.invariant-loop-row
invariant-loop-row l = l.points.items ++ map point_of (drop l.row-index l.rows) ≡ map point_of l.rows
