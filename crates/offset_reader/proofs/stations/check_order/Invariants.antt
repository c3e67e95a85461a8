use Rattle.std.proofs.Common.{◌≡◌, length}
use Rattle.offset_reader.specs.Heights.{heights_fault}
use Rattle.offset_reader.specs.Stations.{stations_of}
use Rattle.offset_reader.proofs.stations.check_order.Given as goal

abbrev pub invariant-loop-rest : goal.invariant-loop-rest
invariant-loop-rest l = heights_fault (stations_of l.rest) ≡ heights_fault (stations_of l.rows)

abbrev pub decreases-loop-rest : goal.decreases-loop-rest
decreases-loop-rest l = length l.rest
