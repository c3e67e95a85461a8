use Rattle.std.proofs.Common.{◌≡◌, ◌++◌, true, length, map}
use Rattle.offset_reader.specs.Points.{points_fault_from, station_of}
use Rattle.offset_reader.specs.Stations.{stations_of}
use Rattle.offset_reader.proofs.stations.stations_of.Given as goal

abbrev pub invariant-loop-rest : goal.invariant-loop-rest
invariant-loop-rest l = record {
  faults : points_fault_from l.is_first (stations_of l.rest) ≡ points_fault_from true (stations_of l.rows);
  all : l.stations.items ++ map station_of (stations_of l.rest) ≡ map station_of (stations_of l.rows);
}

abbrev pub decreases-loop-rest : goal.decreases-loop-rest
decreases-loop-rest l = length l.rest
