use Rattle.std.proofs.Common.{◌≡◌, ◌≤◌, ◌+◌, drop, length}
use Rattle.offset_reader.specs.Stations.{stations_of}
use Rattle.offset_reader.proofs.stations.check_count.Given as goal

abbrev pub invariant-loop-rest : goal.invariant-loop-rest
invariant-loop-rest l = record {
  few : l.stations ≤ 64;
  left : drop l.stations (stations_of l.rows) ≡ stations_of l.rest;
  count : l.stations + length (stations_of l.rest) ≡ length (stations_of l.rows);
}

abbrev pub decreases-loop-rest : goal.decreases-loop-rest
decreases-loop-rest l = length l.rest
