use Rattle.std.proofs.Common.{◌≡◌, drop}
use Rattle.hull_polyhedron.specs.Widening.{with_stations}
use Rattle.hull_polyhedron.proofs.extent.Extent.with_stations.Given as goal

abbrev pub invariant-loop-station : goal.invariant-loop-station
invariant-loop-station l = with_stations l.extent (drop l.station-index l.stations) ≡ with_stations l.fn.self l.stations
