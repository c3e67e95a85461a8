use Rattle.std.proofs.Common.{◌↔◌, length}
use Rattle.hull_model.specs.Lists.{AnyByRecursion}
use Rattle.hull_model.specs.Body.{IsOutboard}
use Rattle.hull_model.proofs.station.Station.has_breadth.Given as goal

abbrev pub invariant-loop-rest : goal.invariant-loop-rest
invariant-loop-rest l = AnyByRecursion IsOutboard l.rest ↔ AnyByRecursion IsOutboard l.self.points

abbrev pub decreases-loop-rest : goal.decreases-loop-rest
decreases-loop-rest l = length l.rest
