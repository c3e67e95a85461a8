use Rattle.std.proofs.Common.{◌≡◌, ◌+◌, length}
use Rattle.std.specs.List.{AllByRecursion, position_from}
use Rattle.hull_model.specs.Body.{IsStation}
use Rattle.floodable_length.specs.MarginLine.{is_under}
use Rattle.floodable_length.proofs.ship.Ship.first_under.Given as goal

abbrev pub invariant-loop-rest : goal.invariant-loop-rest
invariant-loop-rest l =
    AllByRecursion IsStation l.rest
    × ((l.number + length l.rest ≡ length l.self.stations.now)
    × (position_from (is_under l.self.margin l.self.faces.now.first_x l.self.faces.now.last_x l.a l.f) l.number l.rest
    ≡ position_from (is_under l.self.margin l.self.faces.now.first_x l.self.faces.now.last_x l.a l.f) 0 l.self.stations.now))

abbrev pub decreases-loop-rest : goal.decreases-loop-rest
decreases-loop-rest l = length l.rest
