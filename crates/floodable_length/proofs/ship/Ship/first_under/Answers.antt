use Rattle.std.proofs.lemmas.Int.{to_z-of_z}
use Rattle.floodable_length.proofs.FirstUnder.{found, not_found}
use Rattle.floodable_length.proofs.ship.Ship.first_under.Goals as goal

pub returns-then-is_under : goal.returns-then-is_under
returns-then-is_under c =
    let under = simp (to_z-of_z, c.ranges.a, c.ranges.f) at c.if-is_under.ensures in
    let so_far = simp (to_z-of_z, c.ranges.a, c.ranges.f) at c.loop-rest.invariant.1.1 in
    found c.args.self.now.margin c.args.self.now.stations.now c.args.self.now.faces.now c.requires.ship.faces c.args.a c.args.f c.loop-rest.rest.now c.station-item.result c.loop-rest.number
    c.in-len1-up.len_at_least c.station-item.is under so_far

pub returns : goal.returns
returns c =
    let so_far = simp (to_z-of_z, c.ranges.a, c.ranges.f) at c.loop-rest.invariant.1.1 in
    not_found c.args.self.now.margin c.args.self.now.stations.now c.args.self.now.faces.now c.requires.ship.faces c.args.a c.args.f c.loop-rest.rest.now c.loop-rest.number c.in_default.len_below so_far
