use Rattle.floodable_length.specs.LoadedShip.{ship_of}
use Rattle.floodable_length.specs.Settled.{IsFlooded}
use Rattle.floodable_length.proofs.Flooded.{is_hull_of}
use Rattle.floodable_length.proofs.ship.Ship.weigh.Goals as goal

pub returns-in-Ok : goal.returns-in-Ok
returns-in-Ok c =
    let ship = ship_of c.args.self.now in
    let flood = c.in_ok-flooded.flooded in
    let flooded : IsFlooded ship c.args.slabs.now flood = record { hull = c.in_ok-flooded.ensures.0; parts = c.in_ok-flooded.ensures.1 } in
    let hull = is_hull_of ship c.args.slabs.now flood c.requires.ship c.requires.apart flooded in
    c.judge.ensures c.args.slabs.now (record { flood = flood; flooded = flooded; sharp = c.in-Ok.ensures.ok c.args.self.now.stations.now hull })

pub returns : goal.returns
returns c =
    let ship = ship_of c.args.self.now in
    let flood = c.in_ok-flooded.flooded in
    let flooded : IsFlooded ship c.args.slabs.now flood = record { hull = c.in_ok-flooded.ensures.0; parts = c.in_ok-flooded.ensures.1 } in
    let hull = is_hull_of ship c.args.slabs.now flood c.requires.ship c.requires.apart flooded in
    c.reason_of.ensures ship c.args.slabs.now flood flooded (c.in-Err.ensures.fault c.args.self.now.stations.now hull)
