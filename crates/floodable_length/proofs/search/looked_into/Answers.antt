use Rattle.std.proofs.Common.{◌*ℤ◌, ◌<ℤ◌, w64, rules}
use Rattle.std.proofs.lemmas.Int.{to_z-of_z}
use mir.Val.{SFits}
use Rattle.floodable_length.specs.Lengths.{twice, IsSlabOf}
use Rattle.floodable_length.specs.LoadedShip.{ship_of}
use Rattle.floodable_length.proofs.Gaps.{found_at, within_along, between}
use Rattle.floodable_length.proofs.search.looked_into.Goals as goal

pub slab-slab-requires-clause-within : goal.slab-slab-requires-clause-within
slab-slab-requires-clause-within c =
    let gap = c.args.gap in
    let safe : SFits w64 gap.safe = search rules in
    let next : SFits w64 gap.next = search rules in
    let fits : SFits w64 c.between-steps.result = search rules in
    let above : gap.safe <ℤ c.between-steps.result = simp to_z-of_z at c.between-steps.ensures.above in
    let below : c.between-steps.result <ℤ gap.next = simp to_z-of_z at c.between-steps.ensures.below in
    simp to_z-of_z (within_along (ship_of c.args.ship.now) c.args.lengths.now c.requires.ends (c.between-steps.result *ℤ c.args.lengths.now.half_step) (c.requires.gap.within c.between-steps.result (between c.requires.gap.from above) below))

pub returns-clause-gap : goal.returns-clause-gap
returns-clause-gap c =
    let ship = ship_of c.args.ship.now in
    let lengths = c.args.lengths.now in
    let fits : SFits w64 c.between-steps.result = search rules in
    let length = c.between-steps.result *ℤ twice lengths.half_step in
    let of : IsSlabOf lengths.first lengths.last lengths.centre lengths.permeability length c.slab-slab.result = simp to_z-of_z at c.slab-slab.ensures in
    let found = found_at ship lengths c.requires.ends length c.slab-slab.result of c.in_ok-found.found c.in_ok-found.ensures in
    c.narrowed-left.ensures.gap ship lengths.centre lengths.half_step lengths.permeability c.requires.gap (simp to_z-of_z found)
