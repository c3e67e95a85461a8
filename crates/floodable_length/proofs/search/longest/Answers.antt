use Rattle.std.proofs.Common.{w64, rules}
use Rattle.std.proofs.lemmas.Int.{to_z-of_z}
use mir.Val.{SFits}
use Rattle.floodable_length.specs.LoadedShip.{ship_of}
use Rattle.floodable_length.proofs.Gaps.{first_gap, next_is}
use Rattle.floodable_length.proofs.search.longest.Goals as goal

pub loop-alloc-init : goal.loop-alloc-init
loop-alloc-init c =
    let past : SFits w64 c.past.result = search rules in
    simp to_z-of_z (first_gap (ship_of c.args.ship.now) c.args.lengths.now c.requires.ends c.args.intact c.requires.intact c.past.result c.past.ensures.some c.past.ensures.most c.past.ensures.past c.past.ensures.before)

pub reach_of-requires-clause-narrow : goal.reach_of-requires-clause-narrow
reach_of-requires-clause-narrow c =
    next_is c.loop-alloc.gap.safe c.loop-alloc.gap.next c.loop-alloc.invariant.order (c.is_wide.ensures.fail c.loop-alloc-test.false)

pub returns : goal.returns
returns c = c.reach_of.ensures (ship_of c.args.ship.now) c.loop-alloc.invariant
