use Rattle.std.proofs.Common.{sym, subst, List, ◌-◌, length, take, drop}
use Rattle.hull_model.specs.Flooded.{flooded_share}
use Rattle.plane_clip.specs.declared.part.Part.{Part}
use Rattle.compartment_loss.proofs.Growth.{SharesLead, shares-next, shares-end}
use Rattle.compartment_loss.proofs.parts.push_shares.Goals as goal

pub loop-rest-preserved : goal.loop-rest-preserved
loop-rest-preserved c r us held placed =
    let rest = c.loop-rest.rest.now in
    subst (λ (ps : List Part). SharesLead r (flooded_share c.args.slab.now) c.args.parts.now.items ps c.args.more.now (take (length rest - 1) (drop 1 rest)) us) (sym c.in_ok-push.ensures.items)
    (shares-next r (flooded_share c.args.slab.now) c.args.parts.now.items c.args.more.now us c.loop-rest.parts.items rest c.part-item.result c.thousandths.result c.in-len1-up.len_at_least c.part-item.is
    c.thousandths.ensures.holds
    (λ room is. (c.thousandths.ensures.placed room.first room.last is.0, c.thousandths.ensures.extent room.half_breadth room.height 2 is.1)) (c.loop-rest.invariant r us held placed))

pub returns : goal.returns
returns c r us held placed = shares-end r (flooded_share c.args.slab.now) c.args.parts.now.items c.args.more.now us c.loop-rest.parts.items c.loop-rest.rest.now c.in_default.len_below (c.loop-rest.invariant r us held placed)
