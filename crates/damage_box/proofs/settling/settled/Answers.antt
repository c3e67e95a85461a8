use Rattle.std.proofs.Common.{rules}
use Rattle.damage_box.specs.Reading.{IsAfloat, HasStart}
use Rattle.damage_box.proofs.Tries.{aft_tried}
use Rattle.damage_box.proofs.settling.settled.Goals as goal

pub returns-in-Err-start-2-clause-fault : goal.returns-in-Err-start-2-clause-fault
returns-in-Err-start-2-clause-fault g c =
    let h : HasStart (g.F.Floats.balance c.args.floats.now) = record { corner = c.in-Ok-start.corner; start = c.in-Ok-start.ensures.ok } in
    let a : IsAfloat (g.F.Floats.balance c.args.floats.now) = search rules in
    (a, h, aft_tried c.turned_back.ensures c.in-Err-start-2.ensures.tried)

pub returns-clause-ok : goal.returns-clause-ok
returns-clause-ok g c =
    let a : IsAfloat (g.F.Floats.balance c.args.floats.now) = search rules in
    record { sharp = c.box_from.ensures; afloat = a; fore = record { corner = c.in-Ok-start.corner; start = c.in-Ok-start.ensures.ok }; aft = record { corner = c.in-Ok-start-2.corner; start = c.in-Ok-start-2.ensures.ok } }
