use Rattle.std.proofs.lemmas.Int.{to_z-of_z}
use mir.Syntax.{w128}
use mir.Val.{SFits}
use Rattle.damage_box.proofs.Moves as Moves
use Rattle.damage_box.proofs.Slopes as Slopes
use Rattle.damage_box.proofs.settling.afloat.Goals as goal

pub returns-then-is_at_most-clause-ok : goal.returns-then-is_at_most-clause-ok
returns-then-is_at_most-clause-ok g c =
    let fh = Moves.far_fits c.high-level.result (Slopes.far_height c.high-level.ensures.height) in
    let n = simp (to_z-of_z, fh) at c.read-reading.ensures in
    let e = rw c.high-level.ensures.value at n.volume in
    let hi : SFits w128 c.hi.result = record { sfits = c.hi.type_inv } in
    let needs : SFits w128 c.need-need.result = record { sfits = c.need-need.type_inv } in
    let p = simp to_z-of_z at c.is_at_most.ensures.pass in
    record { lo = c.read-reading.result.volume.lo; hi = c.read-reading.result.volume.hi; encloses = e; not_below = c.need-need.ensures.reached c.read-reading.result.volume.hi (rw c.hi.ensures at (p c.if-is_at_most.true)) }

pub returns-else-is_at_most-clause-sinks : goal.returns-else-is_at_most-clause-sinks
returns-else-is_at_most-clause-sinks g c =
    let fh = Moves.far_fits c.high-level.result (Slopes.far_height c.high-level.ensures.height) in
    let n = simp (to_z-of_z, fh) at c.read-reading.ensures in
    let e = rw c.high-level.ensures.value at n.volume in
    let hi : SFits w128 c.hi.result = record { sfits = c.hi.type_inv } in
    let needs : SFits w128 c.need-need.result = record { sfits = c.need-need.type_inv } in
    let p = simp to_z-of_z at c.is_at_most.ensures.fail in
    record { encloses = e; below = c.need-need.ensures.missed c.read-reading.result.volume.hi (rw c.hi.ensures at (p c.if-is_at_most.false)) }
