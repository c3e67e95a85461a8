use Rattle.std.proofs.lemmas.Int.{to_z-of_z}
use mir.Syntax.{w64}
use mir.Val.{SFits}
use Rattle.damage_box.proofs.inwards.column.Goals as goal

pub returns-then-is_last_kept-clause-signs : goal.returns-then-is_last_kept-clause-signs
returns-then-is_last_kept-clause-signs g c =
    let r : SFits w64 c.row-f.result = record { sfits = c.row-f.type_inv } in
    let last = simp (to_z-of_z, c.ranges.a, r) at c.is_last_kept.ensures.pass in
    let first = simp (to_z-of_z, c.ranges.a) at c.row-f.ensures.first in
    simp to_z-of_z (record { last = last c.if-is_last_kept.true; first = first })
