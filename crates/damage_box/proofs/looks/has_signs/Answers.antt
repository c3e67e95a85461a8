use Rattle.std.proofs.Common.{refl}
use Rattle.std.proofs.lemmas.Int.{to_z-of_z}
use mir.Syntax.{w128}
use mir.Val.{SFits}
use Rattle.damage_box.proofs.Looked as Looked
use Rattle.damage_box.proofs.looks.has_signs.Goals as goal

pub returns-then-is_at_most : goal.returns-then-is_at_most
returns-then-is_at_most c b a f n t =
    let hi : SFits w128 c.hi.result = record { sfits = c.hi.type_inv } in
    let lo : SFits w128 c.lo.result = record { sfits = c.lo.type_inv } in
    let last = simp to_z-of_z at c.if-is_at_most.ensures.pass in
    let first = simp to_z-of_z at c.is_at_most-then-is_at_most.ensures.pass in
    record { last = Looked.last_kept n (rw c.hi.ensures at (last refl)); first = Looked.first_kept n (rw c.lo.ensures at (first t)) }
