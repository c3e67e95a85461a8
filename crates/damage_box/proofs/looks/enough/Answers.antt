use Rattle.std.proofs.lemmas.Int.{to_z-of_z}
use mir.Syntax.{w128}
use mir.Val.{SFits}
use Rattle.damage_box.proofs.Looked as Looked
use Rattle.damage_box.proofs.looks.enough.Goals as goal

pub returns-clause-pass : goal.returns-clause-pass
returns-clause-pass g c =
    let n = simp (to_z-of_z, c.ranges.a, c.ranges.f) at c.read-reading.ensures in
    let fits : SFits w128 c.lo-low.result = record { sfits = c.lo-low.type_inv } in
    let needs : SFits w128 c.need-need.result = record { sfits = c.need-need.type_inv } in
    let p = simp to_z-of_z at c.is_at_most.ensures.pass in
    λ t. Looked.enough n c.need-need.ensures (rw c.lo-low.ensures at (p t))

pub returns-clause-fail : goal.returns-clause-fail
returns-clause-fail g c =
    let n = simp (to_z-of_z, c.ranges.a, c.ranges.f) at c.read-reading.ensures in
    let fits : SFits w128 c.lo-low.result = record { sfits = c.lo-low.type_inv } in
    let needs : SFits w128 c.need-need.result = record { sfits = c.need-need.type_inv } in
    let p = simp to_z-of_z at c.is_at_most.ensures.fail in
    λ t. Looked.short n c.need-need.ensures (rw c.lo-low.ensures at (p t))
