use Rattle.std.proofs.Common.{inl, inr}
use Rattle.std.proofs.lemmas.Int.{to_z-of_z}
use mir.Syntax.{w64}
use mir.Val.{SFits}
use Rattle.damage_box.proofs.inwards.row.Goals as goal

pub returns-clause-first : goal.returns-clause-first
returns-clause-first g c =
    let r : SFits w64 c.crossing.result = record { sfits = c.crossing.type_inv } in
    let u = simp (to_z-of_z, c.ranges.from, c.ranges.a) at c.crossing.ensures.upper in
    simp to_z-of_z (elim u [ inl e ↦ rw e c.requires.kept | inr k ↦ k ])
