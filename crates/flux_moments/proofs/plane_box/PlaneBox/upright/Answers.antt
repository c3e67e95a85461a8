use Rattle.std.proofs.lemmas.Int.{to_z-of_z}
use Rattle.std.specs.Int.{w64}
use mir.Val.{SFits}
use Rattle.flux_moments.proofs.plane_box.PlaneBox.upright.Goals as goal

pub returns-clause-some : goal.returns-clause-some
returns-clause-some c =
    let a1 : SFits w64 c.args.a1 = c.ranges.a1 in
    let a2 : SFits w64 c.args.a2 = c.ranges.a2 in
    let f1 : SFits w64 c.args.f1 = c.ranges.f1 in
    let f2 : SFits w64 c.args.f2 = c.ranges.f2 in
    simp to_z-of_z at c.of.ensures.some
