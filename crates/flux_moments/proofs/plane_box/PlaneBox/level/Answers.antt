use Rattle.std.proofs.lemmas.Int.{to_z-of_z}
use Rattle.std.specs.Int.{w64}
use mir.Val.{SFits}
use Rattle.flux_moments.proofs.plane_box.PlaneBox.level.Goals as goal

pub returns-clause-some : goal.returns-clause-some
returns-clause-some c =
    let d1 : SFits w64 c.args.d1 = c.ranges.d1 in
    let d2 : SFits w64 c.args.d2 = c.ranges.d2 in
    simp to_z-of_z at c.of.ensures.some
