use Rattle.std.proofs.lemmas.Int.{to_z-of_z}
use Rattle.std.specs.Int.{w64}
use mir.Val.{SFits}
use Rattle.flux_moments.proofs.SeenSums.{level_is_in, level_box}
use Rattle.flux_moments.proofs.lid_sums.level_planes.Goals as goal

pub returns-clause-level : goal.returns-clause-level
returns-clause-level c =
    let d1 : SFits w64 c.args.d1 = c.ranges.d1 in
    let d2 : SFits w64 c.args.d2 = c.ranges.d2 in
    let same = simp to_z-of_z at c.in-Some.ensures.same in
    level_box c.in-Some.planes c.args.d1 c.args.d2 same c.in-Some.ensures.direction

pub returns-clause-contains : goal.returns-clause-contains
returns-clause-contains c at within =
    let d1 : SFits w64 c.args.d1 = c.ranges.d1 in
    let d2 : SFits w64 c.args.d2 = c.ranges.d2 in
    let same = simp to_z-of_z at c.in-Some.ensures.same in
    level_is_in c.in-Some.planes c.args.d1 c.args.d2 at same c.in-Some.ensures.direction within
