use Rattle.std.proofs.lemmas.Int.{to_z-of_z}
use Rattle.std.specs.Int.{w64}
use mir.Val.{SFits}
use Rattle.flux_moments.proofs.SeenSums.{level_is_in, level_box}
use Rattle.hydro_tables.proofs.row.level_plane.Goals as goal

pub returns-clause-in_box : goal.returns-clause-in_box
returns-clause-in_box c at h =
    let level : SFits w64 c.args.level = c.ranges.level in
    let same = simp to_z-of_z at c.in-Some.ensures.same in
    level_is_in c.in-Some.planes c.args.level c.args.level at same c.in-Some.ensures.direction h

pub returns-clause-level : goal.returns-clause-level
returns-clause-level c =
    let level : SFits w64 c.args.level = c.ranges.level in
    let same = simp to_z-of_z at c.in-Some.ensures.same in
    level_box c.in-Some.planes c.args.level c.args.level same c.in-Some.ensures.direction
