use Rattle.std.proofs.lemmas.Int.{to_z-of_z}
use Rattle.std.specs.Int.{w64}
use Rattle.draft_bracket.specs.GridLevels.{grid_plane}
use Rattle.draft_bracket.proofs.Looks.{box_from, level_is_in, narrow_as}
use Rattle.draft_bracket.proofs.look.volume_at.Goals as goal

pub returns-clause-contains : goal.returns-clause-contains
returns-clause-contains c hull is are d lies =
    let box = box_from c.in-Some.planes c.args.bracket.now c.args.level c.args.level _ _ (to_z-of_z w64 c.args.level c.ranges.level) (to_z-of_z w64 c.args.level c.ranges.level)
    c.in-Some.ensures.same in
    c.volume_below.ensures.volume hull is are (grid_plane d c.args.level) (level_is_in c.in-Some.planes c.args.bracket.now c.args.level box d lies)

pub returns-clause-narrow : goal.returns-clause-narrow
returns-clause-narrow c =
    let box = box_from c.in-Some.planes c.args.bracket.now c.args.level c.args.level _ _ (to_z-of_z w64 c.args.level c.ranges.level) (to_z-of_z w64 c.args.level c.ranges.level)
    c.in-Some.ensures.same in
    narrow_as c.args.faces.now c.args.bracket.now c.args.level c.volume_below.result.lo c.volume_below.result.hi c.in-Some.planes box c.volume_below.ensures.width
