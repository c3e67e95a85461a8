use Rattle.std.proofs.Common.{arith}
use Rattle.std.proofs.lemmas.Int.{ints, to_z-of_z}
use Rattle.flux_moments.proofs.Levels.{level_fits}
use Rattle.flux_moments.proofs.PlaceLevels.{same_ends, level_contained, level_narrow, level_near, least_level, greatest_level}
use Rattle.flux_moments.proofs.box_levels.levels_at.Goals as goal
use Rattle.flux_moments.proofs.box_levels.levels_at.Goals.{else-planes-via-then-planes+else-planes-2, else-planes-via-else-planes}

pub returns-then-planes-2-clause-contains : goal.returns-then-planes-2-clause-contains
returns-then-planes-2-clause-contains c plane is =
    let planes = c.args.planes.now in
    let units = simp (to_z-of_z, level_fits planes.a1 planes.levels.first, level_fits planes.a2 planes.levels.second) at c.same_levels.ensures.units in
    level_contained planes c.args.way c.args.x _ _ c.requires.0 c.requires.1
    (same_ends planes c.args.way c.args.x _ _ c.requires.0 c.requires.1 (omega (arith, ints, c.if-planes.true))
    (omega (arith, ints, c.if-planes-2.true)) units) plane is

pub returns-else-planes-clause-contains : goal.returns-else-planes-clause-contains
returns-else-planes-clause-contains c plane is =
    level_contained c.args.planes.now c.args.way c.args.x _ _ c.requires.0 c.requires.1 (simp (to_z-of_z, c.ranges.x) at c.trimmed_levels_at.ensures.levels) plane is

pub returns-then-planes-2-clause-narrow : goal.returns-then-planes-2-clause-narrow
returns-then-planes-2-clause-narrow c d aft fore =
    let planes = c.args.planes.now in
    let units = simp (to_z-of_z, level_fits planes.a1 planes.levels.first, level_fits planes.a2 planes.levels.second) at c.same_levels.ensures.units in
    level_narrow planes c.args.way c.args.x _ _ c.requires.0 c.requires.1
    (same_ends planes c.args.way c.args.x _ _ c.requires.0 c.requires.1 (omega (arith, ints, c.if-planes.true))
    (omega (arith, ints, c.if-planes-2.true)) units) d aft fore

pub returns-else-planes-clause-narrow : goal.returns-else-planes-clause-narrow
returns-else-planes-clause-narrow c d aft fore =
    level_narrow c.args.planes.now c.args.way c.args.x _ _ c.requires.0 c.requires.1 (simp (to_z-of_z, c.ranges.x) at c.trimmed_levels_at.ensures.levels) d aft fore

pub returns-then-planes-2-clause-near : goal.returns-then-planes-2-clause-near
returns-then-planes-2-clause-near c l aft fore =
    let planes = c.args.planes.now in
    let units = simp (to_z-of_z, level_fits planes.a1 planes.levels.first, level_fits planes.a2 planes.levels.second) at c.same_levels.ensures.units in
    level_near planes c.args.way c.args.x _ _ c.requires.0 c.requires.1
    (same_ends planes c.args.way c.args.x _ _ c.requires.0 c.requires.1 (omega (arith, ints, c.if-planes.true))
    (omega (arith, ints, c.if-planes-2.true)) units) l aft fore

pub returns-else-planes-clause-near : goal.returns-else-planes-clause-near
returns-else-planes-clause-near c l aft fore =
    level_near c.args.planes.now c.args.way c.args.x _ _ c.requires.0 c.requires.1 (simp (to_z-of_z, c.ranges.x) at c.trimmed_levels_at.ensures.levels) l aft fore

pub returns-then-planes-2-clause-level : goal.returns-then-planes-2-clause-level
returns-then-planes-2-clause-level c d1 d2 aft fore =
    let planes = c.args.planes.now in
    let units = simp (to_z-of_z, level_fits planes.a1 planes.levels.first, level_fits planes.a2 planes.levels.second) at c.same_levels.ensures.units in
    (rw aft.0 at units.0, rw aft.1 at units.1)

pub returns-else-planes-clause-level : goal.returns-else-planes-clause-level
returns-else-planes-clause-level c d1 d2 aft fore = absurd (elim c.else-planes.branch [
  | else-planes-via-then-planes+else-planes-2 w ↦ omega (arith, ints, w.if-planes-2.false, aft.1, fore.1)
  | else-planes-via-else-planes w ↦ omega (arith, ints, w.if-planes.false, aft.0, fore.0)
])

pub returns-then-planes-2-clause-least : goal.returns-then-planes-2-clause-least
returns-then-planes-2-clause-least c plane aft fore =
    let planes = c.args.planes.now in
    let units = simp (to_z-of_z, level_fits planes.a1 planes.levels.first, level_fits planes.a2 planes.levels.second) at c.same_levels.ensures.units in
    least_level planes c.args.way c.args.x _ _ c.requires.0 c.requires.1
    (same_ends planes c.args.way c.args.x _ _ c.requires.0 c.requires.1 (omega (arith, ints, c.if-planes.true))
    (omega (arith, ints, c.if-planes-2.true)) units) plane aft fore

pub returns-else-planes-clause-least : goal.returns-else-planes-clause-least
returns-else-planes-clause-least c plane aft fore =
    least_level c.args.planes.now c.args.way c.args.x _ _ c.requires.0 c.requires.1 (simp (to_z-of_z, c.ranges.x) at c.trimmed_levels_at.ensures.levels) plane aft fore

pub returns-then-planes-2-clause-greatest : goal.returns-then-planes-2-clause-greatest
returns-then-planes-2-clause-greatest c plane aft fore =
    let planes = c.args.planes.now in
    let units = simp (to_z-of_z, level_fits planes.a1 planes.levels.first, level_fits planes.a2 planes.levels.second) at c.same_levels.ensures.units in
    greatest_level planes c.args.way c.args.x _ _ c.requires.0 c.requires.1
    (same_ends planes c.args.way c.args.x _ _ c.requires.0 c.requires.1 (omega (arith, ints, c.if-planes.true))
    (omega (arith, ints, c.if-planes-2.true)) units) plane aft fore

pub returns-else-planes-clause-greatest : goal.returns-else-planes-clause-greatest
returns-else-planes-clause-greatest c plane aft fore =
    greatest_level c.args.planes.now c.args.way c.args.x _ _ c.requires.0 c.requires.1 (simp (to_z-of_z, c.ranges.x) at c.trimmed_levels_at.ensures.levels) plane aft fore
