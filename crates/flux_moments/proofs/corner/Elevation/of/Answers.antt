use Rattle.std.proofs.Common.{w64}
use Rattle.std.proofs.lemmas.Int.{to_z-of_z}
use mir.Val.{SFits}
use Rattle.exact_algebra.proofs.Whole.{whole}
use Rattle.outward_interval.specs.Laws.{sum_contains, difference_contains}
use Rattle.hull_model.specs.Waterplane.{position_of, height, level_at}
use Rattle.flux_moments.proofs.Heights.{place_fits}
use Rattle.exact_algebra.proofs.Fraction.{fractions}
use Rattle.exact_algebra.proofs.Order as Order
use Rattle.outward_interval.specs.Widths.{units}
use Rattle.flux_moments.specs.Sizes.{distance, spread}
use Rattle.flux_moments.proofs.BoxWidths.{elevation_size}
use Rattle.flux_moments.proofs.corner.Elevation.of.Goals as goal

pub returns-clause-depth : goal.returns-clause-depth
returns-clause-depth c plane h =
    let level = c.levels_at-level in
    let high = c.height_of-height in
    let x : SFits w64 c.args.node.x = place_fits c.args.node c.requires.node in
    difference_contains 20 level.result.lo level.result.hi high.result.lo high.result.hi c.sub.result.lo c.sub.result.hi
    (level_at plane c.args.way.first c.args.way.last (whole c.args.node.x)) (height plane (position_of c.args.node)) c.sub.ensures
    (simp to_z-of_z at (level.ensures.contains plane h)) (high.ensures.contains plane h.direction)

pub returns-clause-middle : goal.returns-clause-middle
returns-clause-middle c plane h =
    let level = c.levels_at-level in
    let high = c.height_of-height in
    let x : SFits w64 c.args.node.x = place_fits c.args.node c.requires.node in
    sum_contains 20 level.result.lo level.result.hi high.result.lo high.result.hi c.add.result.lo c.add.result.hi
    (level_at plane c.args.way.first c.args.way.last (whole c.args.node.x)) (height plane (position_of c.args.node)) c.add.ensures
    (simp to_z-of_z at (level.ensures.contains plane h)) (high.ensures.contains plane h.direction)

pub returns-clause-size : goal.returns-clause-size
returns-clause-size c b h is reached =
    let level = c.levels_at-level in
    let high = c.height_of-height in
    elevation_size c.args.planes.now b is h (distance c.args.node) reached (units 20 2) (spread b h) (Order.≼_refl fractions _) level.result high.result c.sub.result c.sub.result c.add.result
    (level.ensures.narrow b.rise is.aft is.fore) (level.ensures.near b.level is.aft_level is.fore_level)
    (high.ensures.narrow b.turn is.cosine is.sine) high.ensures.near
    c.sub.ensures c.add.ensures
