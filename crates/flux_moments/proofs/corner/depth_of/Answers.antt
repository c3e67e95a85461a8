use Rattle.std.proofs.Common.{refl, w64}
use Rattle.std.proofs.lemmas.Int.{to_z-of_z}
use mir.Val.{SFits}
use Rattle.exact_algebra.proofs.Whole.{whole}
use Rattle.outward_interval.specs.Laws.{difference_contains}
use Rattle.hull_model.specs.Waterplane.{position_of, height, level_at}
use Rattle.flux_moments.proofs.Heights.{place_fits}
use Rattle.exact_algebra.proofs.Fraction.{fractions}
use Rattle.exact_algebra.proofs.Order as Order
use Rattle.outward_interval.specs.Widths.{units}
use Rattle.flux_moments.specs.Sizes.{distance, spread}
use Rattle.flux_moments.proofs.BoxWidths.{depth_narrow, depth_near}
use Rattle.flux_moments.proofs.LevelEnds.{depth_same}
use Rattle.flux_moments.proofs.NearDepths.{least_plane, greatest_plane, least_is_in, greatest_is_in, under_by, out_by}
use Rattle.flux_moments.proofs.corner.depth_of.Goals as goal

pub returns-clause-contains : goal.returns-clause-contains
returns-clause-contains c plane h =
    let level = c.levels_at in
    let high = c.height_of in
    let x : SFits w64 c.args.node.x = place_fits c.args.node c.requires.node in
    difference_contains 20 level.result.lo level.result.hi high.result.lo high.result.hi c.sub.result.lo c.sub.result.hi
    (level_at plane c.args.way.first c.args.way.last (whole c.args.node.x)) (height plane (position_of c.args.node)) c.sub.ensures
    (simp to_z-of_z at (level.ensures.contains plane h)) (high.ensures.contains plane h.direction)

pub returns-clause-narrow : goal.returns-clause-narrow
returns-clause-narrow c b h is reached =
    let level = c.levels_at in
    let high = c.height_of in
    depth_narrow c.args.planes.now b is h (distance c.args.node) reached (units 20 2) (spread b h) (Order.≼_refl fractions _) level.result high.result c.sub.result c.sub.result c.sub.result
    (level.ensures.narrow b.rise is.aft is.fore) (level.ensures.near b.level is.aft_level is.fore_level)
    (high.ensures.narrow b.turn is.cosine is.sine) high.ensures.near c.sub.ensures

pub returns-clause-near : goal.returns-clause-near
returns-clause-near c b h is reached =
    let level = c.levels_at in
    let high = c.height_of in
    depth_near c.args.planes.now b is h (distance c.args.node) reached (units 20 2) (spread b h) (Order.≼_refl fractions _) level.result high.result c.sub.result c.sub.result c.sub.result
    (level.ensures.narrow b.rise is.aft is.fore) (level.ensures.near b.level is.aft_level is.fore_level)
    (high.ensures.narrow b.turn is.cosine is.sine) high.ensures.near c.sub.ensures

pub returns-clause-level : goal.returns-clause-level
returns-clause-level c d1 d2 is = depth_same (c.levels_at.ensures.level d1 d2 is.aft is.fore) (c.height_of.ensures.upright is.cosine is.sine) c.sub.ensures

pub returns-clause-under : goal.returns-clause-under
returns-clause-under c b h is reached all =
    let plane = least_plane c.args.planes.now in
    let x : SFits w64 c.args.node.x = place_fits c.args.node c.requires.node in
    under_by c.args.planes.now b h is c.args.node reached c.args.way.first c.args.way.last c.levels_at.result c.height_of.result c.sub.result
    (c.height_of.ensures.narrow b.turn is.cosine is.sine) c.sub.ensures plane (c.height_of.ensures.contains plane (least_is_in c.args.planes.now).direction)
    (simp to_z-of_z at (c.levels_at.ensures.least plane refl refl)) (all plane (least_is_in c.args.planes.now))

pub returns-clause-out : goal.returns-clause-out
returns-clause-out c b h is reached all =
    let plane = greatest_plane c.args.planes.now in
    let x : SFits w64 c.args.node.x = place_fits c.args.node c.requires.node in
    out_by c.args.planes.now b h is c.args.node reached c.args.way.first c.args.way.last c.levels_at.result c.height_of.result c.sub.result
    (c.height_of.ensures.narrow b.turn is.cosine is.sine) c.sub.ensures plane (c.height_of.ensures.contains plane (greatest_is_in c.args.planes.now).direction)
    (simp to_z-of_z at (c.levels_at.ensures.greatest plane refl refl)) (all plane (greatest_is_in c.args.planes.now))
