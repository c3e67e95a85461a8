use Rattle.std.proofs.Common.{ℤ, ◌^◌, ◌*ℤ◌, pos, subst}
use Rattle.exact_algebra.proofs.Fraction.{fractions}
use Rattle.exact_algebra.proofs.Order as Order
use Rattle.exact_algebra.proofs.Whole.{whole}
use Rattle.hull_model.specs.Waterplane.{position_of, height, level_at}
use Rattle.outward_interval.specs.Laws.{difference_contains}
use Rattle.outward_interval.specs.Widths.{units}
use Rattle.flux_moments.specs.Planes.{AreLevelEnds}
use Rattle.flux_moments.specs.Sizes.{distance, spread}
use Rattle.flux_moments.proofs.BoxWidths.{depth_narrow, depth_near}
use Rattle.flux_moments.proofs.PlaceLevels.{level_contained, level_narrow, level_near}
use Rattle.compartment_loss.proofs.UprightDepths.{height_contained, height_narrow, height_near}
use Rattle.compartment_loss.proofs.upright.depth_of.Goals as goal

pub returns-clause-contains : goal.returns-clause-contains
returns-clause-contains c planes way upright levels between plane is =
    let level = c.args.place.level in
    let high = c.height_of in
    let ends = subst (λ (x : ℤ). AreLevelEnds planes way.first way.last x level.lo level.hi) c.requires.same levels in
    difference_contains 20 level.lo level.hi high.result.lo high.result.hi c.sub.result.lo c.sub.result.hi
    (level_at plane way.first way.last (whole c.args.node.x)) (height plane (position_of c.args.node)) c.sub.ensures
    (level_contained planes way c.args.node.x level.lo level.hi between.0 between.1 ends plane is)
    (height_contained planes upright plane is c.args.node high.ensures)

pub returns-clause-narrow : goal.returns-clause-narrow
returns-clause-narrow c planes way levels between b h is reached =
    let level = c.args.place.level in
    let high = c.height_of in
    let ends = subst (λ (x : ℤ). AreLevelEnds planes way.first way.last x level.lo level.hi) c.requires.same levels in
    depth_narrow planes b is h (distance c.args.node) reached (units 20 2) (spread b h) (Order.≼_refl fractions _) level high.result c.sub.result c.sub.result c.sub.result
    (level_narrow planes way c.args.node.x level.lo level.hi between.0 between.1 ends b.rise is.aft is.fore)
    (level_near planes way c.args.node.x level.lo level.hi between.0 between.1 ends b.level is.aft_level is.fore_level)
    (height_narrow planes b is c.args.node (c.args.node.z *ℤ pos (2 ^ 20)) high.ensures) (height_near c.args.node high.ensures) c.sub.ensures

pub returns-clause-near : goal.returns-clause-near
returns-clause-near c planes way levels between b h is reached =
    let level = c.args.place.level in
    let high = c.height_of in
    let ends = subst (λ (x : ℤ). AreLevelEnds planes way.first way.last x level.lo level.hi) c.requires.same levels in
    depth_near planes b is h (distance c.args.node) reached (units 20 2) (spread b h) (Order.≼_refl fractions _) level high.result c.sub.result c.sub.result c.sub.result
    (level_narrow planes way c.args.node.x level.lo level.hi between.0 between.1 ends b.rise is.aft is.fore)
    (level_near planes way c.args.node.x level.lo level.hi between.0 between.1 ends b.level is.aft_level is.fore_level)
    (height_narrow planes b is c.args.node (c.args.node.z *ℤ pos (2 ^ 20)) high.ensures) (height_near c.args.node high.ensures) c.sub.ensures
