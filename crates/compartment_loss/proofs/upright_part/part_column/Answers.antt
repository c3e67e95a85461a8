use Rattle.std.proofs.Common.{inl, inr, ◌+◌, ◌^◌, [], ◌∷◌, get_or, subst, refl, arith}
use Rattle.std.proofs.lemmas.Int.{to_z-of_z}
use Rattle.std.specs.Int.{w128}
use mir.Val.{SFits}
use Rattle.exact_algebra.proofs.Fraction.{Fraction, negative, nought, ◌⊕◌, ◌⊗◌}
use Rattle.exact_algebra.proofs.Span.{ContainsFraction}
use Rattle.exact_algebra.proofs.Whole.{whole}
use Rattle.hull_model.specs.FaceParts.{area_z}
use Rattle.hull_model.specs.WetMean.{weighted_depth}
use Rattle.outward_interval.specs.Laws.{sum_contains, negative_contains}
use Rattle.outward_interval.specs.Widths.{units}
use Rattle.plane_clip.specs.Enclosure.{EnclosesMean, IsNoWider, weighted_means}
use Rattle.plane_clip.proofs.EachLists.{each_at}
use Rattle.flux_moments.specs.PartSizes.{part_area}
use Rattle.flux_moments.specs.Sizes.{spread}
use Rattle.flux_moments.proofs.BoxWidths.{far_at_most}
use Rattle.flux_moments.proofs.DryFaces.{dry_within}
use Rattle.flux_moments.proofs.FaceWidths.{width_narrow, reach_near}
use Rattle.flux_moments.proofs.PartWidths.{nonnegative_area, nonnegative_last}
use Rattle.flux_moments.proofs.ProductEnds.{products_fit, product_ends, less, at_most_sum}
use Rattle.flux_moments.proofs.TriangleColumns.{depths_at}
use Rattle.compartment_loss.proofs.UprightDry.{nonnegative_reach, no_part_volume, no_part_mx, no_part_volume-narrow, no_part_length-narrow}
use Rattle.compartment_loss.proofs.UprightParts.{part_volume_is, part_mx_is, factor_narrow, factor_near, factor_less, along-fits, part_sizes, part_spread, part_volume_narrow, part_length_narrow}
use Rattle.compartment_loss.proofs.upright_part.part_column.Goals as goal

pub scaled_place-requires-clause-factor : goal.scaled_place-requires-clause-factor
scaled_place-requires-clause-factor c = factor_less c.args.part.now c.neg-factor.ensures

pub scaled_place-requires-2-clause-factor : goal.scaled_place-requires-2-clause-factor
scaled_place-requires-2-clause-factor c = factor_less c.args.part.now c.neg-factor.ensures

pub scaled_place-requires-3-clause-factor : goal.scaled_place-requires-3-clause-factor
scaled_place-requires-3-clause-factor c = factor_less c.args.part.now c.neg-factor.ensures

pub scaled_by-requires : goal.scaled_by-requires
scaled_by-requires c = (omega arith, (omega arith, products_fit (2 ^ 42) (2 ^ 57) (omega arith) (less 42 c.wet_depths-means.ensures.depth_bounded) (factor_less c.args.part.now c.neg-factor.ensures)))

pub returns-clause-volume_ends : goal.returns-clause-volume_ends
returns-clause-volume_ends c = product_ends (2 ^ 42) (2 ^ 57) (2 ^ 79) (2 ^ 20) (omega arith) (less 42 c.wet_depths-means.ensures.depth_bounded) (factor_less c.args.part.now c.neg-factor.ensures) c.scaled_by.ensures.ends

pub returns-clause-mx_ends : goal.returns-clause-mx_ends
returns-clause-mx_ends c = at_most_sum (2 ^ 98 + 2 ^ 20) (2 ^ 97 + 2 ^ 19) (2 ^ 99) (omega arith)
    (at_most_sum (2 ^ 97 + 2 ^ 19) (2 ^ 97 + 2 ^ 19) (2 ^ 98 + 2 ^ 20) (omega arith) c.scaled_place.ensures.ends c.scaled_place-2.ensures.ends c.add.ensures) c.scaled_place-3.ensures.ends c.add-moment.ensures

pub returns-clause-volume : goal.returns-clause-volume
returns-clause-volume c plane share t is holds =
    let first = c.args.way.first in
    let last = c.args.way.last in
    subst (λ (x : Fraction). ContainsFraction 20 c.scaled_by.result.lo c.scaled_by.result.hi x) (part_volume_is c.args.planes.now c.requires.upright plane is first last t share)
    (c.scaled_by.ensures.contains _ _ (c.wet_depths-means.ensures.depth (depths_at plane first last t)
    (c.corner_depth-first.ensures.contains c.args.planes.now c.args.way c.requires.upright c.with-at_a.ensures.near c.requires.within.a plane t.a is holds.a, c.corner_depth-second.ensures.contains c.args.planes.now c.args.way c.requires.upright c.with-at_b.ensures.near c.requires.within.b plane t.b is holds.b, c.corner_depth-third.ensures.contains c.args.planes.now c.args.way c.requires.upright c.with-at_c.ensures.near c.requires.within.c plane t.c is holds.c))
    (negative_contains 20 _ _ _ _ (area_z t ⊗ share) c.neg-factor.ensures holds.az))

pub returns-clause-mx : goal.returns-clause-mx
returns-clause-mx c plane share t is holds =
    let first = c.args.way.first in
    let last = c.args.way.last in
    let spans = c.corner_depth-first.result ∷ c.corner_depth-second.result ∷ c.corner_depth-third.result ∷ [] in
    let mean = each_at (EnclosesMean 20 spans) c.wet_depths-means.result.weighted weighted_means in
    let d = depths_at plane first last t in
    let a = negative (area_z t ⊗ share) in
    let factor = negative_contains 20 _ _ _ _ (area_z t ⊗ share) c.neg-factor.ensures holds.az in
    let m0 = mean 0 c.index-means-0.result (weighted_depth 0) (omega arith) c.wet_depths-means.ensures.weighted d
    (c.corner_depth-first.ensures.contains c.args.planes.now c.args.way c.requires.upright c.with-at_a.ensures.near c.requires.within.a plane t.a is holds.a, c.corner_depth-second.ensures.contains c.args.planes.now c.args.way c.requires.upright c.with-at_b.ensures.near c.requires.within.b plane t.b is holds.b, c.corner_depth-third.ensures.contains c.args.planes.now c.args.way c.requires.upright c.with-at_c.ensures.near c.requires.within.c plane t.c is holds.c) in
    let m1 = mean 1 c.index-means-1.result (weighted_depth 1) (omega arith) c.wet_depths-means.ensures.weighted d
    (c.corner_depth-first.ensures.contains c.args.planes.now c.args.way c.requires.upright c.with-at_a.ensures.near c.requires.within.a plane t.a is holds.a, c.corner_depth-second.ensures.contains c.args.planes.now c.args.way c.requires.upright c.with-at_b.ensures.near c.requires.within.b plane t.b is holds.b, c.corner_depth-third.ensures.contains c.args.planes.now c.args.way c.requires.upright c.with-at_c.ensures.near c.requires.within.c plane t.c is holds.c) in
    let m2 = mean 2 c.index-means-2.result (weighted_depth 2) (omega arith) c.wet_depths-means.ensures.weighted d
    (c.corner_depth-first.ensures.contains c.args.planes.now c.args.way c.requires.upright c.with-at_a.ensures.near c.requires.within.a plane t.a is holds.a, c.corner_depth-second.ensures.contains c.args.planes.now c.args.way c.requires.upright c.with-at_b.ensures.near c.requires.within.b plane t.b is holds.b, c.corner_depth-third.ensures.contains c.args.planes.now c.args.way c.requires.upright c.with-at_c.ensures.near c.requires.within.c plane t.c is holds.c) in
    let xa : SFits w128 c.args.part.now.a.x = along-fits _ c.args.part.now.a.place.0 c.args.part.now.a.place.1 in
    let xb : SFits w128 c.args.part.now.b.x = along-fits _ c.args.part.now.b.place.0 c.args.part.now.b.place.1 in
    let xc : SFits w128 c.args.part.now.c.x = along-fits _ c.args.part.now.c.place.0 c.args.part.now.c.place.1 in
    subst (λ (x : Fraction). ContainsFraction 20 c.add-moment.result.lo c.add-moment.result.hi x) (part_mx_is c.args.planes.now c.requires.upright plane is first last t share c.args.part.now holds)
    (sum_contains 20 _ _ _ _ _ _ _ _ c.add-moment.ensures (sum_contains 20 _ _ _ _ _ _ _ _ c.add.ensures
    ((simp to_z-of_z at c.scaled_place.ensures.contains) _ a m0 factor) ((simp to_z-of_z at c.scaled_place-2.ensures.contains) _ a m1 factor)) ((simp to_z-of_z at c.scaled_place-3.ensures.contains) _ a m2 factor))

pub returns-clause-volume_width : goal.returns-clause-volume_width
returns-clause-volume_width c b h y z size some reached extent =
    let part = c.args.part.now in
    part_volume_narrow (spread b h) h (part_area part) (part_spread c.args.planes.now b size h some) (part_sizes c.args.planes.now b size h some part) c.corner_depth-first.result c.corner_depth-second.result c.corner_depth-third.result
    (c.corner_depth-first.ensures.narrow c.args.planes.now c.args.way c.with-at_a.ensures.near c.requires.within.a b h y z size some extent.a, c.corner_depth-second.ensures.narrow c.args.planes.now c.args.way c.with-at_b.ensures.near c.requires.within.b b h y z size some extent.b, c.corner_depth-third.ensures.narrow c.args.planes.now c.args.way c.with-at_c.ensures.near c.requires.within.c b h y z size some extent.c)
    (c.corner_depth-first.ensures.near c.args.planes.now c.args.way c.with-at_a.ensures.near c.requires.within.a b h y z size reached extent.a, c.corner_depth-second.ensures.near c.args.planes.now c.args.way c.with-at_b.ensures.near c.requires.within.b b h y z size reached extent.b, c.corner_depth-third.ensures.near c.args.planes.now c.args.way c.with-at_c.ensures.near c.requires.within.c b h y z size reached extent.c)
    c.wet_depths-means.result.depth c.neg-factor.result c.scaled_by.result c.wet_depths-means.ensures.depth c.wet_depths-means.ensures.depth_width
    (factor_narrow part c.neg-factor.ensures extent.az) (factor_near part c.neg-factor.ensures) c.scaled_by.ensures.width

pub returns-clause-mx_width : goal.returns-clause-mx_width
returns-clause-mx_width c b h y z size some reached extent =
    let part = c.args.part.now in
    let planes = c.args.planes.now in
    let sizes = part_sizes planes b size h some part in
    let wide' = factor_narrow part c.neg-factor.ensures extent.az in
    let near' = factor_near part c.neg-factor.ensures in
    let spans = c.corner_depth-first.result ∷ c.corner_depth-second.result ∷ c.corner_depth-third.result ∷ [] in
    let no_wider = each_at (IsNoWider 20 8 spans) c.wet_depths-means.result.weighted weighted_means in
    let holds = each_at (EnclosesMean 20 spans) c.wet_depths-means.result.weighted weighted_means in
    let span0 = get_or c.wet_depths-means.result.weighted 0 c.index-means-0.result in
    let wider0 = no_wider 0 c.index-means-0.result (weighted_depth 0) (omega arith) c.wet_depths-means.ensures.weighted_width in
    let holds0 = holds 0 c.index-means-0.result (weighted_depth 0) (omega arith) c.wet_depths-means.ensures.weighted in
    let w0 = width_narrow (spread b h ⊕ units 20 8) h (part_area part) nought sizes c.corner_depth-first.result c.corner_depth-second.result c.corner_depth-third.result
    (c.corner_depth-first.ensures.narrow c.args.planes.now c.args.way c.with-at_a.ensures.near c.requires.within.a b h y z size some extent.a, c.corner_depth-second.ensures.narrow c.args.planes.now c.args.way c.with-at_b.ensures.near c.requires.within.b b h y z size some extent.b, c.corner_depth-third.ensures.narrow c.args.planes.now c.args.way c.with-at_c.ensures.near c.requires.within.c b h y z size some extent.c)
    (c.corner_depth-first.ensures.near c.args.planes.now c.args.way c.with-at_a.ensures.near c.requires.within.a b h y z size reached extent.a, c.corner_depth-second.ensures.near c.args.planes.now c.args.way c.with-at_b.ensures.near c.requires.within.b b h y z size reached extent.b, c.corner_depth-third.ensures.near c.args.planes.now c.args.way c.with-at_c.ensures.near c.requires.within.c b h y z size reached extent.c) 0 span0 wider0 in
    let m0 = reach_near (spread b h ⊕ units 20 8) h (part_area part) nought sizes c.corner_depth-first.result c.corner_depth-second.result c.corner_depth-third.result
    (c.corner_depth-first.ensures.narrow c.args.planes.now c.args.way c.with-at_a.ensures.near c.requires.within.a b h y z size some extent.a, c.corner_depth-second.ensures.narrow c.args.planes.now c.args.way c.with-at_b.ensures.near c.requires.within.b b h y z size some extent.b, c.corner_depth-third.ensures.narrow c.args.planes.now c.args.way c.with-at_c.ensures.near c.requires.within.c b h y z size some extent.c)
    (c.corner_depth-first.ensures.near c.args.planes.now c.args.way c.with-at_a.ensures.near c.requires.within.a b h y z size reached extent.a, c.corner_depth-second.ensures.near c.args.planes.now c.args.way c.with-at_b.ensures.near c.requires.within.b b h y z size reached extent.b, c.corner_depth-third.ensures.near c.args.planes.now c.args.way c.with-at_c.ensures.near c.requires.within.c b h y z size reached extent.c) 0 span0 holds0 wider0 in
    let span1 = get_or c.wet_depths-means.result.weighted 1 c.index-means-1.result in
    let wider1 = no_wider 1 c.index-means-1.result (weighted_depth 1) (omega arith) c.wet_depths-means.ensures.weighted_width in
    let holds1 = holds 1 c.index-means-1.result (weighted_depth 1) (omega arith) c.wet_depths-means.ensures.weighted in
    let w1 = width_narrow (spread b h ⊕ units 20 8) h (part_area part) nought sizes c.corner_depth-first.result c.corner_depth-second.result c.corner_depth-third.result
    (c.corner_depth-first.ensures.narrow c.args.planes.now c.args.way c.with-at_a.ensures.near c.requires.within.a b h y z size some extent.a, c.corner_depth-second.ensures.narrow c.args.planes.now c.args.way c.with-at_b.ensures.near c.requires.within.b b h y z size some extent.b, c.corner_depth-third.ensures.narrow c.args.planes.now c.args.way c.with-at_c.ensures.near c.requires.within.c b h y z size some extent.c)
    (c.corner_depth-first.ensures.near c.args.planes.now c.args.way c.with-at_a.ensures.near c.requires.within.a b h y z size reached extent.a, c.corner_depth-second.ensures.near c.args.planes.now c.args.way c.with-at_b.ensures.near c.requires.within.b b h y z size reached extent.b, c.corner_depth-third.ensures.near c.args.planes.now c.args.way c.with-at_c.ensures.near c.requires.within.c b h y z size reached extent.c) 1 span1 wider1 in
    let m1 = reach_near (spread b h ⊕ units 20 8) h (part_area part) nought sizes c.corner_depth-first.result c.corner_depth-second.result c.corner_depth-third.result
    (c.corner_depth-first.ensures.narrow c.args.planes.now c.args.way c.with-at_a.ensures.near c.requires.within.a b h y z size some extent.a, c.corner_depth-second.ensures.narrow c.args.planes.now c.args.way c.with-at_b.ensures.near c.requires.within.b b h y z size some extent.b, c.corner_depth-third.ensures.narrow c.args.planes.now c.args.way c.with-at_c.ensures.near c.requires.within.c b h y z size some extent.c)
    (c.corner_depth-first.ensures.near c.args.planes.now c.args.way c.with-at_a.ensures.near c.requires.within.a b h y z size reached extent.a, c.corner_depth-second.ensures.near c.args.planes.now c.args.way c.with-at_b.ensures.near c.requires.within.b b h y z size reached extent.b, c.corner_depth-third.ensures.near c.args.planes.now c.args.way c.with-at_c.ensures.near c.requires.within.c b h y z size reached extent.c) 1 span1 holds1 wider1 in
    let span2 = get_or c.wet_depths-means.result.weighted 2 c.index-means-2.result in
    let wider2 = no_wider 2 c.index-means-2.result (weighted_depth 2) (omega arith) c.wet_depths-means.ensures.weighted_width in
    let holds2 = holds 2 c.index-means-2.result (weighted_depth 2) (omega arith) c.wet_depths-means.ensures.weighted in
    let w2 = width_narrow (spread b h ⊕ units 20 8) h (part_area part) nought sizes c.corner_depth-first.result c.corner_depth-second.result c.corner_depth-third.result
    (c.corner_depth-first.ensures.narrow c.args.planes.now c.args.way c.with-at_a.ensures.near c.requires.within.a b h y z size some extent.a, c.corner_depth-second.ensures.narrow c.args.planes.now c.args.way c.with-at_b.ensures.near c.requires.within.b b h y z size some extent.b, c.corner_depth-third.ensures.narrow c.args.planes.now c.args.way c.with-at_c.ensures.near c.requires.within.c b h y z size some extent.c)
    (c.corner_depth-first.ensures.near c.args.planes.now c.args.way c.with-at_a.ensures.near c.requires.within.a b h y z size reached extent.a, c.corner_depth-second.ensures.near c.args.planes.now c.args.way c.with-at_b.ensures.near c.requires.within.b b h y z size reached extent.b, c.corner_depth-third.ensures.near c.args.planes.now c.args.way c.with-at_c.ensures.near c.requires.within.c b h y z size reached extent.c) 2 span2 wider2 in
    let m2 = reach_near (spread b h ⊕ units 20 8) h (part_area part) nought sizes c.corner_depth-first.result c.corner_depth-second.result c.corner_depth-third.result
    (c.corner_depth-first.ensures.narrow c.args.planes.now c.args.way c.with-at_a.ensures.near c.requires.within.a b h y z size some extent.a, c.corner_depth-second.ensures.narrow c.args.planes.now c.args.way c.with-at_b.ensures.near c.requires.within.b b h y z size some extent.b, c.corner_depth-third.ensures.narrow c.args.planes.now c.args.way c.with-at_c.ensures.near c.requires.within.c b h y z size some extent.c)
    (c.corner_depth-first.ensures.near c.args.planes.now c.args.way c.with-at_a.ensures.near c.requires.within.a b h y z size reached extent.a, c.corner_depth-second.ensures.near c.args.planes.now c.args.way c.with-at_b.ensures.near c.requires.within.b b h y z size reached extent.b, c.corner_depth-third.ensures.near c.args.planes.now c.args.way c.with-at_c.ensures.near c.requires.within.c b h y z size reached extent.c) 2 span2 holds2 wider2 in
    let xa : SFits w128 c.args.part.now.a.x = along-fits _ c.args.part.now.a.place.0 c.args.part.now.a.place.1 in
    let xb : SFits w128 c.args.part.now.b.x = along-fits _ c.args.part.now.b.place.0 c.args.part.now.b.place.1 in
    let xc : SFits w128 c.args.part.now.c.x = along-fits _ c.args.part.now.c.place.0 c.args.part.now.c.place.1 in
    part_length_narrow (spread b h) h (part_area part) (part_spread planes b size h some) sizes c.corner_depth-first.result c.corner_depth-second.result c.corner_depth-third.result
    (c.corner_depth-first.ensures.narrow c.args.planes.now c.args.way c.with-at_a.ensures.near c.requires.within.a b h y z size some extent.a, c.corner_depth-second.ensures.narrow c.args.planes.now c.args.way c.with-at_b.ensures.near c.requires.within.b b h y z size some extent.b, c.corner_depth-third.ensures.narrow c.args.planes.now c.args.way c.with-at_c.ensures.near c.requires.within.c b h y z size some extent.c)
    (c.corner_depth-first.ensures.near c.args.planes.now c.args.way c.with-at_a.ensures.near c.requires.within.a b h y z size reached extent.a, c.corner_depth-second.ensures.near c.args.planes.now c.args.way c.with-at_b.ensures.near c.requires.within.b b h y z size reached extent.b, c.corner_depth-third.ensures.near c.args.planes.now c.args.way c.with-at_c.ensures.near c.requires.within.c b h y z size reached extent.c)
    (whole c.args.way.last) _ _ _
    (far_at_most c.args.way.first c.args.way.last _ _ c.args.way.start.0 c.requires.within.a refl)
    (far_at_most c.args.way.first c.args.way.last _ _ c.args.way.start.0 c.requires.within.b refl)
    (far_at_most c.args.way.first c.args.way.last _ _ c.args.way.start.0 c.requires.within.c refl)
    c.add.ensures c.add-moment.ensures ((simp to_z-of_z at c.scaled_place.ensures.narrow) _ _ _ _ w0 m0 wide' near') ((simp to_z-of_z at c.scaled_place-2.ensures.narrow) _ _ _ _ w1 m1 wide' near') ((simp to_z-of_z at c.scaled_place-3.ensures.narrow) _ _ _ _ w2 m2 wide' near')

pub returns-then-is_edgewise-clause-volume : goal.returns-then-is_edgewise-clause-volume
returns-then-is_edgewise-clause-volume c plane share t is holds =
    let first = c.args.way.first in
    let last = c.args.way.last in
    no_part_volume c.args.planes.now c.requires.upright plane is first last t share c.args.part.now holds
    (inr (c.is_edgewise.ensures.0 c.if-is_edgewise.true))
    c.nothing.ensures.volume

pub returns-then-is_edgewise-clause-mx : goal.returns-then-is_edgewise-clause-mx
returns-then-is_edgewise-clause-mx c plane share t is holds =
    let first = c.args.way.first in
    let last = c.args.way.last in
    no_part_mx c.args.planes.now c.requires.upright plane is first last t share c.args.part.now holds
    (inr (c.is_edgewise.ensures.0 c.if-is_edgewise.true))
    c.nothing.ensures.mx

pub returns-then-is_edgewise-clause-volume_width : goal.returns-then-is_edgewise-clause-volume_width
returns-then-is_edgewise-clause-volume_width c b h y z size some reached extent =
    no_part_volume-narrow (spread b h) h (part_area c.args.part.now) (part_spread c.args.planes.now b size h some) (nonnegative_reach h some) (nonnegative_area c.args.part.now) c.nothing.ensures.volume

pub returns-then-is_edgewise-clause-mx_width : goal.returns-then-is_edgewise-clause-mx_width
returns-then-is_edgewise-clause-mx_width c b h y z size some reached extent =
    let way = c.args.way in
    no_part_length-narrow (spread b h) h (part_area c.args.part.now) (part_spread c.args.planes.now b size h some) (nonnegative_reach h some) (nonnegative_area c.args.part.now) (whole way.last) (nonnegative_last way.first way.last way.start.0 way.forwards) c.nothing.ensures.mx

pub returns-then-are_dry-clause-volume : goal.returns-then-are_dry-clause-volume
returns-then-are_dry-clause-volume c plane share t is holds =
    let first = c.args.way.first in
    let last = c.args.way.last in
    no_part_volume c.args.planes.now c.requires.upright plane is first last t share c.args.part.now holds
    (inl (dry_within (c.corner_depth-first.result ∷ c.corner_depth-second.result ∷ c.corner_depth-third.result ∷ []) (depths_at plane first last t) (c.are_dry.ensures.0 c.if-are_dry.true)
    (c.corner_depth-first.ensures.contains c.args.planes.now c.args.way c.requires.upright c.with-at_a.ensures.near c.requires.within.a plane t.a is holds.a, c.corner_depth-second.ensures.contains c.args.planes.now c.args.way c.requires.upright c.with-at_b.ensures.near c.requires.within.b plane t.b is holds.b, c.corner_depth-third.ensures.contains c.args.planes.now c.args.way c.requires.upright c.with-at_c.ensures.near c.requires.within.c plane t.c is holds.c)))
    c.nothing-then-are_dry.ensures.volume

pub returns-then-are_dry-clause-mx : goal.returns-then-are_dry-clause-mx
returns-then-are_dry-clause-mx c plane share t is holds =
    let first = c.args.way.first in
    let last = c.args.way.last in
    no_part_mx c.args.planes.now c.requires.upright plane is first last t share c.args.part.now holds
    (inl (dry_within (c.corner_depth-first.result ∷ c.corner_depth-second.result ∷ c.corner_depth-third.result ∷ []) (depths_at plane first last t) (c.are_dry.ensures.0 c.if-are_dry.true)
    (c.corner_depth-first.ensures.contains c.args.planes.now c.args.way c.requires.upright c.with-at_a.ensures.near c.requires.within.a plane t.a is holds.a, c.corner_depth-second.ensures.contains c.args.planes.now c.args.way c.requires.upright c.with-at_b.ensures.near c.requires.within.b plane t.b is holds.b, c.corner_depth-third.ensures.contains c.args.planes.now c.args.way c.requires.upright c.with-at_c.ensures.near c.requires.within.c plane t.c is holds.c)))
    c.nothing-then-are_dry.ensures.mx

pub returns-then-are_dry-clause-volume_width : goal.returns-then-are_dry-clause-volume_width
returns-then-are_dry-clause-volume_width c b h y z size some reached extent =
    no_part_volume-narrow (spread b h) h (part_area c.args.part.now) (part_spread c.args.planes.now b size h some) (nonnegative_reach h some) (nonnegative_area c.args.part.now) c.nothing-then-are_dry.ensures.volume

pub returns-then-are_dry-clause-mx_width : goal.returns-then-are_dry-clause-mx_width
returns-then-are_dry-clause-mx_width c b h y z size some reached extent =
    let way = c.args.way in
    no_part_length-narrow (spread b h) h (part_area c.args.part.now) (part_spread c.args.planes.now b size h some) (nonnegative_reach h some) (nonnegative_area c.args.part.now) (whole way.last) (nonnegative_last way.first way.last way.start.0 way.forwards) c.nothing-then-are_dry.ensures.mx
