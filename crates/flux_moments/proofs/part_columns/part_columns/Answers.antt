use Rattle.std.proofs.Common.{◌∙◌, sym, ap, subst}
use Rattle.exact_algebra.proofs.Fraction.{Fraction}
use Rattle.exact_algebra.proofs.Span.{ContainsFraction}
use Rattle.exact_algebra.proofs.Whole.{whole}
use Rattle.hull_model.specs.Waterplane.{side_distance}
use Rattle.flux_moments.specs.Columns.{moment_at}
use Rattle.flux_moments.proofs.TriangleColumns.{depths_at, doubled_share, volume_shared, moment_shared, height_shared}
use Rattle.outward_interval.proofs.Narrow.{narrow-wider, near-wider}
use Rattle.flux_moments.specs.PartSizes.{part_area}
use Rattle.flux_moments.proofs.BoxWidths.{nonnegative_rise, nonnegative_turn, far_at_most}
use Rattle.flux_moments.proofs.PartWidths.{wider_spread, part_factor, part_sizes, part_spread, part_widths, nonnegative_area, nonnegative_last}
use Rattle.flux_moments.proofs.part_columns.part_columns.Goals as goal

pub returns-clause-volume : goal.returns-clause-volume
returns-clause-volume c plane share t is h =
    let first = c.args.way.first in
    let last = c.args.way.last in
    let factor = c.factor_of.ensures.contains plane share t is.direction h in
    subst (λ (x : Fraction). ContainsFraction 20 c.columns_at.result.volume.lo c.columns_at.result.volume.hi x) (volume_shared plane first last t share) (c.columns_at.ensures.volume (depths_at plane first last t) (doubled_share plane t share) (c.corner_of-first.ensures.depth plane t.a is h.a, c.corner_of-second.ensures.depth plane t.b is h.b, c.corner_of-third.ensures.depth plane t.c is h.c) factor)

pub returns-clause-mx : goal.returns-clause-mx
returns-clause-mx c plane share t is h =
    let first = c.args.way.first in
    let last = c.args.way.last in
    let factor = c.factor_of.ensures.contains plane share t is.direction h in
    subst (λ (x : Fraction). ContainsFraction 20 c.columns_at.result.mx.lo c.columns_at.result.mx.hi x) ((λ i. moment_at (depths_at plane first last t) (doubled_share plane t share) ((ap whole c.corner_of-first.ensures.x ∙ sym h.a.x) i) ((ap whole c.corner_of-second.ensures.x ∙ sym h.b.x) i) ((ap whole c.corner_of-third.ensures.x ∙ sym h.c.x) i)) ∙ moment_shared plane first last t share (λ p. p.x))
    (c.columns_at.ensures.mx (depths_at plane first last t) (doubled_share plane t share) (c.corner_of-first.ensures.depth plane t.a is h.a, c.corner_of-second.ensures.depth plane t.b is h.b, c.corner_of-third.ensures.depth plane t.c is h.c) factor)

pub returns-clause-mv : goal.returns-clause-mv
returns-clause-mv c plane share t is h =
    let first = c.args.way.first in
    let last = c.args.way.last in
    let factor = c.factor_of.ensures.contains plane share t is.direction h in
    subst (λ (x : Fraction). ContainsFraction 20 c.columns_at.result.mv.lo c.columns_at.result.mv.hi x) (moment_shared plane first last t share (side_distance plane)) (c.columns_at.ensures.mv (depths_at plane first last t) (doubled_share plane t share) _ _ _ (c.corner_of-first.ensures.depth plane t.a is h.a, c.corner_of-second.ensures.depth plane t.b is h.b, c.corner_of-third.ensures.depth plane t.c is h.c) factor
    (c.corner_of-first.ensures.side plane t.a is h.a) (c.corner_of-second.ensures.side plane t.b is h.b) (c.corner_of-third.ensures.side plane t.c is h.c))

pub returns-clause-mu : goal.returns-clause-mu
returns-clause-mu c plane share t is h =
    let first = c.args.way.first in
    let last = c.args.way.last in
    let factor = c.factor_of.ensures.contains plane share t is.direction h in
    subst (λ (x : Fraction). ContainsFraction 20 c.columns_at.result.mu.lo c.columns_at.result.mu.hi x) (height_shared plane first last t share) (c.columns_at.ensures.mu (depths_at plane first last t) (doubled_share plane t share) _ _ _ (c.corner_of-first.ensures.depth plane t.a is h.a, c.corner_of-second.ensures.depth plane t.b is h.b, c.corner_of-third.ensures.depth plane t.c is h.c) factor
    (c.corner_of-first.ensures.middle plane t.a is h.a) (c.corner_of-second.ensures.middle plane t.b is h.b) (c.corner_of-third.ensures.middle plane t.c is h.c))

pub returns-clause-widths : goal.returns-clause-widths
returns-clause-widths c b h y z is some reached extent =
    let planes = c.args.planes.now in
    let part = c.args.part.now in
    let first = c.args.way.first in
    let last = c.args.way.last in
    let area = part_area part in
    let rise = nonnegative_rise planes b is in
    let turn = nonnegative_turn planes b is in
    let size = nonnegative_area part in
    let f = part_factor b.rise b.turn h area rise turn is.at_most_one some size in
    let s = wider_spread b.rise f.turn h in
    let wide = part_spread b.rise b.turn h area rise turn is.at_most_one some size f in
    part_widths b.rise b.turn h area rise turn is.at_most_one some size f (whole last) (nonnegative_last first last c.args.way.start.0 c.args.way.forwards) c.columns_at.result
    (c.columns_at.ensures.widths (whole last) s h f.area f.turn (record {
      sizes = part_sizes b.rise b.turn h area rise turn is.at_most_one some size f;
      first_size = c.corner_of-first.ensures.size b h s y z is reached extent.a wide;
      second_size = c.corner_of-second.ensures.size b h s y z is reached extent.b wide;
      third_size = c.corner_of-third.ensures.size b h s y z is reached extent.c wide;
      factor_width = narrow-wider f.product (c.factor_of.ensures.narrow b.turn is.cosine is.sine extent.ay extent.az);
      factor_reach = near-wider f.area_more c.factor_of.ensures.near;
    })
    (far_at_most first last _ _ c.args.way.start.0 c.requires.a c.corner_of-first.ensures.x)
    (far_at_most first last _ _ c.args.way.start.0 c.requires.b c.corner_of-second.ensures.x)
    (far_at_most first last _ _ c.args.way.start.0 c.requires.c c.corner_of-third.ensures.x))
