use Rattle.std.proofs.Common.{inl, inr, [], ◌∷◌, ◌∙◌, ◌+◌, unsigned_abs, subst}
use Rattle.exact_algebra.proofs.Whole.{whole}
use Rattle.hull_polyhedron.specs.Between.{IsBetween}
use Rattle.flux_moments.specs.Sizes.{Reaches, spread, doubled_area}
use Rattle.plane_clip.proofs.FaceSizes.{three_corners}
use Rattle.exact_algebra.proofs.Fraction.{Fraction}
use Rattle.exact_algebra.proofs.Span.{ContainsFraction}
use Rattle.hull_model.specs.Waterplane.{side_distance}
use Rattle.flux_moments.proofs.FaceColumns.{renamed, depths, doubled_seen, volume_doubled, moment_doubled, height_moment, renamed_places}
use Rattle.flux_moments.proofs.BoxWidths.{column_sizes, far_at_most}
use Rattle.flux_moments.proofs.DryFaces.{dry_within, none_within, no_volume, no_integral, no_height, no_column_ends, no_columns_narrow}
use Rattle.flux_moments.proofs.PartWidths.{nonnegative_last}
use Rattle.flux_moments.proofs.face_columns.columns.Goals as goal

pub returns-clause-volume : goal.returns-clause-volume
returns-clause-volume c plane is =
    let first = c.args.way.first in
    let last = c.args.way.last in
    let face = c.args.face.now in
    subst (λ (x : Fraction). ContainsFraction 20 c.columns_at.result.volume.lo c.columns_at.result.volume.hi x)
    (volume_doubled plane first last face c.requires.face)
    (c.columns_at.ensures.volume (depths plane first last face c.requires.face) (doubled_seen plane first last face c.requires.face)
    ((renamed c.corner.ensures.depth (c.of-first.ensures.depth plane is)), (renamed c.corner-2.ensures.depth (c.of-second.ensures.depth plane is)), (renamed c.corner-3.ensures.depth (c.of-third.ensures.depth plane is))) (c.factor_of-factor.ensures.contains plane is))

pub returns-clause-mv : goal.returns-clause-mv
returns-clause-mv c plane is =
    let first = c.args.way.first in
    let last = c.args.way.last in
    let face = c.args.face.now in
    subst (λ (x : Fraction). ContainsFraction 20 c.columns_at.result.mv.lo c.columns_at.result.mv.hi x)
    (moment_doubled plane first last face c.requires.face (side_distance plane))
    (c.columns_at.ensures.mv (depths plane first last face c.requires.face) (doubled_seen plane first last face c.requires.face) _ _ _
    ((renamed c.corner.ensures.depth (c.of-first.ensures.depth plane is)), (renamed c.corner-2.ensures.depth (c.of-second.ensures.depth plane is)), (renamed c.corner-3.ensures.depth (c.of-third.ensures.depth plane is))) (c.factor_of-factor.ensures.contains plane is)
    (c.corner.ensures.side plane is) (c.corner-2.ensures.side plane is) (c.corner-3.ensures.side plane is))

pub returns-clause-mu : goal.returns-clause-mu
returns-clause-mu c plane is =
    let first = c.args.way.first in
    let last = c.args.way.last in
    let face = c.args.face.now in
    subst (λ (x : Fraction). ContainsFraction 20 c.columns_at.result.mu.lo c.columns_at.result.mu.hi x) (height_moment plane first last face c.requires.face)
    (c.columns_at.ensures.mu (depths plane first last face c.requires.face) (doubled_seen plane first last face c.requires.face) _ _ _
    ((renamed c.corner.ensures.depth (c.of-first.ensures.depth plane is)), (renamed c.corner-2.ensures.depth (c.of-second.ensures.depth plane is)), (renamed c.corner-3.ensures.depth (c.of-third.ensures.depth plane is))) (c.factor_of-factor.ensures.contains plane is)
    (renamed c.corner.ensures.middle (c.of-first.ensures.middle plane is)) (renamed c.corner-2.ensures.middle (c.of-second.ensures.middle plane is)) (renamed c.corner-3.ensures.middle (c.of-third.ensures.middle plane is)))

pub returns-clause-mx : goal.returns-clause-mx
returns-clause-mx c plane is =
    let first = c.args.way.first in
    let last = c.args.way.last in
    let face = c.args.face.now in
    subst (λ (x : Fraction). ContainsFraction 20 c.columns_at.result.mx.lo c.columns_at.result.mx.hi x)
    (renamed_places (depths plane first last face c.requires.face) (doubled_seen plane first last face c.requires.face) c.corner.ensures.x
    c.corner-2.ensures.x c.corner-3.ensures.x
    ∙ moment_doubled plane first last face c.requires.face (λ p. p.x))
    (c.columns_at.ensures.mx (depths plane first last face c.requires.face) (doubled_seen plane first last face c.requires.face)
    ((renamed c.corner.ensures.depth (c.of-first.ensures.depth plane is)), (renamed c.corner-2.ensures.depth (c.of-second.ensures.depth plane is)), (renamed c.corner-3.ensures.depth (c.of-third.ensures.depth plane is))) (c.factor_of-factor.ensures.contains plane is))

pub returns-clause-widths : goal.returns-clause-widths
returns-clause-widths c b h is some reached =
    let face = c.args.face.now in
    let first = c.args.way.first in
    let last = c.args.way.last in
    let each = three_corners (Reaches b h) face c.requires.face reached in
    let placed = three_corners (IsBetween first last) face c.requires.face c.requires.between in
    c.columns_at.ensures.widths (whole last) (spread b h) h (doubled_area face) b.turn (record {
      sizes = column_sizes c.args.planes.now b is h some (unsigned_abs face.ay + unsigned_abs face.az);
      first_size = c.corner.ensures.size b h is each.0 (c.of-first.ensures.size b h is each.0);
      second_size = c.corner-2.ensures.size b h is each.1 (c.of-second.ensures.size b h is each.1);
      third_size = c.corner-3.ensures.size b h is each.2 (c.of-third.ensures.size b h is each.2);
      factor_width = c.factor_of-factor.ensures.narrow b.turn is.cosine is.sine;
      factor_reach = c.factor_of-factor.ensures.near;
    })
    (far_at_most first last _ _ c.args.way.start.0 placed.0 c.corner.ensures.x)
    (far_at_most first last _ _ c.args.way.start.0 placed.1 c.corner-2.ensures.x)
    (far_at_most first last _ _ c.args.way.start.0 placed.2 c.corner-3.ensures.x)

pub returns-then-are_dry-clause-volume : goal.returns-then-are_dry-clause-volume
returns-then-are_dry-clause-volume c plane is =
    let first = c.args.way.first in
    let last = c.args.way.last in
    let face = c.args.face.now in
    no_volume plane first last face c.requires.face (inl (dry_within (c.of-first.result.depth ∷ c.of-second.result.depth ∷ c.of-third.result.depth ∷ []) (depths plane first last face c.requires.face) (c.are_dry.ensures.0 c.if-are_dry.true)
    (c.of-first.ensures.depth plane is, c.of-second.ensures.depth plane is, c.of-third.ensures.depth plane is))) c.nothing.ensures.0

pub returns-then-are_dry-clause-mx : goal.returns-then-are_dry-clause-mx
returns-then-are_dry-clause-mx c plane is =
    let first = c.args.way.first in
    let last = c.args.way.last in
    let face = c.args.face.now in
    no_integral plane first last face c.requires.face (λ p. p.x) (inl (dry_within (c.of-first.result.depth ∷ c.of-second.result.depth ∷ c.of-third.result.depth ∷ []) (depths plane first last face c.requires.face) (c.are_dry.ensures.0 c.if-are_dry.true)
    (c.of-first.ensures.depth plane is, c.of-second.ensures.depth plane is, c.of-third.ensures.depth plane is))) c.nothing.ensures.1

pub returns-then-are_dry-clause-mv : goal.returns-then-are_dry-clause-mv
returns-then-are_dry-clause-mv c plane is =
    let first = c.args.way.first in
    let last = c.args.way.last in
    let face = c.args.face.now in
    no_integral plane first last face c.requires.face (side_distance plane) (inl (dry_within (c.of-first.result.depth ∷ c.of-second.result.depth ∷ c.of-third.result.depth ∷ []) (depths plane first last face c.requires.face) (c.are_dry.ensures.0 c.if-are_dry.true)
    (c.of-first.ensures.depth plane is, c.of-second.ensures.depth plane is, c.of-third.ensures.depth plane is))) c.nothing.ensures.2

pub returns-then-are_dry-clause-mu : goal.returns-then-are_dry-clause-mu
returns-then-are_dry-clause-mu c plane is =
    let first = c.args.way.first in
    let last = c.args.way.last in
    let face = c.args.face.now in
    no_height plane first last face c.requires.face (inl (dry_within (c.of-first.result.depth ∷ c.of-second.result.depth ∷ c.of-third.result.depth ∷ []) (depths plane first last face c.requires.face) (c.are_dry.ensures.0 c.if-are_dry.true)
    (c.of-first.ensures.depth plane is, c.of-second.ensures.depth plane is, c.of-third.ensures.depth plane is))) c.nothing.ensures.3

pub returns-then-are_dry-clause-ends : goal.returns-then-are_dry-clause-ends
returns-then-are_dry-clause-ends c = no_column_ends c.nothing.result c.nothing.ensures

pub returns-then-are_dry-clause-widths : goal.returns-then-are_dry-clause-widths
returns-then-are_dry-clause-widths c b h is some reached =
    let face = c.args.face.now in
    let way = c.args.way in
    no_columns_narrow (column_sizes c.args.planes.now b is h some (unsigned_abs face.ay + unsigned_abs face.az)) (whole way.last)
    (nonnegative_last way.first way.last way.start.0 way.forwards) c.nothing.result c.nothing.ensures

pub returns-then-is_nothing-clause-volume : goal.returns-then-is_nothing-clause-volume
returns-then-is_nothing-clause-volume c plane is =
    let first = c.args.way.first in
    let last = c.args.way.last in
    let face = c.args.face.now in
    no_volume plane first last face c.requires.face (inr (none_within (c.is_nothing.ensures.0 c.if-is_nothing.true) (c.factor_of-factor.ensures.contains plane is))) c.nothing-then-is_nothing.ensures.0

pub returns-then-is_nothing-clause-mx : goal.returns-then-is_nothing-clause-mx
returns-then-is_nothing-clause-mx c plane is =
    let first = c.args.way.first in
    let last = c.args.way.last in
    let face = c.args.face.now in
    no_integral plane first last face c.requires.face (λ p. p.x) (inr (none_within (c.is_nothing.ensures.0 c.if-is_nothing.true) (c.factor_of-factor.ensures.contains plane is))) c.nothing-then-is_nothing.ensures.1

pub returns-then-is_nothing-clause-mv : goal.returns-then-is_nothing-clause-mv
returns-then-is_nothing-clause-mv c plane is =
    let first = c.args.way.first in
    let last = c.args.way.last in
    let face = c.args.face.now in
    no_integral plane first last face c.requires.face (side_distance plane) (inr (none_within (c.is_nothing.ensures.0 c.if-is_nothing.true) (c.factor_of-factor.ensures.contains plane is))) c.nothing-then-is_nothing.ensures.2

pub returns-then-is_nothing-clause-mu : goal.returns-then-is_nothing-clause-mu
returns-then-is_nothing-clause-mu c plane is =
    let first = c.args.way.first in
    let last = c.args.way.last in
    let face = c.args.face.now in
    no_height plane first last face c.requires.face (inr (none_within (c.is_nothing.ensures.0 c.if-is_nothing.true) (c.factor_of-factor.ensures.contains plane is))) c.nothing-then-is_nothing.ensures.3

pub returns-then-is_nothing-clause-ends : goal.returns-then-is_nothing-clause-ends
returns-then-is_nothing-clause-ends c = no_column_ends c.nothing-then-is_nothing.result c.nothing-then-is_nothing.ensures

pub returns-then-is_nothing-clause-widths : goal.returns-then-is_nothing-clause-widths
returns-then-is_nothing-clause-widths c b h is some reached =
    let face = c.args.face.now in
    let way = c.args.way in
    no_columns_narrow (column_sizes c.args.planes.now b is h some (unsigned_abs face.ay + unsigned_abs face.az)) (whole way.last)
    (nonnegative_last way.first way.last way.start.0 way.forwards) c.nothing-then-is_nothing.result c.nothing-then-is_nothing.ensures
