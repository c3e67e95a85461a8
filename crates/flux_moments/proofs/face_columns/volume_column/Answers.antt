use Rattle.std.proofs.Common.{inl, inr, [], ◌∷◌, ◌+◌, ◌*◌, ◌^◌, unsigned_abs, arith, subst}
use Rattle.exact_algebra.proofs.Fraction.{Fraction}
use Rattle.exact_algebra.proofs.Span.{ContainsFraction}
use Rattle.flux_moments.proofs.FaceColumns.{depths, volume_doubled}
use Rattle.flux_moments.proofs.DepthEnds.{volume_ends}
use Rattle.flux_moments.proofs.ProductEnds.{products_fit, less}
use Rattle.flux_moments.specs.Sizes.{Reaches, spread, doubled_area}
use Rattle.flux_moments.proofs.BoxWidths.{column_sizes}
use Rattle.plane_clip.proofs.FaceSizes.{three_corners}
use Rattle.flux_moments.proofs.FaceWidths.{volume_narrow}
use Rattle.flux_moments.proofs.DryFaces.{dry_within, none_within, no_volume, no_volume-narrow}
use Rattle.flux_moments.proofs.face_columns.volume_column.Goals as goal

pub scaled_by-requires : goal.scaled_by-requires
scaled_by-requires c = (
  omega arith,
  (
    omega arith,
    products_fit (2 ^ 42) (3 * 2 ^ 76) (omega arith) (less 42 c.wet_depths-means.ensures.depth_bounded)
        c.factor_of-factor.ensures.ends,
  ),
)

pub returns-clause-ends : goal.returns-clause-ends
returns-clause-ends c = volume_ends c.depth_of-first.result c.depth_of-second.result c.depth_of-third.result c.wet_depths-means.result.depth
    c.depth_of-first.ensures.ends c.depth_of-second.ensures.ends c.depth_of-third.ensures.ends c.wet_depths-means.ensures.depth
    c.wet_depths-means.ensures.depth_width c.factor_of-factor.ensures.ends c.scaled_by.ensures.ends

pub returns-clause-contains : goal.returns-clause-contains
returns-clause-contains c plane is =
    let first = c.args.way.first in
    let last = c.args.way.last in
    let face = c.args.face.now in
    subst (λ (x : Fraction). ContainsFraction 20 c.scaled_by.result.lo c.scaled_by.result.hi x) (volume_doubled plane first last face c.requires.face)
    (c.scaled_by.ensures.contains _ _ (c.wet_depths-means.ensures.depth (depths plane first last face c.requires.face)
    (c.depth_of-first.ensures.contains plane is, c.depth_of-second.ensures.contains plane is, c.depth_of-third.ensures.contains plane is))
    (c.factor_of-factor.ensures.contains plane is))

pub returns-clause-narrow : goal.returns-clause-narrow
returns-clause-narrow c b h is some reached =
    let face = c.args.face.now in
    let each = three_corners (Reaches b h) face c.requires.face reached in
    let first = c.depth_of-first in
    let second = c.depth_of-second in
    let third = c.depth_of-third in
    volume_narrow (spread b h) h (doubled_area face) b.turn (column_sizes c.args.planes.now b is h some (unsigned_abs face.ay + unsigned_abs face.az))
    first.result second.result third.result
    (first.ensures.narrow b h is each.0, second.ensures.narrow b h is each.1, third.ensures.narrow b h is each.2)
    (first.ensures.near b h is each.0, second.ensures.near b h is each.1, third.ensures.near b h is each.2)
    c.factor_of-factor.result c.wet_depths-means.result.depth c.scaled_by.result (c.factor_of-factor.ensures.narrow b.turn is.cosine is.sine)
    c.factor_of-factor.ensures.near c.wet_depths-means.ensures.depth c.wet_depths-means.ensures.depth_width c.scaled_by.ensures.width

pub returns-then-are_dry-clause-contains : goal.returns-then-are_dry-clause-contains
returns-then-are_dry-clause-contains c plane is =
    let first = c.args.way.first in
    let last = c.args.way.last in
    let face = c.args.face.now in
    no_volume plane first last face c.requires.face
    (inl (dry_within (c.depth_of-first.result ∷ c.depth_of-second.result ∷ c.depth_of-third.result ∷ []) (depths plane first last face c.requires.face) (c.are_dry.ensures.0 c.if-are_dry.true)
    (c.depth_of-first.ensures.contains plane is, c.depth_of-second.ensures.contains plane is, c.depth_of-third.ensures.contains plane is)))
    c.nothing.ensures

pub returns-then-is_nothing-clause-contains : goal.returns-then-is_nothing-clause-contains
returns-then-is_nothing-clause-contains c plane is = no_volume plane c.args.way.first c.args.way.last c.args.face.now c.requires.face
    (inr (none_within (c.is_nothing.ensures.0 c.if-is_nothing.true) (c.factor_of-factor.ensures.contains plane is))) c.nothing-then-is_nothing.ensures

pub returns-then-are_dry-clause-narrow : goal.returns-then-are_dry-clause-narrow
returns-then-are_dry-clause-narrow c b h is some reached =
    let face = c.args.face.now in
    no_volume-narrow (column_sizes c.args.planes.now b is h some (unsigned_abs face.ay + unsigned_abs face.az)) c.nothing.ensures

pub returns-then-is_nothing-clause-narrow : goal.returns-then-is_nothing-clause-narrow
returns-then-is_nothing-clause-narrow c b h is some reached =
    let face = c.args.face.now in
    no_volume-narrow (column_sizes c.args.planes.now b is h some (unsigned_abs face.ay + unsigned_abs face.az)) c.nothing-then-is_nothing.ensures
