use Rattle.std.proofs.Common.{refl, inl, ◌+◌, ◌*◌, ◌^◌, [], ◌∷◌, get_or, subst, unsigned_abs, arith}
use Rattle.std.proofs.lemmas.Int.{to_z-of_z}
use Rattle.std.specs.Int.{w128}
use mir.Val.{SFits}
use Rattle.exact_algebra.proofs.Fraction.{Fraction}
use Rattle.exact_algebra.proofs.Span.{ContainsFraction}
use Rattle.exact_algebra.proofs.Whole.{whole}
use Rattle.hull_model.specs.WetMean.{weighted_depth}
use Rattle.hull_polyhedron.specs.Between.{IsBetween}
use Rattle.outward_interval.specs.Laws.{sum_contains}
use Rattle.plane_clip.specs.Enclosure.{EnclosesMean, IsNoWider, weighted_means}
use Rattle.plane_clip.proofs.EachLists.{each_at}
use Rattle.plane_clip.proofs.FaceSizes.{three_corners}
use Rattle.flux_moments.specs.Sizes.{Reaches, spread, doubled_area}
use Rattle.flux_moments.proofs.BoxWidths.{column_sizes, far_at_most}
use Rattle.flux_moments.proofs.DryFaces.{dry_within, no_volume, no_integral}
use Rattle.flux_moments.proofs.FaceColumns.{depths}
use Rattle.flux_moments.proofs.FaceWidths.{width_narrow}
use Rattle.flux_moments.proofs.PartWidths.{nonnegative_last}
use Rattle.flux_moments.proofs.ProductEnds.{less, multiple_fits, multiple_ends, sum_ends}
use Rattle.compartment_loss.proofs.UprightColumns.{volume_is, mx_is, factor_small, most_less, volume_narrow, length_narrow, no_volume_narrow, no_length_narrow, seen_less}
use Rattle.compartment_loss.proofs.upright_column.seen_column.Goals as goal

pub times_whole-requires : goal.times_whole-requires
times_whole-requires c =
    let factor : SFits w128 c.factor_of-factor.result = record { sfits = c.factor_of-factor.type_inv } in (
      omega arith,
      simp to_z-of_z (multiple_fits (2 ^ 42) (2 ^ 37) c.factor_of-factor.result (omega arith) (less 42 c.wet_depths-means.ensures.depth_bounded)
          (factor_small c.args.face.now c.requires.face c.factor_of-factor.ensures)),
    )

pub times_whole-requires-2 : goal.times_whole-requires-2
times_whole-requires-2 c =
    let factor : SFits w128 c.factor_of-factor.result = record { sfits = c.factor_of-factor.type_inv } in
    let two = sum_ends (2 ^ 60) (2 ^ 60) c.at_place.ensures.ends c.at_place-2.ensures.ends c.add.ensures in
    let three = sum_ends (2 ^ 60 + 2 ^ 60) (2 ^ 60) two c.at_place-3.ensures.ends c.add-moment.ensures in (
      omega arith,
      simp to_z-of_z (multiple_fits ((2 ^ 60 + 2 ^ 60) + 2 ^ 60) (2 ^ 37) c.factor_of-factor.result (omega arith) three
          (factor_small c.args.face.now c.requires.face c.factor_of-factor.ensures)),
    )

pub returns-clause-volume_ends : goal.returns-clause-volume_ends
returns-clause-volume_ends c =
    let factor : SFits w128 c.factor_of-factor.result = record { sfits = c.factor_of-factor.type_inv } in
    most_less (2 ^ 42 * 2 ^ 37) (2 ^ 79) (omega arith) (multiple_ends (2 ^ 42) (2 ^ 37) c.factor_of-factor.result (less 42 c.wet_depths-means.ensures.depth_bounded)
    (factor_small c.args.face.now c.requires.face c.factor_of-factor.ensures) (simp to_z-of_z at c.times_whole.ensures.ends))

pub returns-clause-mx_ends : goal.returns-clause-mx_ends
returns-clause-mx_ends c =
    let factor : SFits w128 c.factor_of-factor.result = record { sfits = c.factor_of-factor.type_inv } in
    let two = sum_ends (2 ^ 60) (2 ^ 60) c.at_place.ensures.ends c.at_place-2.ensures.ends c.add.ensures in
    let three = sum_ends (2 ^ 60 + 2 ^ 60) (2 ^ 60) two c.at_place-3.ensures.ends c.add-moment.ensures in
    most_less (((2 ^ 60 + 2 ^ 60) + 2 ^ 60) * 2 ^ 37) (3 * 2 ^ 97) (omega arith) (multiple_ends ((2 ^ 60 + 2 ^ 60) + 2 ^ 60) (2 ^ 37) c.factor_of-factor.result three
    (factor_small c.args.face.now c.requires.face c.factor_of-factor.ensures) (simp to_z-of_z at c.times_whole-2.ensures.ends))

pub returns-clause-volume : goal.returns-clause-volume
returns-clause-volume c plane is =
    let placed = three_corners (IsBetween c.args.way.first c.args.way.last) c.args.face.now c.requires.face c.requires.between in
    let first = c.args.way.first in
    let last = c.args.way.last in
    let face = c.args.face.now in
    let factor : SFits w128 c.factor_of-factor.result = record { sfits = c.factor_of-factor.type_inv } in
    subst (λ (x : Fraction). ContainsFraction 20 c.times_whole.result.lo c.times_whole.result.hi x)
    (volume_is c.args.planes.now c.requires.upright plane is first last face c.requires.face)
    ((rw c.factor_of-factor.ensures at (simp to_z-of_z at c.times_whole.ensures.contains)) _ (c.wet_depths-means.ensures.depth (depths plane first last face c.requires.face)
    (c.depth_of-first.ensures.contains c.args.planes.now c.args.way c.requires.upright c.with-at_p.ensures.near placed.0 plane is, c.depth_of-second.ensures.contains c.args.planes.now c.args.way c.requires.upright c.with-at_q.ensures.near placed.1 plane is, c.depth_of-third.ensures.contains c.args.planes.now c.args.way c.requires.upright c.with-at_r.ensures.near placed.2 plane is)))

pub returns-clause-mx : goal.returns-clause-mx
returns-clause-mx c plane is =
    let placed = three_corners (IsBetween c.args.way.first c.args.way.last) c.args.face.now c.requires.face c.requires.between in
    let first = c.args.way.first in
    let last = c.args.way.last in
    let face = c.args.face.now in
    let factor : SFits w128 c.factor_of-factor.result = record { sfits = c.factor_of-factor.type_inv } in
    let spans = c.depth_of-first.result ∷ c.depth_of-second.result ∷ c.depth_of-third.result ∷ [] in
    let mean = each_at (EnclosesMean 20 spans) c.wet_depths-means.result.weighted weighted_means in
    let d = depths plane first last face c.requires.face in
    let m0 = mean 0 c.index-means-0.result (weighted_depth 0) (omega arith) c.wet_depths-means.ensures.weighted d
    (c.depth_of-first.ensures.contains c.args.planes.now c.args.way c.requires.upright c.with-at_p.ensures.near placed.0 plane is, c.depth_of-second.ensures.contains c.args.planes.now c.args.way c.requires.upright c.with-at_q.ensures.near placed.1 plane is, c.depth_of-third.ensures.contains c.args.planes.now c.args.way c.requires.upright c.with-at_r.ensures.near placed.2 plane is) in
    let m1 = mean 1 c.index-means-1.result (weighted_depth 1) (omega arith) c.wet_depths-means.ensures.weighted d
    (c.depth_of-first.ensures.contains c.args.planes.now c.args.way c.requires.upright c.with-at_p.ensures.near placed.0 plane is, c.depth_of-second.ensures.contains c.args.planes.now c.args.way c.requires.upright c.with-at_q.ensures.near placed.1 plane is, c.depth_of-third.ensures.contains c.args.planes.now c.args.way c.requires.upright c.with-at_r.ensures.near placed.2 plane is) in
    let m2 = mean 2 c.index-means-2.result (weighted_depth 2) (omega arith) c.wet_depths-means.ensures.weighted d
    (c.depth_of-first.ensures.contains c.args.planes.now c.args.way c.requires.upright c.with-at_p.ensures.near placed.0 plane is, c.depth_of-second.ensures.contains c.args.planes.now c.args.way c.requires.upright c.with-at_q.ensures.near placed.1 plane is, c.depth_of-third.ensures.contains c.args.planes.now c.args.way c.requires.upright c.with-at_r.ensures.near placed.2 plane is) in
    subst (λ (x : Fraction). ContainsFraction 20 c.times_whole-2.result.lo c.times_whole-2.result.hi x)
    (mx_is c.args.planes.now c.requires.upright plane is first last face c.requires.face)
    ((rw c.factor_of-factor.ensures at (simp to_z-of_z at c.times_whole-2.ensures.contains)) _ (sum_contains 20 _ _ _ _ _ _ _ _ c.add-moment.ensures
    (sum_contains 20 _ _ _ _ _ _ _ _ c.add.ensures (c.at_place.ensures.contains _ m0) (c.at_place-2.ensures.contains _ m1)) (c.at_place-3.ensures.contains _ m2)))

pub returns-clause-volume_width : goal.returns-clause-volume_width
returns-clause-volume_width c b h is some reached =
    let placed = three_corners (IsBetween c.args.way.first c.args.way.last) c.args.face.now c.requires.face c.requires.between in
    let face = c.args.face.now in
    let factor : SFits w128 c.factor_of-factor.result = record { sfits = c.factor_of-factor.type_inv } in
    let each = three_corners (Reaches b h) face c.requires.face reached in
    let first = c.depth_of-first in
    let second = c.depth_of-second in
    let third = c.depth_of-third in
    volume_narrow (spread b h) h (doubled_area face) b.turn (column_sizes c.args.planes.now b is h some (unsigned_abs face.ay + unsigned_abs face.az))
    first.result second.result third.result
    (first.ensures.narrow c.args.planes.now c.args.way c.with-at_p.ensures.near placed.0 b h is each.0, second.ensures.narrow c.args.planes.now c.args.way c.with-at_q.ensures.near placed.1 b h is each.1, third.ensures.narrow c.args.planes.now c.args.way c.with-at_r.ensures.near placed.2 b h is each.2)
    (first.ensures.near c.args.planes.now c.args.way c.with-at_p.ensures.near placed.0 b h is each.0, second.ensures.near c.args.planes.now c.args.way c.with-at_q.ensures.near placed.1 b h is each.1, third.ensures.near c.args.planes.now c.args.way c.with-at_r.ensures.near placed.2 b h is each.2)
    (unsigned_abs c.factor_of-factor.result) (seen_less face c.factor_of-factor.ensures)
    c.wet_depths-means.result.depth c.times_whole.result c.wet_depths-means.ensures.depth_width (simp to_z-of_z at c.times_whole.ensures.width)

pub returns-clause-mx_width : goal.returns-clause-mx_width
returns-clause-mx_width c b h is some reached =
    let face = c.args.face.now in
    let begin = c.args.way.first in
    let last = c.args.way.last in
    let factor : SFits w128 c.factor_of-factor.result = record { sfits = c.factor_of-factor.type_inv } in
    let each = three_corners (Reaches b h) face c.requires.face reached in
    let placed = three_corners (IsBetween begin last) face c.requires.face c.requires.between in
    let first = c.depth_of-first in
    let second = c.depth_of-second in
    let third = c.depth_of-third in
    let sizes = column_sizes c.args.planes.now b is h some (unsigned_abs face.ay + unsigned_abs face.az) in
    let spans = first.result ∷ second.result ∷ third.result ∷ [] in
    let no_wider = each_at (IsNoWider 20 8 spans) c.wet_depths-means.result.weighted weighted_means in
    let n0 = width_narrow (spread b h) h (doubled_area face) b.turn sizes first.result second.result third.result (first.ensures.narrow c.args.planes.now c.args.way c.with-at_p.ensures.near placed.0 b h is each.0, second.ensures.narrow c.args.planes.now c.args.way c.with-at_q.ensures.near placed.1 b h is each.1, third.ensures.narrow c.args.planes.now c.args.way c.with-at_r.ensures.near placed.2 b h is each.2) (first.ensures.near c.args.planes.now c.args.way c.with-at_p.ensures.near placed.0 b h is each.0, second.ensures.near c.args.planes.now c.args.way c.with-at_q.ensures.near placed.1 b h is each.1, third.ensures.near c.args.planes.now c.args.way c.with-at_r.ensures.near placed.2 b h is each.2) 0 (get_or c.wet_depths-means.result.weighted 0 c.index-means-0.result)
    (no_wider 0 c.index-means-0.result (weighted_depth 0) (omega arith) c.wet_depths-means.ensures.weighted_width) in
    let n1 = width_narrow (spread b h) h (doubled_area face) b.turn sizes first.result second.result third.result (first.ensures.narrow c.args.planes.now c.args.way c.with-at_p.ensures.near placed.0 b h is each.0, second.ensures.narrow c.args.planes.now c.args.way c.with-at_q.ensures.near placed.1 b h is each.1, third.ensures.narrow c.args.planes.now c.args.way c.with-at_r.ensures.near placed.2 b h is each.2) (first.ensures.near c.args.planes.now c.args.way c.with-at_p.ensures.near placed.0 b h is each.0, second.ensures.near c.args.planes.now c.args.way c.with-at_q.ensures.near placed.1 b h is each.1, third.ensures.near c.args.planes.now c.args.way c.with-at_r.ensures.near placed.2 b h is each.2) 1 (get_or c.wet_depths-means.result.weighted 1 c.index-means-1.result)
    (no_wider 1 c.index-means-1.result (weighted_depth 1) (omega arith) c.wet_depths-means.ensures.weighted_width) in
    let n2 = width_narrow (spread b h) h (doubled_area face) b.turn sizes first.result second.result third.result (first.ensures.narrow c.args.planes.now c.args.way c.with-at_p.ensures.near placed.0 b h is each.0, second.ensures.narrow c.args.planes.now c.args.way c.with-at_q.ensures.near placed.1 b h is each.1, third.ensures.narrow c.args.planes.now c.args.way c.with-at_r.ensures.near placed.2 b h is each.2) (first.ensures.near c.args.planes.now c.args.way c.with-at_p.ensures.near placed.0 b h is each.0, second.ensures.near c.args.planes.now c.args.way c.with-at_q.ensures.near placed.1 b h is each.1, third.ensures.near c.args.planes.now c.args.way c.with-at_r.ensures.near placed.2 b h is each.2) 2 (get_or c.wet_depths-means.result.weighted 2 c.index-means-2.result)
    (no_wider 2 c.index-means-2.result (weighted_depth 2) (omega arith) c.wet_depths-means.ensures.weighted_width) in
    length_narrow (spread b h) h (doubled_area face) b.turn sizes first.result second.result third.result (first.ensures.narrow c.args.planes.now c.args.way c.with-at_p.ensures.near placed.0 b h is each.0, second.ensures.narrow c.args.planes.now c.args.way c.with-at_q.ensures.near placed.1 b h is each.1, third.ensures.narrow c.args.planes.now c.args.way c.with-at_r.ensures.near placed.2 b h is each.2) (first.ensures.near c.args.planes.now c.args.way c.with-at_p.ensures.near placed.0 b h is each.0, second.ensures.near c.args.planes.now c.args.way c.with-at_q.ensures.near placed.1 b h is each.1, third.ensures.near c.args.planes.now c.args.way c.with-at_r.ensures.near placed.2 b h is each.2)
    (unsigned_abs c.factor_of-factor.result) (seen_less face c.factor_of-factor.ensures) (whole last) _ _ _
    (far_at_most begin last _ _ c.args.way.start.0 placed.0 refl)
    (far_at_most begin last _ _ c.args.way.start.0 placed.1 refl)
    (far_at_most begin last _ _ c.args.way.start.0 placed.2 refl)
    c.add.ensures c.add-moment.ensures (simp to_z-of_z at c.times_whole-2.ensures.width)
    (c.at_place.ensures.narrow _ n0) (c.at_place-2.ensures.narrow _ n1) (c.at_place-3.ensures.narrow _ n2)

pub returns-then-are_dry-clause-volume : goal.returns-then-are_dry-clause-volume
returns-then-are_dry-clause-volume c plane is =
    let first = c.args.way.first in
    let last = c.args.way.last in
    let face = c.args.face.now in
    let placed = three_corners (IsBetween first last) face c.requires.face c.requires.between in
    no_volume plane first last face c.requires.face
    (inl (dry_within (c.depth_of-first.result ∷ c.depth_of-second.result ∷ c.depth_of-third.result ∷ []) (depths plane first last face c.requires.face) (c.are_dry.ensures.0 c.if-are_dry.true)
    (c.depth_of-first.ensures.contains c.args.planes.now c.args.way c.requires.upright c.with-at_p.ensures.near placed.0 plane is, c.depth_of-second.ensures.contains c.args.planes.now c.args.way c.requires.upright c.with-at_q.ensures.near placed.1 plane is, c.depth_of-third.ensures.contains c.args.planes.now c.args.way c.requires.upright c.with-at_r.ensures.near placed.2 plane is)))
    c.nothing.ensures.volume

pub returns-then-are_dry-clause-mx : goal.returns-then-are_dry-clause-mx
returns-then-are_dry-clause-mx c plane is =
    let first = c.args.way.first in
    let last = c.args.way.last in
    let face = c.args.face.now in
    let placed = three_corners (IsBetween first last) face c.requires.face c.requires.between in
    no_integral plane first last face c.requires.face (λ p. p.x)
    (inl (dry_within (c.depth_of-first.result ∷ c.depth_of-second.result ∷ c.depth_of-third.result ∷ []) (depths plane first last face c.requires.face) (c.are_dry.ensures.0 c.if-are_dry.true)
    (c.depth_of-first.ensures.contains c.args.planes.now c.args.way c.requires.upright c.with-at_p.ensures.near placed.0 plane is, c.depth_of-second.ensures.contains c.args.planes.now c.args.way c.requires.upright c.with-at_q.ensures.near placed.1 plane is, c.depth_of-third.ensures.contains c.args.planes.now c.args.way c.requires.upright c.with-at_r.ensures.near placed.2 plane is)))
    c.nothing.ensures.mx

pub returns-then-are_dry-clause-volume_width : goal.returns-then-are_dry-clause-volume_width
returns-then-are_dry-clause-volume_width c b h is some reached =
    let face = c.args.face.now in
    no_volume_narrow (spread b h) h (doubled_area face) b.turn (column_sizes c.args.planes.now b is h some (unsigned_abs face.ay + unsigned_abs face.az)) c.nothing.ensures.volume

pub returns-then-are_dry-clause-mx_width : goal.returns-then-are_dry-clause-mx_width
returns-then-are_dry-clause-mx_width c b h is some reached =
    let face = c.args.face.now in
    let way = c.args.way in
    no_length_narrow (spread b h) h (doubled_area face) b.turn (column_sizes c.args.planes.now b is h some (unsigned_abs face.ay + unsigned_abs face.az)) (whole way.last)
    (nonnegative_last way.first way.last way.start.0 way.forwards) c.nothing.ensures.mx
