use Rattle.std.proofs.Common.{◌∙◌, ap, subst, true, false, List}
use lib.IntN.{ℤ, pos}
use Rattle.plane_clip.specs.declared.shares.Shares.{Shares}
use Rattle.plane_clip.specs.Rounded.{depth_ends, AreEachEnds, corners_of, pairs_of}
use Rattle.plane_clip.proofs.ReadDepths.{are_read, shares_read, fields_read, fields_ordered, fields_weighted, shares_in_order}
use Rattle.plane_clip.proofs.FromEnds.{depth_below, weighted_below, share_below, corners_below, pairs_below}
use Rattle.plane_clip.proofs.triangle.wet_of.Goals as goal

pub returns-clause-share : goal.returns-clause-share
returns-clause-share c =
    let low = are_read c.lower.result c.lower-2.result c.lower-3.result c.args.x.lo c.args.y.lo c.args.z.lo c.lower.ensures.near
    c.lower-2.ensures.near c.lower-3.ensures.near c.lower.ensures.value c.lower-2.ensures.value c.lower-3.ensures.value in
    let high = are_read c.upper.result c.upper-2.result c.upper-3.result c.args.x.hi c.args.y.hi c.args.z.hi c.upper.ensures.near
    c.upper-2.ensures.near c.upper-3.ensures.near c.upper.ensures.value c.upper-2.ensures.value c.upper-3.ensures.value in
    let low_shares = c.means_at-low.ensures.shares ∙ shares_read false c.lower.result c.lower-2.result c.lower-3.result c.args.x.lo c.args.y.lo
    c.args.z.lo low in
    let high_shares = c.means_at-high.ensures.shares ∙ shares_read true c.upper.result c.upper-2.result c.upper-3.result c.args.x.hi c.args.y.hi
    c.args.z.hi high in (
      c.share_spans-shares.ensures.share.0 ∙ ap (λ (n : Shares). pos n.share) low_shares,
      c.share_spans-shares.ensures.share.1 ∙ ap
          (λ (n : Shares). pos n.share) high_shares,
    )

pub returns-clause-corner : goal.returns-clause-corner
returns-clause-corner c =
    let low = are_read c.lower.result c.lower-2.result c.lower-3.result c.args.x.lo c.args.y.lo c.args.z.lo c.lower.ensures.near
    c.lower-2.ensures.near c.lower-3.ensures.near c.lower.ensures.value c.lower-2.ensures.value c.lower-3.ensures.value in
    let high = are_read c.upper.result c.upper-2.result c.upper-3.result c.args.x.hi c.args.y.hi c.args.z.hi c.upper.ensures.near
    c.upper-2.ensures.near c.upper-3.ensures.near c.upper.ensures.value c.upper-2.ensures.value c.upper-3.ensures.value in
    let low_shares = c.means_at-low.ensures.shares ∙ shares_read false c.lower.result c.lower-2.result c.lower-3.result c.args.x.lo c.args.y.lo
    c.args.z.lo low in
    let high_shares = c.means_at-high.ensures.shares ∙ shares_read true c.upper.result c.upper-2.result c.upper-3.result c.args.x.hi c.args.y.hi
    c.args.z.hi high in
    subst (λ (p : List ℤ × List ℤ). AreEachEnds 40 c.share_spans-shares.result.corner p.0 p.1)
    (λ i. (corners_of (low_shares i), corners_of (high_shares i))) c.share_spans-shares.ensures.corner

pub returns-clause-pair : goal.returns-clause-pair
returns-clause-pair c =
    let low = are_read c.lower.result c.lower-2.result c.lower-3.result c.args.x.lo c.args.y.lo c.args.z.lo c.lower.ensures.near
    c.lower-2.ensures.near c.lower-3.ensures.near c.lower.ensures.value c.lower-2.ensures.value c.lower-3.ensures.value in
    let high = are_read c.upper.result c.upper-2.result c.upper-3.result c.args.x.hi c.args.y.hi c.args.z.hi c.upper.ensures.near
    c.upper-2.ensures.near c.upper-3.ensures.near c.upper.ensures.value c.upper-2.ensures.value c.upper-3.ensures.value in
    let low_shares = c.means_at-low.ensures.shares ∙ shares_read false c.lower.result c.lower-2.result c.lower-3.result c.args.x.lo c.args.y.lo
    c.args.z.lo low in
    let high_shares = c.means_at-high.ensures.shares ∙ shares_read true c.upper.result c.upper-2.result c.upper-3.result c.args.x.hi c.args.y.hi
    c.args.z.hi high in
    subst (λ (p : List ℤ × List ℤ). AreEachEnds 40 c.share_spans-shares.result.pair p.0 p.1)
    (λ i. (pairs_of (low_shares i), pairs_of (high_shares i))) c.share_spans-shares.ensures.pair

pub returns-clause-depth : goal.returns-clause-depth
returns-clause-depth c =
    let low = are_read c.lower.result c.lower-2.result c.lower-3.result c.args.x.lo c.args.y.lo c.args.z.lo c.lower.ensures.near
    c.lower-2.ensures.near c.lower-3.ensures.near c.lower.ensures.value c.lower-2.ensures.value c.lower-3.ensures.value in
    let high = are_read c.upper.result c.upper-2.result c.upper-3.result c.args.x.hi c.args.y.hi c.args.z.hi c.upper.ensures.near
    c.upper-2.ensures.near c.upper-3.ensures.near c.upper.ensures.value c.upper-2.ensures.value c.upper-3.ensures.value in
    let low_fields = fields_read false c.lower.result c.lower-2.result c.lower-3.result c.args.x.lo c.args.y.lo c.args.z.lo
    c.means_at-low.result.depths.depth c.means_at-low.result.depths.first c.means_at-low.result.depths.second c.means_at-low.result.depths.third low
    (record {
      depth = c.means_at-low.ensures.depth;
      first = c.means_at-low.ensures.first;
      second = c.means_at-low.ensures.second;
      third =
          c.means_at-low.ensures.third;
    }) in
    let high_fields = fields_read true c.upper.result c.upper-2.result c.upper-3.result c.args.x.hi c.args.y.hi c.args.z.hi
    c.means_at-high.result.depths.depth c.means_at-high.result.depths.first c.means_at-high.result.depths.second c.means_at-high.result.depths.third high
    (record {
      depth = c.means_at-high.ensures.depth;
      first = c.means_at-high.ensures.first;
      second = c.means_at-high.ensures.second;
      third =
          c.means_at-high.ensures.third;
    }) in
    (c.depth_spans-depths.ensures.depth.0 ∙ low_fields.depth, c.depth_spans-depths.ensures.depth.1 ∙ high_fields.depth)

pub returns-clause-weighted : goal.returns-clause-weighted
returns-clause-weighted c =
    let low = are_read c.lower.result c.lower-2.result c.lower-3.result c.args.x.lo c.args.y.lo c.args.z.lo c.lower.ensures.near
    c.lower-2.ensures.near c.lower-3.ensures.near c.lower.ensures.value c.lower-2.ensures.value c.lower-3.ensures.value in
    let high = are_read c.upper.result c.upper-2.result c.upper-3.result c.args.x.hi c.args.y.hi c.args.z.hi c.upper.ensures.near
    c.upper-2.ensures.near c.upper-3.ensures.near c.upper.ensures.value c.upper-2.ensures.value c.upper-3.ensures.value in
    let low_fields = fields_read false c.lower.result c.lower-2.result c.lower-3.result c.args.x.lo c.args.y.lo c.args.z.lo
    c.means_at-low.result.depths.depth c.means_at-low.result.depths.first c.means_at-low.result.depths.second c.means_at-low.result.depths.third low
    (record {
      depth = c.means_at-low.ensures.depth;
      first = c.means_at-low.ensures.first;
      second = c.means_at-low.ensures.second;
      third =
          c.means_at-low.ensures.third;
    }) in
    let high_fields = fields_read true c.upper.result c.upper-2.result c.upper-3.result c.args.x.hi c.args.y.hi c.args.z.hi
    c.means_at-high.result.depths.depth c.means_at-high.result.depths.first c.means_at-high.result.depths.second c.means_at-high.result.depths.third high
    (record {
      depth = c.means_at-high.ensures.depth;
      first = c.means_at-high.ensures.first;
      second = c.means_at-high.ensures.second;
      third =
          c.means_at-high.ensures.third;
    }) in
    fields_weighted c.depth_spans-depths.result.weighted (depth_ends false c.args.x.lo c.args.y.lo c.args.z.lo)
    (depth_ends true c.args.x.hi c.args.y.hi c.args.z.hi)
    c.means_at-low.result.depths.depth c.means_at-low.result.depths.first c.means_at-low.result.depths.second c.means_at-low.result.depths.third
    c.means_at-high.result.depths.depth c.means_at-high.result.depths.first c.means_at-high.result.depths.second
    c.means_at-high.result.depths.third low_fields high_fields c.depth_spans-depths.ensures.weighted

pub returns-clause-depth_bounded : goal.returns-clause-depth_bounded
returns-clause-depth_bounded c = depth_below c.depth_spans-depths.result.depth c.means_at-low.result.depths.depth c.means_at-high.result.depths.depth
    c.means_at-low.ensures.small.0 c.means_at-high.ensures.small.0 c.depth_spans-depths.ensures.depth

pub returns-clause-weighted_bounded : goal.returns-clause-weighted_bounded
returns-clause-weighted_bounded c =
    weighted_below c.depth_spans-depths.result.weighted c.means_at-low.result.depths.depth c.means_at-low.result.depths.first
    c.means_at-low.result.depths.second c.means_at-low.result.depths.third c.means_at-high.result.depths.depth c.means_at-high.result.depths.first
    c.means_at-high.result.depths.second c.means_at-high.result.depths.third c.means_at-low.ensures.small c.means_at-high.ensures.small
    c.depth_spans-depths.ensures.weighted

pub returns-clause-share_bounded : goal.returns-clause-share_bounded
returns-clause-share_bounded c =
    let low = are_read c.lower.result c.lower-2.result c.lower-3.result c.args.x.lo c.args.y.lo c.args.z.lo c.lower.ensures.near
    c.lower-2.ensures.near c.lower-3.ensures.near c.lower.ensures.value c.lower-2.ensures.value c.lower-3.ensures.value in
    let high = are_read c.upper.result c.upper-2.result c.upper-3.result c.args.x.hi c.args.y.hi c.args.z.hi c.upper.ensures.near
    c.upper-2.ensures.near c.upper-3.ensures.near c.upper.ensures.value c.upper-2.ensures.value c.upper-3.ensures.value in
    let low_shares = c.means_at-low.ensures.shares ∙ shares_read false c.lower.result c.lower-2.result c.lower-3.result c.args.x.lo c.args.y.lo
    c.args.z.lo low in
    let high_shares = c.means_at-high.ensures.shares ∙ shares_read true c.upper.result c.upper-2.result c.upper-3.result c.args.x.hi c.args.y.hi
    c.args.z.hi high in
    share_below c.args.x.lo c.args.y.lo c.args.z.lo c.args.x.hi c.args.y.hi c.args.z.hi c.share_spans-shares.result.share
    ((
      c.share_spans-shares.ensures.share.0 ∙ ap (λ (n : Shares). pos n.share) low_shares,
      c.share_spans-shares.ensures.share.1 ∙ ap
          (λ (n : Shares). pos n.share) high_shares,
    ))

pub returns-clause-corner_bounded : goal.returns-clause-corner_bounded
returns-clause-corner_bounded c =
    let low = are_read c.lower.result c.lower-2.result c.lower-3.result c.args.x.lo c.args.y.lo c.args.z.lo c.lower.ensures.near
    c.lower-2.ensures.near c.lower-3.ensures.near c.lower.ensures.value c.lower-2.ensures.value c.lower-3.ensures.value in
    let high = are_read c.upper.result c.upper-2.result c.upper-3.result c.args.x.hi c.args.y.hi c.args.z.hi c.upper.ensures.near
    c.upper-2.ensures.near c.upper-3.ensures.near c.upper.ensures.value c.upper-2.ensures.value c.upper-3.ensures.value in
    let low_shares = c.means_at-low.ensures.shares ∙ shares_read false c.lower.result c.lower-2.result c.lower-3.result c.args.x.lo c.args.y.lo
    c.args.z.lo low in
    let high_shares = c.means_at-high.ensures.shares ∙ shares_read true c.upper.result c.upper-2.result c.upper-3.result c.args.x.hi c.args.y.hi
    c.args.z.hi high in
    corners_below c.args.x.lo c.args.y.lo c.args.z.lo c.args.x.hi c.args.y.hi c.args.z.hi c.share_spans-shares.result.corner
    (subst (λ (p : List ℤ × List ℤ). AreEachEnds 40 c.share_spans-shares.result.corner p.0 p.1)
    (λ i. (corners_of (low_shares i), corners_of (high_shares i))) c.share_spans-shares.ensures.corner)

pub returns-clause-pair_bounded : goal.returns-clause-pair_bounded
returns-clause-pair_bounded c =
    let low = are_read c.lower.result c.lower-2.result c.lower-3.result c.args.x.lo c.args.y.lo c.args.z.lo c.lower.ensures.near
    c.lower-2.ensures.near c.lower-3.ensures.near c.lower.ensures.value c.lower-2.ensures.value c.lower-3.ensures.value in
    let high = are_read c.upper.result c.upper-2.result c.upper-3.result c.args.x.hi c.args.y.hi c.args.z.hi c.upper.ensures.near
    c.upper-2.ensures.near c.upper-3.ensures.near c.upper.ensures.value c.upper-2.ensures.value c.upper-3.ensures.value in
    let low_shares = c.means_at-low.ensures.shares ∙ shares_read false c.lower.result c.lower-2.result c.lower-3.result c.args.x.lo c.args.y.lo
    c.args.z.lo low in
    let high_shares = c.means_at-high.ensures.shares ∙ shares_read true c.upper.result c.upper-2.result c.upper-3.result c.args.x.hi c.args.y.hi
    c.args.z.hi high in
    pairs_below c.args.x.lo c.args.y.lo c.args.z.lo c.args.x.hi c.args.y.hi c.args.z.hi c.share_spans-shares.result.pair
    (subst (λ (p : List ℤ × List ℤ). AreEachEnds 40 c.share_spans-shares.result.pair p.0 p.1)
    (λ i. (pairs_of (low_shares i), pairs_of (high_shares i))) c.share_spans-shares.ensures.pair)

pub share_spans-shares-requires : goal.share_spans-shares-requires
share_spans-shares-requires c =
    let low = are_read c.lower.result c.lower-2.result c.lower-3.result c.args.x.lo c.args.y.lo c.args.z.lo c.lower.ensures.near
    c.lower-2.ensures.near c.lower-3.ensures.near c.lower.ensures.value c.lower-2.ensures.value c.lower-3.ensures.value in
    let high = are_read c.upper.result c.upper-2.result c.upper-3.result c.args.x.hi c.args.y.hi c.args.z.hi c.upper.ensures.near
    c.upper-2.ensures.near c.upper-3.ensures.near c.upper.ensures.value c.upper-2.ensures.value c.upper-3.ensures.value in
    let low_shares = c.means_at-low.ensures.shares ∙ shares_read false c.lower.result c.lower-2.result c.lower-3.result c.args.x.lo c.args.y.lo
    c.args.z.lo low in
    let high_shares = c.means_at-high.ensures.shares ∙ shares_read true c.upper.result c.upper-2.result c.upper-3.result c.args.x.hi c.args.y.hi
    c.args.z.hi high in
    shares_in_order c.means_at-low.result.shares c.means_at-high.result.shares c.args.x.lo c.args.y.lo c.args.z.lo c.args.x.hi c.args.y.hi c.args.z.hi
    c.args.x.ordered c.args.y.ordered c.args.z.ordered low_shares high_shares

pub depth_spans-depths-requires : goal.depth_spans-depths-requires
depth_spans-depths-requires c =
    let low = are_read c.lower.result c.lower-2.result c.lower-3.result c.args.x.lo c.args.y.lo c.args.z.lo c.lower.ensures.near
    c.lower-2.ensures.near c.lower-3.ensures.near c.lower.ensures.value c.lower-2.ensures.value c.lower-3.ensures.value in
    let high = are_read c.upper.result c.upper-2.result c.upper-3.result c.args.x.hi c.args.y.hi c.args.z.hi c.upper.ensures.near
    c.upper-2.ensures.near c.upper-3.ensures.near c.upper.ensures.value c.upper-2.ensures.value c.upper-3.ensures.value in
    let low_fields = fields_read false c.lower.result c.lower-2.result c.lower-3.result c.args.x.lo c.args.y.lo c.args.z.lo
    c.means_at-low.result.depths.depth c.means_at-low.result.depths.first c.means_at-low.result.depths.second c.means_at-low.result.depths.third low
    (record {
      depth = c.means_at-low.ensures.depth;
      first = c.means_at-low.ensures.first;
      second = c.means_at-low.ensures.second;
      third =
          c.means_at-low.ensures.third;
    }) in
    let high_fields = fields_read true c.upper.result c.upper-2.result c.upper-3.result c.args.x.hi c.args.y.hi c.args.z.hi
    c.means_at-high.result.depths.depth c.means_at-high.result.depths.first c.means_at-high.result.depths.second c.means_at-high.result.depths.third high
    (record {
      depth = c.means_at-high.ensures.depth;
      first = c.means_at-high.ensures.first;
      second = c.means_at-high.ensures.second;
      third =
          c.means_at-high.ensures.third;
    }) in
    fields_ordered c.args.x.lo c.args.y.lo c.args.z.lo c.args.x.hi c.args.y.hi c.args.z.hi c.means_at-low.result.depths.depth
    c.means_at-low.result.depths.first c.means_at-low.result.depths.second c.means_at-low.result.depths.third c.means_at-high.result.depths.depth
    c.means_at-high.result.depths.first c.means_at-high.result.depths.second c.means_at-high.result.depths.third
    c.args.x.ordered c.args.y.ordered c.args.z.ordered low_fields high_fields
