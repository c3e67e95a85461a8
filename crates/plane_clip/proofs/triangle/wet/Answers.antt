use Rattle.std.proofs.Common.{◌≡◌, sym, subst, length, List, rules}
use lib.ListN.{get_or}
use Rattle.outward_interval.specs.declared.span.Span.{Span}
use Rattle.hull_model.specs.WetMean.{wet_share, wet_depth}
use Rattle.plane_clip.specs.Enclosure.{EnclosesMean, IsNoWider, Each, corner_means, pair_means, weighted_means}
use Rattle.plane_clip.proofs.FromEnds.{three_spans, share_encloses, share_no_wider, corners_enclose, corners_no_wider, pairs_enclose, pairs_no_wider, depth_encloses, depth_no_wider, weighted_enclose, weighted_no_wider, near_spans}
use Rattle.plane_clip.proofs.triangle.wet.Goals as goal

pub returns-clause-share : goal.returns-clause-share
returns-clause-share c =
    let few : length c.args.h ≡ 3 = search rules in
    let three = three_spans c.args.h c.index-h-0.result c.index-h-1.result c.index-h-2.result few in
    subst (λ (h : List (Span 20)). EnclosesMean 40 h c.wet_of.result.share wet_share) (sym three) (share_encloses (get_or c.args.h 0 c.index-h-0.result) (get_or c.args.h 1 c.index-h-1.result) (get_or c.args.h 2 c.index-h-2.result) c.wet_of.result.share c.wet_of.ensures.share)

pub returns-clause-corner : goal.returns-clause-corner
returns-clause-corner c =
    let few : length c.args.h ≡ 3 = search rules in
    let three = three_spans c.args.h c.index-h-0.result c.index-h-1.result c.index-h-2.result few in
    subst (λ (h : List (Span 20)). Each (EnclosesMean 40 h) c.wet_of.result.corner corner_means) (sym three) (corners_enclose (get_or c.args.h 0 c.index-h-0.result) (get_or c.args.h 1 c.index-h-1.result) (get_or c.args.h 2 c.index-h-2.result) c.wet_of.result.corner c.wet_of.ensures.corner)

pub returns-clause-pair : goal.returns-clause-pair
returns-clause-pair c =
    let few : length c.args.h ≡ 3 = search rules in
    let three = three_spans c.args.h c.index-h-0.result c.index-h-1.result c.index-h-2.result few in
    subst (λ (h : List (Span 20)). Each (EnclosesMean 40 h) c.wet_of.result.pair pair_means) (sym three) (pairs_enclose (get_or c.args.h 0 c.index-h-0.result) (get_or c.args.h 1 c.index-h-1.result) (get_or c.args.h 2 c.index-h-2.result) c.wet_of.result.pair c.wet_of.ensures.pair)

pub returns-clause-depth : goal.returns-clause-depth
returns-clause-depth c =
    let few : length c.args.h ≡ 3 = search rules in
    let three = three_spans c.args.h c.index-h-0.result c.index-h-1.result c.index-h-2.result few in
    subst (λ (h : List (Span 20)). EnclosesMean 20 h c.wet_of.result.depth wet_depth) (sym three) (depth_encloses (get_or c.args.h 0 c.index-h-0.result) (get_or c.args.h 1 c.index-h-1.result) (get_or c.args.h 2 c.index-h-2.result) c.wet_of.result.depth c.wet_of.ensures.depth)

pub returns-clause-weighted : goal.returns-clause-weighted
returns-clause-weighted c =
    let few : length c.args.h ≡ 3 = search rules in
    let three = three_spans c.args.h c.index-h-0.result c.index-h-1.result c.index-h-2.result few in
    subst (λ (h : List (Span 20)). Each (EnclosesMean 20 h) c.wet_of.result.weighted weighted_means) (sym three) (weighted_enclose (get_or c.args.h 0 c.index-h-0.result) (get_or c.args.h 1 c.index-h-1.result) (get_or c.args.h 2 c.index-h-2.result) c.wet_of.result.weighted c.wet_of.ensures.weighted)

pub returns-clause-share_width : goal.returns-clause-share_width
returns-clause-share_width c =
    let few : length c.args.h ≡ 3 = search rules in
    let three = three_spans c.args.h c.index-h-0.result c.index-h-1.result c.index-h-2.result few in
    subst (λ (h : List (Span 20)). IsNoWider 40 16 h c.wet_of.result.share wet_share) (sym three) (share_no_wider (get_or c.args.h 0 c.index-h-0.result) (get_or c.args.h 1 c.index-h-1.result) (get_or c.args.h 2 c.index-h-2.result) c.wet_of.result.share c.wet_of.ensures.share)

pub returns-clause-corner_width : goal.returns-clause-corner_width
returns-clause-corner_width c =
    let few : length c.args.h ≡ 3 = search rules in
    let three = three_spans c.args.h c.index-h-0.result c.index-h-1.result c.index-h-2.result few in
    subst (λ (h : List (Span 20)). Each (IsNoWider 40 16 h) c.wet_of.result.corner corner_means) (sym three) (corners_no_wider (get_or c.args.h 0 c.index-h-0.result) (get_or c.args.h 1 c.index-h-1.result) (get_or c.args.h 2 c.index-h-2.result) c.wet_of.result.corner c.wet_of.ensures.corner)

pub returns-clause-pair_width : goal.returns-clause-pair_width
returns-clause-pair_width c =
    let few : length c.args.h ≡ 3 = search rules in
    let three = three_spans c.args.h c.index-h-0.result c.index-h-1.result c.index-h-2.result few in
    subst (λ (h : List (Span 20)). Each (IsNoWider 40 16 h) c.wet_of.result.pair pair_means) (sym three) (pairs_no_wider (get_or c.args.h 0 c.index-h-0.result) (get_or c.args.h 1 c.index-h-1.result) (get_or c.args.h 2 c.index-h-2.result) c.wet_of.result.pair c.wet_of.ensures.pair)

pub returns-clause-depth_width : goal.returns-clause-depth_width
returns-clause-depth_width c =
    let few : length c.args.h ≡ 3 = search rules in
    let three = three_spans c.args.h c.index-h-0.result c.index-h-1.result c.index-h-2.result few in
    let near = near_spans c.args.h (get_or c.args.h 0 c.index-h-0.result) (get_or c.args.h 1 c.index-h-1.result) (get_or c.args.h 2 c.index-h-2.result) three c.requires.near in
    subst (λ (h : List (Span 20)). IsNoWider 20 8 h c.wet_of.result.depth wet_depth) (sym three) (depth_no_wider (get_or c.args.h 0 c.index-h-0.result) (get_or c.args.h 1 c.index-h-1.result) (get_or c.args.h 2 c.index-h-2.result) near.0 near.1 near.2 c.wet_of.result.depth c.wet_of.ensures.depth)

pub returns-clause-weighted_width : goal.returns-clause-weighted_width
returns-clause-weighted_width c =
    let few : length c.args.h ≡ 3 = search rules in
    let three = three_spans c.args.h c.index-h-0.result c.index-h-1.result c.index-h-2.result few in
    let near = near_spans c.args.h (get_or c.args.h 0 c.index-h-0.result) (get_or c.args.h 1 c.index-h-1.result) (get_or c.args.h 2 c.index-h-2.result) three c.requires.near in
    subst (λ (h : List (Span 20)). Each (IsNoWider 20 8 h) c.wet_of.result.weighted weighted_means) (sym three) (weighted_no_wider (get_or c.args.h 0 c.index-h-0.result) (get_or c.args.h 1 c.index-h-1.result) (get_or c.args.h 2 c.index-h-2.result) near.0 near.1 near.2 c.wet_of.result.weighted c.wet_of.ensures.weighted)
