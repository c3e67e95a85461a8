use Rattle.std.proofs.Common.{◌≡◌, sym, subst, length, List, rules}
use lib.ListN.{get_or}
use Rattle.outward_interval.specs.declared.span.Span.{Span}
use Rattle.hull_model.specs.WetMean.{wet_depth}
use Rattle.plane_clip.specs.Enclosure.{EnclosesMean, IsNoWider, Each, weighted_means}
use Rattle.plane_clip.proofs.FromEnds.{three_spans, depth_encloses, depth_no_wider, weighted_enclose, weighted_no_wider, near_spans}
use Rattle.plane_clip.proofs.triangle.wet_depths.Goals as goal

pub returns-clause-depth : goal.returns-clause-depth
returns-clause-depth c =
    let few : length c.args.h ≡ 3 = search rules in
    let three = three_spans c.args.h c.index-h-0.result c.index-h-1.result c.index-h-2.result few in
    subst (λ (h : List (Span 20)). EnclosesMean 20 h c.wet_depths_of.result.depth wet_depth) (sym three) (depth_encloses (get_or c.args.h 0 c.index-h-0.result) (get_or c.args.h 1 c.index-h-1.result) (get_or c.args.h 2 c.index-h-2.result) c.wet_depths_of.result.depth c.wet_depths_of.ensures.depth)

pub returns-clause-weighted : goal.returns-clause-weighted
returns-clause-weighted c =
    let few : length c.args.h ≡ 3 = search rules in
    let three = three_spans c.args.h c.index-h-0.result c.index-h-1.result c.index-h-2.result few in
    subst (λ (h : List (Span 20)). Each (EnclosesMean 20 h) c.wet_depths_of.result.weighted weighted_means) (sym three) (weighted_enclose (get_or c.args.h 0 c.index-h-0.result) (get_or c.args.h 1 c.index-h-1.result) (get_or c.args.h 2 c.index-h-2.result) c.wet_depths_of.result.weighted c.wet_depths_of.ensures.weighted)

pub returns-clause-depth_width : goal.returns-clause-depth_width
returns-clause-depth_width c =
    let few : length c.args.h ≡ 3 = search rules in
    let three = three_spans c.args.h c.index-h-0.result c.index-h-1.result c.index-h-2.result few in
    let near = near_spans c.args.h (get_or c.args.h 0 c.index-h-0.result) (get_or c.args.h 1 c.index-h-1.result) (get_or c.args.h 2 c.index-h-2.result) three c.requires.near in
    subst (λ (h : List (Span 20)). IsNoWider 20 8 h c.wet_depths_of.result.depth wet_depth) (sym three) (depth_no_wider (get_or c.args.h 0 c.index-h-0.result) (get_or c.args.h 1 c.index-h-1.result) (get_or c.args.h 2 c.index-h-2.result) near.0 near.1 near.2 c.wet_depths_of.result.depth c.wet_depths_of.ensures.depth)

pub returns-clause-weighted_width : goal.returns-clause-weighted_width
returns-clause-weighted_width c =
    let few : length c.args.h ≡ 3 = search rules in
    let three = three_spans c.args.h c.index-h-0.result c.index-h-1.result c.index-h-2.result few in
    let near = near_spans c.args.h (get_or c.args.h 0 c.index-h-0.result) (get_or c.args.h 1 c.index-h-1.result) (get_or c.args.h 2 c.index-h-2.result) three c.requires.near in
    subst (λ (h : List (Span 20)). Each (IsNoWider 20 8 h) c.wet_depths_of.result.weighted weighted_means) (sym three) (weighted_no_wider (get_or c.args.h 0 c.index-h-0.result) (get_or c.args.h 1 c.index-h-1.result) (get_or c.args.h 2 c.index-h-2.result) near.0 near.1 near.2 c.wet_depths_of.result.weighted c.wet_depths_of.ensures.weighted)
