use Rattle.std.proofs.Common.{◌+◌, ◌*◌, ◌^◌, [], ◌∷◌, get_or, unsigned_abs, arith}
use Rattle.hull_model.specs.WetMean.{weighted_depth}
use Rattle.outward_interval.specs.Laws.{sum_contains}
use Rattle.plane_clip.specs.Enclosure.{EnclosesMean, IsNoWider, weighted_means}
use Rattle.plane_clip.proofs.EachLists.{each_at}
use Rattle.flux_moments.proofs.DepthEnds.{volume_ends}
use Rattle.flux_moments.proofs.ProductEnds.{products_fit, less, at_most_sum, at_most_fits}
use Rattle.flux_moments.specs.Wets.{IsSum, AreEndsAtMost}
use Rattle.flux_moments.specs.declared.wet.Wet.{Wet}
use Rattle.flux_moments.proofs.FaceWidths.{volume_narrow, width_narrow, reach_near, length_narrow, height_narrow}
use Rattle.flux_moments.proofs.face_columns.columns_at.Goals as goal

-- the sum of the first two weighted means
two_ends : {v w r : Wet} → AreEndsAtMost (3 * 2 ^ 77) (3 * 2 ^ 96 + 2 ^ 19) (3 * 2 ^ 94 + 2 ^ 60) (27 * 2 ^ 94 + 2 ^ 60) v → AreEndsAtMost
    (3 * 2 ^ 77) (3 * 2 ^ 96 + 2 ^ 19) (3 * 2 ^ 94 + 2 ^ 60) (27 * 2 ^ 94 + 2 ^ 60) w → IsSum v w r
    → AreEndsAtMost (3 * 2 ^ 78) (3 * 2 ^ 97 + 2 ^ 20) (3 * 2 ^ 95 + 2 ^ 61) (27 * 2 ^ 95 + 2 ^ 61) r
two_ends h k are = record {
  volume = at_most_sum (3 * 2 ^ 77) (3 * 2 ^ 77) (3 * 2 ^ 78) (omega arith) h.volume k.volume are.volume;
  mx = at_most_sum (3 * 2 ^ 96 + 2 ^ 19) (3 * 2 ^ 96 + 2 ^ 19) (3 * 2 ^ 97 + 2 ^ 20) (omega arith) h.mx k.mx are.mx;
  mv = at_most_sum (3 * 2 ^ 94 + 2 ^ 60) (3 * 2 ^ 94 + 2 ^ 60) (3 * 2 ^ 95 + 2 ^ 61) (omega arith) h.mv k.mv are.mv;
  mu = at_most_sum (27 * 2 ^ 94 + 2 ^ 60) (27 * 2 ^ 94 + 2 ^ 60) (27 * 2 ^ 95 + 2 ^ 61) (omega arith) h.mu k.mu are.mu;
}

pub add-moments-requires : goal.add-moments-requires
add-moments-requires c =
    let two = two_ends c.weighted.ensures.ends c.weighted-2.ensures.ends c.add.ensures in
    let third = c.weighted-3.ensures.ends in record {
      volume = at_most_fits (3 * 2 ^ 78) (3 * 2 ^ 77) (omega arith) two.volume third.volume;
      mx = at_most_fits (3 * 2 ^ 97 + 2 ^ 20) (3 * 2 ^ 96 + 2 ^ 19) (omega arith) two.mx third.mx;
      mv = at_most_fits (3 * 2 ^ 95 + 2 ^ 61) (3 * 2 ^ 94 + 2 ^ 60) (omega arith) two.mv third.mv;
      mu = at_most_fits (27 * 2 ^ 95 + 2 ^ 61) (27 * 2 ^ 94 + 2 ^ 60) (omega arith) two.mu third.mu;
    }

pub scaled_by-requires : goal.scaled_by-requires
scaled_by-requires c = (
  omega arith,
  (
    omega arith,
    products_fit (2 ^ 42) (3 * 2 ^ 76) (omega arith) (less 42 c.wet_depths-means.ensures.depth_bounded)
        c.requires.factor,
  ),
)

pub returns-clause-ends : goal.returns-clause-ends
returns-clause-ends c =
    let two = two_ends c.weighted.ensures.ends c.weighted-2.ensures.ends c.add.ensures in
    let third = c.weighted-3.ensures.ends in record {
      volume = volume_ends c.args.first.now.depth c.args.second.now.depth c.args.third.now.depth c.wet_depths-means.result.depth
          c.args.first.now.depth_ends c.args.second.now.depth_ends c.args.third.now.depth_ends c.wet_depths-means.ensures.depth
          c.wet_depths-means.ensures.depth_width c.requires.factor c.scaled_by.ensures.ends;
      mx = at_most_sum (3 * 2 ^ 97 + 2 ^ 20) (3 * 2 ^ 96 + 2 ^ 19) (5 * 2 ^ 97) (omega arith) two.mx third.mx c.add-moments.ensures.mx;
      mv = at_most_sum (3 * 2 ^ 95 + 2 ^ 61) (3 * 2 ^ 94 + 2 ^ 60) (5 * 2 ^ 95) (omega arith) two.mv third.mv c.add-moments.ensures.mv;
      mu = at_most_sum (27 * 2 ^ 95 + 2 ^ 61) (27 * 2 ^ 94 + 2 ^ 60) (41 * 2 ^ 95) (omega arith) two.mu third.mu c.add-moments.ensures.mu;
    }

pub returns-clause-volume : goal.returns-clause-volume
returns-clause-volume c d a within factor = c.scaled_by.ensures.contains _ a (c.wet_depths-means.ensures.depth d within) factor

pub returns-clause-mx : goal.returns-clause-mx
returns-clause-mx c d a within factor =
    let depths = c.args.first.now.depth ∷ c.args.second.now.depth ∷ c.args.third.now.depth ∷ [] in
    let mean = each_at (EnclosesMean 20 depths) c.wet_depths-means.result.weighted weighted_means in
    let first = mean 0 c.index-means-0.result (weighted_depth 0) (omega arith) c.wet_depths-means.ensures.weighted d within in
    let second = mean 1 c.index-means-1.result (weighted_depth 1) (omega arith) c.wet_depths-means.ensures.weighted d within in
    let third = mean 2 c.index-means-2.result (weighted_depth 2) (omega arith) c.wet_depths-means.ensures.weighted d within in
    sum_contains 20 _ _ _ _ _ _ _ _ c.add-moments.ensures.mx (sum_contains 20 _ _ _ _ _ _ _ _ c.add.ensures.mx
    (c.weighted.ensures.mx _ a first factor) (c.weighted-2.ensures.mx _ a second factor)) (c.weighted-3.ensures.mx _ a third factor)

pub returns-clause-mv : goal.returns-clause-mv
returns-clause-mv c d a u v w within factor first_at second_at third_at =
    let depths = c.args.first.now.depth ∷ c.args.second.now.depth ∷ c.args.third.now.depth ∷ [] in
    let mean = each_at (EnclosesMean 20 depths) c.wet_depths-means.result.weighted weighted_means in
    let first = mean 0 c.index-means-0.result (weighted_depth 0) (omega arith) c.wet_depths-means.ensures.weighted d within in
    let second = mean 1 c.index-means-1.result (weighted_depth 1) (omega arith) c.wet_depths-means.ensures.weighted d within in
    let third = mean 2 c.index-means-2.result (weighted_depth 2) (omega arith) c.wet_depths-means.ensures.weighted d within in
    sum_contains 20 _ _ _ _ _ _ _ _ c.add-moments.ensures.mv (sum_contains 20 _ _ _ _ _ _ _ _ c.add.ensures.mv
    (c.weighted.ensures.mv _ a u first factor first_at) (c.weighted-2.ensures.mv _ a v second factor second_at))
    (c.weighted-3.ensures.mv _ a w third factor third_at)

pub returns-clause-mu : goal.returns-clause-mu
returns-clause-mu c d a u v w within factor first_at second_at third_at =
    let depths = c.args.first.now.depth ∷ c.args.second.now.depth ∷ c.args.third.now.depth ∷ [] in
    let mean = each_at (EnclosesMean 20 depths) c.wet_depths-means.result.weighted weighted_means in
    let first = mean 0 c.index-means-0.result (weighted_depth 0) (omega arith) c.wet_depths-means.ensures.weighted d within in
    let second = mean 1 c.index-means-1.result (weighted_depth 1) (omega arith) c.wet_depths-means.ensures.weighted d within in
    let third = mean 2 c.index-means-2.result (weighted_depth 2) (omega arith) c.wet_depths-means.ensures.weighted d within in
    sum_contains 20 _ _ _ _ _ _ _ _ c.add-moments.ensures.mu (sum_contains 20 _ _ _ _ _ _ _ _ c.add.ensures.mu
    (c.weighted.ensures.mu _ a u first factor first_at) (c.weighted-2.ensures.mu _ a v second factor second_at))
    (c.weighted-3.ensures.mu _ a w third factor third_at)

pub returns-clause-widths : goal.returns-clause-widths
returns-clause-widths c x s h a e is far1 far2 far3 =
    let first = c.args.first.now in
    let second = c.args.second.now in
    let third = c.args.third.now in
    let depths = first.depth ∷ second.depth ∷ third.depth ∷ [] in
    let wide = each_at (IsNoWider 20 8 depths) c.wet_depths-means.result.weighted weighted_means in
    let holds = each_at (EnclosesMean 20 depths) c.wet_depths-means.result.weighted weighted_means in
    let mean0 = get_or c.wet_depths-means.result.weighted 0 c.index-means-0.result in
    let wide0 = wide 0 c.index-means-0.result (weighted_depth 0) (omega arith) c.wet_depths-means.ensures.weighted_width in
    let holds0 = holds 0 c.index-means-0.result (weighted_depth 0) (omega arith) c.wet_depths-means.ensures.weighted in
    let mean1 = get_or c.wet_depths-means.result.weighted 1 c.index-means-1.result in
    let wide1 = wide 1 c.index-means-1.result (weighted_depth 1) (omega arith) c.wet_depths-means.ensures.weighted_width in
    let holds1 = holds 1 c.index-means-1.result (weighted_depth 1) (omega arith) c.wet_depths-means.ensures.weighted in
    let mean2 = get_or c.wet_depths-means.result.weighted 2 c.index-means-2.result in
    let wide2 = wide 2 c.index-means-2.result (weighted_depth 2) (omega arith) c.wet_depths-means.ensures.weighted_width in
    let holds2 = holds 2 c.index-means-2.result (weighted_depth 2) (omega arith) c.wet_depths-means.ensures.weighted in
    let narrow = width_narrow s h a e is.sizes first.depth second.depth third.depth
    (is.first_size.depth_width, is.second_size.depth_width, is.third_size.depth_width)
    (is.first_size.depth_reach, is.second_size.depth_reach, is.third_size.depth_reach) in
    let near = reach_near s h a e is.sizes first.depth second.depth third.depth (
      is.first_size.depth_width,
      is.second_size.depth_width,
      is.third_size.depth_width,
    ) (is.first_size.depth_reach, is.second_size.depth_reach, is.third_size.depth_reach) in
    record {
      volume = volume_narrow s h a e is.sizes first.depth second.depth third.depth
          (is.first_size.depth_width, is.second_size.depth_width, is.third_size.depth_width)
          (is.first_size.depth_reach, is.second_size.depth_reach, is.third_size.depth_reach) c.args.factor c.wet_depths-means.result.depth
          c.scaled_by.result is.factor_width is.factor_reach c.wet_depths-means.ensures.depth c.wet_depths-means.ensures.depth_width c.scaled_by.ensures.width;
      mx = length_narrow s h a e is.sizes first.depth second.depth third.depth (
        is.first_size.depth_width,
        is.second_size.depth_width,
        is.third_size.depth_width,
      ) (is.first_size.depth_reach, is.second_size.depth_reach, is.third_size.depth_reach) x (unsigned_abs first.x)
          (unsigned_abs second.x) (unsigned_abs third.x) far1 far2 far3 c.weighted.result.mx c.weighted-2.result.mx c.weighted-3.result.mx
          c.add.result.mx c.add-moments.result.mx c.add.ensures.mx c.add-moments.ensures.mx
          (c.weighted.ensures.mx_width _ _ e a (narrow 0 mean0 wide0) (near 0 mean0 holds0 wide0) is.factor_width is.factor_reach)
          (c.weighted-2.ensures.mx_width _ _ e a (narrow 1 mean1 wide1) (near 1 mean1 holds1 wide1) is.factor_width is.factor_reach)
          (c.weighted-3.ensures.mx_width _ _ e a (narrow 2 mean2 wide2) (near 2 mean2 holds2 wide2) is.factor_width is.factor_reach);
      mv = height_narrow s h a e is.sizes first.depth second.depth third.depth (
        is.first_size.depth_width,
        is.second_size.depth_width,
        is.third_size.depth_width,
      ) (is.first_size.depth_reach, is.second_size.depth_reach, is.third_size.depth_reach) c.weighted.result.mv
          c.weighted-2.result.mv c.weighted-3.result.mv c.add.result.mv c.add-moments.result.mv c.add.ensures.mv c.add-moments.ensures.mv
          (c.weighted.ensures.mv_width _ _ e a _ _ (narrow 0 mean0 wide0) (near 0 mean0 holds0 wide0) is.factor_width is.factor_reach
          is.first_size.side_width is.first_size.side_reach)
          (c.weighted-2.ensures.mv_width _ _ e a _ _ (narrow 1 mean1 wide1) (near 1 mean1 holds1 wide1) is.factor_width is.factor_reach
          is.second_size.side_width is.second_size.side_reach)
          (c.weighted-3.ensures.mv_width _ _ e a _ _ (narrow 2 mean2 wide2) (near 2 mean2 holds2 wide2) is.factor_width is.factor_reach
          is.third_size.side_width is.third_size.side_reach);
      mu = height_narrow s h a e is.sizes first.depth second.depth third.depth (
        is.first_size.depth_width,
        is.second_size.depth_width,
        is.third_size.depth_width,
      ) (is.first_size.depth_reach, is.second_size.depth_reach, is.third_size.depth_reach) c.weighted.result.mu
          c.weighted-2.result.mu c.weighted-3.result.mu c.add.result.mu c.add-moments.result.mu c.add.ensures.mu c.add-moments.ensures.mu
          (c.weighted.ensures.mu_width _ _ e a _ _ (narrow 0 mean0 wide0) (near 0 mean0 holds0 wide0) is.factor_width is.factor_reach
          is.first_size.middle_width is.first_size.middle_reach)
          (c.weighted-2.ensures.mu_width _ _ e a _ _ (narrow 1 mean1 wide1) (near 1 mean1 holds1 wide1) is.factor_width is.factor_reach
          is.second_size.middle_width is.second_size.middle_reach)
          (c.weighted-3.ensures.mu_width _ _ e a _ _ (narrow 2 mean2 wide2) (near 2 mean2 holds2 wide2) is.factor_width is.factor_reach
          is.third_size.middle_width is.third_size.middle_reach);
    }
