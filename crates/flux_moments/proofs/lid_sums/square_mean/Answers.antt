use Rattle.std.proofs.Common.{subst, ℕ, ℤ, ◌*◌, ◌*ℤ◌, ◌+◌, ◌^◌, [], ◌∷◌, get_or, pos, unsigned_abs, arith}
use Rattle.outward_interval.specs.Ends.{AreEnds}
use Rattle.flux_moments.specs.Limits.{EndsLess}
use Rattle.exact_algebra.proofs.Fraction.{Fraction}
use Rattle.exact_algebra.proofs.Span.{ContainsFraction}
use Rattle.std.proofs.lemmas.Int.{to_z-of_z}
use Rattle.std.specs.Int.{w64, int_min, int_max}
use mir.Val.{SFits}
use Rattle.hull_model.specs.WetMean.{wet_pair}
use Rattle.outward_interval.specs.Laws.{sum_contains}
use Rattle.plane_clip.specs.Enclosure.{EnclosesMean, IsNoWider, pair_means}
use Rattle.plane_clip.proofs.EachLists.{each_at}
use Rattle.flux_moments.proofs.ProductEnds.{multiple_fits, multiple_ends, sum_fits, sum_ends}
use Rattle.flux_moments.proofs.SeenMeans.{square_sum}
use Rattle.exact_algebra.proofs.Fraction.{◌⊗◌}
use Rattle.exact_algebra.proofs.Whole.{whole}
use Rattle.outward_interval.proofs.Narrow.{narrow-wider, narrow-sum}
use Rattle.flux_moments.proofs.SeenWidths.{pair_narrow, square-narrow, product_at_most, doubled}
use Rattle.flux_moments.proofs.lid_sums.square_mean.Goals as goal

-- how far the ends of a weighed sum may lie
abbrev most : ℕ
most = (2 ^ 41 * 2 ^ 38 + 2 ^ 41 * 2 ^ 38) + 2 ^ 41 * 2 ^ 38

doubled_ends : {lo hi low high : ℤ} → EndsLess most lo hi → AreEnds (int_min (lo *ℤ pos 2) (hi *ℤ pos 2)) (int_max (lo *ℤ pos 2) (hi *ℤ pos 2)) low
    high → EndsLess (most * 3) low high
doubled_ends e are = multiple_ends most 3 (pos 2) e (omega arith) are

pub times_whole-requires : goal.times_whole-requires
times_whole-requires c =
    let uv : SFits w64 c.product-4.result = record { sfits = c.product-4.type_inv } in
    let uw : SFits w64 c.product-5.result = record { sfits = c.product-5.type_inv } in
    let vw : SFits w64 c.product-6.result = record { sfits = c.product-6.type_inv } in
    let products = simp (to_z-of_z, uv, uw, vw) at c.weighed_sum-products.ensures.ends in (
      omega arith,
      multiple_fits most 3 (pos 2) (omega arith) (products (2 ^ 38) c.product-4.ensures.small c.product-5.ensures.small
          c.product-6.ensures.small) (omega arith),
    )

pub add-requires : goal.add-requires
add-requires c =
    let uu : SFits w64 c.product.result = record { sfits = c.product.type_inv } in
    let vv : SFits w64 c.product-2.result = record { sfits = c.product-2.type_inv } in
    let ww : SFits w64 c.product-3.result = record { sfits = c.product-3.type_inv } in
    let squares = simp (to_z-of_z, uu, vv, ww) at c.weighed_sum-squares.ensures.ends in
    let uv : SFits w64 c.product-4.result = record { sfits = c.product-4.type_inv } in
    let uw : SFits w64 c.product-5.result = record { sfits = c.product-5.type_inv } in
    let vw : SFits w64 c.product-6.result = record { sfits = c.product-6.type_inv } in
    let products = simp (to_z-of_z, uv, uw, vw) at c.weighed_sum-products.ensures.ends in
    let first = squares (2 ^ 38) c.product.ensures.small c.product-2.ensures.small c.product-3.ensures.small in
    let second = doubled_ends (products (2 ^ 38) c.product-4.ensures.small c.product-5.ensures.small c.product-6.ensures.small) c.times_whole.ensures.ends in
    (omega arith, sum_fits most (most * 3) (omega arith) first second)

pub returns-clause-ends : goal.returns-clause-ends
returns-clause-ends c =
    let uu : SFits w64 c.product.result = record { sfits = c.product.type_inv } in
    let vv : SFits w64 c.product-2.result = record { sfits = c.product-2.type_inv } in
    let ww : SFits w64 c.product-3.result = record { sfits = c.product-3.type_inv } in
    let squares = simp (to_z-of_z, uu, vv, ww) at c.weighed_sum-squares.ensures.ends in
    let uv : SFits w64 c.product-4.result = record { sfits = c.product-4.type_inv } in
    let uw : SFits w64 c.product-5.result = record { sfits = c.product-5.type_inv } in
    let vw : SFits w64 c.product-6.result = record { sfits = c.product-6.type_inv } in
    let products = simp (to_z-of_z, uv, uw, vw) at c.weighed_sum-products.ensures.ends in
    let first = squares (2 ^ 38) c.product.ensures.small c.product-2.ensures.small c.product-3.ensures.small in
    let second = doubled_ends (products (2 ^ 38) c.product-4.ensures.small c.product-5.ensures.small c.product-6.ensures.small) c.times_whole.ensures.ends in
    let all = sum_ends most (most * 3) first second c.add.ensures in
    record { low = omega (arith, all.low); high = omega (arith, all.high) }

pub returns-clause-contains : goal.returns-clause-contains
returns-clause-contains c h d each within =
    let uu : SFits w64 c.product.result = record { sfits = c.product.type_inv } in
    let vv : SFits w64 c.product-2.result = record { sfits = c.product-2.type_inv } in
    let ww : SFits w64 c.product-3.result = record { sfits = c.product-3.type_inv } in
    let squares = simp (to_z-of_z, uu, vv, ww) at c.weighed_sum-squares.ensures.contains in
    let uv : SFits w64 c.product-4.result = record { sfits = c.product-4.type_inv } in
    let uw : SFits w64 c.product-5.result = record { sfits = c.product-5.type_inv } in
    let vw : SFits w64 c.product-6.result = record { sfits = c.product-6.type_inv } in
    let products = simp (to_z-of_z, uv, uw, vw) at c.weighed_sum-products.ensures.contains in
    let mean = each_at (EnclosesMean 40 h) c.args.pair.now pair_means in
    let first = squares _ _ _ (mean 0 c.index-pair-0.result (wet_pair 0 0) (omega arith) each d within)
    (mean 3 c.index-pair-3.result (wet_pair 1 1) (omega arith) each d within) (mean 5 c.index-pair-5.result (wet_pair 2 2) (omega arith) each d within) in
    let second = products _ _ _ (mean 1 c.index-pair-1.result (wet_pair 0 1) (omega arith) each d within)
    (mean 2 c.index-pair-2.result (wet_pair 0 2) (omega arith) each d within) (mean 4 c.index-pair-4.result (wet_pair 1 2) (omega arith) each d within) in
    let at_uu = simp (to_z-of_z, c.ranges.u) at c.product.ensures.value in
    let at_vv = simp (to_z-of_z, c.ranges.v) at c.product-2.ensures.value in
    let at_ww = simp (to_z-of_z, c.ranges.w) at c.product-3.ensures.value in
    let at_uv = simp (to_z-of_z, c.ranges.u, c.ranges.v) at c.product-4.ensures.value in
    let at_uw = simp (to_z-of_z, c.ranges.u, c.ranges.w) at c.product-5.ensures.value in
    let at_vw = simp (to_z-of_z, c.ranges.v, c.ranges.w) at c.product-6.ensures.value in
    subst (λ (x : Fraction). ContainsFraction 40 c.add.result.lo c.add.result.hi x)
    (square_sum d c.args.u c.args.v c.args.w at_uu at_vv at_ww at_uv at_uw at_vw)
    (sum_contains 40 _ _ _ _ _ _ _ _ c.add.ensures first (c.times_whole.ensures.contains _ second))

pub returns-clause-narrow : goal.returns-clause-narrow
returns-clause-narrow c x y z l each at_u at_v at_w =
    let mean = each_at (IsNoWider 40 16 (x ∷ y ∷ z ∷ [])) c.args.pair.now pair_means in
    let pair00 = pair_narrow x y z 0 0 (get_or c.args.pair.now 0 c.index-pair-0.result) (mean 0 c.index-pair-0.result (wet_pair 0 0) (omega arith) each) in
    let pair11 = pair_narrow x y z 1 1 (get_or c.args.pair.now 3 c.index-pair-3.result) (mean 3 c.index-pair-3.result (wet_pair 1 1) (omega arith) each) in
    let pair22 = pair_narrow x y z 2 2 (get_or c.args.pair.now 5 c.index-pair-5.result) (mean 5 c.index-pair-5.result (wet_pair 2 2) (omega arith) each) in
    let pair01 = pair_narrow x y z 0 1 (get_or c.args.pair.now 1 c.index-pair-1.result) (mean 1 c.index-pair-1.result (wet_pair 0 1) (omega arith) each) in
    let pair02 = pair_narrow x y z 0 2 (get_or c.args.pair.now 2 c.index-pair-2.result) (mean 2 c.index-pair-2.result (wet_pair 0 2) (omega arith) each) in
    let pair12 = pair_narrow x y z 1 2 (get_or c.args.pair.now 4 c.index-pair-4.result) (mean 4 c.index-pair-4.result (wet_pair 1 2) (omega arith) each) in
    let most_uu = product_at_most l c.args.u c.args.u (simp (to_z-of_z, c.ranges.u) at c.product.ensures.value) at_u at_u in
    let most_vv = product_at_most l c.args.v c.args.v (simp (to_z-of_z, c.ranges.v) at c.product-2.ensures.value) at_v at_v in
    let most_ww = product_at_most l c.args.w c.args.w (simp (to_z-of_z, c.ranges.w) at c.product-3.ensures.value) at_w at_w in
    let most_uv = product_at_most l c.args.u c.args.v (simp (to_z-of_z, c.ranges.u, c.ranges.v) at c.product-4.ensures.value) at_u at_v in
    let most_uw = product_at_most l c.args.u c.args.w (simp (to_z-of_z, c.ranges.u, c.ranges.w) at c.product-5.ensures.value) at_u at_w in
    let most_vw = product_at_most l c.args.v c.args.w (simp (to_z-of_z, c.ranges.v, c.ranges.w) at c.product-6.ensures.value) at_v at_w in
    let uu : SFits w64 c.product.result = record { sfits = c.product.type_inv } in
    let vv : SFits w64 c.product-2.result = record { sfits = c.product-2.type_inv } in
    let ww : SFits w64 c.product-3.result = record { sfits = c.product-3.type_inv } in
    let squares = (simp (to_z-of_z, uu, vv, ww) at c.weighed_sum-squares.ensures.narrow) _ _ _ pair00 pair11 pair22 in
    let uv : SFits w64 c.product-4.result = record { sfits = c.product-4.type_inv } in
    let uw : SFits w64 c.product-5.result = record { sfits = c.product-5.type_inv } in
    let vw : SFits w64 c.product-6.result = record { sfits = c.product-6.type_inv } in
    let products = (simp (to_z-of_z, uv, uw, vw) at c.weighed_sum-products.ensures.narrow) _ _ _ pair01 pair02 pair12 in
    narrow-wider (square-narrow x y z (l ⊗ l) (whole (pos (unsigned_abs c.product.result))) (whole (pos (unsigned_abs c.product-2.result)))
    (whole (pos (unsigned_abs c.product-3.result)))
    (whole (pos (unsigned_abs c.product-4.result))) (whole (pos (unsigned_abs c.product-5.result))) (whole (pos (unsigned_abs c.product-6.result)))
    most_uu most_vv most_ww most_uv most_uw most_vw)
    (narrow-sum c.add.ensures squares (doubled c.times_whole.ensures.width products))
