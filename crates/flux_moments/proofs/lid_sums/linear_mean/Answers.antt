use Rattle.std.proofs.Common.{◌^◌, [], ◌∷◌, get_or, pos, unsigned_abs, arith}
use Rattle.std.proofs.lemmas.Int.{to_z-of_z}
use Rattle.std.specs.Int.{w64}
use mir.Val.{SFits}
use Rattle.hull_model.specs.WetMean.{wet_corner}
use Rattle.plane_clip.specs.Enclosure.{EnclosesMean, IsNoWider, corner_means}
use Rattle.plane_clip.proofs.EachLists.{each_at}
use Rattle.exact_algebra.proofs.Whole.{whole}
use Rattle.outward_interval.proofs.Narrow.{narrow-wider}
use Rattle.flux_moments.proofs.SeenWidths.{corner_narrow, linear-narrow}
use Rattle.flux_moments.proofs.lid_sums.linear_mean.Goals as goal

pub returns-clause-ends : goal.returns-clause-ends
returns-clause-ends c =
    let u : SFits w64 c.args.u = c.ranges.u in
    let v : SFits w64 c.args.v = c.ranges.v in
    let w : SFits w64 c.args.w = c.ranges.w in
    let ends = simp to_z-of_z at c.weighed_sum.ensures.ends in
    let all = ends (2 ^ 19) c.requires.u c.requires.v c.requires.w in
    record { low = omega (arith, all.low); high = omega (arith, all.high) }

pub returns-clause-contains : goal.returns-clause-contains
returns-clause-contains c h d each within =
    let u : SFits w64 c.args.u = c.ranges.u in
    let v : SFits w64 c.args.v = c.ranges.v in
    let w : SFits w64 c.args.w = c.ranges.w in
    let contains = simp to_z-of_z at c.weighed_sum.ensures.contains in
    let mean = each_at (EnclosesMean 40 h) c.args.corner.now corner_means in
    contains _ _ _ (mean 0 c.index-corner-0.result (wet_corner 0) (omega arith) each d within)
    (mean 1 c.index-corner-1.result (wet_corner 1) (omega arith) each d within) (mean 2 c.index-corner-2.result (wet_corner 2) (omega arith) each d within)

pub returns-clause-narrow : goal.returns-clause-narrow
returns-clause-narrow c x y z l each at_u at_v at_w =
    let u : SFits w64 c.args.u = c.ranges.u in
    let v : SFits w64 c.args.v = c.ranges.v in
    let w : SFits w64 c.args.w = c.ranges.w in
    let mean = each_at (IsNoWider 40 16 (x ∷ y ∷ z ∷ [])) c.args.corner.now corner_means in
    let first = corner_narrow x y z 0 (get_or c.args.corner.now 0 c.index-corner-0.result) (mean 0 c.index-corner-0.result (wet_corner 0) (omega arith) each) in
    let second = corner_narrow x y z 1 (get_or c.args.corner.now 1 c.index-corner-1.result)
    (mean 1 c.index-corner-1.result (wet_corner 1) (omega arith) each) in
    let third = corner_narrow x y z 2 (get_or c.args.corner.now 2 c.index-corner-2.result) (mean 2 c.index-corner-2.result (wet_corner 2) (omega arith) each) in
    narrow-wider (linear-narrow x y z l (whole (pos (unsigned_abs c.args.u))) (whole (pos (unsigned_abs c.args.v)))
    (whole (pos (unsigned_abs c.args.w))) at_u at_v at_w)
    (simp to_z-of_z at (c.weighed_sum.ensures.narrow _ _ _ first second third))
