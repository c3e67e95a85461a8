use Rattle.std.proofs.Common.{◌+◌, ◌*◌, ◌^◌, arith}
use Rattle.std.proofs.lemmas.Int.{to_z-of_z}
use Rattle.std.specs.Int.{w64}
use mir.Val.{SFits}
use Rattle.outward_interval.specs.Laws.{sum_contains}
use Rattle.flux_moments.proofs.ProductEnds.{sum_fits, sum_ends}
use Rattle.outward_interval.proofs.Narrow.{narrow-sum}
use Rattle.flux_moments.proofs.lid_sums.weighed_sum.Goals as goal

pub add-requires : goal.add-requires
add-requires c =
    let u : SFits w64 c.args.u = c.ranges.u in
    let v : SFits w64 c.args.v = c.ranges.v in
    let first = simp to_z-of_z at c.weighed.ensures.ends in
    let second = simp to_z-of_z at c.weighed-2.ensures.ends in
    (omega arith, sum_fits (2 ^ 41 * 2 ^ 38) (2 ^ 41 * 2 ^ 38) (omega arith) (first (2 ^ 38) c.requires.u) (second (2 ^ 38) c.requires.v))

pub add-requires-2 : goal.add-requires-2
add-requires-2 c =
    let u : SFits w64 c.args.u = c.ranges.u in
    let v : SFits w64 c.args.v = c.ranges.v in
    let w : SFits w64 c.args.w = c.ranges.w in
    let first = simp to_z-of_z at c.weighed.ensures.ends in
    let second = simp to_z-of_z at c.weighed-2.ensures.ends in
    let third = simp to_z-of_z at c.weighed-3.ensures.ends in
    let both = sum_ends (2 ^ 41 * 2 ^ 38) (2 ^ 41 * 2 ^ 38) (first (2 ^ 38) c.requires.u) (second (2 ^ 38) c.requires.v) c.add.ensures in
    (omega arith, sum_fits (2 ^ 41 * 2 ^ 38 + 2 ^ 41 * 2 ^ 38) (2 ^ 41 * 2 ^ 38) (omega arith) both (third (2 ^ 38) c.requires.w))

pub returns-clause-ends : goal.returns-clause-ends
returns-clause-ends c most at_u at_v at_w =
    let u : SFits w64 c.args.u = c.ranges.u in
    let v : SFits w64 c.args.v = c.ranges.v in
    let w : SFits w64 c.args.w = c.ranges.w in
    let first = simp to_z-of_z at c.weighed.ensures.ends in
    let second = simp to_z-of_z at c.weighed-2.ensures.ends in
    let third = simp to_z-of_z at c.weighed-3.ensures.ends in
    sum_ends (2 ^ 41 * most + 2 ^ 41 * most) (2 ^ 41 * most) (sum_ends (2 ^ 41 * most) (2 ^ 41 * most) (first most at_u) (second most at_v)
    c.add.ensures) (third most at_w) c.add-2.ensures

pub returns-clause-contains : goal.returns-clause-contains
returns-clause-contains c a b d at_a at_b at_d =
    let u : SFits w64 c.args.u = c.ranges.u in
    let v : SFits w64 c.args.v = c.ranges.v in
    let w : SFits w64 c.args.w = c.ranges.w in
    let first = simp to_z-of_z at c.weighed.ensures.contains in
    let second = simp to_z-of_z at c.weighed-2.ensures.contains in
    let third = simp to_z-of_z at c.weighed-3.ensures.contains in
    sum_contains 40 _ _ _ _ _ _ _ _ c.add-2.ensures (sum_contains 40 _ _ _ _ _ _ _ _ c.add.ensures (first a at_a) (second b at_b)) (third d at_d)

pub returns-clause-narrow : goal.returns-clause-narrow
returns-clause-narrow c a b d at_a at_b at_d =
    let u : SFits w64 c.args.u = c.ranges.u in
    let v : SFits w64 c.args.v = c.ranges.v in
    let w : SFits w64 c.args.w = c.ranges.w in
    let first = simp to_z-of_z at (c.weighed.ensures.narrow a at_a) in
    let second = simp to_z-of_z at (c.weighed-2.ensures.narrow b at_b) in
    let third = simp to_z-of_z at (c.weighed-3.ensures.narrow d at_d) in
    narrow-sum c.add-2.ensures (narrow-sum c.add.ensures first second) third
