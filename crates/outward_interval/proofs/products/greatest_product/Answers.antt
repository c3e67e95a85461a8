use Rattle.std.proofs.Common.{◌∙◌, rules}
use Rattle.std.proofs.lemmas.Int.{to_z-of_z}
use Rattle.std.specs.Int.{w128}
use mir.Val.{SFits}
use Rattle.outward_interval.proofs.Extremes.{at_least, at_most, greatest-upper_above, greatest-below_above, greatest-above_below, greatest-lower_below, greatest-above_across, greatest-below_across, greatest-across_across}
use Rattle.outward_interval.proofs.products.greatest_product.Goals as goal

pub returns-then-b-ge0-clause-value : goal.returns-then-b-ge0-clause-value
returns-then-b-ge0-clause-value c =
    let of_a : SFits w128 c.args.a = c.ranges.a in
    let of_b : SFits w128 c.args.b = c.ranges.b in
    let of_c : SFits w128 c.args.c = c.ranges.c in
    let of_d : SFits w128 c.args.d = c.ranges.d in
    let z : SFits w128 c.product.result = search rules in
    let b_ge0 = simp to_z-of_z at c.if-b-ge0.true in
    let c_ge0 = simp to_z-of_z at c.if-c-ge0.true in
    let value = simp to_z-of_z at c.product.ensures.value in
    simp to_z-of_z (value ∙ greatest-upper_above c.args.a c.args.b c.args.c c.args.d c.requires.first c.requires.second (at_least b_ge0) (at_least c_ge0))

pub returns-else-b-ge0-clause-value : goal.returns-else-b-ge0-clause-value
returns-else-b-ge0-clause-value c =
    let of_a : SFits w128 c.args.a = c.ranges.a in
    let of_b : SFits w128 c.args.b = c.ranges.b in
    let of_c : SFits w128 c.args.c = c.ranges.c in
    let of_d : SFits w128 c.args.d = c.ranges.d in
    let z : SFits w128 c.product-else-b-ge0.result = search rules in
    let b_ge0 = simp to_z-of_z at c.if-b-ge0.false in
    let c_ge0 = simp to_z-of_z at c.if-c-ge0.true in
    let value = simp to_z-of_z at c.product-else-b-ge0.ensures.value in
    simp to_z-of_z (value ∙ greatest-below_above c.args.a c.args.b c.args.c c.args.d c.requires.first c.requires.second (at_most b_ge0) (at_least c_ge0))

pub returns-then-a-ge0-clause-value : goal.returns-then-a-ge0-clause-value
returns-then-a-ge0-clause-value c =
    let of_a : SFits w128 c.args.a = c.ranges.a in
    let of_b : SFits w128 c.args.b = c.ranges.b in
    let of_c : SFits w128 c.args.c = c.ranges.c in
    let of_d : SFits w128 c.args.d = c.ranges.d in
    let z : SFits w128 c.product-then-a-ge0.result = search rules in
    let a_ge0 = simp to_z-of_z at c.if-a-ge0.true in
    let d_le0 = simp to_z-of_z at c.if-d-le0.true in
    let value = simp to_z-of_z at c.product-then-a-ge0.ensures.value in
    simp to_z-of_z (value ∙ greatest-above_below c.args.a c.args.b c.args.c c.args.d c.requires.first c.requires.second (at_least a_ge0) (at_least d_le0))

pub returns-else-a-ge0-clause-value : goal.returns-else-a-ge0-clause-value
returns-else-a-ge0-clause-value c =
    let of_a : SFits w128 c.args.a = c.ranges.a in
    let of_b : SFits w128 c.args.b = c.ranges.b in
    let of_c : SFits w128 c.args.c = c.ranges.c in
    let of_d : SFits w128 c.args.d = c.ranges.d in
    let z : SFits w128 c.product-else-a-ge0.result = search rules in
    let a_ge0 = simp to_z-of_z at c.if-a-ge0.false in
    let d_le0 = simp to_z-of_z at c.if-d-le0.true in
    let value = simp to_z-of_z at c.product-else-a-ge0.ensures.value in
    simp to_z-of_z (value ∙ greatest-lower_below c.args.a c.args.b c.args.c c.args.d c.requires.first c.requires.second (at_most a_ge0) (at_least d_le0))

pub returns-then-a-ge0-2-clause-value : goal.returns-then-a-ge0-2-clause-value
returns-then-a-ge0-2-clause-value c =
    let of_a : SFits w128 c.args.a = c.ranges.a in
    let of_b : SFits w128 c.args.b = c.ranges.b in
    let of_c : SFits w128 c.args.c = c.ranges.c in
    let of_d : SFits w128 c.args.d = c.ranges.d in
    let z : SFits w128 c.product-then-a-ge0-2.result = search rules in
    let a_ge0_2 = simp to_z-of_z at c.if-a-ge0-2.true in
    let c_ge0 = simp to_z-of_z at c.if-c-ge0.false in
    let d_le0 = simp to_z-of_z at c.if-d-le0.false in
    let value = simp to_z-of_z at c.product-then-a-ge0-2.ensures.value in
    simp to_z-of_z (value ∙ greatest-above_across c.args.a c.args.b c.args.c c.args.d c.requires.first c.requires.second (at_least a_ge0_2) (at_most c_ge0) (at_most d_le0))

pub returns-then-b-le0-clause-value : goal.returns-then-b-le0-clause-value
returns-then-b-le0-clause-value c =
    let of_a : SFits w128 c.args.a = c.ranges.a in
    let of_b : SFits w128 c.args.b = c.ranges.b in
    let of_c : SFits w128 c.args.c = c.ranges.c in
    let of_d : SFits w128 c.args.d = c.ranges.d in
    let z : SFits w128 c.product-then-b-le0.result = search rules in
    let b_le0 = simp to_z-of_z at c.if-b-le0.true in
    let c_ge0 = simp to_z-of_z at c.if-c-ge0.false in
    let d_le0 = simp to_z-of_z at c.if-d-le0.false in
    let value = simp to_z-of_z at c.product-then-b-le0.ensures.value in
    simp to_z-of_z (value ∙ greatest-below_across c.args.a c.args.b c.args.c c.args.d c.requires.first c.requires.second (at_least b_le0) (at_most c_ge0) (at_most d_le0))

pub returns-else-b-le0-clause-value : goal.returns-else-b-le0-clause-value
returns-else-b-le0-clause-value c =
    let of_a : SFits w128 c.args.a = c.ranges.a in
    let of_b : SFits w128 c.args.b = c.ranges.b in
    let of_c : SFits w128 c.args.c = c.ranges.c in
    let of_d : SFits w128 c.args.d = c.ranges.d in
    let x : SFits w128 c.product-else-b-le0.result = search rules in
    let y : SFits w128 c.product-else-b-le0-2.result = search rules in
    let z : SFits w128 c.greater.result = search rules in
    let a_ge0_2 = simp to_z-of_z at c.if-a-ge0-2.false in
    let b_le0 = simp to_z-of_z at c.if-b-le0.false in
    let first = simp to_z-of_z at c.product-else-b-le0.ensures.value in
    let second = simp to_z-of_z at c.product-else-b-le0-2.ensures.value in
    let value = rw (first, second) at (simp to_z-of_z at c.greater.ensures.value) in
    simp to_z-of_z (value ∙ greatest-across_across c.args.a c.args.b c.args.c c.args.d c.requires.first c.requires.second (at_most a_ge0_2) (at_most b_le0))
