use Rattle.std.proofs.Common.{◌^◌, rules, arith}
use Rattle.std.proofs.lemmas.Int.{to_z-of_z}
use Rattle.std.specs.Int.{w128}
use mir.Val.{SFits}
use Rattle.exact_algebra.proofs.Products.{contains_scaled_product, rounded_product-width}
use Rattle.outward_interval.proofs.Extremes.{extremes_ordered}
use Rattle.outward_interval.proofs.Signed.{fits}
use Rattle.outward_interval.proofs.span.Span.scaled_by.Goals as goal

pub rounded-requires : goal.rounded-requires
rounded-requires g c =
    let a : SFits w128 c.args.self.lo = fits c.args.self.low in
    let b : SFits w128 c.args.self.hi = fits c.args.self.high in
    let d : SFits w128 c.args.factor.lo = fits c.args.factor.low in
    let e : SFits w128 c.args.factor.hi = fits c.args.factor.high in
    let low : SFits w128 c.least_product-low.result = search rules in
    let high : SFits w128 c.greatest_product-high.result = search rules in
    let least = simp to_z-of_z at c.least_product-low.ensures.value in
    let greatest = simp to_z-of_z at c.greatest_product-high.ensures.value in (
      omega arith,
      (simp to_z-of_z (rw (least, greatest) (extremes_ordered c.args.self.lo c.args.self.hi c.args.factor.lo c.args.factor.hi)), (simp to_z-of_z c.least_product-low.ensures.size, (simp to_z-of_z c.greatest_product-high.ensures.size, (c.args.factor.scale, c.args.self.scale)))),
    )

pub returns-clause-ends : goal.returns-clause-ends
returns-clause-ends g c =
    let a : SFits w128 c.args.self.lo = fits c.args.self.low in
    let b : SFits w128 c.args.self.hi = fits c.args.self.high in
    let d : SFits w128 c.args.factor.lo = fits c.args.factor.low in
    let e : SFits w128 c.args.factor.hi = fits c.args.factor.high in
    let low : SFits w128 c.least_product-low.result = search rules in
    let high : SFits w128 c.greatest_product-high.result = search rules in
    let least = simp to_z-of_z at c.least_product-low.ensures.value in
    let greatest = simp to_z-of_z at c.greatest_product-high.ensures.value in
    rw (least, greatest) at (simp to_z-of_z at c.rounded.ensures)

pub returns-clause-contains : goal.returns-clause-contains
returns-clause-contains g c x y of_self of_factor =
    let a : SFits w128 c.args.self.lo = fits c.args.self.low in
    let b : SFits w128 c.args.self.hi = fits c.args.self.high in
    let d : SFits w128 c.args.factor.lo = fits c.args.factor.low in
    let e : SFits w128 c.args.factor.hi = fits c.args.factor.high in
    let low : SFits w128 c.least_product-low.result = search rules in
    let high : SFits w128 c.greatest_product-high.result = search rules in
    let least = simp to_z-of_z at c.least_product-low.ensures.value in
    let greatest = simp to_z-of_z at c.greatest_product-high.ensures.value in
    let ends = rw (least, greatest) at (simp to_z-of_z at c.rounded.ensures) in
    contains_scaled_product of_self of_factor ends.low ends.high

pub returns-clause-width : goal.returns-clause-width
returns-clause-width g c =
    let a : SFits w128 c.args.self.lo = fits c.args.self.low in
    let b : SFits w128 c.args.self.hi = fits c.args.self.high in
    let d : SFits w128 c.args.factor.lo = fits c.args.factor.low in
    let e : SFits w128 c.args.factor.hi = fits c.args.factor.high in
    let low : SFits w128 c.least_product-low.result = search rules in
    let high : SFits w128 c.greatest_product-high.result = search rules in
    let least = simp to_z-of_z at c.least_product-low.ensures.value in
    let greatest = simp to_z-of_z at c.greatest_product-high.ensures.value in
    let ends = rw (least, greatest) at (simp to_z-of_z at c.rounded.ensures) in
    rounded_product-width (2 ^ g.row.G) c.args.self.lo c.args.self.hi c.args.factor.lo c.args.factor.hi c.rounded.result.lo c.rounded.result.hi c.args.self.ordered c.args.factor.ordered ends.low ends.high
