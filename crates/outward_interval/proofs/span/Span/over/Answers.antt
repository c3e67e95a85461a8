use Rattle.std.proofs.Common.{◌-◌, rules, arith}
use Rattle.std.proofs.lemmas.Int.{to_z-of_z}
use Rattle.std.specs.Int.{w128}
use mir.Val.{SFits}
use Rattle.outward_interval.specs.Ends.{AreQuotientEnds}
use Rattle.outward_interval.proofs.Quotients.{shifted-small}
use Rattle.outward_interval.proofs.Divisors.{quotient_ends-ordered, least_divisor-positive, greatest_divisor-positive}
use Rattle.outward_interval.proofs.Contained.{quotient_contains}
use Rattle.outward_interval.proofs.Signed.{fits}
use Rattle.outward_interval.proofs.Widths.{quotient-width}
use Rattle.outward_interval.proofs.span.Span.over.Goals as goal

pub shifted-low-requires-clause-size : goal.shifted-low-requires-clause-size
shifted-low-requires-clause-size g c =
    let a : SFits w128 c.args.self.lo = fits c.args.self.low in
    simp to_z-of_z (shifted-small (126 - g.row.F) g.row.F c.args.self.lo c.requires.ends.low (omega (arith, c.args.self.scale)))

pub shifted-high-requires-clause-size : goal.shifted-high-requires-clause-size
shifted-high-requires-clause-size g c =
    let b : SFits w128 c.args.self.hi = fits c.args.self.high in
    simp to_z-of_z (shifted-small (126 - g.row.F) g.row.F c.args.self.hi c.requires.ends.high (omega (arith, c.args.self.scale)))

pub floor_div-from-requires-clause-divisor : goal.floor_div-from-requires-clause-divisor
floor_div-from-requires-clause-divisor g c =
    let a : SFits w128 c.args.self.lo = fits c.args.self.low in
    let d : SFits w128 c.args.divisor.lo = fits c.args.divisor.low in
    let e : SFits w128 c.args.divisor.hi = fits c.args.divisor.high in
    let by : SFits w128 c.divisor_of_least-least.result = search rules in
    let value = simp to_z-of_z at c.divisor_of_least-least.ensures in
    simp to_z-of_z (rw value (least_divisor-positive c.args.self.lo c.args.divisor.lo c.args.divisor.hi c.requires.divisor c.args.divisor.ordered))

pub ceiling_div-to-requires-clause-divisor : goal.ceiling_div-to-requires-clause-divisor
ceiling_div-to-requires-clause-divisor g c =
    let b : SFits w128 c.args.self.hi = fits c.args.self.high in
    let d : SFits w128 c.args.divisor.lo = fits c.args.divisor.low in
    let e : SFits w128 c.args.divisor.hi = fits c.args.divisor.high in
    let by : SFits w128 c.divisor_of_greatest-greatest.result = search rules in
    let value = simp to_z-of_z at c.divisor_of_greatest-greatest.ensures in
    simp to_z-of_z (rw value (greatest_divisor-positive c.args.self.hi c.args.divisor.lo c.args.divisor.hi c.requires.divisor c.args.divisor.ordered))

pub invariant_of-result : goal.invariant_of-result
invariant_of-result g c =
    let a : SFits w128 c.args.self.lo = fits c.args.self.low in
    let b : SFits w128 c.args.self.hi = fits c.args.self.high in
    let d : SFits w128 c.args.divisor.lo = fits c.args.divisor.low in
    let e : SFits w128 c.args.divisor.hi = fits c.args.divisor.high in
    let least : SFits w128 c.divisor_of_least-least.result = search rules in
    let greatest : SFits w128 c.divisor_of_greatest-greatest.result = search rules in
    let p : SFits w128 c.shifted-low.result = search rules in
    let q : SFits w128 c.shifted-high.result = search rules in
    let from : SFits w128 c.floor_div-from.result = search rules in
    let to : SFits w128 c.ceiling_div-to.result = search rules in
    let by_least = simp to_z-of_z at c.divisor_of_least-least.ensures in
    let by_greatest = simp to_z-of_z at c.divisor_of_greatest-greatest.ensures in
    let low = simp to_z-of_z at c.shifted-low.ensures.value in
    let high = simp to_z-of_z at c.shifted-high.ensures.value in
    let floor = rw (low, by_least) at (simp to_z-of_z at c.floor_div-from.ensures.floor) in
    let ceiling = rw (high, by_greatest) at (simp to_z-of_z at c.ceiling_div-to.ensures.ceiling) in
    let ends : AreQuotientEnds g.row.F c.args.self.lo c.args.self.hi c.args.divisor.lo c.args.divisor.hi c.floor_div-from.result c.ceiling_div-to.result = record { low = floor; high = ceiling } in
    record {
      ordered = simp to_z-of_z (quotient_ends-ordered g.row.F c.args.self.lo c.args.self.hi c.args.divisor.lo c.args.divisor.hi c.floor_div-from.result c.ceiling_div-to.result c.requires.divisor c.args.divisor.ordered c.args.self.ordered ends);
      low = simp to_z-of_z c.floor_div-from.ensures.size;
      high = simp to_z-of_z c.ceiling_div-to.ensures.size;
      scale = c.args.self.scale;
    }

pub returns-clause-ends : goal.returns-clause-ends
returns-clause-ends g c =
    let a : SFits w128 c.args.self.lo = fits c.args.self.low in
    let b : SFits w128 c.args.self.hi = fits c.args.self.high in
    let d : SFits w128 c.args.divisor.lo = fits c.args.divisor.low in
    let e : SFits w128 c.args.divisor.hi = fits c.args.divisor.high in
    let least : SFits w128 c.divisor_of_least-least.result = search rules in
    let greatest : SFits w128 c.divisor_of_greatest-greatest.result = search rules in
    let p : SFits w128 c.shifted-low.result = search rules in
    let q : SFits w128 c.shifted-high.result = search rules in
    let from : SFits w128 c.floor_div-from.result = search rules in
    let to : SFits w128 c.ceiling_div-to.result = search rules in
    let by_least = simp to_z-of_z at c.divisor_of_least-least.ensures in
    let by_greatest = simp to_z-of_z at c.divisor_of_greatest-greatest.ensures in
    let low = simp to_z-of_z at c.shifted-low.ensures.value in
    let high = simp to_z-of_z at c.shifted-high.ensures.value in
    let floor = rw (low, by_least) at (simp to_z-of_z at c.floor_div-from.ensures.floor) in
    let ceiling = rw (high, by_greatest) at (simp to_z-of_z at c.ceiling_div-to.ensures.ceiling) in
    record { low = simp to_z-of_z floor; high = simp to_z-of_z ceiling }

pub returns-clause-contains : goal.returns-clause-contains
returns-clause-contains g c x y of_self of_divisor =
    let a : SFits w128 c.args.self.lo = fits c.args.self.low in
    let b : SFits w128 c.args.self.hi = fits c.args.self.high in
    let d : SFits w128 c.args.divisor.lo = fits c.args.divisor.low in
    let e : SFits w128 c.args.divisor.hi = fits c.args.divisor.high in
    let least : SFits w128 c.divisor_of_least-least.result = search rules in
    let greatest : SFits w128 c.divisor_of_greatest-greatest.result = search rules in
    let p : SFits w128 c.shifted-low.result = search rules in
    let q : SFits w128 c.shifted-high.result = search rules in
    let from : SFits w128 c.floor_div-from.result = search rules in
    let to : SFits w128 c.ceiling_div-to.result = search rules in
    let by_least = simp to_z-of_z at c.divisor_of_least-least.ensures in
    let by_greatest = simp to_z-of_z at c.divisor_of_greatest-greatest.ensures in
    let low = simp to_z-of_z at c.shifted-low.ensures.value in
    let high = simp to_z-of_z at c.shifted-high.ensures.value in
    let floor = rw (low, by_least) at (simp to_z-of_z at c.floor_div-from.ensures.floor) in
    let ceiling = rw (high, by_greatest) at (simp to_z-of_z at c.ceiling_div-to.ensures.ceiling) in
    let ends : AreQuotientEnds g.row.F c.args.self.lo c.args.self.hi c.args.divisor.lo c.args.divisor.hi c.floor_div-from.result c.ceiling_div-to.result = record { low = floor; high = ceiling } in
    simp to_z-of_z (quotient_contains g.row.F c.args.self.lo c.args.self.hi c.args.divisor.lo c.args.divisor.hi c.floor_div-from.result c.ceiling_div-to.result x y c.requires.divisor c.args.divisor.ordered ends of_self of_divisor)

pub returns-clause-width : goal.returns-clause-width
returns-clause-width g c =
    let a : SFits w128 c.args.self.lo = fits c.args.self.low in
    let b : SFits w128 c.args.self.hi = fits c.args.self.high in
    let d : SFits w128 c.args.divisor.lo = fits c.args.divisor.low in
    let e : SFits w128 c.args.divisor.hi = fits c.args.divisor.high in
    let least : SFits w128 c.divisor_of_least-least.result = search rules in
    let greatest : SFits w128 c.divisor_of_greatest-greatest.result = search rules in
    let p : SFits w128 c.shifted-low.result = search rules in
    let q : SFits w128 c.shifted-high.result = search rules in
    let from : SFits w128 c.floor_div-from.result = search rules in
    let to : SFits w128 c.ceiling_div-to.result = search rules in
    let by_least = simp to_z-of_z at c.divisor_of_least-least.ensures in
    let by_greatest = simp to_z-of_z at c.divisor_of_greatest-greatest.ensures in
    let low = simp to_z-of_z at c.shifted-low.ensures.value in
    let high = simp to_z-of_z at c.shifted-high.ensures.value in
    let floor = rw (low, by_least) at (simp to_z-of_z at c.floor_div-from.ensures.floor) in
    let ceiling = rw (high, by_greatest) at (simp to_z-of_z at c.ceiling_div-to.ensures.ceiling) in
    let ends : AreQuotientEnds g.row.F c.args.self.lo c.args.self.hi c.args.divisor.lo c.args.divisor.hi c.floor_div-from.result c.ceiling_div-to.result = record { low = floor; high = ceiling } in
    simp to_z-of_z (quotient-width g.row.F c.args.self.lo c.args.self.hi c.args.divisor.lo c.args.divisor.hi c.floor_div-from.result c.ceiling_div-to.result c.requires.divisor c.args.divisor.ordered c.args.self.ordered ends)
