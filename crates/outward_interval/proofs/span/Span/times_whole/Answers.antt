use Rattle.std.proofs.Common.{rules}
use Rattle.std.proofs.lemmas.Int.{to_z-of_z}
use Rattle.std.specs.Int.{w128}
use mir.Val.{SFits}
use Rattle.exact_algebra.proofs.Products.{contains_times_whole}
use Rattle.outward_interval.proofs.Signed.{fits, ≤ℤ_trans}
use Rattle.outward_interval.proofs.Widths.{times_whole-width}
use Rattle.outward_interval.proofs.span.Span.times_whole.Goals as goal

pub invariant_of-result : goal.invariant_of-result
invariant_of-result g c =
    let p : SFits w128 c.product-p.result = search rules in
    let q : SFits w128 c.product-q.result = search rules in
    let from : SFits w128 c.lesser.result = search rules in
    let to : SFits w128 c.greater.result = search rules in
    let low = simp to_z-of_z at c.lesser.ensures.first in
    let high = simp to_z-of_z at c.greater.ensures.first in
    let lesser_small = simp to_z-of_z at c.lesser.ensures.size in
    let greater_small = simp to_z-of_z at c.greater.ensures.size in
    record {
      ordered = simp to_z-of_z (≤ℤ_trans low high);
      low = simp to_z-of_z (lesser_small c.product-p.ensures.size c.product-q.ensures.size);
      high = simp to_z-of_z (greater_small c.product-p.ensures.size c.product-q.ensures.size);
      scale = c.args.self.scale;
    }

pub returns-clause-contains : goal.returns-clause-contains
returns-clause-contains g c x of_self =
    let a : SFits w128 c.args.self.lo = fits c.args.self.low in
    let b : SFits w128 c.args.self.hi = fits c.args.self.high in
    let n : SFits w128 c.args.n = c.ranges.n in
    let p : SFits w128 c.product-p.result = search rules in
    let q : SFits w128 c.product-q.result = search rules in
    let from : SFits w128 c.lesser.result = search rules in
    let to : SFits w128 c.greater.result = search rules in
    let first = simp to_z-of_z at c.product-p.ensures.value in
    let second = simp to_z-of_z at c.product-q.ensures.value in
    let low = rw (first, second) at (simp to_z-of_z at c.lesser.ensures.value) in
    let high = rw (first, second) at (simp to_z-of_z at c.greater.ensures.value) in
    simp to_z-of_z (contains_times_whole g.row.F c.args.self.lo c.args.self.hi c.args.n c.lesser.result c.greater.result x of_self low high)

pub returns-clause-width : goal.returns-clause-width
returns-clause-width g c =
    let a : SFits w128 c.args.self.lo = fits c.args.self.low in
    let b : SFits w128 c.args.self.hi = fits c.args.self.high in
    let n : SFits w128 c.args.n = c.ranges.n in
    let p : SFits w128 c.product-p.result = search rules in
    let q : SFits w128 c.product-q.result = search rules in
    let from : SFits w128 c.lesser.result = search rules in
    let to : SFits w128 c.greater.result = search rules in
    let first = simp to_z-of_z at c.product-p.ensures.value in
    let second = simp to_z-of_z at c.product-q.ensures.value in
    let low = rw (first, second) at (simp to_z-of_z at c.lesser.ensures.value) in
    let high = rw (first, second) at (simp to_z-of_z at c.greater.ensures.value) in
    simp to_z-of_z (times_whole-width c.args.self.lo c.args.self.hi c.args.n c.lesser.result c.greater.result c.args.self.ordered low high)
