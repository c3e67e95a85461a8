use Rattle.std.proofs.Common.{rules}
use Rattle.std.proofs.lemmas.Int.{to_z-of_z}
use Rattle.std.specs.Int.{w128}
use mir.Val.{SFits}
use Rattle.outward_interval.proofs.Signed.{fits, difference_order}
use Rattle.outward_interval.proofs.operators.SpanSub.sub.Goals as goal

pub invariant_of-result : goal.invariant_of-result
invariant_of-result g c =
    let a : SFits w128 c.args.self.lo = fits c.args.self.low in
    let b : SFits w128 c.args.self.hi = fits c.args.self.high in
    let d : SFits w128 c.args.other.lo = fits c.args.other.low in
    let e : SFits w128 c.args.other.hi = fits c.args.other.high in
    let p : SFits w128 c.difference.result = search rules in
    let q : SFits w128 c.difference-2.result = search rules in
    let low = simp to_z-of_z at c.difference.ensures.value in
    let high = simp to_z-of_z at c.difference-2.ensures.value in
    record {
      ordered = simp to_z-of_z (rw (low, high) (difference_order c.args.self.ordered c.args.other.ordered));
      low = simp to_z-of_z c.difference.ensures.size;
      high = simp to_z-of_z c.difference-2.ensures.size;
      scale = c.args.self.scale;
    }
