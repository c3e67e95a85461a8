use Rattle.std.proofs.Common.{◌*◌, ◌≤◌, unsigned_abs, arith, subst}
use Rattle.std.proofs.lemmas.Int.{ints, to_z-of_z}
use Rattle.std.specs.Int.{w128}
use mir.Val.{SFits}
use Rattle.exact_algebra.proofs.Fraction.{Fraction, ◌⊗◌}
use Rattle.exact_algebra.proofs.Span.{ContainsFraction}
use Rattle.exact_algebra.proofs.Whole.{whole}
use Rattle.std.proofs.lemmas.Nat.{mul-le}
use Rattle.plane_clip.proofs.Portions.{portion-value, times_ends, rounded_ends, thin-times, thin-over}
use Rattle.plane_clip.proofs.parts.portion.Goals as goal

pub returns-clause-contains : goal.returns-clause-contains
returns-clause-contains c x h =
    let n : SFits w128 c.args.n = c.ranges.n in
    let d : SFits w128 c.args.d = c.ranges.d in
    let product = simp to_z-of_z at c.times_whole.ensures.contains in
    let quotient = simp to_z-of_z at c.over_whole.ensures.contains in
    subst (λ (y : Fraction). ContainsFraction 20 c.over_whole.result.lo c.over_whole.result.hi y) (portion-value x c.args.n c.args.d) (quotient (x ⊗ whole c.args.n) (product x h))

pub returns-clause-ends : goal.returns-clause-ends
returns-clause-ends c most h =
    let n : SFits w128 c.args.n = c.ranges.n in
    let d : SFits w128 c.args.d = c.ranges.d in
    let small : unsigned_abs c.args.n ≤ unsigned_abs c.args.d = omega (arith, ints, c.requires.part.0, c.requires.part.1) in
    let product = times_ends most c.args.area.lo c.args.area.hi c.args.n c.times_whole.result.lo c.times_whole.result.hi h.low h.high (simp to_z-of_z at c.times_whole.ensures.ends) in
    let larger = mul-le most (unsigned_abs c.args.n) most (unsigned_abs c.args.d) (omega arith) small in
    let quotient = rounded_ends most c.times_whole.result.lo c.times_whole.result.hi c.args.d c.over_whole.result.lo c.over_whole.result.hi c.requires.whole.0 (omega (arith, product.0, larger)) (omega (arith, product.1, larger)) (simp to_z-of_z at c.over_whole.ensures.ends) in
    record { low = quotient.0; high = quotient.1 }

pub returns-clause-thin : goal.returns-clause-thin
returns-clause-thin c k h =
    let n : SFits w128 c.args.n = c.ranges.n in
    let d : SFits w128 c.args.d = c.ranges.d in
    let small : unsigned_abs c.args.n ≤ unsigned_abs c.args.d = omega (arith, ints, c.requires.part.0, c.requires.part.1) in
    let larger : k * unsigned_abs c.args.n ≤ k * unsigned_abs c.args.d = mul-le k (unsigned_abs c.args.n) k (unsigned_abs c.args.d) (omega arith) small in
    let product = thin-times k c.args.n c.args.area.lo c.args.area.hi c.times_whole.result.lo c.times_whole.result.hi c.args.area.ordered h (simp to_z-of_z at c.times_whole.ensures.width) in
    thin-over k c.args.d c.times_whole.result.lo c.times_whole.result.hi c.over_whole.result.lo c.over_whole.result.hi c.requires.whole.0
    (omega (arith, ints, product, larger)) (simp to_z-of_z at c.over_whole.ensures.ends)
