use Rattle.std.proofs.Common.{rules}
use Rattle.std.proofs.lemmas.Int.{to_z-of_z}
use Rattle.std.specs.Int.{w128}
use mir.Val.{SFits}
use Rattle.outward_interval.proofs.Contained.{joined_contains}
use Rattle.outward_interval.proofs.Signed.{fits, ≤ℤ_trans}
use Rattle.outward_interval.proofs.operators.join_spans.Goals as goal

pub invariant_of-result-clause-ordered : goal.invariant_of-result-clause-ordered
invariant_of-result-clause-ordered g c =
    let a : SFits w128 c.args.a.lo = fits c.args.a.low in
    let b : SFits w128 c.args.a.hi = fits c.args.a.high in
    let p : SFits w128 c.lesser.result = search rules in
    let q : SFits w128 c.greater.result = search rules in
    let low = simp to_z-of_z at c.lesser.ensures.first in
    let high = simp to_z-of_z at c.greater.ensures.first in
    simp to_z-of_z (≤ℤ_trans low (≤ℤ_trans c.args.a.ordered high))

pub returns-clause-contains : goal.returns-clause-contains
returns-clause-contains g c x of_either =
    let a : SFits w128 c.args.a.lo = fits c.args.a.low in
    let b : SFits w128 c.args.a.hi = fits c.args.a.high in
    let d : SFits w128 c.args.b.lo = fits c.args.b.low in
    let e : SFits w128 c.args.b.hi = fits c.args.b.high in
    let p : SFits w128 c.lesser.result = search rules in
    let q : SFits w128 c.greater.result = search rules in
    let low = simp to_z-of_z at c.lesser.ensures.value in
    let high = simp to_z-of_z at c.greater.ensures.value in
    simp to_z-of_z (joined_contains g.row.F c.args.a.lo c.args.a.hi c.args.b.lo c.args.b.hi c.lesser.result c.greater.result x (record { low = low; high = high }) of_either)
