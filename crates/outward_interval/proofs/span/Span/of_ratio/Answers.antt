use Rattle.std.proofs.Common.{rules, arith}
use Rattle.std.proofs.lemmas.Int.{to_z-of_z}
use Rattle.std.specs.Int.{w128}
use mir.Val.{SFits}
use Rattle.exact_fraction.specs.Fraction.{denominator, denominator-positive}
use Rattle.exact_algebra.proofs.Span.{least_span_over}
use Rattle.outward_interval.proofs.Quotients.{shifted-small}
use Rattle.outward_interval.proofs.span.Span.of_ratio.Goals as goal

pub shifted-units-requires-clause-size : goal.shifted-units-requires-clause-size
shifted-units-requires-clause-size g c =
    let num : SFits w128 c.num.result = search rules in
    simp to_z-of_z (rw c.num.ensures (shifted-small 90 g.row.F c.args.q.now.num c.args.q.now.bounds.size (omega (arith, c.requires))))

pub returns : goal.returns
returns g c =
    let num : SFits w128 c.num.result = search rules in
    let den : SFits w128 c.den.result = search rules in
    let units : SFits w128 c.shifted-units.result = search rules in
    let value = rw c.num.ensures at (simp to_z-of_z at c.shifted-units.ensures.value) in
    let ends = rw (value, c.den.ensures) at (simp to_z-of_z at c.divided.ensures) in
    least_span_over c.args.q.now.num (denominator c.args.q.now) (denominator-positive c.args.q.now) (record { low = ends.low; high = ends.high })
