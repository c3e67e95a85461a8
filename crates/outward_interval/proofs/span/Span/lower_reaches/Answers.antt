use Rattle.std.proofs.Common.{rules}
use Rattle.std.proofs.lemmas.Int.{to_z-of_z}
use Rattle.std.specs.Int.{w128}
use mir.Val.{SFits}
use Rattle.outward_interval.proofs.Signed.{fits}
use Rattle.outward_interval.proofs.Sides.{lower_reaches_is}
use Rattle.outward_interval.proofs.span.Span.lower_reaches.Goals as goal

pub returns : goal.returns
returns g c =
    let a : SFits w128 c.args.self.now.lo = fits c.args.self.now.low in
    let p : SFits w128 c.end_over-low.result = search rules in
    let n : SFits w128 c.numerator_in_units-units.result = search rules in
    let low = simp to_z-of_z at c.end_over-low.ensures in
    let units = c.numerator_in_units-units.ensures in
    let answer = rw (units, low) at (simp to_z-of_z at c.is_at_most.ensures) in
    let is = lower_reaches_is g.row.F c.args.self.now.lo c.args.q.now in
    (λ h. is.0 (answer.0 h), λ h. answer.1 (is.1 h))
