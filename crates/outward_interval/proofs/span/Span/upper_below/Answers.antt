use Rattle.std.proofs.Common.{rules}
use Rattle.std.proofs.lemmas.Int.{to_z-of_z}
use Rattle.std.specs.Int.{w128}
use mir.Val.{SFits}
use Rattle.outward_interval.proofs.Signed.{fits}
use Rattle.outward_interval.proofs.Sides.{upper_below_is}
use Rattle.outward_interval.proofs.span.Span.upper_below.Goals as goal

pub returns : goal.returns
returns g c =
    let b : SFits w128 c.args.self.now.hi = fits c.args.self.now.high in
    let n : SFits w128 c.numerator_in_units-units.result = search rules in
    let q : SFits w128 c.end_over-high.result = search rules in
    let units = c.numerator_in_units-units.ensures in
    let high = simp to_z-of_z at c.end_over-high.ensures in
    let answer = rw (high, units) at (simp to_z-of_z at c.is_less.ensures) in
    let is = upper_below_is g.row.F c.args.self.now.hi c.args.q.now in
    (λ h. is.0 (answer.0 h), λ h. answer.1 (is.1 h))
