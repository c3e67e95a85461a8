use Rattle.std.proofs.Common.{rules, arith}
use Rattle.std.proofs.lemmas.Int.{to_z-of_z}
use Rattle.std.specs.Int.{w128}
use mir.Val.{SFits}
use Rattle.outward_interval.proofs.Quotients.{shifted-small}
use Rattle.outward_interval.proofs.against.numerator_in_units.Goals as goal

pub shifted-requires-clause-size : goal.shifted-requires-clause-size
shifted-requires-clause-size c =
    let num : SFits w128 c.num.result = search rules in
    simp to_z-of_z (rw c.num.ensures (shifted-small 90 c.args.scale c.args.q.now.num c.args.q.now.bounds.size (omega (arith, c.requires))))

pub returns : goal.returns
returns c =
    let num : SFits w128 c.num.result = search rules in
    let units : SFits w128 c.shifted.result = search rules in
    let value = rw c.num.ensures at (simp to_z-of_z at c.shifted.ensures.value) in
    simp to_z-of_z value
