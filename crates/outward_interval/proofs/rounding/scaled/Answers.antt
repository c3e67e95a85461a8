use Rattle.std.proofs.Common.{rules}
use Rattle.std.proofs.lemmas.Int.{to_z-of_z}
use Rattle.std.specs.Int.{w128}
use mir.Val.{SFits}
use Rattle.outward_interval.proofs.Quotients.{scaled-small}
use Rattle.outward_interval.proofs.rounding.scaled.Goals as goal

pub product-requires : goal.product-requires
product-requires c =
    let number : SFits w128 c.args.n = c.ranges.n in
    let factor : SFits w128 c.from.result = search rules in
    let small = scaled-small c.args.n c.power_of_ten.result c.args.places c.requires.size c.requires.places c.power_of_ten.ensures.value in
    simp to_z-of_z (rw c.from.ensures small)

pub returns-clause-size : goal.returns-clause-size
returns-clause-size c =
    let number : SFits w128 c.args.n = c.ranges.n in
    let factor : SFits w128 c.from.result = search rules in
    let whole : SFits w128 c.product.result = search rules in
    let small = scaled-small c.args.n c.power_of_ten.result c.args.places c.requires.size c.requires.places c.power_of_ten.ensures.value in
    let value = simp to_z-of_z at c.product.ensures.value in
    simp to_z-of_z (rw (value, c.from.ensures) small)
