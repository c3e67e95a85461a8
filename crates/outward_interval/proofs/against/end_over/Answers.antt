use Rattle.std.proofs.Common.{rules}
use Rattle.std.proofs.lemmas.Int.{to_z-of_z}
use Rattle.std.specs.Int.{w128}
use mir.Val.{SFits}
use Rattle.exact_fraction.proofs.CrossProducts.{den_is}
use Rattle.outward_interval.proofs.Sides.{over-small}
use Rattle.outward_interval.proofs.against.end_over.Goals as goal

pub product-requires : goal.product-requires
product-requires c =
    let end : SFits w128 c.args.end = c.ranges.end in
    let den : SFits w128 c.den.result = search rules in
    simp to_z-of_z (rw c.den.ensures (over-small c.args.end c.args.q.now c.requires))

pub returns : goal.returns
returns c =
    let end : SFits w128 c.args.end = c.ranges.end in
    let den : SFits w128 c.den.result = search rules in
    let whole : SFits w128 c.product.result = search rules in
    let value = rw (c.den.ensures, den_is c.args.q.now) at (simp to_z-of_z at c.product.ensures.value) in
    simp to_z-of_z value
