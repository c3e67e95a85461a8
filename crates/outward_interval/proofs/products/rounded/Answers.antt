use Rattle.std.proofs.Common.{◌^◌, rules}
use Rattle.std.proofs.lemmas.Int.{to_z-of_z}
use Rattle.std.proofs.lemmas.Nat.{pow_pos}
use Rattle.std.specs.Int.{w128}
use mir.Val.{SFits}
use Rattle.outward_interval.proofs.Quotients.{floor-le-ceiling}
use Rattle.outward_interval.proofs.products.rounded.Goals as goal

pub invariant_of-result-clause-ordered : goal.invariant_of-result-clause-ordered
invariant_of-result-clause-ordered g c =
    let low : SFits w128 c.args.low = c.ranges.low in
    let high : SFits w128 c.args.high = c.ranges.high in
    let from : SFits w128 c.floor_shift-from.result = search rules in
    let to : SFits w128 c.ceiling_shift-to.result = search rules in
    let floor = simp to_z-of_z at c.floor_shift-from.ensures.floor in
    let ceiling = simp to_z-of_z at c.ceiling_shift-to.ensures.ceiling in
    simp to_z-of_z (floor-le-ceiling (2 ^ c.args.shift) c.args.low c.args.high _ _ (pow_pos c.args.shift) c.requires.ordered floor ceiling)
