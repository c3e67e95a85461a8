use Rattle.std.proofs.Common.{rules, w64}
use Rattle.std.proofs.lemmas.Int.{to_z-of_z}
use mir.Val.{SFits}
use Rattle.outward_interval.proofs.Quotients.{floor_by_division}
use Rattle.floodable_length.proofs.products.floor_div.Goals as goal

pub returns-clause-floor : goal.returns-clause-floor
returns-clause-floor c =
    let n : SFits w64 c.args.n = c.ranges.n in
    let d : SFits w64 c.args.d = c.ranges.d in
    let z : SFits w64 c.div_euclid.result = search rules in
    let value = simp to_z-of_z at c.div_euclid.ensures in
    simp to_z-of_z (floor_by_division c.args.n c.args.d c.div_euclid.result c.requires.divisor value)
