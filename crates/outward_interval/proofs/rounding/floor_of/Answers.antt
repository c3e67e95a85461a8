use Rattle.std.proofs.Common.{◌^◌, rules}
use Rattle.std.proofs.lemmas.Int.{to_z-of_z}
use Rattle.std.specs.Int.{w128}
use mir.Val.{SFits}
use Rattle.outward_interval.proofs.Quotients.{floor-floor}
use Rattle.outward_interval.proofs.rounding.floor_of.Goals as goal

pub returns-clause-floor : goal.returns-clause-floor
returns-clause-floor c =
    let first : SFits w128 c.floor_shift.result = search rules in
    let second : SFits w128 c.floor_div.result = search rules in
    let divisor : SFits w128 c.from.result = search rules in
    let shifted = simp (to_z-of_z, c.ranges.n) at c.floor_shift.ensures.floor in
    let divided = rw c.from.ensures at (simp to_z-of_z at c.floor_div.ensures.floor) in
    simp to_z-of_z (floor-floor (2 ^ c.args.shift) c.args.d c.args.n c.floor_shift.result c.floor_div.result shifted divided)
