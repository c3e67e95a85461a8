use Rattle.std.proofs.Common.{rules, unsigned_abs}
use Rattle.std.proofs.lemmas.Int.{to_z-of_z}
use Rattle.std.specs.Int.{w128}
use mir.Val.{SFits}
use Rattle.exact_algebra.proofs.Division.{ceiling_by_floor}
use Rattle.outward_interval.proofs.rounding.ceiling_div.Goals as goal

pub returns-clause-ceiling : goal.returns-clause-ceiling
returns-clause-ceiling c =
    let n : SFits w128 c.args.n = c.ranges.n in
    let d : SFits w128 c.args.d = c.ranges.d in
    let turned : SFits w128 c.opposite.result = search rules in
    let z : SFits w128 c.floor_div.result = search rules in
    let w : SFits w128 c.opposite-2.result = search rules in
    let first = simp to_z-of_z at c.opposite.ensures.value in
    let last = simp to_z-of_z at c.opposite-2.ensures.value in
    let floor = simp to_z-of_z at c.floor_div.ensures.floor in
    simp to_z-of_z (rw last (ceiling_by_floor c.args.n c.floor_div.result (unsigned_abs c.args.d) (rw first at floor)))
