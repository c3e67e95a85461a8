use Rattle.std.proofs.Common.{unsigned_abs}
use Rattle.std.proofs.lemmas.Int.{to_z-of_z}
use Rattle.std.specs.Int.{w128}
use mir.Val.{SFits}
use Rattle.hydro_tables.proofs.LongDivision.{turned}
use Rattle.hydro_tables.proofs.long_division.ceiling_of_quotient.Goals as goal

pub returns-clause-ceiling : goal.returns-clause-ceiling
returns-clause-ceiling c =
    let n : SFits w128 c.args.n = c.ranges.n in
    let d : SFits w128 c.args.d = c.ranges.d in
    let below : SFits w128 c.opposite.result = record { sfits = c.opposite.type_inv } in
    let floor_fits : SFits w128 c.floor_of_quotient.result = record { sfits = c.floor_of_quotient.type_inv } in
    let last_fits : SFits w128 c.opposite-2.result = record { sfits = c.opposite-2.type_inv } in
    let first = simp to_z-of_z at c.opposite.ensures.value in
    let last = simp to_z-of_z at c.opposite-2.ensures.value in
    let floor = simp to_z-of_z at c.floor_of_quotient.ensures.floor in
    simp to_z-of_z (rw last (turned c.args.n c.opposite.result (unsigned_abs c.args.d) c.floor_of_quotient.result first floor))
