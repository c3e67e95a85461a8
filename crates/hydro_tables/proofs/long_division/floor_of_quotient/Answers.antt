use Rattle.std.proofs.lemmas.Int.{to_z-of_z}
use Rattle.std.specs.Int.{w128}
use mir.Val.{SFits}
use Rattle.hydro_tables.proofs.LongDivision.{whole_small, joined}
use Rattle.hydro_tables.proofs.long_division.floor_of_quotient.Goals as goal

pub joined-requires-clause-whole : goal.joined-requires-clause-whole
joined-requires-clause-whole c =
    let n : SFits w128 c.args.n = c.ranges.n in
    let d : SFits w128 c.args.d = c.ranges.d in
    let whole : SFits w128 c.div_euclid-whole.result = record { sfits = c.div_euclid-whole.type_inv } in
    let value = simp to_z-of_z at c.div_euclid-whole.ensures in
    simp to_z-of_z (whole_small c.args.n c.args.d c.div_euclid-whole.result c.requires.divisor c.requires.small value)

pub returns-clause-floor : goal.returns-clause-floor
returns-clause-floor c =
    let n : SFits w128 c.args.n = c.ranges.n in
    let d : SFits w128 c.args.d = c.ranges.d in
    let whole : SFits w128 c.div_euclid-whole.result = record { sfits = c.div_euclid-whole.type_inv } in
    let rest : SFits w128 c.rem_euclid-rest.result = record { sfits = c.rem_euclid-rest.type_inv } in
    let part : SFits w128 c.part_of.result = record { sfits = c.part_of.type_inv } in
    let all : SFits w128 c.joined.result = record { sfits = c.joined.type_inv } in
    let quotient = simp to_z-of_z at c.div_euclid-whole.ensures in
    let left = simp to_z-of_z at c.rem_euclid-rest.ensures.value in
    let floor = simp to_z-of_z at c.part_of.ensures.floor in
    let value = simp to_z-of_z at c.joined.ensures.value in
    simp to_z-of_z (rw value (joined c.args.n c.div_euclid-whole.result c.rem_euclid-rest.result c.part_of.result c.args.d
    c.requires.divisor quotient left floor))
