use Rattle.std.proofs.Common.{pos, ◌*ℤ◌}
use Rattle.std.proofs.lemmas.Int.{to_z-of_z}
use Rattle.std.specs.Int.{w128}
use mir.Val.{SFits}
use Rattle.hull_model.proofs.Magnitudes.{fits_128}
use Rattle.outward_interval.proofs.Quotients.{floor_by_division}
use Rattle.hydro_tables.proofs.LongDivision.{rest_fits}
use Rattle.hydro_tables.proofs.long_division.part_of.Goals as goal

pub returns-clause-floor : goal.returns-clause-floor
returns-clause-floor c =
    let number : SFits w128 c.args.rest = c.ranges.rest in
    let d : SFits w128 c.args.d = c.ranges.d in
    let rest : SFits w128 (c.args.rest *ℤ pos 1048576) = fits_128 _ (rest_fits c.args.rest c.args.d c.requires.size c.requires.rest) in
    let part : SFits w128 c.div_euclid.result = record { sfits = c.div_euclid.type_inv } in
    let value = simp to_z-of_z at c.div_euclid.ensures in
    simp to_z-of_z (floor_by_division (c.args.rest *ℤ pos 1048576) c.args.d c.div_euclid.result c.requires.divisor value)
