use Rattle.std.proofs.Common.{rules, ◌<◌, ◌^◌, unsigned_abs, arith}
use Rattle.std.proofs.lemmas.Int.{ints, to_z-of_z}
use Rattle.std.specs.Int.{w64}
use mir.Val.{SFits}
use Rattle.outward_interval.proofs.Quotients.{floor_by_division}
use Rattle.plane_clip.proofs.QuotientSizes.{floor-size}
use Rattle.flux_moments.proofs.box_levels.floor_over.Goals as goal

pub returns-clause-floor : goal.returns-clause-floor
returns-clause-floor c =
    let n : SFits w64 c.args.n = c.ranges.n in
    let length : SFits w64 c.args.length = c.ranges.length in
    let z : SFits w64 c.div_euclid.result = search rules in
    let value = simp to_z-of_z at c.div_euclid.ensures in
    simp to_z-of_z (floor_by_division c.args.n c.args.length c.div_euclid.result c.requires.length.0 value)

pub returns-clause-small : goal.returns-clause-small
returns-clause-small c =
    let n : SFits w64 c.args.n = c.ranges.n in
    let length : SFits w64 c.args.length = c.ranges.length in
    let z : SFits w64 c.div_euclid.result = search rules in
    let value = simp to_z-of_z at c.div_euclid.ensures in
    let some : 0 < unsigned_abs c.args.length = omega (arith, ints, c.requires.length.0) in
    simp to_z-of_z (floor-size c.args.n c.div_euclid.result (unsigned_abs c.args.length) (2 ^ 40) some c.requires.size
    (floor_by_division c.args.n c.args.length c.div_euclid.result c.requires.length.0 value))
