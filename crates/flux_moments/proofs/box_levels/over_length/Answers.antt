use Rattle.std.proofs.Common.{rules, ◌<◌, unsigned_abs, arith}
use Rattle.std.proofs.lemmas.Bool.{false≢true}
use Rattle.std.proofs.lemmas.Int.{ints, to_z-of_z}
use Rattle.std.specs.Int.{w64, w128}
use mir.Val.{SFits}
use Rattle.flux_moments.proofs.Levels.{quotients-span}
use Rattle.flux_moments.proofs.box_levels.over_length.Goals as goal

pub unreachable-requires : goal.unreachable-requires
unreachable-requires c =
    let low : SFits w64 c.args.low = c.ranges.low in
    let high : SFits w64 c.args.high = c.ranges.high in
    let length : SFits w64 c.args.length = c.ranges.length in
    let z : SFits w64 c.floor_over-from.result = search rules in
    let w : SFits w64 c.ceiling_over-to.result = search rules in
    let from : SFits w128 c.from.result = search rules in
    let to : SFits w128 c.from-2.result = search rules in
    let floor = simp to_z-of_z at c.floor_over-from.ensures.floor in
    let ceiling = simp to_z-of_z at c.ceiling_over-to.ensures.ceiling in
    let lower = simp to_z-of_z at c.from.ensures in
    let upper = simp to_z-of_z at c.from-2.ensures in
    let some : 0 < unsigned_abs c.args.length = omega (arith, ints, c.requires.length.0) in
    false≢true (c.in-None.ensures.some.1 (simp to_z-of_z (rw (lower, upper) (quotients-span c.args.low c.args.high c.floor_over-from.result c.ceiling_over-to.result (unsigned_abs c.args.length)
    some c.requires.order c.floor_over-from.ensures.small c.ceiling_over-to.ensures.small floor ceiling))))

pub returns-clause-quotients : goal.returns-clause-quotients
returns-clause-quotients c =
    let low : SFits w64 c.args.low = c.ranges.low in
    let high : SFits w64 c.args.high = c.ranges.high in
    let length : SFits w64 c.args.length = c.ranges.length in
    let z : SFits w64 c.floor_over-from.result = search rules in
    let w : SFits w64 c.ceiling_over-to.result = search rules in
    let from : SFits w128 c.from.result = search rules in
    let to : SFits w128 c.from-2.result = search rules in
    let floor = simp to_z-of_z at c.floor_over-from.ensures.floor in
    let ceiling = simp to_z-of_z at c.ceiling_over-to.ensures.ceiling in
    let lower = simp to_z-of_z at c.from.ensures in
    let upper = simp to_z-of_z at c.from-2.ensures in
    let ends = simp to_z-of_z at c.in-Some.ensures.ends in
    record { low = rw (ends.0, lower) floor; high = rw (ends.1, upper) ceiling }
