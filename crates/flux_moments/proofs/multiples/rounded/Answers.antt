use Rattle.std.proofs.Common.{rules}
use Rattle.std.proofs.lemmas.Int.{to_z-of_z}
use Rattle.std.specs.Int.{w64, w128}
use mir.Val.{SFits}
use Rattle.flux_moments.proofs.OneWord.{rounded_ends}
use Rattle.flux_moments.proofs.multiples.rounded.Goals as goal

pub returns : goal.returns
returns c =
    let low : SFits w64 c.args.low = c.ranges.low in
    let high : SFits w64 c.args.high = c.ranges.high in
    let z : SFits w64 c.floor-from.result = search rules in
    let w : SFits w64 c.ceiling-to.result = search rules in
    let from : SFits w128 c.from.result = search rules in
    let to : SFits w128 c.from-2.result = search rules in
    let floor = simp to_z-of_z at c.floor-from.ensures.floor in
    let ceiling = simp to_z-of_z at c.ceiling-to.ensures.ceiling in
    let lower = simp to_z-of_z at c.from.ensures in
    let upper = simp to_z-of_z at c.from-2.ensures in
    let ends = simp to_z-of_z at c.in-Some.ensures.ends in
    rounded_ends c.args.low c.args.high (rw (ends.0, lower) floor) (rw (ends.1, upper) ceiling)
