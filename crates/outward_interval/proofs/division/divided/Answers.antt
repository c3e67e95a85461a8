use Rattle.std.proofs.Common.{ℤ, pos, negsuc, ◌≤ℤ◌, ◌<◌, unsigned_abs, rules, arith}
use Rattle.std.proofs.lemmas.Int.{ints, to_z-of_z}
use Rattle.std.specs.Int.{w128}
use mir.Val.{SFits}
use Rattle.outward_interval.proofs.Quotients.{floor-le-ceiling}
use Rattle.outward_interval.proofs.division.divided.Goals as goal

above : (d : ℤ) → pos 1 ≤ℤ d → 0 < unsigned_abs d
above (pos k) h = omega (arith, ints)
above (negsuc k) h = absurd (omega (arith, ints))

pub invariant_of-result : goal.invariant_of-result
invariant_of-result g c =
    let low : SFits w128 c.args.low = c.ranges.low in
    let high : SFits w128 c.args.high = c.ranges.high in
    let d : SFits w128 c.args.d = c.ranges.d in
    let from : SFits w128 c.floor_div-from.result = search rules in
    let to : SFits w128 c.ceiling_div-to.result = search rules in
    let floor = simp to_z-of_z at c.floor_div-from.ensures.floor in
    let ceiling = simp to_z-of_z at c.ceiling_div-to.ensures.ceiling in
    record {
      ordered = simp to_z-of_z (floor-le-ceiling (unsigned_abs c.args.d) c.args.low c.args.high c.floor_div-from.result c.ceiling_div-to.result (above c.args.d c.requires.divisor) c.requires.ordered floor ceiling);
      low = simp to_z-of_z c.floor_div-from.ensures.size;
      high = simp to_z-of_z c.ceiling_div-to.ensures.size;
      scale = c.requires.scale;
    }
