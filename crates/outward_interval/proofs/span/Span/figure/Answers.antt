use Rattle.std.proofs.Common.{◌^◌, ◌*◌, ◌<◌, ◌≤ℤ◌, rules}
use Rattle.std.proofs.lemmas.Int.{to_z-of_z}
use Rattle.std.proofs.lemmas.Nat.{pow_pos}
use Rattle.std.proofs.Math.Nat.{mul-pos}
use Rattle.std.specs.Int.{w128}
use mir.Val.{SFits}
use Rattle.outward_interval.proofs.Quotients.{floor-le-ceiling, le-times}
use Rattle.outward_interval.proofs.span.Span.figure.Goals as goal

pub invariant_of-result : goal.invariant_of-result
invariant_of-result g c =
    let low : SFits w128 c.floor_of-low.result = search rules in
    let high : SFits w128 c.ceiling_of-high.result = search rules in
    let least : SFits w128 c.scaled.result = search rules in
    let most : SFits w128 c.scaled-2.result = search rules in
    let from : SFits w128 c.lo.result = search rules in
    let to : SFits w128 c.hi.result = search rules in
    let unit : 0 < 2 ^ g.row.F * c.power_of_ten-unit.result = mul-pos (pow_pos g.row.F) c.power_of_ten-unit.ensures.positive in
    let first = simp to_z-of_z at c.scaled.ensures.value in
    let last = simp to_z-of_z at c.scaled-2.ensures.value in
    let ends : c.lo.result ≤ℤ c.hi.result = rw (c.lo.ensures, c.hi.ensures) c.args.self.ordered in
    let ordered : c.scaled.result ≤ℤ c.scaled-2.result = rw (first, last) (le-times (10 ^ c.args.places) c.lo.result c.hi.result ends) in
    record { ordered = simp to_z-of_z (floor-le-ceiling (2 ^ g.row.F * c.power_of_ten-unit.result) c.scaled.result c.scaled-2.result c.floor_of-low.result c.ceiling_of-high.result unit ordered (simp to_z-of_z at c.floor_of-low.ensures.floor) (simp to_z-of_z at c.ceiling_of-high.ensures.ceiling)) }

pub returns : goal.returns
returns g c = record { down = search rules; up = search rules }
