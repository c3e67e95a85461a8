use Rattle.std.proofs.Common.{◌∙◌}
use Rattle.std.proofs.lemmas.Int.{to_z-of_z}
use Rattle.std.specs.Int.{w128}
use mir.Val.{SFits}
use Rattle.outward_interval.proofs.Divisors.{least_divisor-positive, greatest_divisor-positive}
use Rattle.hydro_tables.proofs.QuotientEnds.{are_quotient_ends, small_by_least, small_by_greatest}
use Rattle.hydro_tables.proofs.long_division.ends_over.Goals as goal

pub floor_of_quotient-from-requires-clause-divisor : goal.floor_of_quotient-from-requires-clause-divisor
floor_of_quotient-from-requires-clause-divisor c =
    let by : SFits w128 c.divisor_of_least.result = record { sfits = c.divisor_of_least.type_inv } in
    simp to_z-of_z (rw c.divisor_of_least.ensures (least_divisor-positive _ c.args.divisor.lo c.args.divisor.hi c.requires.divisor c.args.divisor.ordered))

pub floor_of_quotient-from-requires-clause-small : goal.floor_of_quotient-from-requires-clause-small
floor_of_quotient-from-requires-clause-small c =
    let low : SFits w128 c.lo-low.result = record { sfits = c.lo-low.type_inv } in
    let by : SFits w128 c.divisor_of_least.result = record { sfits = c.divisor_of_least.type_inv } in
    small_by_least c.args.divisor c.args.moment.lo _ _ (to_z-of_z w128 c.lo-low.result low ∙ c.lo-low.ensures)
    (to_z-of_z w128 c.divisor_of_least.result by ∙ c.divisor_of_least.ensures) c.requires.small.low

pub ceiling_of_quotient-to-requires-clause-divisor : goal.ceiling_of_quotient-to-requires-clause-divisor
ceiling_of_quotient-to-requires-clause-divisor c =
    let by : SFits w128 c.divisor_of_greatest.result = record { sfits = c.divisor_of_greatest.type_inv } in
    simp to_z-of_z (rw c.divisor_of_greatest.ensures (greatest_divisor-positive _ c.args.divisor.lo c.args.divisor.hi c.requires.divisor c.args.divisor.ordered))

pub ceiling_of_quotient-to-requires-clause-small : goal.ceiling_of_quotient-to-requires-clause-small
ceiling_of_quotient-to-requires-clause-small c =
    let high : SFits w128 c.hi-high.result = record { sfits = c.hi-high.type_inv } in
    let by : SFits w128 c.divisor_of_greatest.result = record { sfits = c.divisor_of_greatest.type_inv } in
    small_by_greatest c.args.divisor c.args.moment.hi _ _ (to_z-of_z w128 c.hi-high.result high ∙ c.hi-high.ensures)
    (to_z-of_z w128 c.divisor_of_greatest.result by ∙ c.divisor_of_greatest.ensures) c.requires.small.high

pub returns-clause-ends : goal.returns-clause-ends
returns-clause-ends c =
    let low : SFits w128 c.lo-low.result = record { sfits = c.lo-low.type_inv } in
    let high : SFits w128 c.hi-high.result = record { sfits = c.hi-high.type_inv } in
    let least : SFits w128 c.divisor_of_least.result = record { sfits = c.divisor_of_least.type_inv } in
    let greatest : SFits w128 c.divisor_of_greatest.result = record { sfits = c.divisor_of_greatest.type_inv } in
    let from : SFits w128 c.floor_of_quotient-from.result = record { sfits = c.floor_of_quotient-from.type_inv } in
    let to : SFits w128 c.ceiling_of_quotient-to.result = record { sfits = c.ceiling_of_quotient-to.type_inv } in
    are_quotient_ends c.args.moment.lo c.args.moment.hi c.args.divisor.lo c.args.divisor.hi _ _ _ _ c.floor_of_quotient-from.result c.ceiling_of_quotient-to.result
    (to_z-of_z w128 c.lo-low.result low ∙ c.lo-low.ensures) (to_z-of_z w128 c.hi-high.result high ∙ c.hi-high.ensures)
    (to_z-of_z w128 c.divisor_of_least.result least ∙ c.divisor_of_least.ensures) (to_z-of_z w128 c.divisor_of_greatest.result greatest ∙ c.divisor_of_greatest.ensures)
    c.floor_of_quotient-from.ensures.floor c.ceiling_of_quotient-to.ensures.ceiling (to_z-of_z w128 c.floor_of_quotient-from.result from) (to_z-of_z w128 c.ceiling_of_quotient-to.result to)
