use Rattle.std.proofs.Common.{◌∙◌, sym, ◌*◌, ◌^◌, unsigned_abs}
use Rattle.std.proofs.lemmas.Int.{to_z-of_z}
use Rattle.std.specs.Int.{w128}
use mir.Val.{SFits}
use Rattle.flux_moments.proofs.ColumnSums.{quotient_at_most}
use Rattle.flux_moments.proofs.StripQuotients.{in_units_at_most, quotient-narrow, divisor-positive, contains_units}
use Rattle.flux_moments.proofs.strip_sums.quotient.Goals as goal

pub returns-clause-ends : goal.returns-clause-ends
returns-clause-ends c most h =
    let n : SFits w128 c.args.n = c.ranges.n in
    let d : SFits w128 c.args.divisor = c.ranges.divisor in
    quotient_at_most (unsigned_abs c.args.n * 2 ^ 20) most (unsigned_abs c.args.divisor) h
    (in_units_at_most c.args.n (simp to_z-of_z at c.whole_span.ensures)) (simp to_z-of_z at c.over_whole.ensures.ends)

pub returns-clause-contains : goal.returns-clause-contains
returns-clause-contains c =
    let n : SFits w128 c.args.n = c.ranges.n in
    let d : SFits w128 c.args.divisor = c.ranges.divisor in
    simp to_z-of_z at (c.over_whole.ensures.contains _ (contains_units c.args.n (simp to_z-of_z at c.whole_span.ensures)))

pub returns-clause-width : goal.returns-clause-width
returns-clause-width c =
    let n : SFits w128 c.args.n = c.ranges.n in
    let d : SFits w128 c.args.divisor = c.ranges.divisor in
    quotient-narrow (unsigned_abs c.args.divisor) (divisor-positive c.args.divisor c.requires.divisor)
    (c.whole_span.ensures.0 ∙ sym c.whole_span.ensures.1) (simp to_z-of_z at c.over_whole.ensures.width)
