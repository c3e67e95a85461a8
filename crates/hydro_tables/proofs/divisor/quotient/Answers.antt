use Rattle.outward_interval.proofs.Contained.{quotient_contains}
use Rattle.hydro_tables.proofs.QuotientEnds.{quotient_ends, small_within}
use Rattle.hydro_tables.proofs.RowWidths.{quotient_narrow}
use Rattle.hydro_tables.proofs.divisor.quotient.Goals as goal

pub over-requires-clause-small : goal.over-requires-clause-small
over-requires-clause-small c =
    let small = rw c.in-Some.is at c.requires.small in
    small_within c.args.reach c.in-Some.divisor c.args.moment c.requires.reach small.0 small.1

pub returns-in-Some-clause-contains : goal.returns-in-Some-clause-contains
returns-in-Some-clause-contains c m v h k =
    let small = rw c.in-Some.is at c.requires.small in
    quotient_contains 20 c.args.moment.lo c.args.moment.hi c.in-Some.divisor.lo c.in-Some.divisor.hi c.over.result.lo c.over.result.hi m v small.0 c.in-Some.divisor.ordered c.over.ensures h
    (rw c.in-Some.is at k)

pub returns-in-Some-clause-ends : goal.returns-in-Some-clause-ends
returns-in-Some-clause-ends c =
    let small = rw c.in-Some.is at c.requires.small in
    quotient_ends c.args.reach c.args.moment.lo c.args.moment.hi c.in-Some.divisor.lo c.in-Some.divisor.hi c.over.result.lo c.over.result.hi small.0 c.in-Some.divisor.ordered small.1.low
    small.1.high c.over.ensures

pub returns-in-Some-clause-narrow : goal.returns-in-Some-clause-narrow
returns-in-Some-clause-narrow c =
    let small = rw c.in-Some.is at c.requires.small in
    rw c.in-Some.is (quotient_narrow c.args.moment c.in-Some.divisor c.over.result small.0 c.over.ensures)
