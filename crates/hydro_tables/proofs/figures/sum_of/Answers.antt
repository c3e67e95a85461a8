use Rattle.outward_interval.specs.Laws.{sum_contains}
use Rattle.hydro_tables.proofs.FigureWidths.{sum_narrow}
use Rattle.hydro_tables.proofs.figures.sum_of.Goals as goal

pub returns-in-Some-Some-clause-contains : goal.returns-in-Some-Some-clause-contains
returns-in-Some-Some-clause-contains c x y h k =
    let one = rw c.in-Some-Some.is-0 at h in
    let other = rw c.in-Some-Some.is-1 at k in
    sum_contains 20 c.in-Some-Some.one.lo c.in-Some-Some.one.hi c.in-Some-Some.other.lo c.in-Some-Some.other.hi c.add.result.lo c.add.result.hi x y c.add.ensures one other

pub returns-in-Some-Some-clause-narrow : goal.returns-in-Some-Some-clause-narrow
returns-in-Some-Some-clause-narrow c = rw (c.in-Some-Some.is-0, c.in-Some-Some.is-1) (sum_narrow c.in-Some-Some.one c.in-Some-Some.other c.add.result c.add.ensures)
