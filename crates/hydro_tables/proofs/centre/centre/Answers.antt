use Rattle.hydro_tables.proofs.CentreCut.{centre_aboard, narrower}
use Rattle.hydro_tables.proofs.centre.centre.Goals as goal

pub returns-in-Some-clause-contains : goal.returns-in-Some-clause-contains
returns-in-Some-clause-contains c m v at h k =
    let both = centre_aboard c.args.area.now c.in-Some.x m v (rw c.in-Some.is at c.quotient.ensures.none) c.requires.above at k in
    let quotients = rw c.in-Some.is at c.quotient.ensures.contains in
    c.aboard.ensures.contains _ both.0 both.1 (quotients m v h k)

pub returns-in-Some-clause-narrow : goal.returns-in-Some-clause-narrow
returns-in-Some-clause-narrow c = narrower c.args.sx c.args.area.now c.in-Some.x c.aboard.result c.aboard.ensures.narrower (rw c.in-Some.is at c.quotient.ensures.narrow)
