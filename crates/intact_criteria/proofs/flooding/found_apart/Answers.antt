use Rattle.intact_criteria.specs.Readings.{leaks_of, separation_at}
use Rattle.intact_criteria.proofs.FoundLaws.{found_to_hold, found_to_fail, leak_exists, unsure_by_leak, separation_ordered}
use Rattle.intact_criteria.proofs.flooding.found_apart.Goals as goal

pub returns-in-None : goal.returns-in-None
returns-in-None c = found_to_hold (leaks_of c.args.brackets.now c.args.arms.now c.args.openings.now) (separation_at c.args.arms.now c.args.ask.side) (separation_ordered c.args.arms.now c.args.ask.side) c.args.ask.base c.args.ask.limit
    c.args.most c.requires.most c.requires.apart c.in-None.ensures

pub returns-in-None-first_marked : goal.returns-in-None-first_marked
returns-in-None-first_marked c = found_to_fail (leaks_of c.args.brackets.now c.args.arms.now c.args.openings.now) (separation_at c.args.arms.now c.args.ask.side) (separation_ordered c.args.arms.now c.args.ask.side) c.args.ask.base c.args.ask.limit
    c.args.most c.requires.most c.shown_failing.result c.requires.apart c.in-None-first_marked.ensures c.shown_failing.ensures

pub first_leak-requires-clause-some : goal.first_leak-requires-clause-some
first_leak-requires-clause-some c = leak_exists (leaks_of c.args.brackets.now c.args.arms.now c.args.openings.now) (separation_at c.args.arms.now c.args.ask.side) (separation_ordered c.args.arms.now c.args.ask.side) c.args.ask.base c.args.ask.limit
    c.args.most c.requires.most c.in-Some._failing c.in-Some-first_marked._holding c.in-Some.ensures c.in-Some-first_marked.ensures

pub returns-in-Some-first_marked : goal.returns-in-Some-first_marked
returns-in-Some-first_marked c = unsure_by_leak (leaks_of c.args.brackets.now c.args.arms.now c.args.openings.now) (separation_at c.args.arms.now c.args.ask.side) (separation_ordered c.args.arms.now c.args.ask.side) c.args.ask.base c.args.ask.limit
    c.args.most c.requires.most c.in-Some._failing c.in-Some-first_marked._holding c.first_leak.result c.requires.apart c.in-Some.ensures c.in-Some-first_marked.ensures c.first_leak.ensures
