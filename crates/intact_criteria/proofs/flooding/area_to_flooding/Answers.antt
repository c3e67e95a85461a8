use Rattle.intact_criteria.specs.Readings.{leaks_of, separation_at}
use Rattle.intact_criteria.proofs.FoundLaws.{unsure_by_area, separation_ordered}
use Rattle.intact_criteria.proofs.flooding.area_to_flooding.Goals as goal

pub returns-in-Some : goal.returns-in-Some
returns-in-Some c = unsure_by_area (leaks_of c.args.brackets.now c.args.arms.now c.args.openings.now) (separation_at c.args.arms.now c.args.ask.side) (separation_ordered c.args.arms.now c.args.ask.side) c.args.ask.base c.args.ask.limit
    c.most_degree-most.result c.most_degree-most.ensures.most c.in-Some.degree c.shown_area.result c.in-Some.ensures c.shown_area.ensures
