use Rattle.hull_cli.proofs.StabilityLines.{lever_is}
use Rattle.hull_cli.proofs.levers.lever_to.Goals as goal

pub returns-clause-lever : goal.returns-clause-lever
returns-clause-lever c = lever_is c.args.arms.now c.args.side c.args.degree c.gz.result c.area.result c.gz.ensures.ends c.area.ensures.ends _ c.figure.ensures c.figure-2.ensures
