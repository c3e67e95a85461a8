use Rattle.hull_maker.proofs.Left.{StationsLeft}
use Rattle.hull_maker.proofs.hull.made_hull.Given as goal

abbrev pub invariant-loop-i : goal.invariant-loop-i
invariant-loop-i l = StationsLeft l.seed l.i l.draws.state l.stations.items
