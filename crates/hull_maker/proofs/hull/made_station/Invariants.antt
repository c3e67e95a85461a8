use Rattle.hull_maker.proofs.Left.{PointsLeft}
use Rattle.hull_maker.proofs.hull.made_station.Given as goal

abbrev pub invariant-loop-j : goal.invariant-loop-j
invariant-loop-j l = PointsLeft l.i l.initial.draws.state l.j l.draws.state l.points.items
