use Rattle.std.proofs.Common.{◌↔◌, length}
use Rattle.hull_model.specs.Body.{HasBreadth}
use Rattle.hull_model.proofs.hull.have_breadth.Given as goal

abbrev pub invariant-loop-rest : goal.invariant-loop-rest
invariant-loop-rest l = HasBreadth l.rest ↔ HasBreadth l.stations

abbrev pub decreases-loop-rest : goal.decreases-loop-rest
decreases-loop-rest l = length l.rest
