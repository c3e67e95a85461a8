use Rattle.std.proofs.Common.{◌↔◌, length}
use Rattle.hull_model.specs.Lists.{Rises}
use Rattle.hull_model.proofs.hull.places_rise.Given as goal

abbrev pub invariant-loop-rest : goal.invariant-loop-rest
invariant-loop-rest l = Rises (λ s. s.x) l.rest ↔ Rises (λ s. s.x) l.stations

abbrev pub decreases-loop-rest : goal.decreases-loop-rest
decreases-loop-rest l = length l.rest
