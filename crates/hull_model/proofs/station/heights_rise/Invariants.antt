use Rattle.std.proofs.Common.{◌↔◌, length}
use Rattle.hull_model.specs.Lists.{Rises}
use Rattle.hull_model.proofs.station.heights_rise.Given as goal

abbrev pub invariant-loop-rest : goal.invariant-loop-rest
invariant-loop-rest l = Rises (λ p. p.z) l.rest ↔ Rises (λ p. p.z) l.points

abbrev pub decreases-loop-rest : goal.decreases-loop-rest
decreases-loop-rest l = length l.rest
