use Rattle.std.proofs.Common.{◌↔◌, ◌≤◌, length}
use Rattle.std.specs.List.{AllByRecursion}
use Rattle.hull_model.proofs.hull.have_strips.Given as goal

abbrev pub invariant-loop-rest : goal.invariant-loop-rest
invariant-loop-rest l = AllByRecursion (λ s. 2 ≤ length s.points) l.rest ↔ AllByRecursion (λ s. 2 ≤ length s.points) l.stations

abbrev pub decreases-loop-rest : goal.decreases-loop-rest
decreases-loop-rest l = length l.rest
