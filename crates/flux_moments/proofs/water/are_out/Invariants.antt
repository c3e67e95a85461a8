use Rattle.std.proofs.Common.{length}
use Rattle.flux_moments.specs.Water.{IsOut, IsFarOut}
use Rattle.flux_moments.proofs.Waters.{AreLeft}
use Rattle.flux_moments.proofs.water.are_out.Given as goal

abbrev pub invariant-loop-rest : goal.invariant-loop-rest
invariant-loop-rest l = AreLeft l.way.first l.way.last (IsOut l.planes l.way.first l.way.last) (IsFarOut l.planes l.way.first l.way.last) l.rest l.nodes

abbrev pub decreases-loop-rest : goal.decreases-loop-rest
decreases-loop-rest l = length l.rest
