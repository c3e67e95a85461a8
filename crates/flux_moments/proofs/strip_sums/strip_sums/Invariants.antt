use Rattle.flux_moments.proofs.StripLoops.{AreStripSums}
use Rattle.flux_moments.proofs.strip_sums.strip_sums.Given as goal

abbrev pub invariant-loop-n : goal.invariant-loop-n
invariant-loop-n l = AreStripSums l.faces l.planes l.n l.n-end l.sums
