use Rattle.flux_moments.proofs.StripLidLoops.{AreStripLids}
use Rattle.flux_moments.proofs.lid_sums.lids_of_strips.Given as goal

abbrev pub invariant-loop-n : goal.invariant-loop-n
invariant-loop-n l = AreStripLids l.faces l.planes l.n l.n-end l.sums
