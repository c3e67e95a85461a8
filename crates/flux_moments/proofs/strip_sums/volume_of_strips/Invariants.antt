use Rattle.flux_moments.proofs.StripLoops.{IsVolumeSum}
use Rattle.flux_moments.proofs.strip_sums.volume_of_strips.Given as goal

abbrev pub invariant-loop-n : goal.invariant-loop-n
invariant-loop-n l = IsVolumeSum l.faces l.planes l.n l.n-end l.sum
