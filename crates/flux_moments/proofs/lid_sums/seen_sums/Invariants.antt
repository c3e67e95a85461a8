use Rattle.flux_moments.proofs.SeenSums.{AreLidSums}
use Rattle.flux_moments.proofs.lid_sums.seen_sums.Given as goal

abbrev pub invariant-loop-face : goal.invariant-loop-face
invariant-loop-face l = AreLidSums l.planes l.way.first l.way.last l.faces l.face-index l.sums
