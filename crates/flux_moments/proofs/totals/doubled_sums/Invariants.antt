use Rattle.flux_moments.proofs.PartTotals.{ArePartSums}
use Rattle.flux_moments.proofs.totals.doubled_sums.Given as goal

abbrev pub invariant-loop-part : goal.invariant-loop-part
invariant-loop-part l = ArePartSums l.planes l.way.first l.way.last l.parts l.part-index l.sums
