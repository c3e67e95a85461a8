use Rattle.compartment_loss.proofs.UprightSums.{AreUprightSums}
use Rattle.compartment_loss.proofs.UprightDepths.{AreKnown}
use Rattle.compartment_loss.proofs.upright_left.column_sums.Given as goal

abbrev pub invariant-loop-face : goal.invariant-loop-face
invariant-loop-face l = AreKnown l.planes l.way l.known × AreUprightSums l.planes l.way.first l.way.last l.faces l.face-index l.sums
