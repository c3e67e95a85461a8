use Rattle.compartment_loss.proofs.UprightDepths.{AreKnown}
use Rattle.compartment_loss.proofs.UprightPartSums.{ArePartSums}
use Rattle.compartment_loss.proofs.upright_part.part_column_sums.Given as goal

abbrev pub invariant-loop-part : goal.invariant-loop-part
invariant-loop-part l = AreKnown l.planes l.way l.known × ArePartSums l.planes l.way.first l.way.last l.parts l.part-index l.sums
