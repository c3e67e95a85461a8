use Rattle.flux_moments.proofs.ColumnSums.{AreSums}
use Rattle.flux_moments.proofs.face_sums.column_sums.Given as goal

abbrev pub invariant-loop-face : goal.invariant-loop-face
invariant-loop-face l = AreSums l.planes l.way.first l.way.last l.faces l.face-index l.sums
