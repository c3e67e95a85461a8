use Rattle.std.proofs.Common.{length}
use Rattle.loading_sheet.proofs.SumSteps.{Left}
use Rattle.loading_sheet.proofs.sums.sums_of.Given as goal

abbrev pub invariant-loop-rest : goal.invariant-loop-rest
invariant-loop-rest l = Left l.items l.rest l.mass l.along l.across l.height l.free

abbrev pub decreases-loop-rest : goal.decreases-loop-rest
decreases-loop-rest l = length l.rest
