use Rattle.std.proofs.Common.{length}
use Rattle.intact_criteria.proofs.both.+first_unsure.Given as goal

abbrev pub decreases-first_unsure : goal.decreases-first_unsure
decreases-first_unsure l = length l.founds.now
