use Rattle.std.proofs.Common.{◌≡◌, length}
use Rattle.hull_model.specs.Slabs.{are_apart}
use Rattle.job_reader.proofs.job.are_apart.Given as goal

abbrev pub invariant-loop-rest : goal.invariant-loop-rest
invariant-loop-rest l = are_apart l.rest ≡ are_apart l.slabs

abbrev pub decreases-loop-rest : goal.decreases-loop-rest
decreases-loop-rest l = length l.rest
