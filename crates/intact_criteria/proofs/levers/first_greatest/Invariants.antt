use Rattle.intact_criteria.specs.Levers.{end_at}
use Rattle.intact_criteria.specs.Readings.{gz_at}
use Rattle.intact_criteria.proofs.Best.{IsBestBelow}
use Rattle.intact_criteria.proofs.levers.first_greatest.Given as goal

abbrev pub invariant-loop-degree : goal.invariant-loop-degree
invariant-loop-degree l = IsBestBelow l.from l.degree (λ k. end_at l.end (gz_at l.arms l.side k)) l.best
