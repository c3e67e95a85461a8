use Rattle.std.proofs.Common.{◌≤◌, ◌<◌, ◌≤ℤ◌, ℕ}
use Rattle.intact_criteria.specs.Levers.{end_at}
use Rattle.intact_criteria.specs.Readings.{gz_at}
use Rattle.intact_criteria.proofs.levers.first_reaching.Given as goal

abbrev pub invariant-loop-degree : goal.invariant-loop-degree
invariant-loop-degree l = (j : ℕ) → l.from ≤ j → j < l.degree → ¬ (l.limit ≤ℤ end_at l.end (gz_at l.arms l.side j))
