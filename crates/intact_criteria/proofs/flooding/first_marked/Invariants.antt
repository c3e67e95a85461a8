use Rattle.std.proofs.Common.{ℕ, ◌<◌}
use Rattle.intact_criteria.specs.AreaToFlooding.{IsMarked}
use Rattle.intact_criteria.specs.Downflooding.{IsCandidate}
use Rattle.intact_criteria.specs.Readings.{leaks_of, separation_at}
use Rattle.intact_criteria.proofs.flooding.first_marked.Given as goal

abbrev pub invariant-loop-degree : goal.invariant-loop-degree
invariant-loop-degree l = (k : ℕ) → k < l.degree → IsCandidate (leaks_of l.brackets l.arms l.openings) l.most k → ¬ IsMarked (separation_at l.arms l.ask.side) l.ask.base l.ask.limit l.mark k
