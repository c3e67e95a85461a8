use Rattle.std.proofs.Common.{ℕ, ◌<◌}
use Rattle.intact_criteria.specs.Downflooding.{Passes}
use Rattle.intact_criteria.specs.Readings.{depth_at}
use Rattle.intact_criteria.proofs.leaks.first_place.Given as goal

abbrev pub invariant-loop-place : goal.invariant-loop-place
invariant-loop-place l = (i : ℕ) → i < l.place → ¬ Passes l.test (depth_at l.brackets l.arms l.openings i l.degree)
