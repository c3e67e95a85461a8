use Rattle.std.proofs.Common.{ℕ, ◌<◌}
use Rattle.intact_criteria.specs.declared.leaks.Test.TheVariants.{Unclear}
use Rattle.intact_criteria.specs.Downflooding.{SomePasses}
use Rattle.intact_criteria.specs.Readings.{leaks_of}
use Rattle.intact_criteria.proofs.leaks.first_leak.Given as goal

abbrev pub invariant-loop-degree : goal.invariant-loop-degree
invariant-loop-degree l = (j : ℕ) → j < l.degree → ¬ SomePasses (leaks_of l.brackets l.arms l.openings) Unclear j
