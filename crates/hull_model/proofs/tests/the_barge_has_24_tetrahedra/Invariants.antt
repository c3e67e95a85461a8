use Rattle.std.proofs.Common.{drop}
use Rattle.std.specs.List.{AllByRecursion}
use Rattle.hull_model.specs.Tetrahedra.{IsWithinLimits}
use Rattle.hull_model.proofs.tests.the_barge_has_24_tetrahedra.Given as goal

abbrev pub invariant-loop-t : goal.invariant-loop-t
invariant-loop-t g l = AllByRecursion IsWithinLimits (drop l.t-index l.t-items)
