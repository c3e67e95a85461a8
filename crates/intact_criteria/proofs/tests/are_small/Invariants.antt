use Rattle.std.proofs.Common.{◌≡◌, ℕ, ◌<◌, Some, slice_get}
use Rattle.dynamic_lever.specs.declared.rows.Arm.{Arm}
use Rattle.intact_criteria.specs.Tables.{IsSmallArm}
use Rattle.intact_criteria.proofs.tests.are_small.Given as goal

abbrev pub invariant-loop-degree : goal.invariant-loop-degree
invariant-loop-degree l = (k : ℕ) (arm : Arm) → k < l.degree → slice_get l.arms.rows k ≡ Some arm → IsSmallArm arm
