use Rattle.std.proofs.Common.{◌≡◌, length}
use Rattle.dynamic_lever.specs.Rows.{IsArmAt}
use Rattle.dynamic_lever.proofs.RowFacts.{AreRightTo}
use Rattle.dynamic_lever.proofs.arm_table.arms.Given as goal

abbrev pub invariant-loop-k : goal.invariant-loop-k
invariant-loop-k l = (length l.rows ≡ 91) × AreRightTo (IsArmAt l.faces l.loading l.water) l.k l.rows
