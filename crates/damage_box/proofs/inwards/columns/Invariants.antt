use Rattle.std.proofs.Common.{◌-ℤ◌, ◌≤ℤ◌, ◌<ℤ◌, pos, ◌+ℤ◌}
use Rattle.std.specs.Int.RustNames.{unsigned_abs}
use Rattle.damage_box.specs.Balance.{IsInward}
use Rattle.damage_box.proofs.inwards.columns.Given as goal

abbrev pub invariant-loop-passed : goal.invariant-loop-passed
invariant-loop-passed g l = record {
  inward : IsInward (g.F.Floats.balance l.floats) l.fn.from.a l.fn.from.f l.limit.a l.limit.f l.a l.f;
  order : l.a <ℤ l.passed;
  to : l.passed ≤ℤ (l.limit.a +ℤ pos 1);
}

abbrev pub decreases-loop-passed : goal.decreases-loop-passed
decreases-loop-passed g l = unsigned_abs (l.passed -ℤ l.a)
