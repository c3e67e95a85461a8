use Rattle.std.proofs.Common.{◌+◌, ◌-ℤ◌}
use Rattle.std.specs.Int.RustNames.{unsigned_abs}
use Rattle.damage_box.specs.Balance.{IsInward}
use Rattle.damage_box.proofs.inwards.narrowed.Given as goal

abbrev pub invariant-loop-next : goal.invariant-loop-next
invariant-loop-next g l = IsInward (g.F.Floats.balance l.floats) l.fn.from.a l.fn.from.f l.limit.a l.limit.f l.at.a l.at.f

abbrev pub decreases-loop-next : goal.decreases-loop-next
decreases-loop-next g l = unsigned_abs (l.limit.a -ℤ l.at.a) + unsigned_abs (l.at.f -ℤ l.limit.f)
