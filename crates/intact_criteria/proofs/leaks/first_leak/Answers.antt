use Rattle.std.proofs.Common.{arith}
use Rattle.intact_criteria.proofs.leaks.first_leak.Goals as goal

pub returns-then-some_passes : goal.returns-then-some_passes
returns-then-some_passes c = record {
  degree = c.loop-degree.degree;
  first = record { above = omega arith; below = omega arith; holds = c.some_passes.ensures.0 c.if-some_passes.true; before = λ j h k. c.loop-degree.invariant j k };
  shows = c.shown_first.ensures;
}

pub unreachable-requires : goal.unreachable-requires
unreachable-requires c = c.loop-degree.invariant c.requires.some.degree (omega arith) c.requires.some.holds
