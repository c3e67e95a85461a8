use Rattle.std.proofs.Common.{unsigned_abs, ◌-ℤ◌}
use Rattle.exact_fraction.specs.Fraction.{fraction_of}
use Rattle.draft_bracket.proofs.Sides.{AreSides}
use Rattle.draft_bracket.proofs.crossing.crossing.Given as goal

abbrev pub invariant-loop-end : goal.invariant-loop-end
invariant-loop-end l = AreSides l.faces l.bracket (fraction_of l.need.ratio) l.end l.fn.from.level l.fn.to.level l.low l.high

abbrev pub decreases-loop-end : goal.decreases-loop-end
decreases-loop-end l = unsigned_abs (l.high.level -ℤ l.low.level)
