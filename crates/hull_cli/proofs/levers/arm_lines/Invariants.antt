use Rattle.std.proofs.Common.{◌≡◌, length}
use Rattle.hull_report.specs.Spelling.{AreLines}
use Rattle.hull_cli.specs.Lists.{NumberedFrom}
use Rattle.hull_cli.specs.Stability.{IsArmLine}
use Rattle.hull_cli.proofs.levers.arm_lines.Given as goal

abbrev pub invariant-loop-degree : goal.invariant-loop-degree
invariant-loop-degree l = record {
  count : length l.lines.items ≡ l.degree;
  grammar : AreLines l.lines.items;
  rows : NumberedFrom (IsArmLine l.version l.arms) 0 l.lines.items;
}
