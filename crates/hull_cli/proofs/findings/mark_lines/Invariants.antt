use Rattle.std.proofs.Common.{◌≡◌, length}
use Rattle.hull_report.specs.Spelling.{AreLines}
use Rattle.hull_cli.specs.Lists.{NumberedFrom}
use Rattle.hull_cli.specs.Stability.{IsMarkLine}
use Rattle.hull_cli.proofs.findings.mark_lines.Given as goal

abbrev pub invariant-loop-place : goal.invariant-loop-place
invariant-loop-place l = record {
  count : length l.lines.items ≡ l.place;
  grammar : AreLines l.lines.items;
  rows : NumberedFrom (IsMarkLine l.marks) 0 l.lines.items;
}
