use Rattle.std.proofs.Common.{◌≡◌, ◌≤◌, ◌+◌, ◌++◌, length}
use Rattle.hull_report.specs.Spelling.{AreLines, lines_text}
use Rattle.hull_report.proofs.reading.all_lines.Given as goal

abbrev pub invariant-loop-rest : goal.invariant-loop-rest
invariant-loop-rest l = record {
  good : AreLines l.lines.items;
  parts : l.bytes ≡ lines_text l.lines.items ++ l.rest;
  count : length l.lines.items + length l.rest ≤ length l.bytes;
}

abbrev pub decreases-loop-rest : goal.decreases-loop-rest
decreases-loop-rest l = length l.rest
