use Rattle.std.proofs.Common.{◌≡◌, length}
use Rattle.hull_report.specs.Spelling.{AreLines}
use Rattle.hull_cli.specs.Lists.{NumberedFrom}
use Rattle.hull_cli.specs.Sections.{IsSectionLine}
use Rattle.hull_cli.proofs.section.section_lines.Given as goal

abbrev pub invariant-loop-station : goal.invariant-loop-station
invariant-loop-station l = record {
  count : length l.lines.items ≡ l.station;
  grammar : AreLines l.lines.items;
  rows : NumberedFrom (IsSectionLine l.hull l.draft) 0 l.lines.items;
}
