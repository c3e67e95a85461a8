use Rattle.std.proofs.Common.{◌≡◌, ◌*◌, length, take}
use Rattle.hull_report.specs.Spelling.{AreLines}
use Rattle.hull_cli.specs.Tables.{AreBonjeanLines}
use Rattle.hull_cli.proofs.section.bonjean_lines.Given as goal

abbrev pub invariant-loop-draft : goal.invariant-loop-draft
invariant-loop-draft l = record {
  count : length l.lines.items ≡ l.draft-index * length l.hull;
  grammar : AreLines l.lines.items;
  rows : AreBonjeanLines l.hull (take l.draft-index l.drafts) l.lines.items;
}
