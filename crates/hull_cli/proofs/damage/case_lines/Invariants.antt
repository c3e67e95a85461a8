use Rattle.std.proofs.Common.{◌≡◌, length, take}
use Rattle.draft_bracket.specs.DraftBracket.{OfHulls}
use Rattle.hull_report.specs.Spelling.{AreLines}
use Rattle.hull_cli.specs.Damages.{IsCaseLine}
use Rattle.hull_cli.specs.Lists.{NumberedPairs}
use Rattle.hull_cli.proofs.damage.case_lines.Given as goal

abbrev pub invariant-loop-damage : goal.invariant-loop-damage
invariant-loop-damage l = record {
  number : l.case ≡ l.damage-index;
  count : length l.lines.items ≡ l.damage-index;
  grammar : AreLines l.lines.items;
  rows : OfHulls l.faces (λ hull. NumberedPairs (IsCaseLine hull l.water l.loading) 1 (take l.damage-index l.damages) l.lines.items);
}
