use Rattle.std.proofs.Common.{◌≡◌, ◌≤◌, length}
use Rattle.draft_bracket.specs.DraftBracket.{IsTooHeavy, OfHulls}
use Rattle.hull_report.specs.Spelling.{AreLines}
use Rattle.loading_sheet.specs.Centre.{displaced_by}
use Rattle.hull_cli.specs.Curves.{IsCrossLine}
use Rattle.hull_cli.specs.Lists.{NumberedFrom}
use Rattle.hull_cli.proofs.cross.curve.Given as goal

abbrev pub invariant-loop-degree : goal.invariant-loop-degree
invariant-loop-degree l = record {
  count : length l.lines.items ≡ l.degree;
  grammar : AreLines l.lines.items;
  light : 1 ≤ l.degree → OfHulls l.faces (λ hull. ¬ (IsTooHeavy hull (displaced_by l.mass l.water)));
  rows : OfHulls l.faces (λ hull. NumberedFrom (IsCrossLine hull l.water l.mass) 0 l.lines.items);
}
