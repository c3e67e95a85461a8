use Rattle.std.proofs.Common.{◌≡◌, ◌*◌, length, take}
use Rattle.std.specs.List.{AllByRecursion}
use Rattle.draft_bracket.specs.DraftBracket.{IsTooHeavy, OfHulls}
use Rattle.hull_report.specs.Spelling.{AreLines}
use Rattle.loading_sheet.specs.Centre.{displaced_by}
use Rattle.hull_cli.specs.Curves.{AreCrossLines}
use Rattle.hull_cli.proofs.cross.cross_lines.Given as goal

abbrev pub invariant-loop-mass : goal.invariant-loop-mass
invariant-loop-mass l = record {
  count : length l.lines.items ≡ l.mass-index * 91;
  grammar : AreLines l.lines.items;
  light : OfHulls l.faces (λ hull. AllByRecursion (λ m. ¬ (IsTooHeavy hull (displaced_by m l.water))) (take l.mass-index l.masses));
  rows : OfHulls l.faces (λ hull. AreCrossLines hull l.water (take l.mass-index l.masses) l.lines.items);
}
