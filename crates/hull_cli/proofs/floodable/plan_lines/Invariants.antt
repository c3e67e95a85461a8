use Rattle.std.proofs.Common.{◌≡◌, ◌*◌, length, take}
use Rattle.hull_report.specs.Spelling.{AreLines}
use Rattle.hull_cli.specs.Lengths.{AreLinesOfCentre}
use Rattle.hull_cli.specs.Lists.{Joined}
use Rattle.hull_cli.proofs.floodable.plan_lines.Given as goal

abbrev pub invariant-loop-centre : goal.invariant-loop-centre
invariant-loop-centre l = record {
  count : length l.lines.items ≡ l.centre-index * 2;
  grammar : AreLines l.lines.items;
  rows : Joined (AreLinesOfCentre (record { stations = l.hull; faces = l.faces; loading = l.loading; water = l.job.water; margin = l.job.margin }) l.plan) (take l.centre-index l.plan.centres) l.lines.items;
}
