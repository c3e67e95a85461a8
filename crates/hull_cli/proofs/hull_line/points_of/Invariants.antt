use Rattle.std.proofs.Common.{◌≡◌, ◌+◌, ◌*◌, ◌≤◌, length}
use Rattle.std.specs.List.{AllByRecursion}
use Rattle.hull_model.specs.Body.{IsStation}
use Rattle.hull_cli.specs.Report.{points_count}
use Rattle.hull_cli.proofs.hull_line.points_of.Given as goal

abbrev pub invariant-loop-rest : goal.invariant-loop-rest
invariant-loop-rest l = record {
  each : AllByRecursion IsStation l.rest;
  few : l.points + 32 * length l.rest ≤ 2048;
  counted : l.points + points_count l.rest ≡ points_count l.stations;
}

abbrev pub decreases-loop-rest : goal.decreases-loop-rest
decreases-loop-rest l = length l.rest
