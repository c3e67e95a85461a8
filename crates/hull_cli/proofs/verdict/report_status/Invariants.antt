use Rattle.std.proofs.Common.{◌≡◌, drop}
use Rattle.hull_cli.specs.Verdicts.{status_of}
use Rattle.hull_cli.proofs.verdict.report_status.Given as goal

abbrev pub invariant-loop-line : goal.invariant-loop-line
invariant-loop-line l = status_of (drop l.line-index l.lines) ≡ status_of l.lines
