-- The status of a report.
use Rattle.std.specs.Prelude.{⊤, List, [], ◌∷◌}
use Rattle.hull_report.specs.declared.line.Call.{Call}
use Rattle.hull_report.specs.declared.line.Call.TheVariants as call
use Rattle.hull_report.specs.declared.line.Line.{Line}
use Rattle.hull_report.specs.declared.line.Line.TheVariants as line
use Rattle.report_run.specs.declared.status.Status.{Status}
use Rattle.report_run.specs.declared.status.Status.TheVariants.{Done, Fails, Undecided}

-- the status that a verdict comes with
abbrev pub status_by : Call → Status
status_by call.Pass = Done
status_by (call.Fail criterion side shown) = Fails
status_by (call.Undecided criterion side shown) = Undecided

-- the status of a report, by its verdict line, if it has one
abbrev pub status_of : List Line → Status
status_of [] = Done
status_of (line.Verdict call ∷ lines) = status_by call
status_of (l ∷ lines) = status_of lines

-- a status that a report may have
abbrev pub MayReport : Status → Type 0
MayReport Done = ⊤
MayReport Fails = ⊤
MayReport Undecided = ⊤
MayReport _ = ⊥
