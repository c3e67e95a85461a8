-- The exit codes of the statuses.
use Rattle.std.specs.Prelude.{ℕ}
use Rattle.report_run.specs.declared.status.Status.{Status}
use Rattle.report_run.specs.declared.status.Status.TheVariants.{Done, Fails, Undecided, Refused, ReadFault, WriteFault, NoMemory}

abbrev pub code_of : Status → ℕ
code_of Done = 0
code_of Fails = 1
code_of Undecided = 2
code_of Refused = 3
code_of ReadFault = 4
code_of WriteFault = 5
code_of NoMemory = 6
