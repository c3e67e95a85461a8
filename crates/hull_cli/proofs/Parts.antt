-- Why there are no tables, by what stopped one of the calls.
use Rattle.std.proofs.Common.{ℕ, List, inl, inr}
use Rattle.job_reader.specs.declared.job.Job.{Job}
use Rattle.hull_report.specs.declared.names.Command.{Command}
use Rattle.offset_reader.specs.Offsets.{hull_of}
use Rattle.report_run.specs.declared.stop.File.TheVariants as file
use Rattle.report_run.specs.declared.stop.Stop.{Stop}
use Rattle.report_run.specs.declared.stop.Stop.TheVariants as stop
use Rattle.report_run.specs.Files.{BothRead, JobRead}
use Rattle.report_run.specs.Shelves.{Shelves}
use Rattle.report_run.specs.Stops.{StopsReading}
use Rattle.report_run.proofs.Calls.{IsPart, due_to_offsets, unread}
use Rattle.hull_cli.specs.Stops.{StopsOn, StopsTables}
use Rattle.hull_cli.specs.Words.{tables}

-- why there are no tables where no hull could be read after the job
pub hull_stops : {part whole : Shelves} → IsPart part whole → (command : Command) (name offsets : List ℕ) (job : Job) (why : Stop) → JobRead whole name job → StopsReading part offsets why → StopsOn whole (tables command name offsets) why
hull_stops is command name offsets job (stop.Refused cause) read stops = inr (inl (job, read, due_to_offsets is offsets cause stops))
hull_stops is command name offsets job (stop.Unread file.Job) read stops = absurd stops
hull_stops is command name offsets job (stop.Unread file.Offsets) read stops = (job, read, unread is offsets stops)
hull_stops is command name offsets job stop.NoMemory read stops = tt

-- why there are none where both files were read
pub tables_stop : (shelves : Shelves) (command : Command) (name offsets : List ℕ) (job : Job) (bytes : List ℕ) (why : Stop) → BothRead shelves name offsets job bytes → StopsTables command job (hull_of bytes) why → StopsOn shelves (tables command name offsets) why
tables_stop shelves command name offsets job bytes (stop.Refused cause) read stops = inr (inr (job, bytes, read, stops))
tables_stop shelves command name offsets job bytes (stop.Unread file) read stops = absurd stops
tables_stop shelves command name offsets job bytes stop.NoMemory read stops = tt
