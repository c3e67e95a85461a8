-- Why a file gave no job or no hull.
use Rattle.std.specs.Prelude.{ℕ, ◌≡◌, ◌≢◌, ⊤, List, Some}
use Rattle.job_reader.specs.declared.fault.JobFault.TheVariants as job_fault
use Rattle.job_reader.specs.Job.{IsFaultOf}
use Rattle.offset_reader.specs.Offsets.{first_fault}
use Rattle.report_run.specs.declared.stop.File.{File}
use Rattle.report_run.specs.declared.stop.File.TheVariants as file
use Rattle.report_run.specs.declared.stop.Refusal.{Refusal}
use Rattle.report_run.specs.declared.stop.Refusal.TheVariants as refusal
use Rattle.report_run.specs.declared.stop.Stop.{Stop}
use Rattle.report_run.specs.declared.stop.Stop.TheVariants as stop
use Rattle.report_run.specs.Shelves.{Shelves, Fetched, TooLong, Unread}

-- this refusal is due to the offset file of this name
abbrev pub DueToOffsets : Shelves → List ℕ → Refusal → Type 0
DueToOffsets shelves offsets (refusal.Long file.Offsets) = TooLong shelves offsets
DueToOffsets shelves offsets (refusal.Offsets fault) = (bytes : List ℕ) × Fetched shelves offsets bytes × (first_fault bytes ≡ Some fault)
DueToOffsets shelves offsets _ = ⊥

-- this refusal is due to the job file of this name
abbrev pub DueToJob : Shelves → List ℕ → Refusal → Type 0
DueToJob shelves job (refusal.Long file.Job) = TooLong shelves job
DueToJob shelves job (refusal.Job fault) = (bytes : List ℕ) × Fetched shelves job bytes × IsFaultOf bytes fault × (fault ≢ job_fault.Memory)
DueToJob shelves job _ = ⊥

-- Want of memory may come at any time.

-- why the file of this name could not be fetched
abbrev pub StopsFetching : Shelves → List ℕ → File → Stop → Type 0
StopsFetching shelves name kind (stop.Refused (refusal.Long named)) = (named ≡ kind) × TooLong shelves name
StopsFetching shelves name kind (stop.Refused _) = ⊥
StopsFetching shelves name kind (stop.Unread named) = (named ≡ kind) × Unread shelves name
StopsFetching shelves name kind stop.NoMemory = ⊤

-- why no hull could be read under this name
abbrev pub StopsReading : Shelves → List ℕ → Stop → Type 0
StopsReading shelves offsets (stop.Refused cause) = DueToOffsets shelves offsets cause
StopsReading shelves offsets (stop.Unread file.Offsets) = Unread shelves offsets
StopsReading shelves offsets (stop.Unread file.Job) = ⊥
StopsReading shelves offsets stop.NoMemory = ⊤

-- why no job could be read under this name
abbrev pub StopsReadingJob : Shelves → List ℕ → Stop → Type 0
StopsReadingJob shelves job (stop.Refused cause) = DueToJob shelves job cause
StopsReadingJob shelves job (stop.Unread file.Job) = Unread shelves job
StopsReadingJob shelves job (stop.Unread file.Offsets) = ⊥
StopsReadingJob shelves job stop.NoMemory = ⊤
