-- What is known of the files that a run reads.
use Rattle.std.specs.Prelude.{◌≡◌, ◌≤◌, List, ℕ, Some, None, length}
use Rattle.job_reader.specs.declared.job.Job.{Job}
use Rattle.job_reader.specs.Job.{IsJobOfFile}
use Rattle.offset_reader.specs.Offsets.{first_fault}
use Rattle.report_run.specs.Shelves.{Shelves, most_bytes, Fetched, Unread}

-- the offset file of this name was read, and has no fault
abbrev pub Read : Shelves → List ℕ → List ℕ → Type 0
Read shelves offsets bytes = Fetched shelves offsets bytes × (first_fault bytes ≡ None)

-- the job file of this name was read, and this is its job
abbrev pub JobRead : Shelves → List ℕ → Job → Type 0
JobRead shelves name job = (bytes : List ℕ) × Fetched shelves name bytes × IsJobOfFile bytes job

-- the files of these names were read: this is the job, and these are the bytes of the offset file
pub record BothRead (shelves : Shelves) (name offsets : List ℕ) (job : Job) (bytes : List ℕ) : Type 0 where
  pub job_read : JobRead shelves name job
  pub read : Read shelves offsets bytes

-- a file is held and short enough, and no fetch of it failed
pub record CanBeFetched (shelves : Shelves) (name bytes : List ℕ) : Type 0 where
  pub held : shelves.held name ≡ Some bytes
  pub few : length bytes ≤ most_bytes
  pub fetched : ¬ (Unread shelves name)

-- the offset file of this name can be read, and has no fault
pub record CanBeRead (shelves : Shelves) (offsets bytes : List ℕ) : Type 0 where
  pub file : CanBeFetched shelves offsets bytes
  pub accepted : first_fault bytes ≡ None

-- the job file of this name can be read, and has no fault
pub record JobCanBeRead (shelves : Shelves) (name bytes : List ℕ) : Type 0 where
  pub file : CanBeFetched shelves name bytes
  pub job : Job
  pub accepted : IsJobOfFile bytes job
