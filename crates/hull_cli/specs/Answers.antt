-- What a run decides by the words and the files.
use Rattle.std.specs.Prelude.{ℕ, ◌≡◌, ◌≤◌, ◌<◌, ◌⊎◌, ⊤, List, Some, None, length}
use Rattle.job_reader.specs.declared.job.Item.{Item}
use Rattle.job_reader.specs.declared.job.Job.{Job}
use Rattle.loading_sheet.specs.Centre.{displaced}
use Rattle.loading_sheet.specs.Loads.{IsLoadingOf, IsFaultOf as IsLoadFaultOf}
use Rattle.loading_sheet.specs.declared.loading.Loading.{Loading}
use Rattle.job_reader.specs.Job.{IsJobOfFile}
use Rattle.offset_reader.specs.Offsets.{hull_of}
use Rattle.draft_bracket.specs.DraftBracket.{IsTooHeavy, six_of}
use Rattle.hull_model.specs.declared.station.Station.{Station}
use Rattle.hull_model.specs.declared.water.Water.{Water}
use Rattle.hull_report.specs.Spelling.{lines_text}
use Rattle.hull_report.specs.declared.names.Command.{Command}
use Rattle.hull_report.specs.declared.names.Command.TheVariants as command
use Rattle.hull_report.specs.declared.line.Line.{Line}
use Rattle.report_run.specs.declared.status.Status.{Status}
use Rattle.report_run.specs.declared.status.Status.TheVariants.{Refused, ReadFault, WriteFault, NoMemory}
use Rattle.report_run.specs.declared.stop.File.{File}
use Rattle.report_run.specs.declared.stop.File.TheVariants as file
use Rattle.report_run.specs.declared.stop.Refusal.{Refusal}
use Rattle.report_run.specs.declared.stop.Refusal.TheVariants as refusal
use Rattle.report_run.specs.Files.{BothRead, CanBeRead, JobCanBeRead, JobRead, Read}
use Rattle.report_run.specs.Refusals.{refusal_text, unread_text}
use Rattle.report_run.specs.Shelves.{Shelves, Unread}
use Rattle.report_run.specs.Stops.{DueToJob, DueToOffsets}
use Rattle.hull_cli.specs.Curves.{IsFirstTooHeavy}
use Rattle.hull_cli.specs.Report.{IsMadeReport, IsSectionReport, IsTablesReport}
use Rattle.hull_cli.specs.Verdicts.{status_of}
use Rattle.hull_cli.specs.Words.{Form, section, tables, make, form_of}

-- this refusal is due to the station's number
abbrev pub DueToStation : Shelves → List ℕ → ℕ → Refusal → Type 0
DueToStation shelves offsets station (refusal.Station named) = (bytes : List ℕ) × Read shelves offsets bytes × (length (hull_of bytes) ≤ station) × (named ≡ station)
DueToStation shelves offsets station _ = ⊥

-- this refusal is due to the first of these displacements that is too heavy for the hull
abbrev pub DueToMasses : List Station → Water → List ℕ → Refusal → Type 0
DueToMasses hull water masses (refusal.Heavy mass six) = IsFirstTooHeavy hull water masses mass × (six ≡ six_of hull)
DueToMasses hull water masses _ = ⊥

-- this refusal is due to the items, which make no loading
abbrev pub DueToLoad : List Item → Refusal → Type 0
DueToLoad items (refusal.Load fault) = IsLoadFaultOf items fault
DueToLoad items _ = ⊥

-- this refusal is due to the items, which make no loading, or to their loading, which is too heavy for the hull
abbrev pub DueToItems : List Station → Water → List Item → Refusal → Type 0
DueToItems hull water items (refusal.Load fault) = IsLoadFaultOf items fault
DueToItems hull water items (refusal.Heavy mass six) = (loading : Loading) × IsLoadingOf items loading × (mass ≡ loading.mass) × IsTooHeavy hull (displaced loading water) × (six ≡ six_of hull)
DueToItems hull water items _ = ⊥

-- the items make a loading that isn't too heavy for the hull
abbrev pub CanBeLoaded : List Station → Water → List Item → Type 0
CanBeLoaded hull water items = (loading : Loading) × IsLoadingOf items loading × ¬ (IsTooHeavy hull (displaced loading water))

-- this refusal is due to the items, or, where the hull can be loaded with them, to the displacements
abbrev pub DueToLoadOrMasses : List Station → Job → Refusal → Type 0
DueToLoadOrMasses hull job cause =
    DueToItems hull job.water job.items cause ⊎ (CanBeLoaded hull job.water job.items × DueToMasses hull job.water job.masses cause)

-- this refusal is due to what the command finds in the job and the hull
abbrev pub DueToCommand : Command → Job → List Station → Refusal → Type 0
DueToCommand command.Cross job hull cause = DueToMasses hull job.water job.masses cause
DueToCommand command.Stability job hull cause = DueToItems hull job.water job.items cause
DueToCommand command.Damage job hull cause = DueToLoad job.items cause
DueToCommand command.Floodable job hull cause = DueToLoad job.items cause
DueToCommand command.All job hull cause = DueToLoadOrMasses hull job cause
DueToCommand _ job hull cause = ⊥

-- this refusal is due to what a command with these files asks for; the offset file counts only where the job was read,
-- what the command finds in them only where both were
abbrev pub DueToTables : Shelves → Command → List ℕ → List ℕ → Refusal → Type 0
DueToTables shelves command name offsets cause =
    DueToJob shelves name cause
    ⊎ (((job : Job) × JobRead shelves name job × DueToOffsets shelves offsets cause)
    ⊎ ((job : Job) × (bytes : List ℕ) × BothRead shelves name offsets job bytes × DueToCommand command job (hull_of bytes) cause))

-- this refusal is due to what the words ask for
abbrev pub DueTo : Shelves → Form → Refusal → Type 0
DueTo shelves (section offsets station draft) cause = DueToOffsets shelves offsets cause ⊎ DueToStation shelves offsets station cause
DueTo shelves (tables command job offsets) cause = DueToTables shelves command job offsets cause
DueTo shelves (make seed) cause = ⊥

-- this file of those that the words ask for could not be read
abbrev pub UnreadBy : Shelves → Form → File → Type 0
UnreadBy shelves (section offsets station draft) file.Job = ⊥
UnreadBy shelves (section offsets station draft) file.Offsets = Unread shelves offsets
UnreadBy shelves (tables command job offsets) file.Job = Unread shelves job
UnreadBy shelves (tables command job offsets) file.Offsets = (j : Job) × JobRead shelves job j × Unread shelves offsets
UnreadBy shelves (make seed) file = ⊥

-- the files of these names were read, and these lines are a right report of the command on them
pub record ReportsTables (shelves : Shelves) (command : Command) (name offsets : List ℕ) (lines : List Line) : Type 0 where
  pub job : Job
  pub bytes : List ℕ
  pub read : BothRead shelves name offsets job bytes
  pub report : IsTablesReport command (hull_of bytes) job lines

-- these lines are a right report on what the words ask for
abbrev pub ReportsOn : Shelves → Form → List Line → Type 0
ReportsOn shelves (section offsets station draft) lines = (bytes : List ℕ) × Read shelves offsets bytes × IsSectionReport (hull_of bytes) station draft lines
ReportsOn shelves (tables command job offsets) lines = ReportsTables shelves command job offsets lines
ReportsOn shelves (make seed) lines = IsMadeReport seed lines

-- this refusal is due
abbrev pub Due : Shelves → List (List ℕ) → Refusal → Type 0
Due shelves words refusal.Usage = form_of words ≡ None
Due shelves words cause = (form : Form) × (form_of words ≡ Some form) × DueTo shelves form cause

-- these lines are a right report for the words
abbrev pub Reports : Shelves → List (List ℕ) → List Line → Type 0
Reports shelves words lines = (form : Form) × (form_of words ≡ Some form) × ReportsOn shelves form lines

-- a right report for the words has this status
abbrev pub ReportsWith : Shelves → List (List ℕ) → Status → Type 0
ReportsWith shelves words status = (lines : List Line) × Reports shelves words lines × (status ≡ status_of lines)

-- this file of those that the words name could not be read
abbrev pub LeftUnread : Shelves → List (List ℕ) → File → Type 0
LeftUnread shelves words file = (form : Form) × (form_of words ≡ Some form) × UnreadBy shelves form file

-- this text is to be written, with this status: of a report, with its own
abbrev pub Decides : Shelves → List (List ℕ) → Status → List ℕ → Type 0
Decides shelves words Refused text = (cause : Refusal) × Due shelves words cause × (text ≡ refusal_text cause)
Decides shelves words ReadFault text = (file : File) × LeftUnread shelves words file × (text ≡ unread_text file)
Decides shelves words WriteFault text = ⊥
Decides shelves words NoMemory text = ⊥
Decides shelves words status text = (lines : List Line) × Reports shelves words lines × (status ≡ status_of lines) × (text ≡ lines_text lines)

-- the files of these names can be read, and the command refuses nothing that it finds in them
pub record TablesCanBeGiven (shelves : Shelves) (command : Command) (name offsets : List ℕ) : Type 0 where
  pub job_bytes : List ℕ
  pub job : JobCanBeRead shelves name job_bytes
  pub bytes : List ℕ
  pub read : CanBeRead shelves offsets bytes
  pub accepted : (job : Job) → IsJobOfFile job_bytes job → (cause : Refusal) → ¬ (DueToCommand command job (hull_of bytes) cause)

-- what the words ask for can be given: the files that they name can be read, the hull has the station, and the command
-- refuses nothing; a made ship always can
abbrev pub CanBeGiven : Shelves → Form → Type 0
CanBeGiven shelves (section offsets station draft) = (bytes : List ℕ) × CanBeRead shelves offsets bytes × (station < length (hull_of bytes))
CanBeGiven shelves (tables command job offsets) = TablesCanBeGiven shelves command job offsets
CanBeGiven shelves (make seed) = ⊤
