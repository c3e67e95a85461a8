-- What the words ask for is given where nothing that is due, and no fault, stands against it.
use Rattle.std.proofs.Common.{◌≡◌, subst, ℕ, ◌≤◌, ◌<◌, List, Some, length, inl, inr, arith}
use Rattle.offset_reader.specs.Offsets.{hull_of}
use Rattle.hull_report.specs.declared.names.Command.{Command}
use Rattle.hull_report.specs.declared.line.Line.{Line}
use Rattle.hull_report.specs.Spelling.{lines_text}
use Rattle.report_run.specs.declared.status.Status.{Status}
use Rattle.report_run.specs.declared.status.Status.TheVariants.{Done, Fails, Undecided, Refused, ReadFault, WriteFault, NoMemory}
use Rattle.report_run.specs.declared.stop.File.{File}
use Rattle.report_run.specs.declared.stop.File.TheVariants as file
use Rattle.report_run.specs.declared.stop.Refusal.{Refusal}
use Rattle.report_run.specs.declared.stop.Refusal.TheVariants as refusal
use Rattle.report_run.specs.Files.{CanBeRead}
use Rattle.report_run.specs.Shelves.{Shelves}
use Rattle.report_run.proofs.Accepted.{two_answers, same_value, same_bytes, same_job, job_not_due, offsets_not_due}
use Rattle.hull_cli.specs.Answers.{CanBeGiven, Decides, Due, DueTo, DueToCommand, DueToStation, DueToTables, Reports, ReportsWith, TablesCanBeGiven, UnreadBy}
use Rattle.hull_cli.specs.Verdicts.{MayReport, status_of}
use Rattle.hull_cli.specs.Words.{Form, section, tables, make, form_of}

-- a report is written with the status that its lines have
pub decided : (shelves : Shelves) (words : List (List ℕ)) (lines : List Line) (text : List ℕ) (status : Status) → Reports shelves words lines → status ≡ status_of lines → MayReport status → text ≡ lines_text lines → Decides shelves words status text
decided shelves words lines text Done reports is may same = (lines, reports, is, same)
decided shelves words lines text Fails reports is may same = (lines, reports, is, same)
decided shelves words lines text Undecided reports is may same = (lines, reports, is, same)
decided shelves words lines text Refused reports is may same = absurd may
decided shelves words lines text ReadFault reports is may same = absurd may
decided shelves words lines text WriteFault reports is may same = absurd may
decided shelves words lines text NoMemory reports is may same = absurd may

tables_not_due : (shelves : Shelves) (command : Command) (name offsets : List ℕ) (cause : Refusal) → TablesCanBeGiven shelves command name offsets → DueToTables shelves command name offsets cause → ⊥
tables_not_due shelves command name offsets cause can (inl job) = job_not_due shelves name can.job_bytes cause can.job job
tables_not_due shelves command name offsets cause can (inr (inl hull)) = offsets_not_due shelves offsets can.bytes cause can.read hull.2
tables_not_due shelves command name offsets cause can (inr (inr found)) =
    can.accepted found.0 (same_job shelves name can.job_bytes found.0 can.job.file found.2.job_read) cause
    (subst (λ (b : List ℕ). DueToCommand command found.0 (hull_of b) cause) (same_bytes can.read.file found.1 found.2.read.0) found.3)

station_not_due : (shelves : Shelves) (offsets bytes : List ℕ) (station : ℕ) (cause : Refusal) → CanBeRead shelves offsets bytes → station < length (hull_of bytes) → DueToStation shelves offsets station cause → ⊥
station_not_due shelves offsets bytes station (refusal.Station named) can there due = omega (arith, there, past)
  where
    past : length (hull_of bytes) ≤ station
    past = subst (λ (b : List ℕ). length (hull_of b) ≤ station) (same_bytes can.file due.0 due.1.0) due.2
station_not_due shelves offsets bytes station _ can there due = due

none_due : (shelves : Shelves) (form : Form) (cause : Refusal) → CanBeGiven shelves form → DueTo shelves form cause → ⊥
none_due shelves (section offsets station draft) cause can (inl due) = offsets_not_due shelves offsets can.0 cause can.1 due
none_due shelves (section offsets station draft) cause can (inr due) = station_not_due shelves offsets can.0 station cause can.1 can.2 due
none_due shelves (tables command name offsets) cause can due = tables_not_due shelves command name offsets cause can due
none_due shelves (make seed) cause can due = due

none_unread : (shelves : Shelves) (form : Form) (kind : File) → CanBeGiven shelves form → UnreadBy shelves form kind → ⊥
none_unread shelves (section offsets station draft) file.Job can unread = unread
none_unread shelves (section offsets station draft) file.Offsets can unread = can.1.file.fetched unread
none_unread shelves (tables command name offsets) file.Job can unread = can.job.file.fetched unread
none_unread shelves (tables command name offsets) file.Offsets can unread = can.read.file.fetched unread.2
none_unread shelves (make seed) kind can unread = unread

-- for these words nothing is due
nothing_due : (shelves : Shelves) (words : List (List ℕ)) (form : Form) (cause : Refusal) → form_of words ≡ Some form → CanBeGiven shelves form → Due shelves words cause → ⊥
nothing_due shelves words form refusal.Usage is can due = two_answers due is
nothing_due shelves words form cause is can due = none_due shelves form cause can (rw (same_value due.1 is) at due.2)

-- what is decided is a report
pub reported : (shelves : Shelves) (words : List (List ℕ)) (form : Form) (status : Status) (text : List ℕ) → form_of words ≡ Some form → CanBeGiven shelves form → Decides shelves words status text → ReportsWith shelves words status
reported shelves words form Done text is can decides = (decides.0, decides.1, decides.2)
reported shelves words form Fails text is can decides = (decides.0, decides.1, decides.2)
reported shelves words form Undecided text is can decides = (decides.0, decides.1, decides.2)
reported shelves words form Refused text is can decides = absurd (nothing_due shelves words form decides.0 is can decides.1)
reported shelves words form ReadFault text is can decides =
    absurd (none_unread shelves form decides.0 can (rw (same_value decides.1.1 is) at decides.1.2))
reported shelves words form WriteFault text is can decides = absurd decides
reported shelves words form NoMemory text is can decides = absurd decides
