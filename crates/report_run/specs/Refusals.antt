-- The lines that are written in place of a report.
use Rattle.std.specs.Prelude.{ℕ, List, ◌++◌, codes}
use Rattle.std.specs.Fmt.{signed_decimal}
use Rattle.report_run.specs.declared.stop.File.{File}
use Rattle.report_run.specs.declared.stop.File.TheVariants as file
use Rattle.report_run.specs.declared.stop.Refusal.{Refusal}
use Rattle.report_run.specs.declared.stop.Refusal.TheVariants.{Usage, Long, Job, Offsets, Station, Load, Heavy}
use Rattle.report_run.specs.Faults.{word_text, place_text, number_text, job_fault_text, load_fault_text, offset_fault_text}

abbrev pub file_word : File → List ℕ
file_word file.Job = codes "job"
file_word file.Offsets = codes "offsets"

-- what is said of a refusal
abbrev pub cause_text : Refusal → List ℕ
cause_text Usage = word_text (codes "usage")
cause_text (Long file) = word_text (codes "long") ++ word_text (file_word file)
cause_text (Job fault) = word_text (codes "job") ++ job_fault_text fault
cause_text (Offsets fault) = word_text (codes "offsets") ++ offset_fault_text fault
cause_text (Station station) = place_text (codes "station") station
cause_text (Load fault) = word_text (codes "load") ++ load_fault_text fault
cause_text (Heavy mass six) = (word_text (codes "heavy") ++ number_text mass) ++ word_text (signed_decimal six)

-- the line of a refusal
abbrev pub refusal_text : Refusal → List ℕ
refusal_text refusal = (codes "refused" ++ cause_text refusal) ++ codes "\n"

-- the line of a file that could not be read
abbrev pub unread_text : File → List ℕ
unread_text file = (codes "fault read" ++ word_text (file_word file)) ++ codes "\n"
