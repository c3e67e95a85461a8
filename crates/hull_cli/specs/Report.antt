-- The report that each command is to write.
use Rattle.std.specs.Prelude.{ℕ, ◌+◌, ◌≡◌, List, [], ◌∷◌, ◌++◌, length, sum_by}
use Rattle.draft_bracket.specs.DraftBracket.{six_of}
use Rattle.hull_model.specs.declared.station.Station.{Station}
use Rattle.job_reader.specs.declared.job.Job.{Job}
use Rattle.hull_maker.specs.MadeHull.{stations_of}
use Rattle.hull_maker.specs.MadeJob.{IsMadeJob}
use Rattle.hull_report.specs.declared.names.Command.{Command}
use Rattle.hull_report.specs.declared.names.Command.TheVariants as command
use Rattle.hull_report.specs.declared.line.Line.{Line}
use Rattle.hull_report.specs.declared.line.Line.TheVariants as line
use Rattle.hull_cli.specs.Sections.{IsSectionLine}
use Rattle.hull_cli.specs.Tables.{AreMadeLines, AreTableLines}

-- the number of points that a hull keeps
abbrev pub points_count : List Station → ℕ
points_count stations = sum_by (λ s. length s.points) stations

abbrev pub hull_line : List Station → Line
hull_line hull = line.Hull (length hull) (points_count hull)

-- the lines of the report on one station of a hull
pub record IsSectionReport (hull : List Station) (station draft : ℕ) (lines : List Line) : Type 0 where
  pub row : Line
  pub right : IsSectionLine hull draft station row
  pub whole : lines ≡ line.Header 1 command.Section ∷ hull_line hull ∷ row ∷ line.End 4 ∷ []

-- the lines of a report that has a job: the header with the job's version, the hull, the body, the rows of its tables, and the number of all lines
abbrev pub whole_report : ℕ → Command → List Station → List Line → List Line
whole_report version command hull rows = line.Header version command ∷ hull_line hull ∷ line.Body (six_of hull) ∷ rows ++ line.End (4 + length rows) ∷ []

-- the lines of the report of a command's tables
pub record IsTablesReport (command : Command) (hull : List Station) (job : Job) (lines : List Line) : Type 0 where
  pub rows : List Line
  pub right : AreTableLines command hull job rows
  pub whole : lines ≡ whole_report job.version command hull rows

-- the lines of the report on the made ship of a number
pub record IsMadeReport (seed : ℕ) (lines : List Line) : Type 0 where
  pub job : Job
  pub made : IsMadeJob job
  pub rows : List Line
  pub right : AreMadeLines (stations_of seed) job rows
  pub whole : lines ≡ whole_report 1 command.Make (stations_of seed) rows
