-- A model of the private functions that may end in a `Stop`: why there is no report.
use Rattle.std.specs.Prelude.{ℕ, ◌≡◌, ◌≤◌, ⊤, List, length}
use Rattle.draft_bracket.specs.DraftBracket.{IsTooHeavy, six_of}
use Rattle.hull_model.specs.declared.station.Station as model
use Rattle.hull_model.specs.declared.water.Water.{Water}
use Rattle.job_reader.specs.declared.job.Item.{Item}
use Rattle.job_reader.specs.declared.job.Job.{Job}
use Rattle.loading_sheet.specs.Centre.{displaced_by}
use Rattle.hull_report.specs.declared.names.Command.{Command}
use Rattle.report_run.specs.declared.stop.Refusal.TheVariants.{Heavy, Station}
use Rattle.report_run.specs.declared.stop.Stop.{Stop}
use Rattle.report_run.specs.declared.stop.Stop.TheVariants as stop
use Rattle.report_run.specs.Shelves.{Shelves}
use Rattle.hull_cli.specs.Answers.{Due, DueTo, DueToCommand, DueToItems, DueToLoad, DueToMasses, LeftUnread, UnreadBy}
use Rattle.hull_cli.specs.Words.{Form}

-- Want of memory may come at any time.

-- why there is no report on what the words ask for
abbrev pub StopsOn : Shelves → Form → Stop → Type 0
StopsOn shelves form (stop.Refused cause) = DueTo shelves form cause
StopsOn shelves form (stop.Unread file) = UnreadBy shelves form file
StopsOn shelves form stop.NoMemory = ⊤

-- why there is no report for these words
abbrev pub Stops : Shelves → List (List ℕ) → Stop → Type 0
Stops shelves words (stop.Refused cause) = Due shelves words cause
Stops shelves words (stop.Unread file) = LeftUnread shelves words file
Stops shelves words stop.NoMemory = ⊤

-- why there is no report on a station of this hull
abbrev pub StopsSection : List model.Station → ℕ → Stop → Type 0
StopsSection hull station (stop.Refused (Station named)) = (named ≡ station) × (length hull ≤ station)
StopsSection hull station (stop.Refused _) = ⊥
StopsSection hull station (stop.Unread _) = ⊥
StopsSection hull station stop.NoMemory = ⊤

-- why there is no cross curve of a hull at this displacement
abbrev pub StopsCurve : List model.Station → Water → ℕ → Stop → Type 0
StopsCurve hull water mass (stop.Refused (Heavy named six)) = ((named ≡ mass) × IsTooHeavy hull (displaced_by mass water)) × (six ≡ six_of hull)
StopsCurve hull water mass (stop.Refused _) = ⊥
StopsCurve hull water mass (stop.Unread _) = ⊥
StopsCurve hull water mass stop.NoMemory = ⊤

-- why there are none at these displacements
abbrev pub StopsCurves : List model.Station → Water → List ℕ → Stop → Type 0
StopsCurves hull water masses (stop.Refused cause) = DueToMasses hull water masses cause
StopsCurves hull water masses (stop.Unread _) = ⊥
StopsCurves hull water masses stop.NoMemory = ⊤

-- why these items make no loading
abbrev pub StopsLoad : List Item → Stop → Type 0
StopsLoad items (stop.Refused cause) = DueToLoad items cause
StopsLoad items (stop.Unread _) = ⊥
StopsLoad items stop.NoMemory = ⊤

-- why nothing is said of the stability of a hull with these items
abbrev pub StopsStability : List model.Station → Water → List Item → Stop → Type 0
StopsStability hull water items (stop.Refused cause) = DueToItems hull water items cause
StopsStability hull water items (stop.Unread _) = ⊥
StopsStability hull water items stop.NoMemory = ⊤

-- why there is no report of this command on a job and a hull
abbrev pub StopsTables : Command → Job → List model.Station → Stop → Type 0
StopsTables command job hull (stop.Refused cause) = DueToCommand command job hull cause
StopsTables command job hull (stop.Unread _) = ⊥
StopsTables command job hull stop.NoMemory = ⊤
