-- The lines of floodable lengths, and what stands behind them.
use Rattle.std.specs.Prelude.{ℕ, ℤ, pos, ◌≡◌, ⊤, List, [], ◌∷◌, Option, Some, None}
use Rattle.hull_model.specs.declared.station.Station.{Station}
use Rattle.hull_polyhedron.specs.declared.faces.Faces.{Faces}
use Rattle.hull_polyhedron.specs.FacesOf.{AreFacesOf}
use Rattle.damage_box.specs.declared.draft_box.DraftBox.{DraftBox}
use Rattle.floodable_length.specs.Reach.{IsReach}
use Rattle.floodable_length.specs.LoadedShip.{LoadedShip}
use Rattle.floodable_length.specs.declared.reach.Reach.{Reach}
use Rattle.floodable_length.specs.declared.reach.Reason.{Reason}
use Rattle.floodable_length.specs.declared.reach.Reason.TheVariants as reason
use Rattle.job_reader.specs.declared.job.FloodPlan.{FloodPlan}
use Rattle.job_reader.specs.declared.job.Job.{Job}
use Rattle.loading_sheet.specs.declared.loading.Loading.{Loading}
use Rattle.hull_report.specs.declared.line.Line.{Line}
use Rattle.hull_report.specs.declared.line.Line.TheVariants as line
use Rattle.hull_report.specs.declared.line.ReasonLine.{ReasonLine}
use Rattle.hull_report.specs.declared.line.ReasonLine.TheVariants as reason_line
use Rattle.hull_report.specs.declared.line.SafeBox.{SafeBox}
use Rattle.hull_cli.specs.Damages.{sides_of}
use Rattle.hull_cli.specs.Lists.{Joined}

-- a safe length in mm with the levels of its box, or that no length is safe
abbrev pub IsSafeBox : Option (ℤ × DraftBox) → Option SafeBox → Type 0
IsSafeBox None None = ⊤
IsSafeBox (Some safe) (Some box) = (pos box.length ≡ safe.0) × (box.sides ≡ sides_of safe.1)
IsSafeBox _ _ = ⊥

-- why a length isn't safe, in words
abbrev pub IsReasonLine : Reason → ReasonLine → Type 0
IsReasonLine reason.EndOfShip reason_line.EndOfShip = ⊤
IsReasonLine reason.Sinks reason_line.Sinks = ⊤
IsReasonLine reason.NoStart reason_line.NoStart = ⊤
IsReasonLine (reason.Over station at) (reason_line.Over number sides) = (number ≡ station) × (sides ≡ sides_of at)
IsReasonLine (reason.Touch station at) (reason_line.Touch number sides) = (number ≡ station) × (sides ≡ sides_of at)
IsReasonLine _ _ = ⊥

-- the line of the length that is safe at a centre
pub record IsSafeLine (centre : ℤ) (reach : Reach) (l : Line) : Type 0 where
  pub at : ℕ
  pub same : pos at ≡ centre
  pub safe : Option SafeBox
  pub box : IsSafeBox reach.safe safe
  pub fields : l ≡ line.Safe at safe

-- and of the next, which isn't
pub record IsNextLine (centre : ℤ) (reach : Reach) (l : Line) : Type 0 where
  pub at : ℕ
  pub same : pos at ≡ centre
  pub length : ℕ
  pub long : pos length ≡ reach.next.0
  pub why : ReasonLine
  pub words : IsReasonLine reach.next.1 why
  pub fields : l ≡ line.Next at length why

-- the lines of a centre: how far the ship may flood there
pub record AreLinesOfCentre (ship : LoadedShip) (plan : FloodPlan) (centre : ℤ) (lines : List Line) : Type 0 where
  pub reach : Reach
  pub right : IsReach ship centre plan.permeability plan.step reach
  pub safe : Line
  pub safe_line : IsSafeLine centre reach safe
  pub next : Line
  pub next_line : IsNextLine centre reach next
  pub whole : lines ≡ safe ∷ next ∷ []

-- of all centres of a plan; none where the job has no plan
abbrev pub AreLinesOfPlan : LoadedShip → Option FloodPlan → List Line → Type 0
AreLinesOfPlan ship None lines = lines ≡ []
AreLinesOfPlan ship (Some plan) lines = Joined (AreLinesOfCentre ship plan) plan.centres lines

-- the lines of the centres under a loading
pub record AreFloodableLines (hull : List Station) (job : Job) (loading : Loading) (lines : List Line) : Type 0 where
  pub faces : Faces
  pub boundary : AreFacesOf hull faces
  pub centres : AreLinesOfPlan (record { stations = hull; faces = faces; loading = loading; water = job.water; margin = job.margin }) job.floodable lines
