-- The load line of a report, and what stands under it.
use Rattle.std.specs.Prelude.{ℕ, ◌≡◌, if◌then◌else◌, List, ◌∷◌}
use Rattle.outward_interval.specs.declared.figure.Figure.{Figure}
use Rattle.job_reader.specs.declared.job.Job.{Job}
use Rattle.loading_sheet.specs.Centre.{x_g, y_g, z_g}
use Rattle.loading_sheet.specs.Loads.{IsLoadingOf}
use Rattle.loading_sheet.specs.declared.loading.Loading.{Loading}
use Rattle.hull_report.specs.declared.line.Line.{Line}
use Rattle.hull_report.specs.declared.line.Line.TheVariants as line
use Rattle.hull_cli.specs.Figures.{IsLeast, Shows}
use Rattle.hull_cli.specs.Sides.{tells_sides}

-- the mass and its centre: along the ship, beside the centreplane where the report tells the sides apart, and above the base
abbrev pub load_line : ℕ → ℕ → (x y z : Figure) → Line
load_line version mass x y z = if tells_sides version then line.Load2 mass x y z else line.Load mass x z

pub record IsLoadLine (version : ℕ) (loading : Loading) (l : Line) : Type 0 where
  pub x : Figure
  pub along : Shows 3 6 (IsLeast (x_g loading)) x
  pub y : Figure
  pub beside : Shows 3 6 (IsLeast (y_g loading)) y
  pub z : Figure
  pub above : Shows 3 6 (IsLeast (z_g loading)) z
  pub fields : l ≡ load_line version loading.mass x y z

-- the line of a load, and then these
pub record IsLoadFirst (version : ℕ) (loading : Loading) (under lines : List Line) : Type 0 where
  pub load : Line
  pub is : IsLoadLine version loading load
  pub whole : lines ≡ load ∷ under

-- the line of the load that a job's items make, and under it lines that are so related to the load
pub record UnderLoad (job : Job) (Under : Loading → List Line → Type 0) (lines : List Line) : Type 0 where
  pub loading : Loading
  pub loaded : IsLoadingOf job.items loading
  pub under : List Line
  pub related : Under loading under
  pub first : IsLoadFirst job.version loading under lines
