-- The lines of tables over a job's drafts and displacements.
use Rattle.std.specs.Prelude.{ℕ, ◌≡◌, ⊤, List, [], ◌∷◌, ◌++◌, Option, Some, None}
use Rattle.outward_interval.specs.Printed.{IsPrinted}
use Rattle.outward_interval.specs.declared.figure.Figure.{Figure}
use Rattle.outward_interval.specs.declared.span.Span.{Span}
use Rattle.hull_model.specs.declared.station.Station.{Station}
use Rattle.hull_model.specs.declared.water.Water.{Water}
use Rattle.hull_polyhedron.specs.declared.faces.Faces.{Faces}
use Rattle.hull_polyhedron.specs.FacesOf.{AreFacesOf}
use Rattle.hydro_tables.specs.declared.row.HydroRow.{HydroRow}
use Rattle.dynamic_lever.specs.declared.rows.ArmTable.{ArmTable}
use Rattle.hydro_tables.specs.Figures.{integrals_of}
use Rattle.hydro_tables.specs.Row.{HoldsFigures, IsAbsentExactly}
use Rattle.hydro_tables.specs.Widths.{AreNarrow, widths_of}
use Rattle.job_reader.specs.declared.job.Job.{Job}
use Rattle.loading_sheet.specs.declared.loading.Loading.{Loading}
use Rattle.hull_report.specs.declared.names.Command.{Command}
use Rattle.hull_report.specs.declared.names.Command.TheVariants as command
use Rattle.hull_report.specs.declared.line.Line.{Line}
use Rattle.hull_report.specs.declared.line.Line.TheVariants as line
use Rattle.hull_cli.specs.Curves.{AreCrossLines}
use Rattle.hull_cli.specs.Damages.{AreDamageLines}
use Rattle.hull_cli.specs.Lengths.{AreFloodableLines}
use Rattle.hull_cli.specs.Lists.{Joined, Pairwise}
use Rattle.hull_cli.specs.Loads.{UnderLoad}
use Rattle.hull_cli.specs.Sections.{AreSectionLines}
use Rattle.hull_cli.specs.Stability.{AreFindingLines, AreStabilityLines}

-- a span that may be absent, and by which power of ten its unit is smaller than that of its figure
pub record Column : Type 0 where
  pub shift : ℕ
  pub span : Option (Span 20)

-- the columns of a row, in the order of its line
abbrev pub columns_of : HydroRow → List Column
columns_of row =
    record { shift = 9; span = Some row.volume }
    ∷ record { shift = 0; span = Some row.displacement }
    ∷ record { shift = 3; span = row.lcb }
    ∷ record { shift = 3; span = row.kb }
    ∷ record { shift = 6; span = Some row.area }
    ∷ record { shift = 3; span = row.lcf }
    ∷ record { shift = 3; span = row.bmt }
    ∷ record { shift = 3; span = row.bml }
    ∷ record { shift = 3; span = row.kmt }
    ∷ record { shift = 0; span = Some row.tpc }
    ∷ record { shift = 0; span = row.mct }
    ∷ []

-- the figure is printed of the span, and is absent where the span is
abbrev pub IsFigureOf : ℕ → Option (Span 20) → Option Figure → Type 0
IsFigureOf shift None None = ⊤
IsFigureOf shift None (Some f) = ⊥
IsFigureOf shift (Some s) None = ⊥
IsFigureOf shift (Some s) (Some f) = IsPrinted 20 shift 6 s.lo s.hi f.lo f.hi

abbrev pub IsColumnFigure : Column → Option Figure → Type 0
IsColumnFigure column figure = IsFigureOf column.shift column.span figure

-- the line of a hull in water at a draft: the figures of a row whose spans hold the exact figures of the hull's tetrahedra and are no
-- wider than stated
pub record IsHydroLine (hull : List Station) (water : Water) (draft : ℕ) (l : Line) : Type 0 where
  pub row : HydroRow
  pub holds : HoldsFigures (integrals_of hull draft) water row
  pub faces : Faces
  pub boundary : AreFacesOf hull faces
  pub narrow : AreNarrow (widths_of faces draft) (integrals_of hull draft) water row
  pub absent : IsAbsentExactly row
  pub figures : List (Option Figure)
  pub printed : Pairwise IsColumnFigure (columns_of row) figures
  pub fields : l ≡ line.Hydro draft figures

-- one line for each draft
abbrev pub AreHydroLines : List Station → Water → List ℕ → List Line → Type 0
AreHydroLines hull water drafts lines = Pairwise (IsHydroLine hull water) drafts lines

-- for each draft one line for each station, draft after draft
abbrev pub AreBonjeanLines : List Station → List ℕ → List Line → Type 0
AreBonjeanLines hull drafts lines = Joined (AreSectionLines hull) drafts lines

-- the ship upright with its levers and the verdict, then how the damage cases end, then the floodable lengths
pub record AreShipLines (hull : List Station) (job : Job) (loading : Loading) (lines : List Line) : Type 0 where
  pub judged : List Line
  pub stability : AreStabilityLines hull job loading judged
  pub cases : List Line
  pub damage : AreDamageLines hull job loading cases
  pub lengths : List Line
  pub floodable : AreFloodableLines hull job loading lengths
  pub whole : lines ≡ judged ++ cases ++ lengths

-- every table that a job asks for, one after the other, the load line once
pub record AreAllLines (hull : List Station) (job : Job) (lines : List Line) : Type 0 where
  pub rows : List Line
  pub hydro : AreHydroLines hull job.water job.drafts rows
  pub sections : List Line
  pub bonjean : AreBonjeanLines hull job.drafts sections
  pub curves : List Line
  pub cross : AreCrossLines hull job.water job.masses curves
  pub ship : List Line
  pub loaded : UnderLoad job (AreShipLines hull job) ship
  pub whole : lines ≡ rows ++ sections ++ curves ++ ship

-- the ship upright, the marks and the verdict, without the levers behind them, then how the damage cases end
pub record AreTrialLines (hull : List Station) (job : Job) (loading : Loading) (lines : List Line) : Type 0 where
  pub arms : ArmTable
  pub judged : List Line
  pub found : AreFindingLines hull job loading arms [] judged
  pub cases : List Line
  pub damage : AreDamageLines hull job loading cases
  pub whole : lines ≡ judged ++ cases

-- the hydro lines, and the trial under the load
pub record AreMadeLines (hull : List Station) (job : Job) (lines : List Line) : Type 0 where
  pub rows : List Line
  pub hydro : AreHydroLines hull job.water job.drafts rows
  pub ship : List Line
  pub loaded : UnderLoad job (AreTrialLines hull job) ship
  pub whole : lines ≡ rows ++ ship

-- the lines of a command's tables
abbrev pub AreTableLines : Command → List Station → Job → List Line → Type 0
AreTableLines command.Hydro hull job lines = AreHydroLines hull job.water job.drafts lines
AreTableLines command.Bonjean hull job lines = AreBonjeanLines hull job.drafts lines
AreTableLines command.Cross hull job lines = AreCrossLines hull job.water job.masses lines
AreTableLines command.Stability hull job lines = UnderLoad job (AreStabilityLines hull job) lines
AreTableLines command.Damage hull job lines = UnderLoad job (AreDamageLines hull job) lines
AreTableLines command.Floodable hull job lines = UnderLoad job (AreFloodableLines hull job) lines
AreTableLines command.All hull job lines = AreAllLines hull job lines
AreTableLines _ hull job lines = ⊥
