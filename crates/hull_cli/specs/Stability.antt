-- The stability lines of a report, and what stands behind them.
use Rattle.std.specs.Prelude.{ℕ, ◌+◌, ◌≡◌, ◌≤◌, ⊤, if◌then◌else◌, List, [], ◌∷◌, ◌++◌, length, slice_get, Option, Some}
use Rattle.outward_interval.specs.declared.figure.Figure.{Figure}
use Rattle.hull_model.specs.declared.station.Station.{Station}
use Rattle.hull_polyhedron.specs.declared.faces.Faces.{Faces}
use Rattle.hull_polyhedron.specs.FacesOf.{AreFacesOf}
use Rattle.draft_bracket.specs.declared.drafts.Drafts.{Drafts}
use Rattle.loading_sheet.specs.Centre.{displaced}
use Rattle.loading_sheet.specs.Loads.{IsLoadingOf}
use Rattle.loading_sheet.specs.declared.loading.Loading.{Loading}
use Rattle.dynamic_lever.specs.declared.rows.Arm.{Arm}
use Rattle.dynamic_lever.specs.declared.rows.ArmTable.{ArmTable}
use Rattle.dynamic_lever.specs.declared.rows.UprightRow.{UprightRow}
use Rattle.intact_criteria.specs.Areas.{area_at, ContainAreas}
use Rattle.intact_criteria.specs.Brackets.{ByBrackets}
use Rattle.intact_criteria.specs.Marks.{AreFindings}
use Rattle.intact_criteria.specs.Open.{IsOpenIfUndecided}
use Rattle.intact_criteria.specs.Readings.{gz_at, readings_of}
use Rattle.intact_criteria.specs.Right.{AreRightMarks, AtEveryChoice, IsRightVerdict}
use Rattle.intact_criteria.specs.Stated.{IsAsNarrowAsStated}
use Rattle.intact_criteria.specs.Tables.{AreRowsOf}
use Rattle.intact_criteria.specs.declared.finding.Findings.{Findings}
use Rattle.intact_criteria.specs.declared.finding.Mark.{Mark}
use Rattle.intact_criteria.specs.declared.finding.Mark.TheVariants as mark
use Rattle.intact_criteria.specs.declared.finding.Shown.{Shown}
use Rattle.intact_criteria.specs.declared.finding.Shown.TheVariants as shown
use Rattle.intact_criteria.specs.declared.finding.Side.{Side}
use Rattle.intact_criteria.specs.declared.finding.Side.TheVariants.{Port, Starboard}
use Rattle.intact_criteria.specs.declared.finding.Verdict.{Verdict}
use Rattle.intact_criteria.specs.declared.finding.Verdict.TheVariants as verdict
use Rattle.job_reader.specs.declared.job.Job.{Job}
use Rattle.hull_report.specs.declared.line.Call.{Call}
use Rattle.hull_report.specs.declared.line.Call.TheVariants as call
use Rattle.hull_report.specs.declared.names.Finding.{Finding}
use Rattle.hull_report.specs.declared.names.Finding.TheVariants as finding
use Rattle.hull_report.specs.declared.line.Line.{Line}
use Rattle.hull_report.specs.declared.line.Line.TheVariants as line
use Rattle.hull_report.specs.declared.names.SideLine.{SideLine}
use Rattle.hull_report.specs.declared.line.ShownLine.{ShownLine}
use Rattle.hull_report.specs.declared.line.ShownLine.TheVariants as shown_line
use Rattle.hull_cli.specs.Figures.{AreInMetres, IsInMetres}
use Rattle.hull_cli.specs.Floats.{FloatsBetween}
use Rattle.hull_cli.specs.declared.levers.Lever.{Lever}
use Rattle.hull_cli.specs.Lists.{NumberedFrom}
use Rattle.hull_cli.specs.Sides.{named_side, tells_sides}

-- ---- what is judged
-- the levers of a hull with the loading of a job's items, and what the rules find in them: areas that contain the exact ones, marks and
-- a verdict that are right, at every choice of waterplanes between the drafts of the rows
pub record IsJudged (hull : List Station) (job : Job) (loading : Loading) (arms : ArmTable) (upright : UprightRow) (findings : Findings) : Type 0 where
  pub loaded : IsLoadingOf job.items loading
  pub faces : Faces
  pub boundary : AreFacesOf hull faces
  pub rows : AreRowsOf faces loading job.water arms upright
  pub floats : (k : ℕ) (arm : Arm) → slice_get arms.rows k ≡ Some arm → FloatsBetween hull (displaced loading job.water) k arm.drafts.d1 arm.drafts.d2
  pub floats_upright : FloatsBetween hull (displaced loading job.water) 0 upright.drafts.d1 upright.drafts.d2
  pub areas : AtEveryChoice hull loading job.water arms upright job.openings (ContainAreas arms)
  pub rules : ByBrackets (λ brackets. AreFindings (readings_of brackets arms upright job.openings) findings)
  pub marks : AreRightMarks hull loading job.water arms upright job.openings findings.marks
  pub verdict : IsRightVerdict hull loading job.water arms upright job.openings findings.verdict
  pub undecided : ByBrackets (λ brackets. IsOpenIfUndecided (readings_of brackets arms upright job.openings) findings.verdict)
  pub narrow : IsAsNarrowAsStated faces loading job.water arms upright job.openings findings.verdict

-- ---- lines
pub record IsUprightLine (row : UprightRow) (l : Line) : Type 0 where
  pub kb : Figure
  pub printed_kb : IsInMetres row.kb kb
  pub bm : Figure
  pub printed_bm : IsInMetres row.bm bm
  pub gm : Figure
  pub printed_gm : IsInMetres row.gm gm
  pub fields : l ≡ line.Upright row.drafts.d1 row.drafts.d2 kb bm gm

-- of k degrees: the lever to a side, and the area under the levers to this side from upright
pub record IsLever (arms : ArmTable) (side : Side) (k : ℕ) (lever : Lever) : Type 0 where
  pub gz : AreInMetres (gz_at arms side k) lever.gz
  pub area : AreInMetres (area_at arms side k) lever.area

-- to both sides, port first, where the report tells the sides apart, else to port
abbrev pub arm_line : ℕ → ℕ → Drafts → (port starboard : Lever) → Line
arm_line version k drafts port starboard =
    if tells_sides version then line.Arm2 k drafts.d1 drafts.d2 port.gz port.area starboard.gz starboard.area
    else line.Arm k drafts.d1 drafts.d2 port.gz port.area

pub record IsArmLine (version : ℕ) (arms : ArmTable) (k : ℕ) (l : Line) : Type 0 where
  pub arm : Arm
  pub there : slice_get arms.rows k ≡ Some arm
  pub port : Lever
  pub to_port : IsLever arms Port k port
  pub starboard : Lever
  pub to_starboard : IsLever arms Starboard k starboard
  pub fields : l ≡ arm_line version k arm.drafts port starboard

-- one for each degree from 0 to 90
pub record AreArmLines (version : ℕ) (arms : ArmTable) (lines : List Line) : Type 0 where
  pub count : length lines ≡ 91
  pub each : NumberedFrom (IsArmLine version arms) 0 lines

-- the word of a mark
abbrev pub finding_of : Mark → Finding
finding_of mark.Holds = finding.Holds
finding_of mark.Fails = finding.Fails
finding_of mark.Unsure = finding.Unsure

-- the mark in this place
pub record IsMarkLine (marks : List Mark) (place : ℕ) (l : Line) : Type 0 where
  pub mark : Mark
  pub there : slice_get marks place ≡ Some mark
  pub fields : l ≡ line.Mark (place + 1) (finding_of mark)

-- one for each of the six criteria
pub record AreMarkLines (marks : List Mark) (lines : List Line) : Type 0 where
  pub count : length lines ≡ 6
  pub each : NumberedFrom (IsMarkLine marks) 0 lines

-- what is shown, in words
abbrev pub IsShownLine : Shown → ShownLine → Type 0
IsShownLine (shown.Interval degree span) (shown_line.Interval k f) = (k ≡ degree) × IsInMetres span f
IsShownLine (shown.Pair low high) (shown_line.Pair i j) = (i ≡ low) × (j ≡ high)
IsShownLine (shown.Leak opening degree span) (shown_line.Leak number k f) = (number ≡ opening) × (k ≡ degree) × IsInMetres span f
IsShownLine _ _ = ⊥

-- the criterion that decides, on which side where the report tells the sides apart, and what is shown
pub record IsCauseOf (version criterion : ℕ) (side : Side) (shown : Shown) (n : ℕ) (word : Option SideLine) (words : ShownLine) : Type 0 where
  pub number : n ≡ criterion
  pub side_word : word ≡ named_side version side
  pub how : IsShownLine shown words

abbrev pub IsCallOf : ℕ → Verdict → Call → Type 0
IsCallOf version verdict.Pass call.Pass = ⊤
IsCallOf version (verdict.Fail criterion side shown) (call.Fail n word words) = IsCauseOf version criterion side shown n word words
IsCallOf version (verdict.Undecided criterion side shown) (call.Undecided n word words) = IsCauseOf version criterion side shown n word words
IsCallOf _ _ _ = ⊥

pub record IsVerdictLine (version : ℕ) (verdict : Verdict) (l : Line) : Type 0 where
  pub call : Call
  pub words : IsCallOf version verdict call
  pub fields : l ≡ line.Verdict call

-- the criterion that it names is one of the six
abbrev pub NamesCriterion : Verdict → Type 0
NamesCriterion verdict.Pass = ⊤
NamesCriterion (verdict.Fail n side shown) = (1 ≤ n) × (n ≤ 6)
NamesCriterion (verdict.Undecided n side shown) = (1 ≤ n) × (n ≤ 6)

-- what is found in levers: the ship upright, these lines, the six marks and the verdict
pub record AreFindingLines (hull : List Station) (job : Job) (loading : Loading) (arms : ArmTable) (levers lines : List Line) : Type 0 where
  pub upright : UprightRow
  pub findings : Findings
  pub judged : IsJudged hull job loading arms upright findings
  pub row : Line
  pub upright_line : IsUprightLine upright row
  pub marks : List Line
  pub mark_lines : AreMarkLines findings.marks marks
  pub last : Line
  pub verdict_line : IsVerdictLine job.version findings.verdict last
  pub whole : lines ≡ row ∷ levers ++ (marks ++ last ∷ [])

-- the ship upright, the levers, the six marks and the verdict
pub record AreStabilityLines (hull : List Station) (job : Job) (loading : Loading) (lines : List Line) : Type 0 where
  pub arms : ArmTable
  pub levers : List Line
  pub arm_lines : AreArmLines job.version arms levers
  pub found : AreFindingLines hull job loading arms levers lines
