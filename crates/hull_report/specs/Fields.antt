-- A model of the private functions of `fields`: how lines are read from their words. More texts are taken than the grammar has.
use Rattle.std.specs.Prelude.{ℕ, ℤ, Bool, true, false, List, [], ◌∷◌, Option, Some, None, if◌then◌else◌, codes}
use Rattle.std.specs.Str.{bytes_eq}
use Rattle.outward_interval.specs.declared.figure.Figure.{Figure}
use Rattle.hull_report.specs.declared.words.Lever.{Lever}
use Rattle.hull_report.specs.declared.line.Line.{Line}
use Rattle.hull_report.specs.declared.line.Line.TheVariants as line
use Rattle.hull_report.specs.Spelling.{may_be_absent}
use Rattle.hull_report.specs.Reading.{◌>>=◌, word_at, u32_at, u64_at, i64_at, i128_at, figure_at, lever_at, version_at, criterion_at, command_at, finding_at, absent_at}
use Rattle.hull_report.specs.Verdicts.{verdict_at}
use Rattle.hull_report.specs.Outcomes.{damage_at, safe_at, next_line_at}
use Rattle.hull_report.specs.Further.{further_at}

unfoldable pub header_at : List ℕ → Option Line
header_at bytes = do
  version ← version_at bytes
  command ← command_at version.1
  Some (line.Header version.0 command.0)

unfoldable pub hull_at : List ℕ → Option Line
hull_at bytes = do
  stations ← u32_at bytes
  points ← u32_at stations.1
  Some (line.Hull stations.0 points.0)

unfoldable pub body_at : List ℕ → Option Line
body_at bytes = do
  six ← i128_at bytes
  Some (line.Body six.0)

-- the figure of a place, which may be absent or not
abbrev pub place_at : Bool → List ℕ → Option (Option Figure × List ℕ)
place_at true bytes = absent_at bytes
place_at false bytes = figure_at bytes >>= λ f. Some (Some f.0, f.1)

-- as many figures as places
unfoldable pub figures_at : List Bool → List ℕ → Option (List (Option Figure) × List ℕ)
figures_at [] bytes = Some ([], bytes)
figures_at (may ∷ others) bytes = do
  f ← place_at may bytes
  figures ← figures_at others f.1
  Some (f.0 ∷ figures.0, figures.1)

unfoldable pub hydro_at : List ℕ → Option Line
hydro_at bytes = do
  draft ← u32_at bytes
  figures ← figures_at may_be_absent draft.1
  Some (line.Hydro draft.0 figures.0)

unfoldable pub section_at : List ℕ → Option Line
section_at bytes = do
  station ← u32_at bytes
  x ← u32_at station.1
  draft ← u32_at x.1
  area ← figure_at draft.1
  moment ← figure_at area.1
  Some (line.Section station.0 x.0 draft.0 area.0 moment.0)

unfoldable pub cross_at : List ℕ → Option Line
cross_at bytes = do
  mass ← u64_at bytes
  degree ← u32_at mass.1
  d1 ← i64_at degree.1
  d2 ← i64_at d1.1
  kn ← figure_at d2.1
  Some (line.Cross mass.0 degree.0 d1.0 d2.0 kn.0)

-- two figures, or three in version 2
abbrev pub load_by : ℕ → Figure → Figure → Option (Figure × List ℕ) → Line
load_by mass lcg tcg (Some kg) = line.Load2 mass lcg tcg kg.0
load_by mass lcg kg None = line.Load mass lcg kg

unfoldable pub load_at : List ℕ → Option Line
load_at bytes = do
  mass ← u64_at bytes
  lcg ← figure_at mass.1
  second ← figure_at lcg.1
  Some (load_by mass.0 lcg.0 second.0 (figure_at second.1))

unfoldable pub upright_at : List ℕ → Option Line
upright_at bytes = do
  d1 ← i64_at bytes
  d2 ← i64_at d1.1
  kb ← figure_at d2.1
  bm ← figure_at kb.1
  gm ← figure_at bm.1
  Some (line.Upright d1.0 d2.0 kb.0 bm.0 gm.0)

-- one lever, or those of both sides in version 2
abbrev pub arm_by : ℕ → ℤ → ℤ → Lever → Option (Lever × List ℕ) → Line
arm_by degree d1 d2 port (Some star) = line.Arm2 degree d1 d2 port.gz port.area star.0.gz star.0.area
arm_by degree d1 d2 port None = line.Arm degree d1 d2 port.gz port.area

unfoldable pub arm_at : List ℕ → Option Line
arm_at bytes = do
  degree ← u32_at bytes
  d1 ← i64_at degree.1
  d2 ← i64_at d1.1
  port ← lever_at d2.1
  Some (arm_by degree.0 d1.0 d2.0 port.0 (lever_at port.1))

unfoldable pub mark_at : List ℕ → Option Line
mark_at bytes = do
  criterion ← criterion_at bytes
  finding ← finding_at criterion.1
  Some (line.Mark criterion.0 finding.0)

unfoldable pub end_line_at : List ℕ → Option Line
end_line_at bytes = do
  lines ← u32_at bytes
  Some (line.End lines.0)

-- the line of a name, from what is left behind it
unfoldable pub fields_at : List ℕ → List ℕ → Option Line
fields_at name bytes =
    if bytes_eq name (codes "hullcert") then header_at bytes
    else if bytes_eq name (codes "hull") then hull_at bytes
    else if bytes_eq name (codes "body") then body_at bytes
    else if bytes_eq name (codes "hydro") then hydro_at bytes
    else if bytes_eq name (codes "section") then section_at bytes
    else if bytes_eq name (codes "cross") then cross_at bytes
    else if bytes_eq name (codes "load") then load_at bytes
    else if bytes_eq name (codes "upright") then upright_at bytes
    else if bytes_eq name (codes "arm") then arm_at bytes
    else if bytes_eq name (codes "mark") then mark_at bytes
    else if bytes_eq name (codes "verdict") then verdict_at bytes
    else if bytes_eq name (codes "damage") then damage_at bytes
    else if bytes_eq name (codes "safe") then safe_at bytes
    else if bytes_eq name (codes "next") then next_line_at bytes
    else if bytes_eq name (codes "end") then end_line_at bytes
    else further_at name bytes

unfoldable pub line_at : List ℕ → Option Line
line_at bytes = fields_at (word_at bytes).0 (word_at bytes).1
