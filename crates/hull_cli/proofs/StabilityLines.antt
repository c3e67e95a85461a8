-- Stability lines from what was found.
use Rattle.std.proofs.Common.{◌≡◌, ◌∙◌, refl, sym, ap, subst, ℕ, ◌*◌, ◌^◌, ◌<◌, ◌≤◌, ◌+◌, ℤ, pos, ◌*ℤ◌, unsigned_abs, List, [], ◌∷◌, ◌++◌, append_assoc, Some, length, slice_get, unwrap_or, arith}
use Rattle.std.proofs.lemmas.Int.{ints}
use Rattle.exact_algebra.specs.Span.{IsLeastSpan}
use Rattle.exact_algebra.proofs.Fraction.{Fraction, ◌⊗◌, inverse}
use Rattle.exact_algebra.proofs.Span.{IsLeastSpanOf, least_span_over_out}
use Rattle.exact_algebra.proofs.Whole.{whole, over_is}
use Rattle.outward_interval.specs.Ends.{AreLeastEnds, EndsBelow}
use Rattle.flux_moments.specs.Limits.{EndsAtMost}
use Rattle.flux_moments.proofs.ProductEnds.{at_most_below}
use Rattle.dynamic_lever.proofs.Ends.{quotient_ends}
use Rattle.intact_criteria.specs.Finding.{first_failing, first_unsure, verdict_of}
use Rattle.intact_criteria.specs.declared.finding.Found.{Found}
use Rattle.intact_criteria.specs.declared.finding.Found.TheVariants.{Holds, Fails, Unsure}
use Rattle.intact_criteria.specs.declared.finding.Verdict.{Verdict}
use Rattle.intact_criteria.specs.declared.finding.Verdict.TheVariants as verdict
use Rattle.outward_interval.specs.Printed.{IsPrinted}
use Rattle.outward_interval.specs.declared.figure.Figure.{Figure}
use Rattle.outward_interval.specs.declared.span.Span.{Span}
use Rattle.hull_model.specs.Body.{IsHull}
use Rattle.hull_model.specs.declared.station.Station.{Station}
use Rattle.hull_model.specs.declared.water.Water.{Water}
use Rattle.hull_polyhedron.specs.FacesOf.{AreFacesOf}
use Rattle.hull_polyhedron.specs.declared.faces.Faces.{Faces}
use Rattle.dynamic_lever.specs.declared.rows.Arm.{Arm}
use Rattle.dynamic_lever.specs.declared.rows.ArmTable.{ArmTable}
use Rattle.dynamic_lever.specs.declared.rows.UprightRow.{UprightRow}
use Rattle.intact_criteria.proofs.AreasHeld.{areas_hold}
use Rattle.intact_criteria.proofs.Rows.{rows_suffice}
use Rattle.intact_criteria.specs.Areas.{area_at}
use Rattle.intact_criteria.specs.Brackets.{ByBrackets}
use Rattle.intact_criteria.specs.Marks.{AreFindings}
use Rattle.intact_criteria.specs.Open.{IsOpenIfUndecided}
use Rattle.intact_criteria.specs.Readings.{Ends, HasEnds, gz_at, readings_of}
use Rattle.intact_criteria.specs.Right.{AreRightMarks, IsRightVerdict}
use Rattle.intact_criteria.specs.Stated.{IsAsNarrowAsStated}
use Rattle.intact_criteria.specs.Tables.{AreRowsOf, HoldFigures}
use Rattle.intact_criteria.specs.declared.finding.Findings.{Findings}
use Rattle.intact_criteria.specs.declared.finding.Side.{Side}
use Rattle.intact_criteria.specs.declared.finding.Side.TheVariants.{Port, Starboard}
use Rattle.job_reader.specs.declared.job.Item.{Item}
use Rattle.job_reader.specs.declared.job.Job.{Job}
use Rattle.report_run.specs.declared.stop.Refusal.TheVariants as refusal
use Rattle.report_run.specs.declared.stop.Stop.{Stop}
use Rattle.report_run.specs.declared.stop.Stop.TheVariants as stop
use Rattle.loading_sheet.specs.Centre.{displaced, x_g, y_g, z_g}
use Rattle.loading_sheet.specs.Loads.{IsLoadingOf}
use Rattle.loading_sheet.specs.declared.loading.Loading.{Loading}
use Rattle.hull_report.specs.declared.line.Line.{Line}
use Rattle.hull_report.specs.declared.line.Line.TheVariants as line
use Rattle.hull_cli.specs.Floats.{FloatsBetween}
use Rattle.hull_cli.specs.Stops.{StopsLoad, StopsStability}
use Rattle.hull_cli.specs.Figures.{AreInMetres, IsInMetres, IsLeast}
use Rattle.hull_cli.specs.Loads.{IsLoadLine, load_line}
use Rattle.hull_cli.specs.Stability.{IsArmLine, IsJudged, IsLever, NamesCriterion, arm_line}
use Rattle.hull_cli.specs.declared.levers.Lever.{Lever}

-- a distance of the centre, in units of 2^-20 mm
pub centre_ends : (moment : ℤ) (mass : ℕ) {lo hi : ℤ} → 1 ≤ mass → unsigned_abs moment < 2 ^ 56 → IsLeastSpanOf 20 lo hi (whole moment ⊗ inverse (whole (pos mass))) → EndsBelow 96 lo hi
centre_ends moment mass {lo} {hi} some few h = at_most_below (2 ^ 76) 96 (omega arith) (quotient_ends (2 ^ 76) mass some small least)
  where
    ratio : IsLeastSpan 20 lo hi moment mass
    ratio = least_span_over_out moment mass some (subst (λ (x : Fraction). IsLeastSpanOf 20 lo hi x) (sym (over_is moment mass some)) h)

    least : AreLeastEnds (moment *ℤ pos (2 ^ 20)) (moment *ℤ pos (2 ^ 20)) mass lo hi
    least = record { low = ratio.low; high = ratio.high }

    within : unsigned_abs (moment *ℤ pos (2 ^ 20)) ≤ 2 ^ 76 * mass
    within = omega (arith, ints, few, some)

    small : EndsAtMost (2 ^ 76 * mass) (moment *ℤ pos (2 ^ 20)) (moment *ℤ pos (2 ^ 20))
    small = record { low = within; high = within }

-- findings that count from n up to 6 at most name one of the six criteria
named_failing : (n : ℕ) (founds : List Found) → 1 ≤ n → n + length founds ≤ 7 → (other : Verdict) → NamesCriterion other → NamesCriterion (unwrap_or (first_failing n founds) other)
named_failing n [] some few other named = named
named_failing n (Holds ∷ founds) some few other named = named_failing (n + 1) founds (omega (arith, some)) (omega (arith, few)) other named
named_failing n (Fails side shown ∷ founds) some few other named = (some, omega (arith, few))
named_failing n (Unsure side shown ∷ founds) some few other named = named_failing (n + 1) founds (omega (arith, some)) (omega (arith, few)) other named

named_unsure : (n : ℕ) (founds : List Found) → 1 ≤ n → n + length founds ≤ 7 → (other : Verdict) → NamesCriterion other → NamesCriterion (unwrap_or (first_unsure n founds) other)
named_unsure n [] some few other named = named
named_unsure n (Holds ∷ founds) some few other named = named_unsure (n + 1) founds (omega (arith, some)) (omega (arith, few)) other named
named_unsure n (Fails side shown ∷ founds) some few other named = named_unsure (n + 1) founds (omega (arith, some)) (omega (arith, few)) other named
named_unsure n (Unsure side shown ∷ founds) some few other named = (some, omega (arith, few))

pub names_one : (founds : List Found) → length founds ≤ 6 → NamesCriterion (verdict_of founds)
names_one founds few = named_failing 1 founds (omega arith) (omega (arith, few)) _ (named_unsure 1 founds (omega arith) (omega (arith, few)) verdict.Pass tt)

-- ---- lines
in_metres : (ends : Ends) (span : Span 20) (f : Figure) → HasEnds ends span → IsInMetres span f → AreInMetres ends f
in_metres ends span f has printed =
    subst (λ (lo : ℤ). IsPrinted 20 3 6 lo ends.hi f.lo f.hi) has.low (subst (λ (hi : ℤ). IsPrinted 20 3 6 span.lo hi f.lo f.hi) has.high printed)

pub lever_is : (arms : ArmTable) (side : Side) (k : ℕ) (gz area : Span 20) → HasEnds (gz_at arms side k) gz → HasEnds (area_at arms side k) area
    → (lever : Lever) → IsInMetres gz lever.gz → IsInMetres area lever.area → IsLever arms side k lever
lever_is arms side k gz area has_gz has_area lever gz_printed area_printed = record {
  gz = in_metres (gz_at arms side k) gz lever.gz has_gz gz_printed;
  area = in_metres (area_at arms side k) area lever.area has_area area_printed;
}

pub load_line_is : (version : ℕ) (loading : Loading) (lcg tcg kg : Span 20) → IsLeast (x_g loading) lcg → IsLeast (y_g loading) tcg → IsLeast (z_g loading) kg
    → (x y z : Figure) → IsInMetres lcg x → IsInMetres tcg y → IsInMetres kg z → (l : Line) → l ≡ load_line version loading.mass x y z → IsLoadLine version loading l
load_line_is version loading lcg tcg kg along beside above x y z printed_x printed_y printed_z l same = record {
  x = x;
  along = record { span = lcg; encloses = along; printed = printed_x };
  y = y;
  beside = record { span = tcg; encloses = beside; printed = printed_y };
  z = z;
  above = record { span = kg; encloses = above; printed = printed_z };
  fields = same;
}

pub arm_line_is : (version : ℕ) (arms : ArmTable) (k : ℕ) (arm : Arm) → slice_get arms.rows k ≡ Some arm → (port starboard : Lever) → IsLever arms Port k port
    → IsLever arms Starboard k starboard → (l : Line) → l ≡ arm_line version k arm.drafts port starboard → IsArmLine version arms k l
arm_line_is version arms k arm there port starboard to_port to_starboard l same = record {
  arm = arm;
  there = there;
  port = port;
  to_port = to_port;
  starboard = starboard;
  to_starboard = to_starboard;
  fields = same;
}

pub all_joined : (row last : Line) (levers marks one two three four : List Line) → one ≡ row ∷ [] → two ≡ one ++ levers → three ≡ two ++ marks → four ≡ three ++ last ∷ []
    → four ≡ row ∷ levers ++ (marks ++ last ∷ [])
all_joined row last levers marks one two three four a b c d =
    d ∙ (ap (λ (t : List Line). t ++ last ∷ []) (c ∙ ap (λ (t : List Line). t ++ marks) (b ∙ ap (λ (t : List Line). t ++ levers) a))
    ∙ ap (λ (t : List Line). row ∷ t) (append_assoc levers marks (last ∷ [])))

-- ---- what is judged
module _ (hull : List Station) (is : IsHull hull) (faces : Faces) (boundary : AreFacesOf hull faces) (job : Job) (loading : Loading) (arms : ArmTable) (upright : UprightRow) (rows : AreRowsOf faces loading job.water arms upright) where
  floats : (k : ℕ) (arm : Arm) → slice_get arms.rows k ≡ Some arm → FloatsBetween hull (displaced loading job.water) k arm.drafts.d1 arm.drafts.d2
  floats k arm there =
      let row = rows.rows k arm there in
      record { faces = faces; boundary = boundary; bracket = row.0; degrees = row.1; sharp = row.2.drafts hull is boundary }

  pub judged_is : (findings : Findings) → length arms.rows ≡ 91 → IsLoadingOf job.items loading → ByBrackets (λ brackets. AreFindings (readings_of brackets arms upright job.openings) findings)
      → ((hull : List Station) (loading : Loading) (water : Water) → HoldFigures hull loading water arms upright → AreRightMarks hull loading water arms upright job.openings findings.marks)
      → ((hull : List Station) (loading : Loading) (water : Water) → HoldFigures hull loading water arms upright → IsRightVerdict hull loading water arms upright job.openings findings.verdict)
      → ByBrackets (λ brackets. IsOpenIfUndecided (readings_of brackets arms upright job.openings) findings.verdict)
      → IsAsNarrowAsStated faces loading job.water arms upright job.openings findings.verdict
      → IsJudged hull job loading arms upright findings
  judged_is findings count loaded rules marks verdict undecided narrow =
      let hold = rows_suffice.figures faces loading job.water arms upright rows hull is boundary in
      record {
        loaded = loaded;
        faces = faces;
        boundary = boundary;
        rows = rows;
        floats = floats;
        floats_upright = record { faces = faces; boundary = boundary; bracket = rows.row.0; degrees = rows.row.1; sharp = rows.row.2.drafts hull is boundary };
        areas = areas_hold.contained hull loading job.water arms upright job.openings count hold;
        rules = rules;
        marks = marks hull loading job.water hold;
        verdict = verdict hull loading job.water hold;
        undecided = undecided;
        narrow = narrow;
      }

-- items that make no loading stop the command
pub load_stops : (hull : List Station) (water : Water) (items : List Item) (why : Stop) → StopsLoad items why → StopsStability hull water items why
load_stops hull water items (stop.Refused (refusal.Load fault)) stops = stops
load_stops hull water items (stop.Refused _) stops = absurd stops
load_stops hull water items (stop.Unread file) stops = absurd stops
load_stops hull water items stop.NoMemory stops = tt
