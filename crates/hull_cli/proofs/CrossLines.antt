-- Cross lines from what was found, and displacements that are too heavy.
use Rattle.std.proofs.Common.{◌≡◌, ◌∙◌, refl, sym, ap, subst, ℕ, zero, suc, ◌*◌, ◌^◌, ◌<◌, ◌≤◌, ℤ, pos, ◌*ℤ◌, ◌≤ℤ◌, List, [], ◌∷◌, length, take, get_or, inl, inr, arith}
use Rattle.std.proofs.lemmas.Int.{ints}
use Rattle.std.specs.List.{AllByRecursion}
use Rattle.exact_algebra.proofs.Fraction.{Fraction, ◌⊗◌}
use Rattle.exact_algebra.proofs.Whole.{whole, whole-mul, positive-whole, ≼_scaled, over_is, over-den}
use Rattle.outward_interval.specs.Printed.{IsPrinted}
use Rattle.outward_interval.specs.declared.figure.Figure.{Figure}
use Rattle.outward_interval.specs.declared.span.Span.{Span}
use Rattle.angle_bounds.specs.declared.bracket.Bracket.{Bracket}
use Rattle.cross_curves.specs.Kn.{HoldsKn, IsBigNeed, IsNarrowKn}
use Rattle.draft_bracket.specs.DraftBracket.{IsOfDegree, IsSharpBracket, IsTooHeavy}
use Rattle.hull_model.specs.declared.station.Station.{Station}
use Rattle.hull_model.specs.declared.water.Water.{Water}
use Rattle.hull_polyhedron.specs.declared.faces.Faces.{Faces}
use Rattle.hull_polyhedron.specs.FacesOf.{AreFacesOf}
use Rattle.loading_sheet.specs.Centre.{displaced_by}
use Rattle.hull_report.specs.declared.line.Line.TheVariants as line
use Rattle.report_run.specs.declared.stop.Refusal.TheVariants.{Heavy}
use Rattle.report_run.specs.declared.stop.Stop.{Stop}
use Rattle.report_run.specs.declared.stop.Stop.TheVariants as stop
use Rattle.hull_cli.specs.Curves.{IsCrossLine, IsFirstTooHeavy}
use Rattle.hull_cli.specs.Stops.{StopsCurve, StopsCurves}

-- a ship of one kilogram displaces half a litre in the heaviest water
pub big_need : (mass : ℕ) (water : Water) → 1 ≤ mass → IsBigNeed (displaced_by mass water)
big_need mass water some =
    ≼_scaled (whole (pos 500000)) (displaced_by mass water) (whole (pos water.density)) (pos 500000 *ℤ pos water.density) (pos (mass * 10 ^ 9))
    (positive-whole water.density dense) (sym (whole-mul (pos 500000) (pos water.density)))
    (ap (λ (x : Fraction). x ⊗ whole (pos water.density)) (sym (over_is (pos (mass * 10 ^ 9)) water.density dense)) ∙ over-den (pos (mass * 10 ^ 9)) water.density dense)
    (less mass water.density some water.limits.heaviest)
  where
    dense : 0 < water.density
    dense = omega (arith, water.limits.lightest)

    less : (m d : ℕ) → 1 ≤ m → d ≤ 2000 → (pos 500000 *ℤ pos d) ≤ℤ pos (m * 10 ^ 9)
    less m d h k = omega (arith, ints, h, k)

module _ (hull : List Station) (faces : Faces) (boundary : AreFacesOf hull faces) (bracket : Bracket) (water : Water) (mass k : ℕ) (degrees : IsOfDegree k bracket) where
  pub cross_line_is : (need : Fraction) → need ≡ displaced_by mass water → (d1 d2 : ℤ) (kn : Span 20) (figure : Figure)
      → IsSharpBracket faces bracket need d1 d2 hull → HoldsKn bracket need d1 d2 kn.lo kn.hi hull → IsNarrowKn faces bracket need d1 d2 kn.lo kn.hi
      → IsPrinted 20 3 6 kn.lo kn.hi figure.lo figure.hi → IsCrossLine hull water mass k (line.Cross mass k d1 d2 figure)
  cross_line_is need same d1 d2 kn figure sharp holds narrow printed = record {
    d1 = d1;
    d2 = d2;
    floats = record {
      faces = faces;
      boundary = boundary;
      bracket = bracket;
      degrees = degrees;
      sharp = subst (λ (v : Fraction). IsSharpBracket faces bracket v d1 d2 hull) same sharp;
    };
    kn = figure;
    shows = record {
      span = kn;
      encloses = record {
        holds = subst (λ (v : Fraction). HoldsKn bracket v d1 d2 kn.lo kn.hi hull) same holds;
        narrow = subst (λ (v : Fraction). IsNarrowKn faces bracket v d1 d2 kn.lo kn.hi) same narrow;
      };
      printed = printed;
    };
    fields = refl;
  }

module _ (hull : List Station) (water : Water) where
  -- the first that is too heavy, where none before it is
  first_heavy : (masses : List ℕ) (i other mass : ℕ) → i < length masses → mass ≡ get_or masses i other
      → AllByRecursion (λ m. ¬ (IsTooHeavy hull (displaced_by m water))) (take i masses) → IsTooHeavy hull (displaced_by (get_or masses i other) water) → IsFirstTooHeavy hull water masses mass
  first_heavy [] i other mass there is light heavy = absurd (omega (arith, there))
  first_heavy (m ∷ masses) zero other mass there is light heavy = inl (is, heavy)
  first_heavy (m ∷ masses) (suc i) other mass there is light heavy = inr (light.0, first_heavy masses i other mass (omega (arith, there)) is light.1 heavy)

  pub curves_stop : (masses : List ℕ) (i other : ℕ) (why : Stop) → i < length masses → AllByRecursion (λ m. ¬ (IsTooHeavy hull (displaced_by m water))) (take i masses)
      → StopsCurve hull water (get_or masses i other) why → StopsCurves hull water masses why
  curves_stop masses i other (stop.Refused (Heavy named six)) there light stops = (first_heavy masses i other named there stops.0.0 light stops.0.1, stops.1)
  curves_stop masses i other (stop.Refused _) there light stops = absurd stops
  curves_stop masses i other (stop.Unread file) there light stops = absurd stops
  curves_stop masses i other stop.NoMemory there light stops = tt
