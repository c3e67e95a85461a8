-- The cross lines of a report, and displacements that are too heavy for them.
use Rattle.std.specs.Prelude.{ℕ, ℤ, ◌≡◌, ◌⊎◌, List, [], ◌∷◌, length}
use Rattle.exact_algebra.proofs.Fraction.{Fraction}
use Rattle.angle_bounds.specs.declared.bracket.Bracket.{Bracket}
use Rattle.outward_interval.specs.declared.figure.Figure.{Figure}
use Rattle.outward_interval.specs.declared.span.Span.{Span}
use Rattle.cross_curves.specs.Kn.{HoldsKn, IsNarrowKn}
use Rattle.draft_bracket.specs.DraftBracket.{IsTooHeavy}
use Rattle.hull_model.specs.declared.station.Station.{Station}
use Rattle.hull_model.specs.declared.water.Water.{Water}
use Rattle.hull_polyhedron.specs.declared.faces.Faces.{Faces}
use Rattle.loading_sheet.specs.Centre.{displaced_by}
use Rattle.hull_report.specs.declared.line.Line.{Line}
use Rattle.hull_report.specs.declared.line.Line.TheVariants as line
use Rattle.hull_cli.specs.Figures.{Shows}
use Rattle.hull_cli.specs.Floats.{FloatsBetween}
use Rattle.hull_cli.specs.Lists.{Joined, NumberedFrom}

-- the span contains KN at every level plane between the levels, and is no wider than stated
pub record EnclosesKn (faces : Faces) (bracket : Bracket) (need : Fraction) (d1 d2 : ℤ) (hull : List Station) (kn : Span 20) : Type 0 where
  pub holds : HoldsKn bracket need d1 d2 kn.lo kn.hi hull
  pub narrow : IsNarrowKn faces bracket need d1 d2 kn.lo kn.hi

-- the line of a hull that displaces the mass, at k degrees: the levels between which it floats, and KN in m at every level
-- plane between them
pub record IsCrossLine (hull : List Station) (water : Water) (mass k : ℕ) (l : Line) : Type 0 where
  pub d1 : ℤ
  pub d2 : ℤ
  pub floats : FloatsBetween hull (displaced_by mass water) k d1 d2
  pub kn : Figure
  pub shows : Shows 3 6 (EnclosesKn floats.faces floats.bracket (displaced_by mass water) d1 d2 hull) kn
  pub fields : l ≡ line.Cross mass k d1 d2 kn

-- one line for each degree from 0 to 90
pub record IsCurve (hull : List Station) (water : Water) (mass : ℕ) (lines : List Line) : Type 0 where
  pub count : length lines ≡ 91
  pub each : NumberedFrom (IsCrossLine hull water mass) 0 lines

-- one curve for each displacement
abbrev pub AreCrossLines : List Station → Water → List ℕ → List Line → Type 0
AreCrossLines hull water masses lines = Joined (IsCurve hull water) masses lines

-- this is the first of the masses that is more than the water has that the whole hull displaces
abbrev pub IsFirstTooHeavy : List Station → Water → List ℕ → ℕ → Type 0
IsFirstTooHeavy hull water [] mass = ⊥
IsFirstTooHeavy hull water (m ∷ masses) mass =
    ((mass ≡ m) × IsTooHeavy hull (displaced_by m water))
    ⊎ (¬ (IsTooHeavy hull (displaced_by m water)) × IsFirstTooHeavy hull water masses mass)
