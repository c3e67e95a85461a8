-- What the two levels of a line are.
use Rattle.std.specs.Prelude.{ℕ, ℤ, List}
use Rattle.exact_algebra.proofs.Fraction.{Fraction}
use Rattle.angle_bounds.specs.declared.bracket.Bracket.{Bracket}
use Rattle.draft_bracket.specs.DraftBracket.{IsOfDegree, IsSharpBracket}
use Rattle.hull_model.specs.declared.station.Station.{Station}
use Rattle.hull_polyhedron.specs.declared.faces.Faces.{Faces}
use Rattle.hull_polyhedron.specs.FacesOf.{AreFacesOf}

-- a sharp draft bracket of k degrees, in grid units, of a hull that displaces this volume
pub record FloatsBetween (hull : List Station) (need : Fraction) (k : ℕ) (d1 d2 : ℤ) : Type 0 where
  pub faces : Faces
  pub boundary : AreFacesOf hull faces
  pub bracket : Bracket
  pub degrees : IsOfDegree k bracket
  pub sharp : IsSharpBracket faces bracket need d1 d2 hull
