-- The heights and half-breadths between which a hull lies.
use Rattle.std.specs.Prelude.{◌≡◌, ℤ, ◌≤ℤ◌, List}
use Rattle.std.specs.List.{AllByRecursion}
use Rattle.hull_model.specs.declared.point.Point.{Point}
use Rattle.hull_model.specs.declared.station.Station.{Station}
use Rattle.hull_model.specs.Lists.{AnyByRecursion}

-- of each point, and of some point
abbrev pub AllPoints : (Point → Type 0) → List Station → Type 0
AllPoints P stations = AllByRecursion (λ s. AllByRecursion P s.points) stations

abbrev pub SomePoint : (Point → Type 0) → List Station → Type 0
SomePoint P stations = AnyByRecursion (λ s. AnyByRecursion P s.points) stations

-- the least of what a key gives of all points
pub record IsLeast (key : Point → ℤ) (stations : List Station) (n : ℤ) : Type 0 where
  pub below : AllPoints (λ p. n ≤ℤ key p) stations
  pub met : SomePoint (λ p. key p ≡ n) stations

pub record IsGreatest (key : Point → ℤ) (stations : List Station) (n : ℤ) : Type 0 where
  pub above : AllPoints (λ p. key p ≤ℤ n) stations
  pub met : SomePoint (λ p. key p ≡ n) stations
