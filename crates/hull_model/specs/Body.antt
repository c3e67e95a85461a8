-- What a hull keeps: the limits of its points and stations, their order, and that it isn't flat.
use Rattle.std.specs.Prelude.{ℤ, pos, ◌≤ℤ◌, ◌<ℤ◌, ◌≤◌, ◌-◌, List, length, slice_range}
use Rattle.std.specs.List.{AllByRecursion}
use Rattle.hull_model.specs.Lists.{AnyByRecursion, Rises}
use Rattle.hull_model.specs.declared.point.Point.{Point}
use Rattle.hull_model.specs.declared.station.Station.{Station}

-- a number of mm from 0 to the most
abbrev pub IsWithin : ℤ → ℤ → Type 0
IsWithin most n = (pos 0 ≤ℤ n) × (n ≤ℤ most)

-- a half-breadth and a height within their limits
pub record IsPoint (p : Point) : Type 0 where
  pub breadth : IsWithin (pos 65535) p.y
  pub height : IsWithin (pos 65535) p.z

-- a half-breadth above 0
abbrev pub IsOutboard : Point → Type 0
IsOutboard p = pos 0 <ℤ p.y

-- a station within its limits, with 1 to 32 points whose heights rise strictly
pub record IsStation (s : Station) : Type 0 where
  pub place : IsWithin (pos 524287) s.x
  pub some : 1 ≤ length s.points
  pub few : length s.points ≤ 32
  pub heights_rise : Rises (λ p. p.z) s.points
  pub limits : AllByRecursion IsPoint s.points

-- the stations but the first and the last
abbrev pub inner : List Station → List Station
inner stations = slice_range stations 1 (length stations - 1)

-- some half-breadth is above 0
abbrev pub HasBreadth : List Station → Type 0
HasBreadth stations = AnyByRecursion (λ s. AnyByRecursion IsOutboard s.points) stations

-- 3 to 64 stations in order along the ship, each within its limits, each but the first and the last with
-- two points at least, and some half-breadth above 0
pub record IsHull (stations : List Station) : Type 0 where
  pub some : 3 ≤ length stations
  pub few : length stations ≤ 64
  pub places_rise : Rises (λ s. s.x) stations
  pub each : AllByRecursion IsStation stations
  pub strips : AllByRecursion (λ s. 2 ≤ length s.points) (inner stations)
  pub breadth : HasBreadth stations
