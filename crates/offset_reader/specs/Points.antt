-- The points that stations keep.
use Rattle.std.specs.Prelude.{ℕ, Bool, true, false, pos, ◌==◌, ◌&&◌, ◌||◌, not, nat_lt, if◌then◌else◌, List, [], ◌∷◌, length, map, reverse, Option, None}
use Rattle.std.specs.List.{list_all}
use Rattle.hull_model.specs.declared.point.Point.{Point}
use Rattle.hull_model.specs.declared.station.Station.{Station}
use Rattle.offset_reader.specs.declared.fault.OffsetFault.{OffsetFault}
use Rattle.offset_reader.specs.declared.fault.OffsetFault.TheVariants.{FewPoints, TooManyPoints, NoVolume}
use Rattle.offset_reader.specs.declared.row.Row.{Row}
use Rattle.offset_reader.specs.Faults.{fault_if, first_of, or_later}
use Rattle.offset_reader.specs.Stations.{first_row}

-- while the first two heights are equal, the first row is dropped
abbrev pub above_bottom : List Row → List Row
above_bottom [] = []
above_bottom (r ∷ []) = r ∷ []
above_bottom (r ∷ s ∷ rest) = if r.z == s.z then above_bottom (s ∷ rest) else r ∷ s ∷ rest

-- while the last two heights are equal, the last row is dropped
abbrev pub below_deck : List Row → List Row
below_deck rows = reverse (above_bottom (reverse rows))

-- there is no station
abbrev pub is_empty : List (List Row) → Bool
is_empty [] = true
is_empty (s ∷ rest) = false

-- the rows whose points a station keeps
unfoldable pub kept : List Row → List Row
kept station = below_deck (above_bottom station)

-- a station other than those at the ends keeps one point, or a station keeps more than 32
unfoldable pub station_points_fault : Bool → List Row → Option OffsetFault
station_points_fault is_end s = first_of (
    fault_if (not is_end && (length (kept s) == 1)) (FewPoints (first_row s))
    ∷ fault_if (nat_lt 32 (length (kept s))) (TooManyPoints (first_row s))
    ∷ [])

-- the first such fault of the stations from one of them to the last; `is_first` where that one is the first
abbrev pub points_fault_from : Bool → List (List Row) → Option OffsetFault
points_fault_from is_first [] = None
points_fault_from is_first (s ∷ rest) = or_later (station_points_fault (is_first || is_empty rest) s) (points_fault_from false rest)

-- phase 4: the first station that keeps too few or too many points
unfoldable pub points_fault : List (List Row) → Option OffsetFault
points_fault stations = points_fault_from true stations

-- phase 5: all kept half-breadths are 0
unfoldable pub volume_fault : List (List Row) → Option OffsetFault
volume_fault stations = fault_if (list_all (λ s. list_all (λ r. r.y == 0) (kept s)) stations) NoVolume

-- the x of a station
abbrev pub station_x : List Row → ℕ
station_x [] = 0
station_x (r ∷ rest) = r.x

-- the point of a row
abbrev pub point_of : Row → Point
point_of r = record { y = pos r.y; z = pos r.z }

-- the station of these rows
unfoldable pub station_of : List Row → Station
station_of s = record { x = pos (station_x s); points = map point_of (kept s) }
