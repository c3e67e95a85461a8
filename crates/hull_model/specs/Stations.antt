-- The stations of a hull by their number.
use Rattle.std.specs.Prelude.{ℕ, List, [], Some, None, slice_get}
use Rattle.hull_model.specs.declared.point.Point.{Point}
use Rattle.hull_model.specs.declared.station.Station.{Station}

-- the points of the station of a number, counted from 0
abbrev pub points_at : List Station → ℕ → List Point
points_at stations n = elim (slice_get stations n) [ None ↦ [] | Some station ↦ station.points ]
