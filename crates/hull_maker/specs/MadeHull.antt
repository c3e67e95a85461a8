-- The stations of the made hull.
use Rattle.std.specs.Prelude.{ℕ, zero, suc, pos, ◌+◌, ◌-◌, ◌*◌, min, List, [], ◌∷◌}
use Rattle.hull_model.specs.declared.point.Point.{Point}
use Rattle.hull_model.specs.declared.station.Station.{Station}
use Rattle.hull_maker.specs.Draws.{next_state, drawn, after}

-- the half-breadth of the point j of the station i without its draw, in mm
unfoldable pub least_breadth : ℕ → ℕ → ℕ
least_breadth i j = 100 * (min (min i (40 - i)) 10 + 1) * (min j 7 + 1)

-- the point j of the station i, by its draw
abbrev pub point : ℕ → ℕ → ℕ → Point
point i j draw = record { y = pos (least_breadth i j + draw); z = pos (600 * j) }

-- so many points of the station i from the point j on, from the state before them: each has a draw
abbrev pub points_from : ℕ → ℕ → ℕ → ℕ → List Point
points_from i j zero state = []
points_from i j (suc count) state = point i j (drawn (next_state state)) ∷ points_from i (j + 1) count (next_state state)

-- the station i, from the state before its points
abbrev pub station : ℕ → ℕ → Station
station i state = record { x = pos (2500 * i); points = points_from i 0 16 state }

-- so many stations from the station i on, from the state before them: each has 16 draws
abbrev pub stations_from : ℕ → ℕ → ℕ → List Station
stations_from i zero state = []
stations_from i (suc count) state = station i state ∷ stations_from (i + 1) count (after 16 state)

-- all 41 from the seed
unfoldable pub stations_of : ℕ → List Station
stations_of seed = stations_from 0 41 seed
