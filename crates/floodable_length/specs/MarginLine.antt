-- The margin line, and where it is under an upright plane.
use Rattle.std.specs.Prelude.{ℕ, ℤ, pos, ◌+ℤ◌, ◌-ℤ◌, ◌*ℤ◌, int_lt, Bool, Option, List, [], ◌∷◌}
use Rattle.std.specs.List.{position_from}
use Rattle.hull_model.specs.declared.point.Point.{Point}
use Rattle.hull_model.specs.declared.station.Station.{Station}
use Rattle.hull_model.specs.Submerged.{first_x, last_x}

-- the height of the top point
abbrev pub top_of : List Point → ℤ
top_of [] = pos 0
top_of (p ∷ []) = p.z
top_of (p ∷ q ∷ rest) = top_of (q ∷ rest)

module _ (margin : ℕ) where
  -- the margin point of a station in grid units: its top point, lowered by the margin
  abbrev pub margin_point : Station → ℤ
  margin_point s = pos 1024 *ℤ (top_of s.points -ℤ pos margin)

  module _ (first last a f : ℤ) where
    -- the level at a station of the plane from level a at the first station to level f at the last, times the distance between the two
    abbrev pub level_along : Station → ℤ
    level_along s = (a *ℤ (last -ℤ s.x)) +ℤ (f *ℤ (s.x -ℤ first))

    -- the level there is above the margin point
    abbrev pub is_under : Station → Bool
    is_under s = int_lt (margin_point s *ℤ (last -ℤ first)) (level_along s)

  -- the number of the first station where the margin line is under the plane
  abbrev pub first_under : List Station → (a f : ℤ) → Option ℕ
  first_under stations a f = position_from (is_under (first_x stations) (last_x stations) a f) 0 stations
