-- The margin line against the levels of a waterplane in mm.
use Rattle.std.specs.Prelude.{◌≡◌, true, ◌↔◌, ℕ, ℤ, pos, ◌-ℤ◌, ◌<ℤ◌}
use Rattle.exact_algebra.proofs.Fraction.{◌≺◌}
use Rattle.exact_algebra.proofs.Whole.{whole}
use Rattle.hull_model.specs.declared.station.Station.{Station}
use Rattle.hull_model.specs.Waterplane.{level_at}
use Rattle.damage_box.specs.Planes.{plane_at}
use Rattle.floodable_length.specs.MarginLine.{top_of, is_under}

-- a station's margin point is under an upright plane exactly where the plane's level there is above the top point lowered by the margin
abbrev pub UnderByLevels : Type 0
UnderByLevels = (margin : ℕ) (first last a f : ℤ) → first <ℤ last → (s : Station)
    → (is_under margin first last a f s ≡ true) ↔ (whole (top_of s.points -ℤ pos margin) ≺ level_at (plane_at a f) first last (whole s.x))
