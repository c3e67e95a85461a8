-- Upright planes by their levels at the first and at the last station, in grid units of 2^-10 mm.
use Rattle.std.specs.Prelude.{ℤ, pos, ◌≤ℤ◌}
use Rattle.hull_model.specs.Waterplane.{Waterplane}
use Rattle.hull_polyhedron.specs.DamageBox.{upright_at}
use Rattle.plane_clip.specs.Enclosure.{in_unit}

abbrev pub plane_at : ℤ → ℤ → Waterplane
plane_at a f = upright_at (in_unit 10 a) (in_unit 10 f)

-- x of a station, in mm
pub record IsPlace (x : ℤ) : Type 0 where
  pub from : pos 0 ≤ℤ x
  pub to : x ≤ℤ pos 524287
