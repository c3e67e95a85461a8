-- Level planes at levels in grid units of 2^-10 mm, the volume of a hull below them, and the range of levels that are looked at.
use Rattle.std.specs.Prelude.{ℤ, pos, neg_ℤ, ◌+ℤ◌, ◌*ℤ◌, List}
use Rattle.exact_algebra.proofs.Fraction.{Fraction}
use Rattle.angle_bounds.specs.declared.bracket.Bracket.{Bracket}
use Rattle.angle_bounds.specs.Directions.{IsDirectionWithin}
use Rattle.hull_model.specs.declared.station.Station.{Station}
use Rattle.hull_model.specs.LevelPlanes.{Direction, level_plane}
use Rattle.hull_model.specs.Submerged.{submerged_volume}
use Rattle.hull_model.specs.Waterplane.{Waterplane}
use Rattle.hull_polyhedron.specs.declared.faces.Faces.{Faces}
use Rattle.plane_clip.specs.Enclosure.{in_unit}

-- the direction lies in the bracket
abbrev pub LiesIn : Bracket → Direction → Type 0
LiesIn bracket d = IsDirectionWithin bracket.low.c bracket.low.s bracket.high.c bracket.high.s d.c d.s

-- its plane of a level in grid units
abbrev pub grid_plane : Direction → ℤ → Waterplane
grid_plane d at = level_plane d (in_unit 10 at)

abbrev pub volume_at : List Station → Direction → ℤ → Fraction
volume_at hull d at = submerged_volume (grid_plane d at) hull

-- no point of a hull lies below the first level, and none above the last, at any direction
abbrev pub bottom_of : Faces → ℤ
bottom_of faces = neg_ℤ (pos 1024 *ℤ faces.half_breadth)

abbrev pub top_of : Faces → ℤ
top_of faces = pos 1024 *ℤ (faces.high_z +ℤ faces.half_breadth)
