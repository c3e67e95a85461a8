-- KN at level planes, and how wide its span may be.
use Rattle.std.specs.Prelude.{ℤ, pos, List}
use Rattle.exact_algebra.proofs.Fraction.{Fraction, ◌⊕◌, ◌⊗◌, inverse, ◌≼◌}
use Rattle.exact_algebra.proofs.Span.{ContainsFraction}
use Rattle.exact_algebra.proofs.Whole.{whole}
use Rattle.angle_bounds.specs.declared.bracket.Bracket.{Bracket}
use Rattle.hull_model.specs.declared.station.Station.{Station}
use Rattle.hull_model.specs.Submerged.{mv}
use Rattle.hull_polyhedron.specs.declared.faces.Faces.{Faces}
use Rattle.outward_interval.specs.Widths.{unit_of, IsNarrow}
use Rattle.flux_moments.specs.declared.plane_box.PlaneBox.{PlaneBox}
use Rattle.flux_moments.specs.Widths.{reach_of, volume_bound}
use Rattle.hull_model.specs.LevelPlanes.{Direction, level_plane}
use Rattle.draft_bracket.specs.GridLevels.{LiesIn}
use Rattle.draft_bracket.specs.DraftBracket.{IsBoxFrom}

-- of a hull of the volume `need`, at the level plane of a direction, in mm
abbrev pub kn_at : List Station → Fraction → Direction → Fraction → Fraction
kn_at hull need d at = mv (level_plane d at) hull ⊗ inverse need

-- the span contains KN at every level plane from d1 to d2, in grid units, at every direction of the bracket
abbrev pub HoldsKn : Bracket → Fraction → (d1 d2 lo hi : ℤ) → List Station → Type 0
HoldsKn bracket need d1 d2 lo hi hull = (d : Direction) → LiesIn bracket d → (at : Fraction) → ContainsFraction 10 d1 d2 at → ContainsFraction 20 lo hi (kn_at hull need d at)

-- it is no wider than what is measured in the box of these planes, by the need, and 2^-16 mm
abbrev pub IsNarrowKn : Faces → Bracket → Fraction → (d1 d2 lo hi : ℤ) → Type 0
IsNarrowKn faces bracket need d1 d2 lo hi = (planes : PlaneBox) → IsBoxFrom bracket d1 d2 planes → IsNarrow 20 ((reach_of faces planes ⊗ volume_bound faces planes) ⊗ inverse need ⊕ unit_of 16) lo hi

-- half a litre at least
abbrev pub IsBigNeed : Fraction → Type 0
IsBigNeed need = whole (pos 500000) ≼ need
