-- Choices of waterplanes: a level plane for each whole degree of heel from 0 to 90, and one for the ship upright.
use Rattle.std.specs.Prelude.{◌≡◌, ℕ, ◌≤◌, Some, slice_get}
use Rattle.exact_algebra.proofs.Fraction.{Fraction}
use Rattle.exact_algebra.proofs.Span.{ContainsFraction}
use Rattle.angle_bounds.specs.declared.bracket.Bracket.{Bracket}
use Rattle.hull_model.specs.LevelPlanes.{Direction}
use Rattle.draft_bracket.specs.DraftBracket.{IsOfDegree}
use Rattle.draft_bracket.specs.GridLevels.{LiesIn}
use Rattle.dynamic_lever.specs.declared.rows.Arm.{Arm}
use Rattle.dynamic_lever.specs.declared.rows.ArmTable.{ArmTable}
use Rattle.dynamic_lever.specs.declared.rows.UprightRow.{UprightRow}

-- the directions and the levels in mm of the planes, and the level of the upright one
pub record Choice : Type 0 where
  pub direction : ℕ → Direction
  pub level : ℕ → Fraction
  pub upright : Fraction

-- the direction lies in the bracket of k degrees
abbrev pub LiesAtDegree : ℕ → Direction → Type 0
LiesAtDegree k d = (bracket : Bracket) × IsOfDegree k bracket × LiesIn bracket d

-- a level plane of the row of k degrees: its level lies between the drafts, in grid units of 2^-10 mm
pub record IsPlaneOf (k : ℕ) (arm : Arm) (d : Direction) (level : Fraction) : Type 0 where
  pub direction : LiesAtDegree k d
  pub between : ContainsFraction 10 arm.drafts.d1 arm.drafts.d2 level

-- the planes are those of the rows
pub record IsChoice (arms : ArmTable) (row : UprightRow) (choice : Choice) : Type 0 where
  pub planes : (k : ℕ) → k ≤ 90 → (arm : Arm) → slice_get arms.rows k ≡ Some arm → IsPlaneOf k arm (choice.direction k) (choice.level k)
  pub upright : ContainsFraction 10 row.drafts.d1 row.drafts.d2 choice.upright
