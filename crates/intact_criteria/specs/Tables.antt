-- Tables that hold the figures of a hull with a loading in a water.
use Rattle.std.specs.Prelude.{◌≡◌, ℕ, ◌≤◌, List, Some, slice_get}
use Rattle.exact_algebra.proofs.Fraction.{Fraction}
use Rattle.exact_algebra.proofs.Span.{ContainsFraction}
use Rattle.hull_model.specs.declared.station.Station.{Station}
use Rattle.hull_model.specs.declared.water.Water.{Water}
use Rattle.hull_model.specs.LevelPlanes.{Direction, level_plane}
use Rattle.hull_polyhedron.specs.declared.faces.Faces.{Faces}
use Rattle.outward_interval.specs.Ends.{EndsBelow}
use Rattle.draft_bracket.specs.DraftBracket.{OfHulls}
use Rattle.loading_sheet.specs.declared.loading.Loading.{Loading}
use Rattle.dynamic_lever.specs.Levers as levers
use Rattle.dynamic_lever.specs.Rows.{IsArmAt, IsUprightRow}
use Rattle.dynamic_lever.specs.Sides.{OnSides, AreSmallLevers}
use Rattle.dynamic_lever.specs.declared.rows.Arm.{Arm}
use Rattle.dynamic_lever.specs.declared.rows.ArmTable.{ArmTable}
use Rattle.dynamic_lever.specs.declared.rows.UprightRow.{UprightRow}
use Rattle.intact_criteria.specs.Choice.{IsPlaneOf}

-- the spans of each row contain GZ and separation of their side at every level plane of the row, that of GM contains GM at every
-- upright level plane between the drafts
pub record HoldFigures (hull : List Station) (loading : Loading) (water : Water) (arms : ArmTable) (upright : UprightRow) : Type 0 where
  pub gz : (k : ℕ) → k ≤ 90 → (arm : Arm) → slice_get arms.rows k ≡ Some arm → (d : Direction) (level : Fraction) → IsPlaneOf k arm d level
      → OnSides (λ side s. ContainsFraction 20 s.lo s.hi (levers.gz loading water (level_plane d level) hull side)) arm.gz
  pub separation : (k : ℕ) → k ≤ 90 → (arm : Arm) → slice_get arms.rows k ≡ Some arm → (d : Direction) (level : Fraction) → IsPlaneOf k arm d level
      → OnSides (λ side s. ContainsFraction 20 s.lo s.hi (levers.separation loading water (level_plane d level) hull side)) arm.sep
  pub gm : (level : Fraction) → ContainsFraction 10 upright.drafts.d1 upright.drafts.d2 level → ContainsFraction 20 upright.gm.lo upright.gm.hi (levers.gm loading water level hull)

-- no end of a lever or a separation reaches 2^95 in magnitude
pub record IsSmallArm (arm : Arm) : Type 0 where
  pub gz : AreSmallLevers arm.gz
  pub sep : AreSmallLevers arm.sep

abbrev pub AreSmallArms : ArmTable → Type 0
AreSmallArms arms = (k : ℕ) (arm : Arm) → slice_get arms.rows k ≡ Some arm → IsSmallArm arm

-- ---- tables of dynamic_lever
-- the rows of `arms` and the row of `upright`
pub record AreRowsOf (faces : Faces) (loading : Loading) (water : Water) (arms : ArmTable) (upright : UprightRow) : Type 0 where
  pub rows : (k : ℕ) (arm : Arm) → slice_get arms.rows k ≡ Some arm → IsArmAt faces loading water k arm
  pub row : IsUprightRow faces loading water upright

-- they are small, and hold the figures of each hull that the faces are the boundary of
pub record RowsSuffice : Type 0 where
  pub small_arms : (faces : Faces) (loading : Loading) (water : Water) (arms : ArmTable) (upright : UprightRow) → AreRowsOf faces loading water arms upright → AreSmallArms arms
  pub small_gm : (faces : Faces) (loading : Loading) (water : Water) (arms : ArmTable) (upright : UprightRow) → AreRowsOf faces loading water arms upright → EndsBelow 95 upright.gm.lo upright.gm.hi
  pub figures : (faces : Faces) (loading : Loading) (water : Water) (arms : ArmTable) (upright : UprightRow) → AreRowsOf faces loading water arms upright
      → OfHulls faces (λ hull. HoldFigures hull loading water arms upright)
