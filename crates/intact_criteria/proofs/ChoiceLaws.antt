-- The intervals of tables that hold the figures contain the levers and separations of each choice.
use Rattle.std.proofs.Common.{◌≡◌, ℕ, ◌≤◌, List, length, Some, slice_get}
use Rattle.hull_model.specs.declared.station.Station.{Station}
use Rattle.hull_model.specs.declared.water.Water.{Water}
use Rattle.loading_sheet.specs.declared.loading.Loading.{Loading}
use Rattle.dynamic_lever.specs.Levers as levers
use Rattle.dynamic_lever.specs.declared.rows.Arm.{Arm}
use Rattle.dynamic_lever.specs.declared.rows.ArmTable.{ArmTable}
use Rattle.dynamic_lever.specs.declared.rows.UprightRow.{UprightRow}
use Rattle.intact_criteria.specs.declared.finding.Side.{Side}
use Rattle.intact_criteria.specs.Choice.{Choice, IsChoice}
use Rattle.intact_criteria.specs.Figures.{plane_at, sign_of}
use Rattle.intact_criteria.specs.Limit.{Contains}
use Rattle.intact_criteria.specs.Readings.{gz_at, separation_at}
use Rattle.intact_criteria.specs.Tables.{HoldFigures}
use Rattle.intact_criteria.proofs.ReadRows.{at_degree, gz_of_side, separation_of_side}

module _ (arms : ArmTable) (some_rows : length arms.rows ≡ 91) (upright : UprightRow) (hull : List Station) (loading : Loading) (water : Water)
    (hold : HoldFigures hull loading water arms upright) (choice : Choice) (is : IsChoice arms upright choice) (side : Side) (k : ℕ) (few : k ≤ 90) where
  row : (arm : Arm) × (slice_get arms.rows k ≡ Some arm)
  row = at_degree arms.rows some_rows k few

  pub gz_contained : Contains (gz_at arms side k) (levers.gz loading water (plane_at choice k) hull (sign_of side))
  gz_contained = gz_of_side arms side k row.0 row.1 (λ sign ends. Contains ends (levers.gz loading water (plane_at choice k) hull sign))
      (hold.gz k few row.0 row.1 (choice.direction k) (choice.level k) (is.planes k few row.0 row.1))

  pub separation_contained : Contains (separation_at arms side k) (levers.separation loading water (plane_at choice k) hull (sign_of side))
  separation_contained = separation_of_side arms side k row.0 row.1 (λ sign ends. Contains ends (levers.separation loading water (plane_at choice k) hull sign))
      (hold.separation k few row.0 row.1 (choice.direction k) (choice.level k) (is.planes k few row.0 row.1))
