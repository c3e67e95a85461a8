-- What is read of small tables is small.
use Rattle.std.proofs.Common.{◌≡◌, ℕ, ◌≤◌, length, Some, slice_get}
use Rattle.outward_interval.specs.Ends.{EndsBelow}
use Rattle.dynamic_lever.specs.declared.rows.Arm.{Arm}
use Rattle.dynamic_lever.specs.declared.rows.ArmTable.{ArmTable}
use Rattle.intact_criteria.specs.declared.finding.Side.{Side}
use Rattle.intact_criteria.specs.Readings.{gz_at, separation_at}
use Rattle.intact_criteria.specs.Tables.{AreSmallArms}
use Rattle.intact_criteria.proofs.ReadRows.{at_degree, each_side, gz_of_side, separation_of_side}
use Rattle.intact_criteria.proofs.Soundness.{IsSmall}

module _ (arms : ArmTable) (some_rows : length arms.rows ≡ 91) (small : AreSmallArms arms) (side : Side) (k : ℕ) (few : k ≤ 90) where
  row : (arm : Arm) × (slice_get arms.rows k ≡ Some arm)
  row = at_degree arms.rows some_rows k few

  pub gz_small : IsSmall (gz_at arms side k)
  gz_small = gz_of_side arms side k row.0 row.1 (λ sign ends. IsSmall ends) (each_side (λ s. EndsBelow 95 s.lo s.hi) row.0.gz (small k row.0 row.1).gz)

  pub separation_small : IsSmall (separation_at arms side k)
  separation_small = separation_of_side arms side k row.0 row.1 (λ sign ends. IsSmall ends) (each_side (λ s. EndsBelow 95 s.lo s.hi) row.0.sep (small k row.0 row.1).sep)
