-- The area under GZ from upright to each degree from 0 to 90.
use Rattle.std.specs.Prelude.{◌≡◌, ℕ, ◌≤◌, List, length}
use Rattle.exact_algebra.proofs.Fraction.{Fraction, ◌⊕◌}
use Rattle.hull_model.specs.declared.opening.Opening.{Opening}
use Rattle.hull_model.specs.declared.station.Station.{Station}
use Rattle.hull_model.specs.declared.water.Water.{Water}
use Rattle.loading_sheet.specs.declared.loading.Loading.{Loading}
use Rattle.dynamic_lever.specs.declared.rows.ArmTable.{ArmTable}
use Rattle.dynamic_lever.specs.declared.rows.UprightRow.{UprightRow}
use Rattle.intact_criteria.specs.declared.finding.Side.{Side}
use Rattle.intact_criteria.specs.AreaToFlooding.{area_between}
use Rattle.intact_criteria.specs.Figures.{Figures, area_to}
use Rattle.intact_criteria.specs.Limit.{Contains}
use Rattle.intact_criteria.specs.Narrow.{IsNoWider}
use Rattle.intact_criteria.specs.Readings.{Ends, separation_at}
use Rattle.intact_criteria.specs.Right.{AtEveryChoice}
use Rattle.intact_criteria.specs.Tables.{HoldFigures}

-- its interval on a side, as `area` gives it
abbrev pub area_at : ArmTable → Side → ℕ → Ends
area_at arms side k = area_between (separation_at arms side) 0 k

-- at a choice, by the figures of both sides: each interval contains the exact area
abbrev pub ContainAreas : ArmTable → (Side → Figures) → Type 0
ContainAreas arms figures = (side : Side) (k : ℕ) → k ≤ 90 → Contains (area_at arms side k) (area_to (figures side) k)

-- The intervals of tables that hold the figures contain the exact areas at every choice. None is wider than bounds of the widths of
-- its two separations together.
pub record AreasHoldAtEveryChoice : Type 0 where
  pub contained : (hull : List Station) (loading : Loading) (water : Water) (arms : ArmTable) (upright : UprightRow) (openings : List Opening)
      → length arms.rows ≡ 91 → HoldFigures hull loading water arms upright → AtEveryChoice hull loading water arms upright openings (ContainAreas arms)
  pub narrow : (arms : ArmTable) (side : Side) (k : ℕ) (w v : Fraction) → IsNoWider w (separation_at arms side k) → IsNoWider v (separation_at arms side 0)
      → IsNoWider (w ⊕ v) (area_at arms side k)
