-- What is as narrow as the readings is as narrow as is stated of the tables of `arms` and `upright`.
use Rattle.std.proofs.Common.{◌≡◌, refl, [], ◌∷◌, ◌^◌, ℕ, ◌≤◌, pos, length, List, Option, Some, None, slice_get}
use Rattle.exact_algebra.specs.Expression.{var, number, ◌:-◌, ◌:*◌}
use Rattle.exact_algebra.proofs.Fraction.{nought, fractions, fraction_ring, ◌⊖◌, ◌⊗◌}
use Rattle.exact_algebra.proofs.Order as Order
use Rattle.exact_algebra.proofs.Ring.{ring}
use Rattle.exact_algebra.proofs.Whole.{whole}
use Rattle.angle_bounds.specs.declared.bracket.Bracket.{Bracket}
use Rattle.hull_model.specs.declared.opening.Opening.{Opening}
use Rattle.hull_model.specs.declared.water.Water.{Water}
use Rattle.hull_polyhedron.specs.declared.faces.Faces.{Faces}
use Rattle.flux_moments.specs.declared.plane_box.PlaneBox.{PlaneBox}
use Rattle.outward_interval.specs.Widths.{IsNarrow}
use Rattle.loading_sheet.specs.declared.loading.Loading.{Loading}
use Rattle.dynamic_lever.specs.declared.rows.Arm.{Arm}
use Rattle.dynamic_lever.specs.declared.rows.ArmTable.{ArmTable}
use Rattle.dynamic_lever.specs.declared.rows.UprightRow.{UprightRow}
use Rattle.intact_criteria.specs.Brackets.{ByBrackets}
use Rattle.intact_criteria.specs.Narrow.{AreNarrow, IsAsNarrowAsRead, IsNoWider}
use Rattle.intact_criteria.specs.Readings.{depth_at, depth_if_there, nothing, readings_of}
use Rattle.intact_criteria.specs.Stated.{AreBoxesOf, IsAsNarrowAsStated, depth_width_if_there, stated_widths}
use Rattle.intact_criteria.specs.Tables.{AreRowsOf}
use Rattle.intact_criteria.specs.declared.finding.Side.{Side}
use Rattle.intact_criteria.specs.declared.finding.Verdict.{Verdict}
use Rattle.intact_criteria.proofs.DepthWidths.{depths_are_narrow}
use Rattle.intact_criteria.proofs.ReadRows.{at_degree}
use Rattle.intact_criteria.proofs.Rows.{rows_are_narrow}

nothing_is_narrow : IsNoWider nought nothing
nothing_is_narrow = record { width = Order.≼_same fractions (ring fraction_ring (whole (pos 0) ∷ whole (pos (2 ^ 20)) ∷ []) (var 0 :- var 0) (number 0 :* var 1) refl) }

depth_narrow : (bracket : Option Bracket) (arm : Option Arm) (o : Option Opening) → IsNoWider (depth_width_if_there bracket arm o) (depth_if_there bracket arm o)
depth_narrow (Some bracket) (Some arm) (Some o) = depths_are_narrow bracket arm.drafts o
depth_narrow (Some bracket) (Some arm) None = nothing_is_narrow
depth_narrow (Some bracket) None o = nothing_is_narrow
depth_narrow None arm o = nothing_is_narrow

module _ (faces : Faces) (loading : Loading) (water : Water) (arms : ArmTable) (upright : UprightRow) (openings : List Opening) (count : length arms.rows ≡ 91) where
  readings_are_narrow : (brackets : List Bracket) (rows : AreRowsOf faces loading water arms upright) (heeled : ℕ → PlaneBox) (level : PlaneBox)
      → AreBoxesOf faces loading water arms upright rows heeled level → (side : Side)
      → AreNarrow (stated_widths faces loading water arms upright brackets openings heeled level) (readings_of brackets arms upright openings side)
  unfolding depth_at
  readings_are_narrow brackets rows heeled level boxes side = record {
    gz = λ k few. let row = at_degree arms.rows count k few in
        (rows_are_narrow.levers faces loading water arms upright rows k row.0 row.1 (heeled k) (boxes.at_degrees k row.0 row.1) side).0;
    separation = λ k few. let row = at_degree arms.rows count k few in
        (rows_are_narrow.levers faces loading water arms upright rows k row.0 row.1 (heeled k) (boxes.at_degrees k row.0 row.1) side).1;
    gm = rows_are_narrow.gm faces loading water arms upright rows level boxes.at_rest;
    depth = λ place k few. depth_narrow (slice_get brackets k) (slice_get arms.rows k) (slice_get openings place);
  }

  pub as_stated : (verdict : Verdict) → ByBrackets (λ brackets. IsAsNarrowAsRead (readings_of brackets arms upright openings) verdict)
      → IsAsNarrowAsStated faces loading water arms upright openings verdict
  as_stated verdict read = (
    read.0,
    read.1,
    λ rows heeled level boxes.
        read.2 (λ side. stated_widths faces loading water arms upright read.0 openings heeled level) (readings_are_narrow read.0 rows heeled level boxes),
  )
