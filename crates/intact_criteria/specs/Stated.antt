-- How wide what is shown of an undecided criterion may be, by what `arms` and `upright` promise of their tables.
use Rattle.std.specs.Prelude.{◌≡◌, ℕ, List, Option, Some, slice_get}
use Rattle.exact_algebra.proofs.Fraction.{Fraction, nought, ◌⊕◌}
use Rattle.angle_bounds.specs.declared.bracket.Bracket.{Bracket}
use Rattle.hull_model.specs.declared.opening.Opening.{Opening}
use Rattle.hull_model.specs.declared.water.Water.{Water}
use Rattle.hull_polyhedron.specs.declared.faces.Faces.{Faces}
use Rattle.flux_moments.specs.declared.plane_box.PlaneBox.{PlaneBox}
use Rattle.draft_bracket.specs.DraftBracket.{IsBoxFrom}
use Rattle.loading_sheet.specs.declared.loading.Loading.{Loading}
use Rattle.dynamic_lever.specs.Rows.{kb_bound, bm_bound}
use Rattle.dynamic_lever.specs.declared.rows.Arm.{Arm}
use Rattle.dynamic_lever.specs.declared.rows.ArmTable.{ArmTable}
use Rattle.dynamic_lever.specs.declared.rows.UprightRow.{UprightRow}
use Rattle.intact_criteria.specs.Brackets.{ByBrackets}
use Rattle.intact_criteria.specs.Narrow.{Widths, IsNarrowIfUndecided, depth_width, lever_width}
use Rattle.intact_criteria.specs.Readings.{readings_of}
use Rattle.intact_criteria.specs.Tables.{AreRowsOf}
use Rattle.intact_criteria.specs.declared.finding.Verdict.{Verdict}

-- the bound of the depth of the opening at a place of the list, at a degree
abbrev pub depth_width_if_there : Option Bracket → Option Arm → Option Opening → Fraction
depth_width_if_there (Some bracket) (Some arm) (Some o) = depth_width bracket arm.drafts o
depth_width_if_there _ _ _ = nought

module _ (faces : Faces) (loading : Loading) (water : Water) (arms : ArmTable) (upright : UprightRow) where
  -- these are the boxes of the planes of each degree's row, and of the upright ship's
  pub record AreBoxesOf (rows : AreRowsOf faces loading water arms upright) (heeled : ℕ → PlaneBox) (level : PlaneBox) : Type 0 where
    pub at_degrees : (k : ℕ) (arm : Arm) (row : slice_get arms.rows k ≡ Some arm) → IsBoxFrom (rows.rows k arm row).0 arm.drafts.d1 arm.drafts.d2 (heeled k)
    pub at_rest : IsBoxFrom rows.row.0 upright.drafts.d1 upright.drafts.d2 level

  -- the bounds that levers, separations and GM keep over these boxes, and depths over their brackets
  abbrev pub stated_widths : List Bracket → List Opening → (ℕ → PlaneBox) → PlaneBox → Widths
  stated_widths brackets openings heeled level = record {
    gz = λ k. lever_width faces loading water (heeled k);
    separation = λ k. lever_width faces loading water (heeled k);
    gm = kb_bound faces loading water level ⊕ bm_bound faces loading water upright.drafts.d1 upright.drafts.d2;
    depth = λ place k. depth_width_if_there (slice_get brackets k) (slice_get arms.rows k) (slice_get openings place);
  }

  -- what an undecided verdict shows keeps its bound over the boxes of the rows
  abbrev pub IsAsNarrowAsStated : List Opening → Verdict → Type 0
  IsAsNarrowAsStated openings verdict = ByBrackets (λ brackets. (rows : AreRowsOf faces loading water arms upright) (heeled : ℕ → PlaneBox) (level : PlaneBox) → AreBoxesOf rows heeled level
      → IsNarrowIfUndecided (λ side. stated_widths brackets openings heeled level) (readings_of brackets arms upright openings) verdict)
