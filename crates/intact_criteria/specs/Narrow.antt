-- How wide what is shown of an undecided criterion may be, by bounds of what is read of the tables.
use Rattle.std.specs.Prelude.{◌≡◌, ⊤, ℕ, zero, suc, ◌+◌, ◌≤◌, ◌-ℤ◌, Some, slice_get}
use Rattle.std.specs.Int.{int_max}
use Rattle.exact_algebra.proofs.Fraction.{Fraction, nought, ◌⊕◌, ◌⊗◌}
use Rattle.exact_algebra.proofs.Whole.{whole}
use Rattle.angle_bounds.specs.declared.bracket.Bracket.{Bracket}
use Rattle.hull_model.specs.declared.opening.Opening.{Opening}
use Rattle.hull_model.specs.declared.water.Water.{Water}
use Rattle.hull_polyhedron.specs.declared.faces.Faces.{Faces}
use Rattle.outward_interval.specs.Widths.{unit_of, IsNarrow}
use Rattle.plane_clip.specs.Enclosure.{in_unit}
use Rattle.flux_moments.specs.declared.plane_box.PlaneBox.{PlaneBox}
use Rattle.flux_moments.specs.Widths.{size_of, reach_of, volume_bound}
use Rattle.draft_bracket.specs.DraftBracket.{IsBoxFrom}
use Rattle.draft_bracket.specs.declared.drafts.Drafts.{Drafts}
use Rattle.loading_sheet.specs.declared.loading.Loading.{Loading}
use Rattle.dynamic_lever.specs.Levers.{lever_bound}
use Rattle.dynamic_lever.specs.Rows.{kb_bound, bm_bound}
use Rattle.dynamic_lever.specs.declared.rows.Arm.{Arm}
use Rattle.dynamic_lever.specs.declared.rows.ArmTable.{ArmTable}
use Rattle.dynamic_lever.specs.declared.rows.UprightRow.{UprightRow}
use Rattle.intact_criteria.specs.declared.finding.Shown.{Shown}
use Rattle.intact_criteria.specs.declared.finding.Shown.TheVariants as shown
use Rattle.intact_criteria.specs.declared.finding.Side.{Side}
use Rattle.intact_criteria.specs.declared.finding.Verdict.{Verdict}
use Rattle.intact_criteria.specs.declared.finding.Verdict.TheVariants as verdict
use Rattle.intact_criteria.specs.Readings.{Ends, Readings, ends_of, gz_at, separation_at, depth_of}
use Rattle.intact_criteria.specs.Tables.{AreRowsOf}

-- bounds of the widths of GZ and separation by the degree, of GM, and of a depth by the place of the opening and the degree
pub record Widths : Type 0 where
  pub gz : ℕ → Fraction
  pub separation : ℕ → Fraction
  pub gm : Fraction
  pub depth : ℕ → ℕ → Fraction

abbrev pub IsNoWider : Fraction → Ends → Type 0
IsNoWider w ends = IsNarrow 20 w ends.lo ends.hi

-- what is read of a side keeps them
pub record AreNarrow (w : Widths) (r : Readings) : Type 0 where
  pub gz : (k : ℕ) → k ≤ 90 → IsNoWider (w.gz k) (r.gz k)
  pub separation : (k : ℕ) → k ≤ 90 → IsNoWider (w.separation k) (r.separation k)
  pub gm : IsNoWider w.gm r.gm
  pub depth : (place k : ℕ) → k ≤ 90 → IsNoWider (w.depth place k) (r.leaks.depth place k)

-- the bound of the interval that the rule of a criterion reads at a degree; an area is the difference of two separations
abbrev pub width_of : ℕ → Widths → ℕ → Fraction
width_of zero w k = nought
width_of (suc zero) w k = w.separation k ⊕ w.separation 0
width_of (suc (suc zero)) w k = w.separation k ⊕ w.separation 0
width_of (suc (suc (suc zero))) w k = w.separation k ⊕ w.separation 30
width_of (suc (suc (suc (suc zero)))) w k = w.gz k
width_of (suc (suc (suc (suc (suc zero))))) w k = w.gz k
width_of (suc (suc (suc (suc (suc (suc n)))))) w k = w.gm

-- a leak is shown by the number of its opening, which counts from 1
pub record IsNarrowLeak (w : Widths) (opening degree : ℕ) (ends : Ends) : Type 0 where
  pub place : ℕ
  pub number : opening ≡ place + 1
  pub narrow : IsNoWider (w.depth place degree) ends

-- no wider than the criterion's bound; of a pair, neither lever is wider than its own
abbrev pub IsNarrowShown : ℕ → Widths → Readings → Shown → Type 0
IsNarrowShown n w r (shown.Interval degree span) = IsNarrow 20 (width_of n w degree) span.lo span.hi
IsNarrowShown n w r (shown.Pair low high) = IsNoWider (w.gz low) (r.gz low) × IsNoWider (w.gz high) (r.gz high)
IsNarrowShown n w r (shown.Leak opening degree span) = IsNarrowLeak w opening degree (record { lo = span.lo; hi = span.hi })

-- on the side that an undecided verdict names
abbrev pub IsNarrowIfUndecided : (Side → Widths) → (Side → Readings) → Verdict → Type 0
IsNarrowIfUndecided w r verdict.Pass = ⊤
IsNarrowIfUndecided w r (verdict.Fail n side shown) = ⊤
IsNarrowIfUndecided w r (verdict.Undecided n side shown) = IsNarrowShown n (w side) (r side) shown

-- where the readings of both sides keep bounds, so does what is shown
abbrev pub IsAsNarrowAsRead : (Side → Readings) → Verdict → Type 0
IsAsNarrowAsRead r verdict = (w : Side → Widths) → ((side : Side) → AreNarrow (w side) (r side)) → IsNarrowIfUndecided w r verdict

-- ---- depths of openings
-- how far the drafts lie apart, how far cosine and sine turn times the distances of the opening, and 2^-16 mm
abbrev pub depth_width : Bracket → Drafts → Opening → Fraction
depth_width bracket drafts o =
    (in_unit 10 (drafts.d2 -ℤ drafts.d1) ⊕ in_unit 40 (int_max (bracket.c.hi -ℤ bracket.c.lo) (bracket.s.hi -ℤ bracket.s.lo)) ⊗ (whole o.y ⊕ whole o.z)) ⊕ unit_of 16

abbrev pub DepthsAreNarrow : Type 0
DepthsAreNarrow = (bracket : Bracket) (drafts : Drafts) (o : Opening) → IsNoWider (depth_width bracket drafts o) (depth_of bracket drafts o)

-- ---- tables of dynamic_lever
abbrev pub lever_width : Faces → Loading → Water → PlaneBox → Fraction
lever_width faces loading water planes = lever_bound loading water (reach_of faces planes ⊗ volume_bound faces planes) (size_of planes).turn

-- over the box of a row's planes, levers and separations are no wider than `arms` promises, and GM than `upright` does
pub record RowsAreNarrow : Type 0 where
  pub levers : (faces : Faces) (loading : Loading) (water : Water) (arms : ArmTable) (upright : UprightRow) (rows : AreRowsOf faces loading water arms upright)
      (k : ℕ) (arm : Arm) (row : slice_get arms.rows k ≡ Some arm) (planes : PlaneBox) → IsBoxFrom (rows.rows k arm row).0 arm.drafts.d1 arm.drafts.d2 planes → (side : Side)
      → IsNoWider (lever_width faces loading water planes) (gz_at arms side k) × IsNoWider (lever_width faces loading water planes) (separation_at arms side k)
  pub gm : (faces : Faces) (loading : Loading) (water : Water) (arms : ArmTable) (upright : UprightRow) (rows : AreRowsOf faces loading water arms upright)
      (planes : PlaneBox) → IsBoxFrom rows.row.0 upright.drafts.d1 upright.drafts.d2 planes
      → IsNoWider (kb_bound faces loading water planes ⊕ bm_bound faces loading water upright.drafts.d1 upright.drafts.d2) (ends_of upright.gm)
