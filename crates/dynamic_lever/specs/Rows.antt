-- What a row of the table of levers, and the row of the upright ship, are right by.
use Rattle.std.specs.Prelude.{ℕ, ℤ, List}
use Rattle.exact_algebra.proofs.Fraction.{Fraction, ◌⊕◌, ◌⊗◌}
use Rattle.exact_algebra.proofs.Span.{ContainsFraction}
use Rattle.exact_algebra.proofs.Whole.{whole}
use Rattle.angle_bounds.specs.Degrees.{IsDegreeBracket}
use Rattle.angle_bounds.specs.declared.bracket.Bracket.{Bracket}
use Rattle.hull_model.specs.declared.station.Station.{Station}
use Rattle.hull_model.specs.declared.water.Water.{Water}
use Rattle.hull_model.specs.LevelPlanes.{Direction, level_plane}
use Rattle.hull_model.specs.Waterplane.{Waterplane}
use Rattle.hull_polyhedron.specs.declared.faces.Faces.{Faces}
use Rattle.outward_interval.specs.Ends.{EndsBelow}
use Rattle.outward_interval.specs.Widths.{IsNarrow}
use Rattle.outward_interval.specs.declared.span.Span.{Span}
use Rattle.flux_moments.specs.declared.plane_box.PlaneBox.{PlaneBox}
use Rattle.flux_moments.specs.Widths.{size_of, reach_of, volume_bound, lid_bound}
use Rattle.draft_bracket.specs.DraftBracket.{OfHulls, IsBoxFrom, IsSharpBracket}
use Rattle.draft_bracket.specs.GridLevels.{LiesIn}
use Rattle.loading_sheet.specs.Centre.{displaced}
use Rattle.loading_sheet.specs.declared.loading.Loading.{Loading}
use Rattle.dynamic_lever.specs.Levers.{gz, separation, kb, bm, gm, quotient_bound, lever_bound}
use Rattle.dynamic_lever.specs.Sides.{OnSides, OnBoth, AreSmallLevers}
use Rattle.dynamic_lever.specs.declared.rows.Arm.{Arm}
use Rattle.dynamic_lever.specs.declared.rows.UprightRow.{UprightRow}

module _ (bracket : Bracket) (d1 d2 : ℤ) where
  -- the spans of both sides contain the figure of their side at every level plane between the drafts, at every direction of the bracket
  abbrev pub HoldOnSides : (Waterplane → List Station → Fraction → Fraction) → List (Span 20) → List Station → Type 0
  HoldOnSides figure spans hull = (d : Direction) → LiesIn bracket d → (at : Fraction) → ContainsFraction 10 d1 d2 at
      → OnSides (λ side s. ContainsFraction 20 s.lo s.hi (figure (level_plane d at) hull side)) spans

  -- neither is wider than a lever may be over the box of these planes
  abbrev pub AreNarrowLevers : Faces → Loading → Water → List (Span 20) → Type 0
  AreNarrowLevers faces loading water spans = (planes : PlaneBox) → IsBoxFrom bracket d1 d2 planes
      → OnBoth (λ s. IsNarrow 20 (lever_bound loading water (reach_of faces planes ⊗ volume_bound faces planes) (size_of planes).turn) s.lo s.hi) spans

module _ (faces : Faces) (loading : Loading) (water : Water) where
  -- a sharp draft bracket of the displaced volume over a bracket of directions, and levers at all its planes
  pub record AreLeversOver (bracket : Bracket) (arm : Arm) : Type 0 where
    pub drafts : OfHulls faces (IsSharpBracket faces bracket (displaced loading water) arm.drafts.d1 arm.drafts.d2)
    pub gz : OfHulls faces (HoldOnSides bracket arm.drafts.d1 arm.drafts.d2 (gz loading water) arm.gz)
    pub sep : OfHulls faces (HoldOnSides bracket arm.drafts.d1 arm.drafts.d2 (separation loading water) arm.sep)
    pub gz_width : AreNarrowLevers bracket arm.drafts.d1 arm.drafts.d2 faces loading water arm.gz
    pub sep_width : AreNarrowLevers bracket arm.drafts.d1 arm.drafts.d2 faces loading water arm.sep
    pub gz_ends : AreSmallLevers arm.gz
    pub sep_ends : AreSmallLevers arm.sep

  -- the row of k degrees
  abbrev pub IsArmAt : ℕ → Arm → Type 0
  IsArmAt k arm = (bracket : Bracket) × IsDegreeBracket k bracket.low.c bracket.low.s bracket.low.r bracket.high.c bracket.high.s bracket.high.r × AreLeversOver bracket arm

  -- a figure at every upright level plane between the drafts
  abbrev pub HoldsUpright : (d1 d2 : ℤ) → (Fraction → List Station → Fraction) → Span 20 → List Station → Type 0
  HoldsUpright d1 d2 figure s hull = (at : Fraction) → ContainsFraction 10 d1 d2 at → ContainsFraction 20 s.lo s.hi (figure at hull)

  -- how wide KB and BM may be over the box of these planes
  abbrev pub kb_bound : PlaneBox → Fraction
  kb_bound planes = quotient_bound loading water (reach_of faces planes ⊗ volume_bound faces planes)

  abbrev pub bm_bound : (d1 d2 : ℤ) → Fraction
  bm_bound d1 d2 = quotient_bound loading water ((whole faces.half_breadth ⊗ whole faces.half_breadth) ⊗ lid_bound faces d1 d2)

  pub record IsUprightOver (bracket : Bracket) (row : UprightRow) : Type 0 where
    pub drafts : OfHulls faces (IsSharpBracket faces bracket (displaced loading water) row.drafts.d1 row.drafts.d2)
    pub kb : OfHulls faces (HoldsUpright row.drafts.d1 row.drafts.d2 (kb loading water) row.kb)
    pub bm : OfHulls faces (HoldsUpright row.drafts.d1 row.drafts.d2 (bm loading water) row.bm)
    pub gm : OfHulls faces (HoldsUpright row.drafts.d1 row.drafts.d2 (gm loading water) row.gm)
    pub kb_width : (planes : PlaneBox) → IsBoxFrom bracket row.drafts.d1 row.drafts.d2 planes → IsNarrow 20 (kb_bound planes) row.kb.lo row.kb.hi
    pub bm_width : IsNarrow 20 (bm_bound row.drafts.d1 row.drafts.d2) row.bm.lo row.bm.hi
    pub gm_width : (planes : PlaneBox) → IsBoxFrom bracket row.drafts.d1 row.drafts.d2 planes → IsNarrow 20 (kb_bound planes ⊕ bm_bound row.drafts.d1 row.drafts.d2) row.gm.lo row.gm.hi
    pub kb_ends : EndsBelow 95 row.kb.lo row.kb.hi
    pub bm_ends : EndsBelow 95 row.bm.lo row.bm.hi
    pub gm_ends : EndsBelow 95 row.gm.lo row.gm.hi

  -- at the one direction of 0 degrees
  abbrev pub IsUprightRow : UprightRow → Type 0
  IsUprightRow row = (bracket : Bracket) × IsDegreeBracket 0 bracket.low.c bracket.low.s bracket.low.r bracket.high.c bracket.high.s bracket.high.r × IsUprightOver bracket row
