-- How large the areas of parts of faces are, and how wide the columns of parts may be by these, and sums of them.
use Rattle.std.specs.Prelude.{ℕ, ◌+◌, max, pos, List}
use Rattle.std.specs.Int.RustNames.{unsigned_abs}
use Rattle.exact_algebra.proofs.Fraction.{Fraction, one, ◌⊕◌, ◌⊗◌, ◌≼◌}
use Rattle.exact_algebra.proofs.Whole.{whole}
use Rattle.hull_model.specs.Fractions.{sum_over}
use Rattle.outward_interval.specs.Widths.{units, IsNarrow}
use Rattle.plane_clip.specs.declared.part.Part.{Part}
use Rattle.plane_clip.specs.Enclosure.{in_unit}
use Rattle.plane_clip.specs.Extents.{ArePartExtents}
use Rattle.flux_moments.specs.declared.plane_box.PlaneBox.{PlaneBox}
use Rattle.flux_moments.specs.declared.wet.Wet.{Wet}
use Rattle.flux_moments.specs.Sizes.{BoxSize, HasSize}

-- the greatest magnitudes of a part's doubled areas as they are seen from the side and from above, and both together
abbrev pub side_area : Part → Fraction
side_area p = in_unit 20 (pos (max (unsigned_abs p.ay.lo) (unsigned_abs p.ay.hi)))

abbrev pub top_area : Part → Fraction
top_area p = in_unit 20 (pos (max (unsigned_abs p.az.lo) (unsigned_abs p.az.hi)))

abbrev pub part_area : Part → Fraction
part_area p = side_area p ⊕ top_area p

-- ---- with h for the reach, s for the spread, a for the area of the part
-- twice the volume of a part's column, the integral over it of x, which is at most x, and that of a height or a side
abbrev pub part_volume : (h s a : Fraction) → Fraction
part_volume h s a = ((a ⊕ one) ⊗ ((s ⊕ s) ⊕ units 20 40) ⊕ units 20 16 ⊗ h) ⊕ units 20 2

abbrev pub part_length : (x h s a : Fraction) → Fraction
part_length x h s a = x ⊗ (((a ⊕ one) ⊗ ((s ⊕ s) ⊕ units 20 80) ⊕ units 20 16 ⊗ h) ⊕ units 20 6)

abbrev pub part_height : (h s a : Fraction) → Fraction
part_height h s a = h ⊗ ((((a ⊕ one) ⊗ (((s ⊕ s) ⊕ (s ⊕ s)) ⊕ units 20 96) ⊕ units 20 40 ⊗ h) ⊕ s) ⊕ units 20 24)

-- the columns of a part are no wider, where its corners lie no farther than x from the origin
pub record ArePartWidths (x h s a : Fraction) (columns : Wet) : Type 0 where
  pub volume : IsNarrow 20 (part_volume h s a) columns.volume.lo columns.volume.hi
  pub mx : IsNarrow 20 (part_length x h s a) columns.mx.lo columns.mx.hi
  pub mv : IsNarrow 20 (part_height h s a) columns.mv.lo columns.mv.hi
  pub mu : IsNarrow 20 (part_height h s a) columns.mu.lo columns.mu.hi

-- the sums over the columns of parts are no wider
pub record ArePartSumWidths (x h s : Fraction) (parts : List Part) (sums : Wet) : Type 0 where
  pub volume : IsNarrow 20 (sum_over (λ p. part_volume h s (part_area p)) parts) sums.volume.lo sums.volume.hi
  pub mx : IsNarrow 20 (sum_over (λ p. part_length x h s (part_area p)) parts) sums.mx.lo sums.mx.hi
  pub mv : IsNarrow 20 (sum_over (λ p. part_height h s (part_area p)) parts) sums.mv.lo sums.mv.hi
  pub mu : IsNarrow 20 (sum_over (λ p. part_height h s (part_area p)) parts) sums.mu.lo sums.mu.hi

-- corners no farther than y mm from the centreplane and no higher than z mm, by spans at most 3 units wide, are reached by h, which is 1 at
-- least, over a box no larger than b
pub record ArePartsReached (planes : PlaneBox) (parts : List Part) (b : BoxSize) (h : Fraction) (y z : ℕ) : Type 0 where
  pub size : HasSize planes b
  pub some : one ≼ h
  pub reached : b.level ⊕ whole (pos (z + y)) ≼ h
  pub extents : ArePartExtents y z 3 parts
