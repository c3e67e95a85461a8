-- The sizes of the corners of a face, and how wide its columns may be by these, and sums of them.
use Rattle.std.specs.Prelude.{List}
use Rattle.exact_algebra.proofs.Fraction.{Fraction, ◌⊗◌}
use Rattle.hull_model.specs.declared.face.Face.{Face}
use Rattle.hull_model.specs.Fractions.{sum_over}
use Rattle.outward_interval.specs.declared.span.Span.{Span}
use Rattle.outward_interval.specs.Widths.{IsNarrow, IsNear}
use Rattle.flux_moments.specs.declared.corner.Corner.{Corner}
use Rattle.flux_moments.specs.declared.wet.Wet.{Wet}
use Rattle.flux_moments.specs.Sizes.{IsCornerSize, AreSizes, doubled_area, volume_part, length_part, height_part}

-- three corners and a factor for the area
pub record AreColumnSizes (s h a e : Fraction) (first second third : Corner) (factor : Span 40) : Type 0 where
  pub sizes : AreSizes s h a e
  pub first_size : IsCornerSize s h first.depth first.side first.middle
  pub second_size : IsCornerSize s h second.depth second.side second.middle
  pub third_size : IsCornerSize s h third.depth third.side third.middle
  pub factor_width : IsNarrow 40 (e ⊗ a) factor.lo factor.hi
  pub factor_reach : IsNear 40 a factor.lo factor.hi

-- the columns of a face are no wider, where its corners lie no farther than x from the origin
pub record AreColumnWidths (x h s a : Fraction) (columns : Wet) : Type 0 where
  pub volume : IsNarrow 20 (volume_part s a) columns.volume.lo columns.volume.hi
  pub mx : IsNarrow 20 (length_part x s a) columns.mx.lo columns.mx.hi
  pub mv : IsNarrow 20 (height_part h s a) columns.mv.lo columns.mv.hi
  pub mu : IsNarrow 20 (height_part h s a) columns.mu.lo columns.mu.hi

-- the sums over the columns of faces are no wider
pub record AreSumWidths (x h s : Fraction) (faces : List Face) (sums : Wet) : Type 0 where
  pub volume : IsNarrow 20 (sum_over (λ f. volume_part s (doubled_area f)) faces) sums.volume.lo sums.volume.hi
  pub mx : IsNarrow 20 (sum_over (λ f. length_part x s (doubled_area f)) faces) sums.mx.lo sums.mx.hi
  pub mv : IsNarrow 20 (sum_over (λ f. height_part h s (doubled_area f)) faces) sums.mv.lo sums.mv.hi
  pub mu : IsNarrow 20 (sum_over (λ f. height_part h s (doubled_area f)) faces) sums.mu.lo sums.mu.hi
