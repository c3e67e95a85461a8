-- The sums over the columns of faces at an upright plane, as a loop makes them.
use Rattle.std.proofs.Common.{◌≡◌, ℕ, ◌+◌, ◌*◌, ◌^◌, ◌<◌, pos, ◌+ℤ◌, ℤ, List, length, take, get_or, arith}
use Rattle.std.specs.List.{AllByRecursion}
use Rattle.exact_algebra.proofs.Fraction.{Fraction, one, ◌⊗◌, ◌≼◌}
use Rattle.exact_algebra.proofs.Span.{ContainsFraction}
use Rattle.exact_algebra.proofs.Whole.{whole}
use Rattle.hull_model.specs.declared.face.Face.{Face}
use Rattle.hull_model.specs.Fractions.{sum_over}
use Rattle.hull_model.specs.Waterplane.{Waterplane}
use Rattle.outward_interval.specs.Ends.{AreEnds, EndsBelow}
use Rattle.outward_interval.specs.Widths.{IsNarrow}
use Rattle.flux_moments.specs.Columns.{column_volume, column_integral}
use Rattle.flux_moments.specs.Limits.{EndsAtMost}
use Rattle.flux_moments.specs.Planes.{IsIn}
use Rattle.flux_moments.specs.Sizes.{BoxSize, HasSize, Reaches, AreReached, spread, doubled_area, volume_part, length_part}
use Rattle.flux_moments.specs.declared.plane_box.PlaneBox.{PlaneBox}
use Rattle.flux_moments.proofs.ColumnSums.{IsColumnSum, one_list, sum-start, sum-step, sum-allowed, narrow-start, narrow-step, reached_at}
use Rattle.compartment_loss.specs.declared.upright_wet.UprightWet.{UprightWet}

module _ (planes : PlaneBox) (first last : ℤ) (faces : List Face) where
  pub record AreUprightSums (count : ℕ) (sums : UprightWet) : Type 0 where
    pub volume : IsColumnSum planes first last faces (λ plane. column_volume plane first last) 2 (2 ^ 79) count sums.volume
    pub mx : IsColumnSum planes first last faces (λ plane. column_integral plane first last (λ p. p.x)) 2 (3 * 2 ^ 97) count sums.mx
    pub volume_width : (b : BoxSize) (h : Fraction) → AreReached planes faces b h → IsNarrow 20 (sum_over (λ f. volume_part (spread b h) (doubled_area f)) (take count faces)) sums.volume.lo sums.volume.hi
    pub mx_width : (b : BoxSize) (h : Fraction) → AreReached planes faces b h → IsNarrow 20 (sum_over (λ f. length_part (whole last) (spread b h) (doubled_area f)) (take count faces)) sums.mx.lo sums.mx.hi

  pub upright-start : (sums : UprightWet) → (sums.volume.lo ≡ pos 0) × (sums.volume.hi ≡ pos 0) → (sums.mx.lo ≡ pos 0) × (sums.mx.hi ≡ pos 0) → AreUprightSums 0 sums
  upright-start sums e f = record {
    volume = sum-start (IsIn planes) (λ plane. column_volume plane first last) 2 (2 ^ 79) (one_list faces) sums.volume e;
    mx = sum-start (IsIn planes) (λ plane. column_integral plane first last (λ p. p.x)) 2 (3 * 2 ^ 97) (one_list faces) sums.mx f;
    volume_width = λ b h are. narrow-start _ faces sums.volume e;
    mx_width = λ b h are. narrow-start _ faces sums.mx f;
  }

  module _ (count : ℕ) (sums column : UprightWet) (more : count < length faces) (before : AreUprightSums count sums)
      (volume_ends : EndsAtMost (2 ^ 79) column.volume.lo column.volume.hi) (mx_ends : EndsAtMost (3 * 2 ^ 97) column.mx.lo column.mx.hi) where
    pub volume-fits : length faces < 2 ^ 14 → EndsBelow 126 (sums.volume.lo +ℤ column.volume.lo) (sums.volume.hi +ℤ column.volume.hi)
    volume-fits few = sum-allowed (IsIn planes) (λ plane. column_volume plane first last) 2 (2 ^ 79) (one_list faces) count sums.volume column.volume more before.volume volume_ends (2 ^ 14) few (omega arith)

    pub mx-fits : length faces < 2 ^ 14 → EndsBelow 126 (sums.mx.lo +ℤ column.mx.lo) (sums.mx.hi +ℤ column.mx.hi)
    mx-fits few = sum-allowed (IsIn planes) (λ plane. column_integral plane first last (λ p. p.x)) 2 (3 * 2 ^ 97) (one_list faces) count sums.mx column.mx more before.mx mx_ends (2 ^ 14) few (omega arith)

    pub upright-more : (other : Face) (result : UprightWet)
        → ((plane : Waterplane) → IsIn planes plane → ContainsFraction 20 column.volume.lo column.volume.hi (column_volume plane first last (get_or faces count other) ⊗ whole (pos 2)))
        → ((plane : Waterplane) → IsIn planes plane → ContainsFraction 20 column.mx.lo column.mx.hi (column_integral plane first last (λ p. p.x) (get_or faces count other) ⊗ whole (pos 2)))
        → ((b : BoxSize) (h : Fraction) → HasSize planes b → one ≼ h → AllByRecursion (Reaches b h) (get_or faces count other).p
        → IsNarrow 20 (volume_part (spread b h) (doubled_area (get_or faces count other))) column.volume.lo column.volume.hi)
        → ((b : BoxSize) (h : Fraction) → HasSize planes b → one ≼ h → AllByRecursion (Reaches b h) (get_or faces count other).p
        → IsNarrow 20 (length_part (whole last) (spread b h) (doubled_area (get_or faces count other))) column.mx.lo column.mx.hi)
        → AreEnds (sums.volume.lo +ℤ column.volume.lo) (sums.volume.hi +ℤ column.volume.hi) result.volume.lo result.volume.hi
        → AreEnds (sums.mx.lo +ℤ column.mx.lo) (sums.mx.hi +ℤ column.mx.hi) result.mx.lo result.mx.hi → AreUprightSums (count + 1) result
    upright-more other result volume mx volume_width mx_width v m = record {
      volume = sum-step (IsIn planes) (λ plane. column_volume plane first last) 2 (2 ^ 79) (one_list faces) count sums.volume column.volume more before.volume volume_ends other result.volume volume v;
      mx = sum-step (IsIn planes) (λ plane. column_integral plane first last (λ p. p.x)) 2 (3 * 2 ^ 97) (one_list faces) count sums.mx column.mx more before.mx mx_ends other result.mx mx m;
      volume_width = λ b h are. narrow-step (λ f. volume_part (spread b h) (doubled_area f)) faces count other sums.volume column.volume result.volume more (before.volume_width b h are)
          (volume_width b h are.size are.some (reached_at planes faces b h count other more are)) v;
      mx_width = λ b h are. narrow-step (λ f. length_part (whole last) (spread b h) (doubled_area f)) faces count other sums.mx column.mx result.mx more (before.mx_width b h are)
          (mx_width b h are.size are.some (reached_at planes faces b h count other more are)) m;
    }
