-- The sums over the columns of parts at an upright plane, as a loop makes them.
use Rattle.std.proofs.Common.{◌≡◌, sym, subst, ℕ, ◌+◌, ◌^◌, ◌<◌, pos, ◌+ℤ◌, ℤ, List, length, take, get_or, arith}
use Rattle.exact_algebra.proofs.Fraction.{Fraction, one, ◌⊕◌, ◌⊗◌, ◌≼◌}
use Rattle.exact_algebra.proofs.Span.{ContainsFraction}
use Rattle.exact_algebra.proofs.Whole.{whole}
use Rattle.hull_model.specs.Fractions.{sum_over}
use Rattle.hull_model.specs.TriangleCut.{Triangle}
use Rattle.hull_model.specs.Waterplane.{Waterplane, Position}
use Rattle.hull_polyhedron.specs.Columns.{column}
use Rattle.outward_interval.specs.Ends.{AreEnds, EndsBelow}
use Rattle.outward_interval.specs.Widths.{IsNarrow}
use Rattle.plane_clip.specs.declared.part.Part.{Part}
use Rattle.plane_clip.specs.Extents.{IsPartExtent}
use Rattle.plane_clip.specs.Parts.{HoldsShare}
use Rattle.flux_moments.specs.Limits.{EndsAtMost}
use Rattle.flux_moments.specs.PartSizes.{ArePartsReached, part_area, part_volume, part_length}
use Rattle.flux_moments.specs.Planes.{IsIn}
use Rattle.flux_moments.specs.Shared.{shared_column}
use Rattle.flux_moments.specs.Sizes.{BoxSize, HasSize, spread}
use Rattle.flux_moments.specs.declared.plane_box.PlaneBox.{PlaneBox}
use Rattle.flux_moments.proofs.ColumnSums.{sum-start, sum-step, sum-allowed, narrow-start, narrow-step, all_at}
use Rattle.flux_moments.proofs.PartTotals.{IsHeld, IsPartSum, held_triangles, held-at, no_triangle}
use Rattle.compartment_loss.specs.declared.upright_wet.UprightWet.{UprightWet}

module _ (planes : PlaneBox) (first last : ℤ) (parts : List Part) where
  pub record ArePartSums (count : ℕ) (sums : UprightWet) : Type 0 where
    pub volume : IsPartSum planes first last parts (λ plane. shared_column plane first last (λ p. one)) 2 (2 ^ 79) count sums.volume
    pub mx : IsPartSum planes first last parts (λ plane. shared_column plane first last (λ p. p.x)) 2 (2 ^ 99) count sums.mx
    pub volume_width : (b : BoxSize) (h : Fraction) (y z : ℕ) → ArePartsReached planes parts b h y z → IsNarrow 20 (sum_over (λ p. part_volume h (spread b h) (part_area p)) (take count parts)) sums.volume.lo sums.volume.hi
    pub mx_width : (b : BoxSize) (h : Fraction) (y z : ℕ) → ArePartsReached planes parts b h y z → IsNarrow 20 (sum_over (λ p. part_length (whole last) h (spread b h) (part_area p)) (take count parts)) sums.mx.lo sums.mx.hi

  pub parts-start : (sums : UprightWet) → (sums.volume.lo ≡ pos 0) × (sums.volume.hi ≡ pos 0) → (sums.mx.lo ≡ pos 0) × (sums.mx.hi ≡ pos 0) → ArePartSums 0 sums
  parts-start sums e f = record {
    volume = sum-start (IsHeld planes first last parts) _ 2 (2 ^ 79) (held_triangles planes first last parts) sums.volume e;
    mx = sum-start (IsHeld planes first last parts) _ 2 (2 ^ 99) (held_triangles planes first last parts) sums.mx f;
    volume_width = λ b h y z are. narrow-start _ parts sums.volume e;
    mx_width = λ b h y z are. narrow-start _ parts sums.mx f;
  }

  module _ (count : ℕ) (sums column' : UprightWet) (more : count < length parts) (before : ArePartSums count sums)
      (volume_ends : EndsAtMost (2 ^ 79) column'.volume.lo column'.volume.hi) (mx_ends : EndsAtMost (2 ^ 99) column'.mx.lo column'.mx.hi) where
    pub volume-allowed : length parts < 2 ^ 22 → EndsBelow 126 (sums.volume.lo +ℤ column'.volume.lo) (sums.volume.hi +ℤ column'.volume.hi)
    volume-allowed few = sum-allowed (IsHeld planes first last parts) _ 2 (2 ^ 79) (held_triangles planes first last parts) count sums.volume column'.volume more before.volume volume_ends (2 ^ 22) few (omega arith)

    pub mx-allowed : length parts < 2 ^ 22 → EndsBelow 126 (sums.mx.lo +ℤ column'.mx.lo) (sums.mx.hi +ℤ column'.mx.hi)
    mx-allowed few = sum-allowed (IsHeld planes first last parts) _ 2 (2 ^ 99) (held_triangles planes first last parts) count sums.mx column'.mx more before.mx mx_ends (2 ^ 22) few (omega arith)

    pub parts-more : (p : Part) (result : UprightWet) → p ≡ get_or parts count p
        → ((plane : Waterplane) (share : Fraction) (t : Triangle Position) → IsIn planes plane → HoldsShare p share t → ContainsFraction 20 column'.volume.lo column'.volume.hi ((column plane first last (λ q. one) t ⊗ share) ⊗ whole (pos 2)))
        → ((plane : Waterplane) (share : Fraction) (t : Triangle Position) → IsIn planes plane → HoldsShare p share t → ContainsFraction 20 column'.mx.lo column'.mx.hi ((column plane first last (λ q. q.x) t ⊗ share) ⊗ whole (pos 2)))
        → ((b : BoxSize) (h : Fraction) (y z : ℕ) → HasSize planes b → one ≼ h → b.level ⊕ whole (pos (z + y)) ≼ h → IsPartExtent y z 3 p → IsNarrow 20 (part_volume h (spread b h) (part_area p)) column'.volume.lo column'.volume.hi)
        → ((b : BoxSize) (h : Fraction) (y z : ℕ) → HasSize planes b → one ≼ h → b.level ⊕ whole (pos (z + y)) ≼ h → IsPartExtent y z 3 p → IsNarrow 20 (part_length (whole last) h (spread b h) (part_area p)) column'.mx.lo column'.mx.hi)
        → AreEnds (sums.volume.lo +ℤ column'.volume.lo) (sums.volume.hi +ℤ column'.volume.hi) result.volume.lo result.volume.hi
        → AreEnds (sums.mx.lo +ℤ column'.mx.lo) (sums.mx.hi +ℤ column'.mx.hi) result.mx.lo result.mx.hi → ArePartSums (count + 1) result
    parts-more p result e volume mx volume_width mx_width v m = record {
      volume = sum-step (IsHeld planes first last parts) (λ h. shared_column h.plane first last (λ q. one)) 2 (2 ^ 79) (held_triangles planes first last parts) count sums.volume column'.volume more before.volume volume_ends no_triangle result.volume
          (λ h is. volume h.plane (get_or h.triangles count no_triangle).share (get_or h.triangles count no_triangle).at is.plane (held-at planes first last parts h is count p e more)) v;
      mx = sum-step (IsHeld planes first last parts) (λ h. shared_column h.plane first last (λ q. q.x)) 2 (2 ^ 99) (held_triangles planes first last parts) count sums.mx column'.mx more before.mx mx_ends no_triangle result.mx
          (λ h is. mx h.plane (get_or h.triangles count no_triangle).share (get_or h.triangles count no_triangle).at is.plane (held-at planes first last parts h is count p e more)) m;
      volume_width = λ b h y z are. narrow-step (λ q. part_volume h (spread b h) (part_area q)) parts count p sums.volume column'.volume result.volume more (before.volume_width b h y z are)
          (subst (λ (q : Part). IsNarrow 20 (part_volume h (spread b h) (part_area q)) column'.volume.lo column'.volume.hi) e (volume_width b h y z are.size are.some are.reached (extent b h y z are))) v;
      mx_width = λ b h y z are. narrow-step (λ q. part_length (whole last) h (spread b h) (part_area q)) parts count p sums.mx column'.mx result.mx more (before.mx_width b h y z are)
          (subst (λ (q : Part). IsNarrow 20 (part_length (whole last) h (spread b h) (part_area q)) column'.mx.lo column'.mx.hi) e (mx_width b h y z are.size are.some are.reached (extent b h y z are))) m;
    }
      where
        extent : (b : BoxSize) (h : Fraction) (y z : ℕ) → ArePartsReached planes parts b h y z → IsPartExtent y z 3 p
        extent b h y z are = subst (IsPartExtent y z 3) (sym e) (all_at (IsPartExtent y z 3) parts count p more are.extents)
