use Rattle.std.proofs.Common.{◌*◌, ◌^◌, take}
use Rattle.exact_algebra.proofs.Fraction.{Fraction}
use Rattle.hull_model.specs.Fractions.{sum_over}
use Rattle.outward_interval.specs.Widths.{IsNarrow}
use Rattle.flux_moments.specs.Sizes.{BoxSize, AreReached, spread, doubled_area, volume_part}
use Rattle.flux_moments.specs.Columns.{column_volume}
use Rattle.flux_moments.proofs.ColumnSums.{IsColumnSum}
use Rattle.flux_moments.proofs.face_sums.volume_sum.Given as goal

abbrev pub invariant-loop-face : goal.invariant-loop-face
invariant-loop-face l = IsColumnSum l.planes l.way.first l.way.last l.faces (λ plane. column_volume plane l.way.first l.way.last) 2 (7 * 2 ^ 75)
    l.face-index l.sum
    × ((b : BoxSize) (h : Fraction) → AreReached l.planes l.faces b h → IsNarrow 20
    (sum_over (λ f. volume_part (spread b h) (doubled_area f)) (take l.face-index l.faces)) l.sum.lo l.sum.hi)
