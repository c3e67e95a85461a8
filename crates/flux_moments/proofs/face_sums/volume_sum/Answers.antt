use Rattle.std.proofs.Common.{◌*◌, ◌^◌, length, arith}
use Rattle.flux_moments.specs.Columns.{column_volume}
use Rattle.flux_moments.specs.Planes.{IsIn}
use Rattle.flux_moments.specs.Sizes.{spread, doubled_area, volume_part}
use Rattle.flux_moments.proofs.ColumnSums.{one_list, narrow-start, narrow-step, narrow-end, reached_at, sum-start, sum-step, sum-allowed, sum-end, sum-ends}
use Rattle.flux_moments.proofs.face_sums.volume_sum.Goals as goal

pub loop-face-init : goal.loop-face-init
loop-face-init c = (
  sum-start (IsIn c.args.planes.now) (λ plane. column_volume plane c.args.way.first c.args.way.last) 2 (7 * 2 ^ 75) (one_list c.args.faces.now)
      c.nothing-sum.result c.nothing-sum.ensures,
  λ b h are. narrow-start (λ f. volume_part (spread b h) (doubled_area f)) c.args.faces.now c.nothing-sum.result c.nothing-sum.ensures,
)

pub add-sum-requires : goal.add-sum-requires
add-sum-requires c = (
  omega arith,
  sum-allowed (IsIn c.args.planes.now) _ 2 (7 * 2 ^ 75) (one_list c.args.faces.now) c.loop-face.face-index c.loop-face.sum
      c.volume_column.result c.loop-face-test.true c.loop-face.invariant.0 c.volume_column.ensures.ends (2 ^ 14) c.requires.few (omega arith),
)

pub loop-face-preserved : goal.loop-face-preserved
loop-face-preserved c = (
  sum-step (IsIn c.args.planes.now) (λ plane. column_volume plane c.args.way.first c.args.way.last) 2 (7 * 2 ^ 75) (one_list c.args.faces.now)
      c.loop-face.face-index c.loop-face.sum c.volume_column.result c.loop-face-test.true c.loop-face.invariant.0
      c.volume_column.ensures.ends _ c.add-sum.result c.volume_column.ensures.contains c.add-sum.ensures,
  λ b h are. narrow-step (λ f. volume_part (spread b h) (doubled_area f)) c.args.faces.now c.loop-face.face-index _ c.loop-face.sum
      c.volume_column.result c.add-sum.result c.loop-face-test.true (c.loop-face.invariant.1 b h are)
      (c.volume_column.ensures.narrow b h are.size are.some (reached_at c.args.planes.now c.args.faces.now b h c.loop-face.face-index _
      c.loop-face-test.true are)) c.add-sum.ensures,
)

pub returns-clause-volume : goal.returns-clause-volume
returns-clause-volume c = sum-end (IsIn c.args.planes.now) (λ plane. column_volume plane c.args.way.first c.args.way.last) 2 (7 * 2 ^ 75)
    (one_list c.args.faces.now) c.loop-face.face-index c.loop-face.sum c.loop-face-test.false c.loop-face.invariant.0

pub returns-clause-ends : goal.returns-clause-ends
returns-clause-ends c = sum-ends (IsIn c.args.planes.now) _ 2 (7 * 2 ^ 75) (one_list c.args.faces.now) (length c.args.faces.now) c.loop-face.face-index c.loop-face.sum (omega arith)
    c.loop-face.invariant.0

pub returns-clause-narrow : goal.returns-clause-narrow
returns-clause-narrow c b h are = narrow-end (λ f. volume_part (spread b h) (doubled_area f)) c.args.faces.now c.loop-face.face-index c.loop-face.sum
    c.loop-face-test.false (c.loop-face.invariant.1 b h are)
