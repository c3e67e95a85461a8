use Rattle.std.proofs.Common.{◌*◌, ◌^◌, length, arith}
use Rattle.hull_model.specs.Waterplane.{side_distance}
use Rattle.hull_polyhedron.specs.Columns.{middle}
use Rattle.flux_moments.specs.Columns.{column_volume, column_integral}
use Rattle.flux_moments.specs.Planes.{IsIn}
use Rattle.exact_algebra.proofs.Whole.{whole}
use Rattle.flux_moments.specs.Sizes.{spread, doubled_area, volume_part, length_part, height_part}
use Rattle.flux_moments.proofs.ColumnSums.{one_list, narrow-end, sums-start, sums-fit, sums-more, sum-end, sum-ends}
use Rattle.flux_moments.proofs.face_sums.column_sums.Goals as goal

pub loop-face-init : goal.loop-face-init
loop-face-init c = sums-start c.args.planes.now c.args.way.first c.args.way.last c.args.faces.now c.nothing-sums.result c.nothing-sums.ensures

pub add-sums-requires : goal.add-sums-requires
add-sums-requires c = sums-fit c.args.planes.now c.args.way.first c.args.way.last c.args.faces.now c.loop-face.face-index c.loop-face.sums
    c.columns.result c.loop-face-test.true c.loop-face.invariant
    c.columns.ensures.ends c.requires.few

pub loop-face-preserved : goal.loop-face-preserved
loop-face-preserved c = sums-more c.args.planes.now c.args.way.first c.args.way.last c.args.faces.now c.loop-face.face-index c.loop-face.sums
    c.columns.result c.loop-face-test.true c.loop-face.invariant
    c.columns.ensures.ends _ c.add-sums.result c.columns.ensures.volume c.columns.ensures.mx c.columns.ensures.mv c.columns.ensures.mu
    c.columns.ensures.widths c.add-sums.ensures

pub returns-clause-volume : goal.returns-clause-volume
returns-clause-volume c = sum-end (IsIn c.args.planes.now) (λ plane. column_volume plane c.args.way.first c.args.way.last) 2 (7 * 2 ^ 75)
    (one_list c.args.faces.now) c.loop-face.face-index c.loop-face.sums.volume c.loop-face-test.false c.loop-face.invariant.volume

pub returns-clause-mx : goal.returns-clause-mx
returns-clause-mx c = sum-end (IsIn c.args.planes.now) (λ plane. column_integral plane c.args.way.first c.args.way.last (λ p. p.x)) 2 (5 * 2 ^ 97)
    (one_list c.args.faces.now) c.loop-face.face-index c.loop-face.sums.mx c.loop-face-test.false c.loop-face.invariant.mx

pub returns-clause-mv : goal.returns-clause-mv
returns-clause-mv c = sum-end (IsIn c.args.planes.now) (λ plane. column_integral plane c.args.way.first c.args.way.last (side_distance plane)) 2
    (5 * 2 ^ 95) (one_list c.args.faces.now) c.loop-face.face-index c.loop-face.sums.mv c.loop-face-test.false c.loop-face.invariant.mv

pub returns-clause-mu : goal.returns-clause-mu
returns-clause-mu c = sum-end (IsIn c.args.planes.now) (λ plane. column_integral plane c.args.way.first c.args.way.last
    (middle plane c.args.way.first c.args.way.last)) 4 (41 * 2 ^ 95) (one_list c.args.faces.now) c.loop-face.face-index c.loop-face.sums.mu
    c.loop-face-test.false c.loop-face.invariant.mu

pub returns-clause-ends : goal.returns-clause-ends
returns-clause-ends c = record {
  volume = sum-ends (IsIn c.args.planes.now) _ 2 (7 * 2 ^ 75) (one_list c.args.faces.now) (length c.args.faces.now) c.loop-face.face-index c.loop-face.sums.volume (omega arith)
      c.loop-face.invariant.volume;
  mx = sum-ends (IsIn c.args.planes.now) _ 2 (5 * 2 ^ 97) (one_list c.args.faces.now) (length c.args.faces.now) c.loop-face.face-index c.loop-face.sums.mx (omega arith) c.loop-face.invariant.mx;
  mv = sum-ends (IsIn c.args.planes.now) _ 2 (5 * 2 ^ 95) (one_list c.args.faces.now) (length c.args.faces.now) c.loop-face.face-index c.loop-face.sums.mv (omega arith) c.loop-face.invariant.mv;
  mu = sum-ends (IsIn c.args.planes.now) _ 4 (41 * 2 ^ 95) (one_list c.args.faces.now) (length c.args.faces.now) c.loop-face.face-index c.loop-face.sums.mu (omega arith) c.loop-face.invariant.mu;
}

pub returns-clause-widths : goal.returns-clause-widths
returns-clause-widths c b h are =
    let sums = c.loop-face.invariant.widths b h are in
    record {
      volume = narrow-end (λ f. volume_part (spread b h) (doubled_area f)) c.args.faces.now c.loop-face.face-index c.loop-face.sums.volume
          c.loop-face-test.false sums.volume;
      mx = narrow-end (λ f. length_part (whole c.args.way.last) (spread b h) (doubled_area f)) c.args.faces.now c.loop-face.face-index
          c.loop-face.sums.mx c.loop-face-test.false sums.mx;
      mv = narrow-end (λ f. height_part h (spread b h) (doubled_area f)) c.args.faces.now c.loop-face.face-index c.loop-face.sums.mv
          c.loop-face-test.false sums.mv;
      mu = narrow-end (λ f. height_part h (spread b h) (doubled_area f)) c.args.faces.now c.loop-face.face-index c.loop-face.sums.mu
          c.loop-face-test.false sums.mu;
    }
