use Rattle.std.proofs.Common.{length, ◌+◌, ◌-◌, ◌*◌, ◌^◌, arith}
use Rattle.hull_polyhedron.specs.StripsOf.{strip_count, faces_to}
use Rattle.flux_moments.proofs.ColumnSums.{quotient_at_most}
use Rattle.flux_moments.proofs.ProductEnds.{at_most_below}
use Rattle.flux_moments.proofs.Measured.{divided}
use Rattle.flux_moments.proofs.OpenWidths.{sharp-volume, sharp-length}
use Rattle.flux_moments.proofs.StripWidths.{volume-width, mx-width, mv-width, mu-width, strips-far, strips-far_one}
use Rattle.flux_moments.proofs.TotalWidths.{strips-room, strips-volume, strips-length, strips-side, strips-height}
use Rattle.flux_moments.proofs.sums.measure.Goals as goal

pub returns-clause-volume_width : goal.returns-clause-volume_width
returns-clause-volume_width c =
    let faces = c.args.faces.now in
    let sums = c.strip_sums-sums in
    strips-volume faces c.args.planes.now faces.few (volume-width faces c.args.planes.now sums.ensures.apart sums.ensures.few sums.result sums.ensures.widths) c.over_whole.ensures.width

pub returns-clause-volume_room : goal.returns-clause-volume_room
returns-clause-volume_room c =
    let faces = c.args.faces.now in
    let sums = c.strip_sums-sums in
    strips-room faces c.args.planes.now faces.few (volume-width faces c.args.planes.now sums.ensures.apart sums.ensures.few sums.result sums.ensures.widths) c.over_whole.ensures.width

pub returns-clause-mx_width : goal.returns-clause-mx_width
returns-clause-mx_width c =
    let faces = c.args.faces.now in
    let sums = c.strip_sums-sums in
    strips-length faces c.args.planes.now faces.few (mx-width faces c.args.planes.now sums.ensures.apart sums.ensures.few sums.result sums.ensures.widths) c.over_whole-2.ensures.width

pub returns-clause-mv_width : goal.returns-clause-mv_width
returns-clause-mv_width c =
    let faces = c.args.faces.now in
    let sums = c.strip_sums-sums in
    strips-side faces c.args.planes.now faces.few (mv-width faces c.args.planes.now sums.ensures.apart sums.ensures.few sums.result sums.ensures.widths) c.over_whole-3.ensures.width

pub returns-clause-mu_width : goal.returns-clause-mu_width
returns-clause-mu_width c =
    let faces = c.args.faces.now in
    let sums = c.strip_sums-sums in
    strips-height faces c.args.planes.now faces.few c.strip_sums-sums.result.mu.ordered
    (mu-width faces c.args.planes.now sums.ensures.apart sums.ensures.few sums.result sums.ensures.widths) c.over_whole-4.ensures.width

pub returns-clause-volume : goal.returns-clause-volume
returns-clause-volume c stations hull are plane is = divided 20 2 (omega arith) (c.over_whole.ensures.contains _ (c.strip_sums-sums.ensures.volume stations hull are plane is))

pub returns-clause-mx : goal.returns-clause-mx
returns-clause-mx c stations hull are plane is = divided 20 2 (omega arith) (c.over_whole-2.ensures.contains _ (c.strip_sums-sums.ensures.mx stations hull are plane is))

pub returns-clause-mv : goal.returns-clause-mv
returns-clause-mv c stations hull are plane is = divided 20 2 (omega arith) (c.over_whole-3.ensures.contains _ (c.strip_sums-sums.ensures.mv stations hull are plane is))

pub returns-clause-mu : goal.returns-clause-mu
returns-clause-mu c stations hull are plane is = divided 20 4 (omega arith) (c.over_whole-4.ensures.contains _ (c.strip_sums-sums.ensures.mu stations hull are plane is))

pub returns-clause-volume_ends : goal.returns-clause-volume_ends
returns-clause-volume_ends c =
    let faces = c.args.faces.now in
    let sums = c.strip_sums-sums.ensures in
    at_most_below (2 ^ 91 - 1) 91 (omega arith) (quotient_at_most (16383 * (7 * 2 ^ 75) + 63 * 2 ^ 83) (2 ^ 91 - 1) 2 (omega arith)
    (strips-far (7 * 2 ^ 75) (2 ^ 83) (faces_to faces (strip_count faces)) (length faces.list) (strip_count faces) sums.apart.few faces.few sums.few sums.ends.volume) c.over_whole.ensures.ends)

pub returns-clause-mv_ends : goal.returns-clause-mv_ends
returns-clause-mv_ends c =
    let faces = c.args.faces.now in
    let sums = c.strip_sums-sums.ensures in
    quotient_at_most (16383 * (5 * 2 ^ 95) + 63) (5 * 2 ^ 108) 2 (omega arith)
    (strips-far_one (5 * 2 ^ 95) (faces_to faces (strip_count faces)) (length faces.list) (strip_count faces) sums.apart.few faces.few sums.few sums.ends.mv) c.over_whole-3.ensures.ends

pub returns-clause-mu_ends : goal.returns-clause-mu_ends
returns-clause-mu_ends c =
    let faces = c.args.faces.now in
    let sums = c.strip_sums-sums.ensures in
    quotient_at_most (16383 * (41 * 2 ^ 95) + 63) (3 * 2 ^ 111) 4 (omega arith)
    (strips-far_one (41 * 2 ^ 95) (faces_to faces (strip_count faces)) (length faces.list) (strip_count faces) sums.apart.few faces.few sums.few sums.ends.mu) c.over_whole-4.ensures.ends

pub returns-clause-ends : goal.returns-clause-ends
returns-clause-ends c =
    let faces = c.args.faces.now in
    let sums = c.strip_sums-sums.ensures in (
      at_most_below (2 ^ 91 - 1) 113 (omega arith) (quotient_at_most (16383 * (7 * 2 ^ 75) + 63 * 2 ^ 83) (2 ^ 91 - 1) 2 (omega arith)
          (strips-far (7 * 2 ^ 75) (2 ^ 83) (faces_to faces (strip_count faces)) (length faces.list) (strip_count faces) sums.apart.few faces.few sums.few sums.ends.volume) c.over_whole.ensures.ends),
      at_most_below (2 ^ 113 - 1) 113 (omega arith) (quotient_at_most (16383 * (5 * 2 ^ 97) + 63 * 2 ^ 102) (2 ^ 113 - 1) 2 (omega arith)
          (strips-far (5 * 2 ^ 97) (2 ^ 102) (faces_to faces (strip_count faces)) (length faces.list) (strip_count faces) sums.apart.few faces.few sums.few sums.ends.mx) c.over_whole-2.ensures.ends),
      at_most_below (5 * 2 ^ 108) 113 (omega arith) (quotient_at_most (16383 * (5 * 2 ^ 95) + 63) (5 * 2 ^ 108) 2 (omega arith)
          (strips-far_one (5 * 2 ^ 95) (faces_to faces (strip_count faces)) (length faces.list) (strip_count faces) sums.apart.few faces.few sums.few sums.ends.mv) c.over_whole-3.ensures.ends),
      at_most_below (3 * 2 ^ 111) 113 (omega arith) (quotient_at_most (16383 * (41 * 2 ^ 95) + 63) (3 * 2 ^ 111) 4 (omega arith)
          (strips-far_one (41 * 2 ^ 95) (faces_to faces (strip_count faces)) (length faces.list) (strip_count faces) sums.apart.few faces.few sums.few sums.ends.mu) c.over_whole-4.ensures.ends),
    )

pub returns-clause-sharp_width : goal.returns-clause-sharp_width
returns-clause-sharp_width c chosen clear = sharp-volume c.args.faces.now c.args.planes.now chosen c.strip_sums-sums.ensures.few (c.strip_sums-sums.ensures.sharp chosen clear).0 c.over_whole.ensures.width

pub returns-clause-sharp_mx_width : goal.returns-clause-sharp_mx_width
returns-clause-sharp_mx_width c chosen clear = sharp-length c.args.faces.now c.args.planes.now chosen c.strip_sums-sums.ensures.few (c.strip_sums-sums.ensures.sharp chosen clear).1 c.over_whole-2.ensures.width
