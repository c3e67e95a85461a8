use Rattle.std.proofs.Common.{length, ◌+◌, ◌-◌, ◌*◌, ◌^◌, arith}
use Rattle.hull_polyhedron.specs.StripsOf.{strip_count, faces_to}
use Rattle.flux_moments.proofs.ColumnSums.{quotient_at_most}
use Rattle.flux_moments.proofs.ProductEnds.{at_most_below}
use Rattle.flux_moments.proofs.Measured.{divided}
use Rattle.flux_moments.proofs.OpenWidths.{sharp-volume}
use Rattle.flux_moments.proofs.StripWidths.{strips-far, volume-alone}
use Rattle.flux_moments.proofs.TotalWidths.{strips-volume}
use Rattle.flux_moments.proofs.sums.volume_below.Goals as goal

pub returns-clause-width : goal.returns-clause-width
returns-clause-width c =
    let faces = c.args.faces.now in
    let planes = c.args.planes.now in
    strips-volume faces planes faces.few (volume-alone faces planes c.volume_of_strips-sum.ensures.apart c.volume_of_strips-sum.ensures.few c.volume_of_strips-sum.ensures.width)
    c.over_whole.ensures.width

pub returns-clause-volume : goal.returns-clause-volume
returns-clause-volume c stations hull are plane is = divided 20 2 (omega arith) (c.over_whole.ensures.contains _ (c.volume_of_strips-sum.ensures.volume stations hull are plane is))

pub returns-clause-ends : goal.returns-clause-ends
returns-clause-ends c =
    let faces = c.args.faces.now in
    let sums = c.volume_of_strips-sum.ensures in
    at_most_below (2 ^ 91 - 1) 91 (omega arith) (quotient_at_most (16383 * (7 * 2 ^ 75) + 63 * 2 ^ 83) (2 ^ 91 - 1) 2 (omega arith)
    (strips-far (7 * 2 ^ 75) (2 ^ 83) (faces_to faces (strip_count faces)) (length faces.list) (strip_count faces) sums.apart.few faces.few sums.few sums.ends) c.over_whole.ensures.ends)

pub returns-clause-sharp_width : goal.returns-clause-sharp_width
returns-clause-sharp_width c chosen clear = sharp-volume c.args.faces.now c.args.planes.now chosen c.volume_of_strips-sum.ensures.few (c.volume_of_strips-sum.ensures.sharp chosen clear) c.over_whole.ensures.width
