use Rattle.std.proofs.Common.{◌+◌, ◌*◌, ◌^◌, ◌∙◌, arith}
use Rattle.std.proofs.lemmas.Int.{to_z-of_z}
use Rattle.std.specs.Int.{w64}
use Rattle.flux_moments.specs.Columns.{columns_volume, columns_mx}
use Rattle.flux_moments.specs.Sizes.{doubled_area, volume_part}
use Rattle.flux_moments.proofs.ColumnSums.{quotient_at_most}
use Rattle.flux_moments.proofs.Measured.{measured, volume_measured, mx_measured}
use Rattle.flux_moments.proofs.ProductEnds.{at_most_below}
use Rattle.flux_moments.proofs.TotalWidths.{are_reached, volume-total, length-total}
use Rattle.compartment_loss.proofs.UprightBoxes.{sum_of_faces, lengths_of_faces}
use Rattle.compartment_loss.proofs.upright_left.body_at.Goals as goal

pub returns-clause-volume : goal.returns-clause-volume
returns-clause-volume c stations hull are plane is =
    let first = to_z-of_z w64 c.first_x.result (record { sfits = c.first_x.type_inv }) ∙ c.first_x.ensures.same in
    let last = to_z-of_z w64 c.last_x.result (record { sfits = c.last_x.type_inv }) ∙ c.last_x.ensures.same in
    measured c.args.faces.now first last c.list.ensures.same 2 (omega arith) (columns_volume plane) (volume_measured plane stations hull c.args.faces.now are)
    (c.over_whole.ensures.contains _ (c.column_sums-sums.ensures.volume plane is))

pub returns-clause-mx : goal.returns-clause-mx
returns-clause-mx c stations hull are plane is =
    let first = to_z-of_z w64 c.first_x.result (record { sfits = c.first_x.type_inv }) ∙ c.first_x.ensures.same in
    let last = to_z-of_z w64 c.last_x.result (record { sfits = c.last_x.type_inv }) ∙ c.last_x.ensures.same in
    measured c.args.faces.now first last c.list.ensures.same 2 (omega arith) (columns_mx plane) (mx_measured plane stations hull c.args.faces.now are)
    (c.over_whole-2.ensures.contains _ (c.column_sums-sums.ensures.mx plane is))

pub returns-clause-volume_width : goal.returns-clause-volume_width
returns-clause-volume_width c =
    let faces = c.args.faces.now in
    let planes = c.args.planes.now in
    volume-total faces planes c.list.ensures.few (sum_of_faces planes faces (λ s f. volume_part s (doubled_area f)) c.list.ensures.same (are_reached faces planes c.list.ensures.limits)
    c.column_sums-sums.ensures.volume_width) c.over_whole.ensures.width

pub returns-clause-mx_width : goal.returns-clause-mx_width
returns-clause-mx_width c =
    let faces = c.args.faces.now in
    let planes = c.args.planes.now in
    let last = to_z-of_z w64 c.last_x.result (record { sfits = c.last_x.type_inv }) ∙ c.last_x.ensures.same in
    length-total faces planes c.list.ensures.few (lengths_of_faces planes faces c.list.ensures.same last (are_reached faces planes c.list.ensures.limits) c.column_sums-sums.ensures.mx_width) c.over_whole-2.ensures.width

pub returns-clause-volume_ends : goal.returns-clause-volume_ends
returns-clause-volume_ends c = at_most_below (16383 * 2 ^ 78 + 1) 93 (omega arith)
    (quotient_at_most (16383 * 2 ^ 79) (16383 * 2 ^ 78 + 1) 2 (omega arith) c.column_sums-sums.ensures.volume_ends c.over_whole.ensures.ends)

pub returns-clause-mx_ends : goal.returns-clause-mx_ends
returns-clause-mx_ends c = at_most_below (16383 * (3 * 2 ^ 96) + 1) 113 (omega arith)
    (quotient_at_most (16383 * (3 * 2 ^ 97)) (16383 * (3 * 2 ^ 96) + 1) 2 (omega arith) c.column_sums-sums.ensures.mx_ends c.over_whole-2.ensures.ends)
