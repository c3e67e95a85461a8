use Rattle.std.proofs.Common.{◌+◌, ◌*◌, ◌^◌, length, arith}
use Rattle.std.proofs.lemmas.Int.{to_z-of_z}
use Rattle.exact_algebra.proofs.Fraction.{one, fractions}
use Rattle.exact_algebra.proofs.Order as Order
use Rattle.exact_algebra.proofs.Whole.{whole}
use Rattle.flux_moments.proofs.ColumnSums.{quotient_at_most}
use Rattle.flux_moments.proofs.ProductEnds.{at_most_below}
use Rattle.flux_moments.proofs.Measured.{divided}
use Rattle.flux_moments.proofs.LidTotals.{lid-far, lid-none, lid-total, some_length, some_breadth, some_square, unscaled}
use Rattle.flux_moments.proofs.lid_sums.lid.Goals as goal

pub returns-clause-area : goal.returns-clause-area
returns-clause-area c stations hull are at within =
    let planes = simp (to_z-of_z, c.ranges.d1, c.ranges.d2) at c.level_planes.ensures.contains in
    divided 20 2 (omega arith) (c.over_whole.ensures.contains _ (c.lids_of_strips-sums.ensures.area stations hull are at (planes at within)))

pub returns-clause-area_ends : goal.returns-clause-area_ends
returns-clause-area_ends c = at_most_below (16383 * 2 ^ 57 + 1) 71 (omega arith) (quotient_at_most (16383 * 2 ^ 58) (16383 * 2 ^ 57 + 1) 2 (omega arith)
    (lid-far (2 ^ 58) (length c.args.faces.now.list) c.args.faces.now.few c.lids_of_strips-sums.ensures.ends.area) c.over_whole.ensures.ends)

pub returns-clause-sx : goal.returns-clause-sx
returns-clause-sx c stations hull are at within =
    let planes = simp (to_z-of_z, c.ranges.d1, c.ranges.d2) at c.level_planes.ensures.contains in
    divided 20 2 (omega arith) (c.over_whole-2.ensures.contains _ (c.lids_of_strips-sums.ensures.sx stations hull are at (planes at within)))

pub returns-clause-sx_ends : goal.returns-clause-sx_ends
returns-clause-sx_ends c = at_most_below (16383 * 2 ^ 78 + 1) 92 (omega arith) (quotient_at_most (16383 * 2 ^ 79) (16383 * 2 ^ 78 + 1) 2 (omega arith)
    (lid-far (2 ^ 79) (length c.args.faces.now.list) c.args.faces.now.few c.lids_of_strips-sums.ensures.ends.sx) c.over_whole-2.ensures.ends)

pub returns-clause-syy : goal.returns-clause-syy
returns-clause-syy c stations hull are at within =
    let planes = simp (to_z-of_z, c.ranges.d1, c.ranges.d2) at c.level_planes.ensures.contains in
    divided 20 2 (omega arith) (c.over_whole-3.ensures.contains _ (c.lids_of_strips-sums.ensures.syy stations hull are at (planes at within)))

pub returns-clause-syy_ends : goal.returns-clause-syy_ends
returns-clause-syy_ends c = at_most_below (16383 * 2 ^ 99 + 1) 113 (omega arith) (quotient_at_most (16383 * 2 ^ 100) (16383 * 2 ^ 99 + 1) 2 (omega arith)
    (lid-far (2 ^ 100) (length c.args.faces.now.list) c.args.faces.now.few c.lids_of_strips-sums.ensures.ends.syy) c.over_whole-3.ensures.ends)

pub returns-clause-sxx : goal.returns-clause-sxx
returns-clause-sxx c stations hull are at within =
    let planes = simp (to_z-of_z, c.ranges.d1, c.ranges.d2) at c.level_planes.ensures.contains in
    divided 20 2 (omega arith) (c.over_whole-4.ensures.contains _ (c.lids_of_strips-sums.ensures.sxx stations hull are at (planes at within)))

pub returns-clause-sxx_ends : goal.returns-clause-sxx_ends
returns-clause-sxx_ends c = at_most_below (16383 * 2 ^ 99 + 1) 113 (omega arith) (quotient_at_most (16383 * 2 ^ 100) (16383 * 2 ^ 99 + 1) 2 (omega arith)
    (lid-far (2 ^ 100) (length c.args.faces.now.list) c.args.faces.now.few c.lids_of_strips-sums.ensures.ends.sxx) c.over_whole-4.ensures.ends)

pub returns-clause-area_width : goal.returns-clause-area_width
returns-clause-area_width c =
    let faces = c.args.faces.now in
    let d1 = c.args.d1 in
    let d2 = c.args.d2 in
    let level = simp (to_z-of_z, c.ranges.d1, c.ranges.d2) at c.level_planes.ensures.level in
    let widths = c.lids_of_strips-sums.ensures.widths d1 d2 c.requires.levels.aft level in
    unscaled faces d1 d2 (lid-total faces d1 d2 one (Order.≼_refl fractions one) widths.area c.over_whole.ensures.ends
    (lid-none (2 ^ 58) (length faces.list) c.lids_of_strips-sums.ensures.ends.area) c.over_whole.ensures.width)

pub returns-clause-sx_width : goal.returns-clause-sx_width
returns-clause-sx_width c =
    let faces = c.args.faces.now in
    let d1 = c.args.d1 in
    let d2 = c.args.d2 in
    let level = simp (to_z-of_z, c.ranges.d1, c.ranges.d2) at c.level_planes.ensures.level in
    let widths = c.lids_of_strips-sums.ensures.widths d1 d2 c.requires.levels.aft level in
    lid-total faces d1 d2 (whole faces.last_x) (some_length faces d1 d2) widths.sx c.over_whole-2.ensures.ends
    (lid-none (2 ^ 79) (length faces.list) c.lids_of_strips-sums.ensures.ends.sx) c.over_whole-2.ensures.width

pub returns-clause-syy_width : goal.returns-clause-syy_width
returns-clause-syy_width c =
    let faces = c.args.faces.now in
    let d1 = c.args.d1 in
    let d2 = c.args.d2 in
    let level = simp (to_z-of_z, c.ranges.d1, c.ranges.d2) at c.level_planes.ensures.level in
    let widths = c.lids_of_strips-sums.ensures.widths d1 d2 c.requires.levels.aft level in
    lid-total faces d1 d2 _ (some_square faces d1 d2 (whole faces.half_breadth) (some_breadth faces d1 d2)) widths.syy c.over_whole-3.ensures.ends
    (lid-none (2 ^ 100) (length faces.list) c.lids_of_strips-sums.ensures.ends.syy) c.over_whole-3.ensures.width

pub returns-clause-sxx_width : goal.returns-clause-sxx_width
returns-clause-sxx_width c =
    let faces = c.args.faces.now in
    let d1 = c.args.d1 in
    let d2 = c.args.d2 in
    let level = simp (to_z-of_z, c.ranges.d1, c.ranges.d2) at c.level_planes.ensures.level in
    let widths = c.lids_of_strips-sums.ensures.widths d1 d2 c.requires.levels.aft level in
    lid-total faces d1 d2 _ (some_square faces d1 d2 (whole faces.last_x) (some_length faces d1 d2)) widths.sxx c.over_whole-4.ensures.ends
    (lid-none (2 ^ 100) (length faces.list) c.lids_of_strips-sums.ensures.ends.sxx) c.over_whole-4.ensures.width
