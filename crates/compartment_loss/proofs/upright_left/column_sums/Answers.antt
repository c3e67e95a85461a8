use Rattle.exact_algebra.proofs.Whole.{whole}
use Rattle.flux_moments.specs.Sizes.{spread, doubled_area, volume_part, length_part}
use Rattle.flux_moments.proofs.ColumnSums.{narrow-end}
use Rattle.compartment_loss.proofs.UprightSums.{upright-start, upright-more}
use Rattle.compartment_loss.proofs.upright_left.column_sums.Goals as goal

pub loop-face-init : goal.loop-face-init
loop-face-init c = (record { near = c.start-known.ensures.near; far = c.start-known.ensures.far }, upright-start c.args.planes.now c.args.way.first c.args.way.last c.args.faces.now c.nothing-sums.result c.nothing-sums.ensures.volume c.nothing-sums.ensures.mx)

pub loop-face-preserved : goal.loop-face-preserved
loop-face-preserved c =
    let column = c.column-column in (
      record { near = column.ensures.near; far = column.ensures.far },
      upright-more c.args.planes.now c.args.way.first c.args.way.last c.args.faces.now c.loop-face.face-index c.loop-face.sums column.result.wet c.loop-face-test.true c.loop-face.invariant.1
          column.ensures.volume_ends column.ensures.mx_ends _ (record { volume = c.add.result; mx = c.add-in-loop-face.result }) column.ensures.volume column.ensures.mx column.ensures.volume_width column.ensures.mx_width
          c.add.ensures c.add-in-loop-face.ensures,
    )

pub returns-clause-volume_width : goal.returns-clause-volume_width
returns-clause-volume_width c b h are = narrow-end (λ f. volume_part (spread b h) (doubled_area f)) c.args.faces.now c.loop-face.face-index c.loop-face.sums.volume
    c.loop-face-test.false (c.loop-face.invariant.1.volume_width b h are)

pub returns-clause-mx_width : goal.returns-clause-mx_width
returns-clause-mx_width c b h are = narrow-end (λ f. length_part (whole c.args.way.last) (spread b h) (doubled_area f)) c.args.faces.now c.loop-face.face-index
    c.loop-face.sums.mx c.loop-face-test.false (c.loop-face.invariant.1.mx_width b h are)
