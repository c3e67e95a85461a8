use Rattle.intact_criteria.specs.Tables.{AreRowsOf}
use Rattle.intact_criteria.proofs.Rows.{rows_suffice}
use Rattle.intact_criteria.proofs.tests.barge.judged.Goals as goal

pub judge-requires-clause-arms : goal.judge-requires-clause-arms
judge-requires-clause-arms c = rows_suffice.small_arms c.args.faces.now c.args.loading.now c.args.water.now c.in-Ok.table c.in-Ok-upright.row
    (record { rows = c.in-Ok.ensures.rows; row = c.in-Ok-upright.ensures.row })

pub returns-in-Ok-upright : goal.returns-in-Ok-upright
returns-in-Ok-upright c =
    let rows : AreRowsOf c.args.faces.now c.args.loading.now c.args.water.now c.in-Ok.table c.in-Ok-upright.row = record { rows = c.in-Ok.ensures.rows; row = c.in-Ok-upright.ensures.row } in (
      c.in-Ok.table,
      c.in-Ok-upright.row,
      rows,
      λ hull is are. c.judge.ensures.verdict hull c.args.loading.now c.args.water.now
          (rows_suffice.figures c.args.faces.now c.args.loading.now c.args.water.now c.in-Ok.table c.in-Ok-upright.row rows hull is are),
    )
