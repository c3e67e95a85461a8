use Rattle.damage_box.proofs.Shown.{sharp}
use Rattle.damage_box.proofs.ship.settle.Goals as goal

pub returns-in-Ok-clause-ok : goal.returns-in-Ok-clause-ok
returns-in-Ok-clause-ok c stations is = sharp c.args.flood.now c.args.loading.now c.args.water.now stations is c.in-Ok.found c.in-Ok.ensures.ok

pub returns-in-Err-clause-fault : goal.returns-in-Err-clause-fault
returns-in-Err-clause-fault c stations is = c.from_base.ensures c.args.flood.now c.args.loading.now c.args.water.now stations is c.in-Err.ensures.fault
