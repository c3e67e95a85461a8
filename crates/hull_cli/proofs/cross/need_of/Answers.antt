use Rattle.hull_cli.proofs.CrossLines.{big_need}
use Rattle.hull_cli.proofs.cross.need_of.Goals as goal

pub returns-clause-big : goal.returns-clause-big
returns-clause-big c = rw c.volume_displaced.ensures.same (big_need c.args.mass c.args.water.now c.requires.some)
