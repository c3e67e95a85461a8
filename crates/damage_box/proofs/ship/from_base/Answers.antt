use Rattle.damage_box.proofs.Shown.{sunk, no_start_shown}
use Rattle.damage_box.proofs.ship.from_base.Goals as goal

pub returns-in-Sinks : goal.returns-in-Sinks
returns-in-Sinks c flood loading water stations is h =
    sunk flood loading water stations is c.in-Sinks.left c.from_nought.result (rw c.in-Sinks.is at h) c.from_nought.ensures.hi c.from_nought.ensures.lo c.from_nought.ensures.above c.from_nought.ensures.some

pub returns-in-NoStart : goal.returns-in-NoStart
returns-in-NoStart c flood loading water stations is h =
    no_start_shown flood loading water stations is c.in-NoStart.tip c.in-NoStart.tried (rw c.in-NoStart.is at h)
