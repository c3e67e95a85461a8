use Rattle.damage_box.proofs.Moves as Moves
use Rattle.damage_box.proofs.inwards.narrowed.Goals as goal

pub moved_last-requires-clause-limits : goal.moved_last-requires-clause-limits
moved_last-requires-clause-limits g c =
    Moves.limits c.requires.limits c.loop-next.invariant

pub moved_last-requires-clause-signs : goal.moved_last-requires-clause-signs
moved_last-requires-clause-signs g c =
    c.loop-next.invariant.signs

pub moved_first-requires-clause-limits : goal.moved_first-requires-clause-limits
moved_first-requires-clause-limits g c =
    Moves.limits c.requires.limits c.loop-next.invariant

pub moved_first-requires-clause-signs : goal.moved_first-requires-clause-signs
moved_first-requires-clause-signs g c =
    c.loop-next.invariant.signs

pub loop-next-smaller-in-Some : goal.loop-next-smaller-in-Some
loop-next-smaller-in-Some g c =
    Moves.nearer_last c.loop-next.invariant c.in-Some.ensures.some

pub loop-next-preserved-in-Some : goal.loop-next-preserved-in-Some
loop-next-preserved-in-Some g c =
    Moves.onward_last c.loop-next.invariant c.in-Some.ensures.some

pub loop-next-smaller : goal.loop-next-smaller
loop-next-smaller g c =
    Moves.nearer_first c.loop-next.invariant c.in-Some-moved_first.ensures.some

pub loop-next-preserved : goal.loop-next-preserved
loop-next-preserved g c =
    Moves.onward_first c.loop-next.invariant c.in-Some-moved_first.ensures.some

pub returns-in-None-moved_first-clause-inward : goal.returns-in-None-moved_first-clause-inward
returns-in-None-moved_first-clause-inward g c =
    c.loop-next.invariant
