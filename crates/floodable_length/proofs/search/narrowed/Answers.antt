use Rattle.std.proofs.Common.{w64, rules}
use Rattle.std.proofs.lemmas.Int.{to_z-of_z}
use mir.Val.{SFits}
use Rattle.floodable_length.proofs.Gaps.{part_above, part_below}
use Rattle.floodable_length.proofs.search.narrowed.Goals as goal

pub returns-in-Safe-clause-gap : goal.returns-in-Safe-clause-gap
returns-in-Safe-clause-gap c ship centre half_step permeability is found =
    let steps : SFits w64 c.args.steps = c.ranges.steps in
    let gap = c.args.gap.now in
    let next : SFits w64 gap.next = search rules in
    let found-2 = rw c.in-Safe.is at found in
    let after = c.above.ensures in
    part_above ship centre half_step permeability gap c.above.result is c.args.steps c.in-Safe.at (simp to_z-of_z at after.safe) after.at after.next after.reason c.requires.above c.requires.below found-2

pub returns-in-Unsafe-clause-gap : goal.returns-in-Unsafe-clause-gap
returns-in-Unsafe-clause-gap c ship centre half_step permeability is found =
    let steps : SFits w64 c.args.steps = c.ranges.steps in
    let gap = c.args.gap.now in
    let found-2 = rw c.in-Unsafe.is at found in
    let after = c.below.ensures in
    part_below ship centre half_step permeability gap c.below.result is c.args.steps c.in-Unsafe.reason after.safe after.at (simp to_z-of_z at after.next) after.reason c.requires.above c.requires.below found-2
