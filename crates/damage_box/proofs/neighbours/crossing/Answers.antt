use Rattle.std.proofs.Common.{inr, arith}
use Rattle.std.proofs.lemmas.Int.{to_z-of_z, ints}
use mir.Syntax.{w64}
use mir.Val.{SFits}
use Rattle.damage_box.proofs.Moves as Moves
use Rattle.damage_box.proofs.neighbours.crossing.Goals as goal

pub loop-passed-preserved-then-look : goal.loop-passed-preserved-then-look
loop-passed-preserved-then-look g c =
    let level : SFits w64 c.between-level.result = record { sfits = c.between-level.type_inv } in
    let inv = simp (to_z-of_z, c.ranges.low, c.ranges.high) at c.loop-passed.invariant in
    let pass = simp (to_z-of_z, level) at c.look-look.ensures.pass in
    simp (to_z-of_z, level, c.ranges.low, c.ranges.high)
    (record { from = inv.from; order = c.between-level.ensures.above; to = omega (arith, ints, inv.to, c.between-level.ensures.below); lower = inv.lower; upper = inr (pass c.if-look.true) })

pub loop-passed-preserved : goal.loop-passed-preserved
loop-passed-preserved g c =
    let level : SFits w64 c.between-level.result = record { sfits = c.between-level.type_inv } in
    let inv = simp (to_z-of_z, c.ranges.low, c.ranges.high) at c.loop-passed.invariant in
    let fail = simp (to_z-of_z, level) at c.look-look.ensures.fail in
    simp (to_z-of_z, level, c.ranges.low, c.ranges.high)
    (record { from = omega (arith, ints, inv.from, c.between-level.ensures.above); order = c.between-level.ensures.below; to = inv.to; lower = inr (fail c.if-look.false); upper = inv.upper })

pub returns-clause-lower : goal.returns-clause-lower
returns-clause-lower g c =
    let inv = simp (to_z-of_z, c.ranges.low, c.ranges.high) at c.loop-passed.invariant in
    let gap = Moves.between_fits _ _ c.requires.low_level c.requires.high_level inv.from inv.order inv.to in
    let t = simp (to_z-of_z, gap) at c.loop-passed-test.false in
    Moves.last_step (λ x. g.T.Test.fails c.args.test.now x) _ _ _ inv.order (omega (arith, ints, t)) inv.lower
