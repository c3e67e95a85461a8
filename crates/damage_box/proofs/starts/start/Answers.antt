use Rattle.std.proofs.Common.{arith, subst}
use Rattle.std.specs.Int.{w64}
use Rattle.std.proofs.Math.ListN.{length-set}
use Rattle.std.proofs.lemmas.Int.{to_z-of_z}
use mir.Val.{SFits}
use Rattle.damage_box.proofs.Tries as Tries
use Rattle.damage_box.specs.Reading.{IsTried}
use Rattle.damage_box.proofs.starts.start.Goals as goal

pub returns-then-qualifies-clause-ok : goal.returns-then-qualifies-clause-ok
returns-then-qualifies-clause-ok g c =
    let half : SFits w64 c.half_at.result = record { sfits = c.half_at.type_inv } in
    Tries.start_of c.slope-number.result c.slope-number.ensures c.half_at.ensures.value (simp (to_z-of_z, half) at c.tried_at-likely.ensures.tried) (c.qualifies.ensures.pass c.if-qualifies.true)

pub returns-then-qualifies-2-clause-ok : goal.returns-then-qualifies-2-clause-ok
returns-then-qualifies-2-clause-ok g c =
    let half : SFits w64 c.half_at-in-loop-j.result = record { sfits = c.half_at-in-loop-j.type_inv } in
    Tries.start_of c.loop-j.j c.loop-j-test.true c.half_at-in-loop-j.ensures.value (simp (to_z-of_z, half) at c.tried_at-corner.ensures.tried) (c.qualifies-in-loop-j.ensures.pass c.if-qualifies-2.true)

pub loop-j-preserved : goal.loop-j-preserved
loop-j-preserved g c =
    let i = c.loop-j.invariant in
    let half : SFits w64 c.half_at-in-loop-j.result = record { sfits = c.half_at-in-loop-j.type_inv } in
    let t = subst (λ z. IsTried (g.F.Floats.balance c.args.floats.now) z c.tried_at-corner.result) c.half_at-in-loop-j.ensures.value (simp (to_z-of_z, half) at c.tried_at-corner.ensures.tried) in
    record {
      tried = Tries.added c.loop-j.tried c.loop-j.j c.tried_at-corner.result (omega (arith, i.size, c.loop-j-test.true)) i.tried t (c.qualifies-in-loop-j.ensures.fail c.if-qualifies-2.false);
      size = simp length-set i.size;
    }
