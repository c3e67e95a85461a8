use Rattle.std.proofs.Common.{arith}
use Rattle.std.proofs.Math.Seq.{take-add}
use Rattle.std.proofs.lemmas.List.{take_rest}
use Rattle.desk.proofs.Appended.{appended-twice}
use Rattle.report_run.proofs.writing.put_all.Goals as goal

pub loop-at-preserved : goal.loop-at-preserved
loop-at-preserved g c =
    let inv = c.loop-at.invariant in
    let piece = rw (take_rest c.args.text.now c.loop-at.at) at c.in-Ok.ensures.bytes in
    record {
      within = omega (arith, c.in-Ok.ensures.within);
      written = rw (take-add c.loop-at.at c.in-Ok.count c.args.text.now) (appended-twice _ _ _ _ _ inv.written piece);
      later = omega (arith, inv.later, c.put.ensures.later);
    }
