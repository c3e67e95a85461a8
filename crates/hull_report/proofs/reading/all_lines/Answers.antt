use Rattle.std.proofs.Common.{option_map, subst}
use Rattle.hull_report.specs.Answers.{Begins}
use Rattle.hull_report.proofs.Texts.{one_more}
use Rattle.hull_report.proofs.reading.all_lines.Goals as goal

pub loop-rest-preserved : goal.loop-rest-preserved
loop-rest-preserved c =
    let begins = subst (λ found. Begins c.loop-rest.rest.now (option_map (λ p. (p.0, p.1.now)) found)) c.in-Some.is c.in_ok-line.ensures in
    let kept = c.loop-rest.invariant in
    let more = one_more c.args.bytes.now c.loop-rest.rest.now c.in-Some.after.now c.loop-rest.lines.items c.push.new.self.items c.in-Some.line
    c.in_ok-push-in-Some.ensures.items begins.0 begins.1 kept.good kept.parts kept.count in
    record { good = more.0; parts = more.1; count = more.2 }
