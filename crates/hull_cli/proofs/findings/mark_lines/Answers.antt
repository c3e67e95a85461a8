use Rattle.std.proofs.Common.{arith}
use Rattle.hull_report.specs.Spelling.{IsLine}
use Rattle.hull_cli.specs.Stability.{IsMarkLine}
use Rattle.hull_cli.proofs.Listed.{all_more, numbered_more}
use Rattle.hull_cli.proofs.findings.mark_lines.Goals as goal

pub loop-place-preserved : goal.loop-place-preserved
loop-place-preserved c =
    let inv = c.loop-place.invariant in
    let items = c.in_ok-push.ensures.items in
    record {
      count = omega (arith, inv.count, c.in_ok-push.ensures.len);
      grammar = rw items (all_more IsLine _ _ inv.grammar (c.mark_line.ensures.grammar, tt));
      rows = rw items (numbered_more (IsMarkLine c.args.marks.now) 0 _ c.loop-place.place _ inv.rows (omega (arith, inv.count)) c.mark_line.ensures.line);
    }
