use Rattle.std.proofs.Common.{arith}
use Rattle.hull_report.specs.Spelling.{IsLine}
use Rattle.hull_cli.specs.Stability.{IsArmLine}
use Rattle.hull_cli.proofs.Listed.{all_more, numbered_more}
use Rattle.hull_cli.proofs.levers.arm_lines.Goals as goal

pub loop-degree-preserved : goal.loop-degree-preserved
loop-degree-preserved c =
    let inv = c.loop-degree.invariant in
    let items = c.in_ok-push.ensures.items in
    record {
      count = omega (arith, inv.count, c.in_ok-push.ensures.len);
      grammar = rw items (all_more IsLine _ _ inv.grammar (c.arm_line.ensures.grammar, tt));
      rows = rw items (numbered_more (IsArmLine c.args.version c.args.arms.now) 0 _ c.loop-degree.degree _ inv.rows (omega (arith, inv.count)) c.arm_line.ensures.line);
    }
