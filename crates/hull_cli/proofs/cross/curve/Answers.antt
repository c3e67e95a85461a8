use Rattle.std.proofs.Common.{◌≡◌, true, false, arith}
use Rattle.hull_report.specs.Spelling.{IsLine}
use Rattle.hull_cli.specs.Curves.{IsCrossLine}
use Rattle.hull_cli.proofs.Listed.{all_more, numbered_more}
use Rattle.hull_cli.proofs.cross.curve.Goals as goal

pub loop-degree-preserved : goal.loop-degree-preserved
loop-degree-preserved c =
    let inv = c.loop-degree.invariant in
    let items = c.in_ok-push-in-Ok.ensures.items in
    record {
      count = omega (arith, inv.count, c.in_ok-push-in-Ok.ensures.len);
      grammar = rw items (all_more IsLine _ _ inv.grammar (c.in-Ok.ensures.grammar, tt));
      light = λ _ hull is are heavy. let no : false ≡ true = (c.in-Ok.ensures.too_heavy hull is are).1 heavy in cc;
      rows = λ hull is are. rw items (numbered_more (IsCrossLine hull c.args.water.now c.args.mass) 0 _ c.loop-degree.degree _ (inv.rows hull is are) (omega (arith, inv.count)) (c.in-Ok.ensures.line hull is are));
    }
