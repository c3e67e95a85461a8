use Rattle.std.proofs.Common.{get_or, arith}
use Rattle.std.proofs.lemmas.List.{take_more}
use Rattle.hull_report.specs.Spelling.{IsLine}
use Rattle.hull_cli.specs.Tables.{IsHydroLine}
use Rattle.hull_cli.proofs.Listed.{all_more, pairs_more}
use Rattle.hull_cli.proofs.hydro.hydro_lines.Goals as goal

pub loop-draft-preserved : goal.loop-draft-preserved
loop-draft-preserved c =
    let inv = c.loop-draft.invariant in
    let items = c.in_ok-push.ensures.items in
    let drafts = c.args.drafts.now in
    let i = c.loop-draft.draft-index in
    record {
      count = omega (arith, inv.count, c.in_ok-push.ensures.len);
      grammar = rw items (all_more IsLine _ _ inv.grammar (c.hydro_line.ensures.grammar, tt));
      rows = λ hull is faces. rw (items, take_more drafts i 0 c.loop-draft-test.true)
          (pairs_more (IsHydroLine hull c.args.water.now) _ _ (get_or drafts i 0) _ (inv.rows hull is faces) (c.hydro_line.ensures.line hull is faces));
    }
