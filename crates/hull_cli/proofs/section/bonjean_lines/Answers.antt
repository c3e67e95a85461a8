use Rattle.std.proofs.Common.{get_or, arith}
use Rattle.std.proofs.lemmas.List.{take_more}
use Rattle.hull_report.specs.Spelling.{IsLine}
use Rattle.hull_cli.specs.Sections.{AreSectionLines}
use Rattle.hull_cli.proofs.Listed.{all_more, joined_more}
use Rattle.hull_cli.proofs.section.bonjean_lines.Goals as goal

pub loop-draft-preserved : goal.loop-draft-preserved
loop-draft-preserved c =
    let inv = c.loop-draft.invariant in
    let items = rw c.deref.ensures.value at c.in_ok-extend_from_slice.ensures.items in
    let drafts = c.args.drafts.now in
    let i = c.loop-draft.draft-index in
    let sections = c.in_ok-sections.ensures.lines in
    record {
      count = omega (arith, inv.count, c.in_ok-extend_from_slice.ensures.len, c.deref.ensures.len, sections.count);
      grammar = rw items (all_more IsLine _ _ inv.grammar c.in_ok-sections.ensures.grammar);
      rows = rw (items, take_more drafts i 0 c.loop-draft-test.true) (joined_more (AreSectionLines c.args.hull.now) _ (get_or drafts i 0) _ _ inv.rows sections);
    }
