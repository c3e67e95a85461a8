use Rattle.std.proofs.Common.{get_or, arith}
use Rattle.std.proofs.lemmas.List.{take_more}
use Rattle.std.proofs.lemmas.Result.{err_from_is_err_and}
use Rattle.draft_bracket.specs.DraftBracket.{IsTooHeavy}
use Rattle.hull_report.specs.Spelling.{IsLine}
use Rattle.loading_sheet.specs.Centre.{displaced_by}
use Rattle.hull_cli.specs.Curves.{IsCurve}
use Rattle.hull_cli.proofs.CrossLines.{curves_stop}
use Rattle.hull_cli.proofs.Listed.{all_more, joined_more}
use Rattle.hull_cli.proofs.cross.cross_lines.Goals as goal

pub loop-mass-preserved : goal.loop-mass-preserved
loop-mass-preserved c =
    let inv = c.loop-mass.invariant in
    let items = rw c.deref.ensures.value at c.in_ok-extend_from_slice.ensures.items in
    let masses = c.args.masses.now in
    let i = c.loop-mass.mass-index in
    let curve = c.in_ok-curve.ensures.lines in
    record {
      count = omega (arith, inv.count, c.in_ok-extend_from_slice.ensures.len, c.deref.ensures.len, c.in_ok-curve.ensures.count);
      grammar = rw items (all_more IsLine _ _ inv.grammar c.in_ok-curve.ensures.grammar);
      light = λ hull is are. rw (take_more masses i 0 c.loop-mass-test.true) (all_more (λ m. ¬ (IsTooHeavy hull (displaced_by m c.args.water.now))) _ _ (inv.light hull is are) (c.in_ok-curve.ensures.light hull is are, tt));
      rows = λ hull is are. rw (items, take_more masses i 0 c.loop-mass-test.true) (joined_more (IsCurve hull c.args.water.now) _ (get_or masses i 0) _ _ (inv.rows hull is are) (curve hull is are));
    }

pub returns-in_err-curve-clause-stops : goal.returns-in_err-curve-clause-stops
returns-in_err-curve-clause-stops c =
    let inv = c.loop-mass.invariant in
    let p = err_from_is_err_and c.from_residual.result c.from_residual.ensures.1 in
    rw (p.1, p.2) (λ hull is are. curves_stop hull c.args.water.now c.args.masses.now c.loop-mass.mass-index 0 c.in_err-curve.field-0.0 c.loop-mass-test.true (inv.light hull is are) (c.in_err-curve.ensures.stops hull is are))
