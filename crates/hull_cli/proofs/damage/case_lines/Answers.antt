use Rattle.std.proofs.Common.{get_or, subst, ◌+◌, arith}
use Rattle.std.proofs.lemmas.List.{take_more}
use Rattle.hull_report.specs.Spelling.{IsLine}
use Rattle.job_reader.specs.declared.job.Damage.{Damage}
use Rattle.hull_cli.specs.Damages.{IsCaseLine}
use Rattle.hull_cli.proofs.Listed.{all_more, numbered_pairs_more}
use Rattle.hull_cli.proofs.damage.case_lines.Goals as goal

pub loop-damage-preserved : goal.loop-damage-preserved
loop-damage-preserved c =
    let inv = c.loop-damage.invariant in
    let items = c.in_ok-push.ensures.items in
    let damages = c.args.damages.now in
    let i = c.loop-damage.damage-index in
    let one = c.damage-item.result in
    let number = c.loop-damage.case + 1 in
    let made = c.in_ok-case_line.ensures.line in
    record {
      number = omega (arith, inv.number);
      count = omega (arith, inv.count, c.in_ok-push.ensures.len);
      grammar = rw items (all_more IsLine _ _ inv.grammar (c.in_ok-case_line.ensures.grammar, tt));
      rows = λ hull is are. rw (items, take_more damages i one c.loop-damage-test.true)
          (numbered_pairs_more (IsCaseLine hull c.args.water.now c.args.loading.now) 1 _ _ number (get_or damages i one) _ (inv.rows hull is are) (omega (arith, inv.number, inv.count))
          (subst (λ (d : Damage). IsCaseLine hull c.args.water.now c.args.loading.now number d c.in_ok-case_line.field-0) c.damage-item.is (made hull is are)));
    }
