use Rattle.std.proofs.Common.{◌∙◌, refl, ◌<◌, ◌≤◌, length, arith}
use Rattle.std.proofs.lemmas.List.{length-set}
use Rattle.dynamic_lever.specs.Rows.{IsArmAt}
use Rattle.dynamic_lever.proofs.RowFacts.{first_right, one_more, all_right}
use Rattle.dynamic_lever.proofs.arm_table.arms.Goals as goal

pub loop-k-init : goal.loop-k-init
loop-k-init c = (refl, first_right (IsArmAt c.args.faces.now c.args.loading.now c.args.water.now) c.in_ok-upright.upright c.in_ok-upright.ensures.row)

pub loop-k-preserved : goal.loop-k-preserved
loop-k-preserved c =
    let inside : c.loop-k.k < length c.loop-k.rows = omega (arith, c.loop-k.invariant.0, c.loop-k-test.true) in (
      length-set c.loop-k.rows c.loop-k.k c.in_ok-rows.field-0 ∙ c.loop-k.invariant.0,
      one_more (IsArmAt c.args.faces.now c.args.loading.now c.args.water.now) c.loop-k.rows c.loop-k.k c.in_ok-rows.field-0 inside c.loop-k.invariant.1 c.in_ok-rows.ensures.row,
    )

pub returns-clause-rows : goal.returns-clause-rows
returns-clause-rows c =
    let few : length c.loop-k.rows ≤ c.loop-k.k = omega (arith, c.loop-k.invariant.0, c.loop-k-test.false) in
    all_right (IsArmAt c.args.faces.now c.args.loading.now c.args.water.now) c.loop-k.rows c.loop-k.k few c.loop-k.invariant.1
