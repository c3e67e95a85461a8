use Rattle.std.proofs.Common.{refl, arith}
use Rattle.std.specs.Int.{w64}
use Rattle.std.proofs.lemmas.Int.{ints, to_z-of_z}
use mir.Val.{SFits}
use Rattle.hull_model.proofs.Magnitudes.{fits_64}
use Rattle.hull_cli.proofs.Plans.{step_within, plan_step, plan_even, plan_permeability}
use Rattle.hull_cli.proofs.floodable.centre_lines.Goals as goal

pub floodable-requires-clause-step : goal.floodable-requires-clause-step
floodable-requires-clause-step c =
    let plan = c.args.plan.now in
    let step = plan_step plan.centres plan.step plan.permeability plan.limits in
    let step_fits : SFits w64 plan.step = fits_64 _ (omega (arith, ints, step.0, step.1)) in
    simp to_z-of_z step

pub floodable-requires-clause-even : goal.floodable-requires-clause-even
floodable-requires-clause-even c =
    let plan = c.args.plan.now in
    let step = plan_step plan.centres plan.step plan.permeability plan.limits in
    let step_fits : SFits w64 plan.step = fits_64 _ (omega (arith, ints, step.0, step.1)) in
    simp to_z-of_z (plan_even plan.centres plan.step plan.permeability plan.limits)

pub floodable-requires-clause-permeability : goal.floodable-requires-clause-permeability
floodable-requires-clause-permeability c = plan_permeability c.args.plan.now.centres c.args.plan.now.step c.args.plan.now.permeability c.args.plan.now.limits

pub safe_line-requires-clause-length : goal.safe_line-requires-clause-length
safe_line-requires-clause-length c = c.in_ok-reach.ensures.lengths.safe

pub next_line-requires-clause-length : goal.next_line-requires-clause-length
next_line-requires-clause-length c = c.in_ok-reach.ensures.lengths.next

pub returns-clause-lines : goal.returns-clause-lines
returns-clause-lines c =
    let plan = c.args.plan.now in
    let step = step_within plan.centres plan.step plan.permeability plan.limits in
    let centre_fits : SFits w64 c.args.centre = c.ranges.centre in
    let step_fits : SFits w64 plan.step = fits_64 _ (omega (arith, ints, step.0, step.1)) in
    record {
      reach = c.in_ok-reach.reach;
      right = simp to_z-of_z at c.in_ok-reach.ensures.reach;
      safe = c.safe_line.result;
      safe_line = simp to_z-of_z at c.safe_line.ensures.line;
      next = c.next_line.result;
      next_line = simp to_z-of_z at c.next_line.ensures.line;
      whole = refl;
    }
