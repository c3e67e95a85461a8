use Rattle.std.proofs.Common.{◌≡◌, ◌≤◌, pos, arith}
use Rattle.std.proofs.lemmas.Int.{ints}
use mir.Val.{to_z}
use mir.Syntax.{w64}
use Rattle.job_reader.proofs.Ranges.{at_most, plan_keeps}
use Rattle.job_reader.proofs.entry.plan_of.Goals as goal

pub invariant_of-result : goal.invariant_of-result
invariant_of-result c =
    let step = c.in_ok-step.step in
    let small : step ≤ 100000 = at_most 2 100000 step c.in_ok-step.ensures.range in
    let same : to_z w64 step ≡ pos step = omega (arith, ints) in
    record { limits = rw (c.new.ensures, c.in_ok-lengths_of.ensures, c.deref.ensures.value, same) (plan_keeps c.in_ok-centres.centres.items step c.in_ok-permeability.permeability c.in_ok-centres.ensures.few c.in_ok-centres.ensures.range c.in_ok-step.ensures.range c.if-step-ne0.false c.in_ok-permeability.ensures.range) }
