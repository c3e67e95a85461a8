use Rattle.std.proofs.Common.{arith}
use Rattle.std.proofs.lemmas.Grind.{common_steps}
use Rattle.bonjean_curves.proofs.strip.Strip.below.Goals as goal

pub invariant_of-result : goal.invariant_of-result
invariant_of-result c = record {
  rises = c.rise.ensures.bounds;
  area_bound = grind (arith, common_steps);
  moment_bound = grind (arith, common_steps);
}
