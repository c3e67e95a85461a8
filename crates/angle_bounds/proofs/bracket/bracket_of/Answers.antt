use Rattle.std.proofs.Common.{arith, rules}
use Rattle.angle_bounds.proofs.DegreeNumbers.{below_last}
use Rattle.angle_bounds.proofs.bracket.bracket_of.Goals as goal

pub leaf-requires-clause-last : goal.leaf-requires-clause-last
leaf-requires-clause-last c = omega (arith, below_last c.args.k.degrees c.number_of-number.result (search rules) c.number_of-number.ensures.number)
