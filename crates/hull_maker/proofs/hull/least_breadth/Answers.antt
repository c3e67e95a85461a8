use Rattle.std.proofs.Common.{rules, ◌+◌, ◌*◌}
use Rattle.std.proofs.lemmas.Nat.{mul-le}
use Rattle.hull_maker.specs.MadeHull.{least_breadth}
use Rattle.hull_maker.proofs.hull.least_breadth.Goals as goal

pub returns-clause-value : goal.returns-clause-value
unfolding least_breadth
returns-clause-value c = search rules

pub returns-clause-range : goal.returns-clause-range
returns-clause-range c = mul-le (100 * (c.min-2.result + 1)) (c.min-3.result + 1) 1100 8 (search rules) (search rules)
