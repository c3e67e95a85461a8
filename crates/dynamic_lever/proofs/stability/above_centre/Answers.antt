use Rattle.std.proofs.Common.{◌+◌}
use Rattle.outward_interval.specs.Laws.{sum_contains, difference_contains}
use Rattle.outward_interval.proofs.Narrow.{narrow-sum, narrow-difference}
use Rattle.dynamic_lever.proofs.Ends.{sum_at_most, difference_at_most}
use Rattle.dynamic_lever.proofs.stability.above_centre.Goals as goal

pub returns-clause-contains : goal.returns-clause-contains
returns-clause-contains c x y z h k i = difference_contains 20 _ _ _ _ _ _ _ _ c.sub.ensures (sum_contains 20 _ _ _ _ _ _ _ _ c.add.ensures h k) i

pub returns-clause-narrow : goal.returns-clause-narrow
returns-clause-narrow c u v w h k i = narrow-difference c.sub.ensures (narrow-sum c.add.ensures h k) i

pub returns-clause-ends : goal.returns-clause-ends
returns-clause-ends c k l m h i j = difference_at_most (k + l) m (sum_at_most k l h i c.add.ensures) j c.sub.ensures
