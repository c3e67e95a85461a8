use Rattle.std.proofs.Common.{below_more}
use Rattle.intact_criteria.proofs.flooding.first_marked.Goals as goal

pub loop-degree-preserved : goal.loop-degree-preserved
loop-degree-preserved c = below_more _ _ c.loop-degree.invariant (λ candidate marked. let so = c.is_so_marked.ensures.1 (candidate, marked) in cc)
