-- The order of the cross products is that of the fractions.
use Rattle.std.proofs.Common.{rules}
use Rattle.exact_fraction.proofs.CrossProducts.{order_by_products}
use Rattle.exact_fraction.proofs.comparison.cmp_frac.Goals as goal

pub returns-clause-order : goal.returns-clause-order
returns-clause-order c = order_by_products c.args.a.now c.args.b.now c.cmp.result (search rules)
