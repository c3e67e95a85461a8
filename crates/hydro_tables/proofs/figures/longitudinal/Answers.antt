use Rattle.exact_algebra.proofs.Fraction.{◌⊗◌}
use Rattle.outward_interval.specs.Laws.{difference_contains}
use Rattle.outward_interval.proofs.Narrow.{narrow-difference}
use Rattle.hydro_tables.proofs.figures.longitudinal.Goals as goal

pub returns-in-Some-clause-contains : goal.returns-in-Some-clause-contains
returns-in-Some-clause-contains c = rw c.in-Some.is (λ x xx centre h k m. difference_contains 20 c.args.lid.now.sxx.lo c.args.lid.now.sxx.hi c.product.result.lo c.product.result.hi c.sub.result.lo c.sub.result.hi xx (centre ⊗ x) c.sub.ensures k (c.product.ensures.contains centre x m h))

pub returns-in-Some-clause-narrow : goal.returns-in-Some-clause-narrow
returns-in-Some-clause-narrow c = rw c.in-Some.is (λ m n w v y near near_sx wide wide_sx wide_sxx. narrow-difference c.sub.ensures wide_sxx (c.product.ensures.narrow m n w v near near_sx wide wide_sx))
