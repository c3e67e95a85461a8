use Rattle.std.proofs.Common.{arith}
use Rattle.std.proofs.lemmas.Int.{ints}
use Rattle.exact_algebra.proofs.Span.{contains_wider}
use Rattle.hydro_tables.proofs.divisor.down_to_nought.Goals as goal

pub returns-clause-contains : goal.returns-clause-contains
returns-clause-contains c q h = contains_wider h (omega (arith, ints, c.in-Some.ensures.ends.0, c.min.ensures.self_bound, c.lo.ensures)) (omega (arith, ints, c.in-Some.ensures.ends.1, c.hi.ensures))
