use Rattle.std.proofs.Common.{subst, slice_index_or}
use Rattle.angle_bounds.specs.Degrees.{IsNumberOf}
use Rattle.angle_bounds.specs.declared.numbers.TheConstants.{NUMBERS}
use Rattle.angle_bounds.proofs.Table.{number_at}
use Rattle.angle_bounds.proofs.numbers.number_of.Goals as goal

pub returns : goal.returns
returns c = record { number = subst (λ k. IsNumberOf k (slice_index_or NUMBERS c.get.result 0)) c.get.ensures.same (number_at c.get.result 0 c.get.ensures.most) }
