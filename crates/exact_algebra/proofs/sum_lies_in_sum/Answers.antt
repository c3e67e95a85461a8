-- The law of this function, as a lemma proves it:
-- it stands in proofs/Span.antt.
use Rattle.exact_algebra.proofs.Span.{sum_lies_in_sum}
use Rattle.exact_algebra.proofs.sum_lies_in_sum.Goals as goal

pub returns : goal.returns
returns c = sum_lies_in_sum
