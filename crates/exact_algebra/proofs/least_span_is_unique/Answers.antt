-- The law of this function, as a lemma proves it:
-- it stands in proofs/Span.antt.
use Rattle.exact_algebra.proofs.Span.{least_span_is_unique}
use Rattle.exact_algebra.proofs.least_span_is_unique.Goals as goal

pub returns : goal.returns
returns c = least_span_is_unique
