-- The law of this function, as a lemma proves it:
-- it stands in proofs/Span.antt.
use Rattle.exact_algebra.proofs.Span.{same_ratio_has_same_spans}
use Rattle.exact_algebra.proofs.same_ratio_has_same_spans.Goals as goal

pub returns : goal.returns
returns c = same_ratio_has_same_spans
