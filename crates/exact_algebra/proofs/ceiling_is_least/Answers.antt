-- The law of this function, as a lemma proves it:
-- it stands in proofs/Division.antt.
use Rattle.exact_algebra.proofs.Division.{ceiling_is_least}
use Rattle.exact_algebra.proofs.ceiling_is_least.Goals as goal

pub returns : goal.returns
returns c = ceiling_is_least
