-- The law of this function, as a lemma proves it:
-- it stands in proofs/Division.antt.
use Rattle.exact_algebra.proofs.Division.{floor_is_greatest}
use Rattle.exact_algebra.proofs.floor_is_greatest.Goals as goal

pub returns : goal.returns
returns c = floor_is_greatest
