-- The law of this function, as a lemma proves it:
-- it stands in proofs/WholeNumbers.antt.
use Rattle.exact_algebra.proofs.WholeNumbers.{whole_number_laws}
use Rattle.exact_algebra.proofs.whole_numbers_are_a_ring.Goals as goal

pub returns : goal.returns
returns c = whole_number_laws
