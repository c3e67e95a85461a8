-- The law of this function, as a lemma proves it:
-- it stands in proofs/WholeNumbers.antt.
use Rattle.exact_algebra.proofs.WholeNumbers.{normal_form_sound_at_whole_numbers}
use Rattle.exact_algebra.proofs.normal_form_is_sound_for_whole_numbers.Goals as goal

pub returns : goal.returns
returns c = normal_form_sound_at_whole_numbers
