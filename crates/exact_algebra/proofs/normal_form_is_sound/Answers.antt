-- The law of this function, at the commutative ring that its operations and their laws make.
-- It is proved in proofs/NormalForm.antt.
use Rattle.exact_algebra.proofs.NormalForm.{normal_form_sound}
use Rattle.exact_algebra.proofs.normal_form_is_sound.Goals as goal

pub returns : goal.returns
returns g c = λ R laws. normal_form_sound (record { Carrier = _; operations = R; laws = laws })
