use Rattle.hull_model.proofs.Balance.{balanced_sums}
use Rattle.hull_model.proofs.laws.balanced_lists_have_equal_sums.Goals as goal

pub returns : goal.returns
returns g c = λ R laws. balanced_sums (record { Carrier = _; operations = R; laws = laws })
