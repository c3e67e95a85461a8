-- Lists in order.
use Rattle.std.proofs.Common.{◌<◌, List, [], ◌∷◌, length, ℤ, arith}
use Rattle.hull_model.specs.Lists.{Rises}

-- a list of fewer than two elements is in order
pub short-Rises : {A : Type 0} (key : A → ℤ) (xs : List A) → length xs < 2 → Rises key xs
short-Rises key [] h = tt
short-Rises key (x ∷ []) h = tt
short-Rises key (x ∷ y ∷ xs) h = absurd (omega arith)
