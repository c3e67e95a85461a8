-- How what is told of a sink grows, put by put.
use Rattle.std.proofs.Common.{◌∙◌, ℕ, List, ◌++◌, Option, Some, None, ap, append_assoc}
use Rattle.desk.specs.Causes.{AppendedIfTold}

-- two pieces, one after the other
pub appended-twice : (a b c : Option (List ℕ)) (x y : List ℕ) → AppendedIfTold a b x → AppendedIfTold b c y → AppendedIfTold a c (x ++ y)
appended-twice a b None x y first second = tt
appended-twice None None (Some c) x y first second = second
appended-twice (Some a) None (Some c) x y first second = absurd second
appended-twice None (Some b) (Some c) x y first second = absurd first
appended-twice (Some a) (Some b) (Some c) x y first second = second ∙ ap (λ z. z ++ y) first ∙ append_assoc a x y
