-- The first of several faults.
use Rattle.std.specs.Prelude.{ℕ, ◌+◌, Bool, true, false, List, [], ◌∷◌, ◌++◌, Option, Some, None}
use Rattle.job_reader.specs.declared.fault.JobFault.{JobFault}

infixr 4 ◌or_later◌
abbrev pub ◌or_later◌ : Option JobFault → Option JobFault → Option JobFault
None or_later later = later
(Some f) or_later later = Some f

-- the fault, unless the test holds
abbrev pub unless : Bool → JobFault → Option JobFault
unless true f = None
unless false f = Some f

-- the first fault in a list, where each element's is told by its number and by the elements before it
unfoldable pub first_from : {A : Type 0} → (ℕ → List A → A → Option JobFault) → ℕ → List A → List A → Option JobFault
first_from f n before [] = None
first_from f n before (x ∷ rest) = f n before x or_later first_from f (n + 1) (before ++ x ∷ []) rest

-- counted from 1
abbrev pub first_in : {A : Type 0} → (ℕ → List A → A → Option JobFault) → List A → Option JobFault
first_in f list = first_from f 1 [] list
