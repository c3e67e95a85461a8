-- Words on lists that the body is described with.
use Rattle.std.specs.Prelude.{ℤ, ◌<ℤ◌, ◌⊎◌, List, [], ◌∷◌, ⊤}

-- P holds of some element
abbrev pub AnyByRecursion : {A : Type 0} → (A → Type 0) → List A → Type 0
AnyByRecursion P [] = ⊥
AnyByRecursion P (x ∷ xs) = P x ⊎ AnyByRecursion P xs

-- the number that the key gives rises strictly from each element to the next
abbrev pub Rises : {A : Type 0} → (A → ℤ) → List A → Type 0
Rises key [] = ⊤
Rises key (x ∷ []) = ⊤
Rises key (x ∷ y ∷ rest) = (key x <ℤ key y) × Rises key (y ∷ rest)
