-- Parts of lists that are laid end to end.
use Rattle.std.specs.Prelude.{ℕ, suc, ◌+◌, ◌≤◌, ◌<◌, List, [], ◌∷◌, length, get_or}
use Rattle.hull_polyhedron.specs.declared.part.Part.{Part}

abbrev pub part : ℕ → ℕ → Part
part from to = record { from = from; to = to }

-- the part of a number, counted from 0
abbrev pub part_at : List Part → ℕ → Part
part_at parts n = get_or parts n (part 0 0)

-- a part of a list of so many elements
abbrev pub IsPartOf : ℕ → Part → Type 0
IsPartOf count p = (p.from ≤ p.to) × (p.to ≤ count)

-- none begins before the one before it ends
abbrev pub AreInOrder : List Part → Type 0
AreInOrder parts = (n : ℕ) → suc n < length parts → (part_at parts n).to ≤ (part_at parts (suc n)).from

-- a model of the loops that lay lists end to end: where each begins and ends, the first at a place
abbrev pub parts_from : {A : Type 0} → ℕ → List (List A) → List Part
parts_from place [] = []
parts_from place (xs ∷ rest) = part place (place + length xs) ∷ parts_from (place + length xs) rest
