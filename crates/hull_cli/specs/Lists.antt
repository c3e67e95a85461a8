-- Lists of lines, by what they are made of.
use Rattle.std.specs.Prelude.{ℕ, suc, ◌≡◌, ⊤, List, [], ◌∷◌, ◌++◌}

-- two lists of one length, of which what stands in the same place is so related
abbrev pub Pairwise : {A B : Type 0} → (A → B → Type 0) → List A → List B → Type 0
Pairwise R [] [] = ⊤
Pairwise R [] (b ∷ bs) = ⊥
Pairwise R (a ∷ others) [] = ⊥
Pairwise R (a ∷ others) (b ∷ bs) = R a b × Pairwise R others bs

-- each entry is so related to its number, where the first has this one
abbrev pub NumberedFrom : {A : Type 0} → (ℕ → A → Type 0) → ℕ → List A → Type 0
NumberedFrom R n [] = ⊤
NumberedFrom R n (a ∷ others) = R n a × NumberedFrom R (suc n) others

-- two lists of one length, of which what stands in the same place is so related to each other and to its number, where the first has this one
abbrev pub NumberedPairs : {A B : Type 0} → (ℕ → A → B → Type 0) → ℕ → List A → List B → Type 0
NumberedPairs R n [] [] = ⊤
NumberedPairs R n [] (b ∷ bs) = ⊥
NumberedPairs R n (a ∷ others) [] = ⊥
NumberedPairs R n (a ∷ others) (b ∷ bs) = R n a b × NumberedPairs R (suc n) others bs

-- the entries of parts, one part after the other, each in its relation to what it is made of
abbrev pub Joined : {A B : Type 0} → (A → List B → Type 0) → List A → List B → Type 0
Joined part [] entries = entries ≡ []
Joined part (one ∷ others) entries =
    (first later : List _) × (entries ≡ first ++ later) × part one first × Joined part others later
