-- The rows that a station keeps.
use Rattle.std.proofs.Common.{◌≡◌, ◌∙◌, inl, inr, ap, sym, ◌<◌, ◌≤◌, arith, length, Bool, true, false, ◌==◌, ◌&&◌, if◌then◌else◌, List, [], ◌∷◌, ◌++◌, reverse, None, refl}
use Rattle.std.specs.Bool.{⊤}
use Rattle.std.specs.List.{AllByRecursion, list_all}
use Rattle.std.proofs.lemmas.Bool.{cases_Bool}
use Rattle.std.proofs.lemmas.Grind.{common_steps}
use Rattle.std.proofs.lemmas.List.{reverse-append}
use Rattle.std.proofs.lemmas.List.Folds.{list_all-append}
use Rattle.offset_reader.specs.declared.row.Row.{Row}
use Rattle.offset_reader.specs.Heights.{height_fault}
use Rattle.offset_reader.specs.Points.{above_bottom, below_deck, kept}
use Rattle.offset_reader.proofs.HeightFacts.{climb_fault, climb_start, height_climb}

-- all rows have the height of the row
abbrev pub at_height : Row → List Row → Bool
at_height r rows = list_all (λ s. s.z == r.z) rows

-- the rows up to the first from which on all heights are equal
abbrev pub up_to_deck : List Row → List Row
up_to_deck [] = []
up_to_deck (r ∷ rest) = if at_height r rest then r ∷ [] else r ∷ up_to_deck rest

one_height : (r : Row) (xs : List Row) → at_height r xs ≡ true → above_bottom (xs ++ (r ∷ [])) ≡ r ∷ []
one_height r [] h = refl
one_height r (a ∷ []) h = grind (arith, common_steps)
one_height r (a ∷ b ∷ xs) h =
    let rest : at_height r (b ∷ xs) ≡ true = grind (arith, common_steps) in
    let later = one_height r (b ∷ xs) rest in
    let same : (a.z == b.z) ≡ true = grind (arith, common_steps) in
    rw same later

more_heights : (r : Row) (xs : List Row) → at_height r xs ≡ false → above_bottom (xs ++ (r ∷ [])) ≡ above_bottom xs ++ (r ∷ [])
more_heights r [] h = let no : true ≡ false = h in (cc)
more_heights r (a ∷ []) h =
    let other : (a.z == r.z) ≡ false = grind (arith, common_steps) in
    rw other refl
more_heights r (a ∷ b ∷ xs) h =
    elim (cases_Bool (a.z == b.z)) [
      | inl same ↦
          let rest : at_height r (b ∷ xs) ≡ false = grind (arith, common_steps) in
          let later = more_heights r (b ∷ xs) rest in
          rw same later
      | inr other ↦ rw other refl
    ]

turned : (x : Row) (xs : List Row) → reverse (x ∷ xs) ≡ reverse xs ++ (x ∷ [])
turned x xs = reverse-append (x ∷ []) xs

turned_back : (xs : List Row) (x : Row) → reverse (xs ++ (x ∷ [])) ≡ x ∷ reverse xs
turned_back xs x = reverse-append xs (x ∷ [])

both_ways : (a b : Bool) → (a && (b && true)) ≡ (b && a)
both_ways true true = refl
both_ways true false = refl
both_ways false true = refl
both_ways false false = refl

all_reversed : (p : Row → Bool) (xs : List Row) → list_all p (reverse xs) ≡ list_all p xs
all_reversed p [] = refl
all_reversed p (x ∷ xs) =
    let later = all_reversed p xs in
    let parts = list_all-append p (reverse xs) (x ∷ []) in
    rw (turned x xs, parts, later) (both_ways (list_all p xs) (p x))

-- dropping from the end leaves the rows up to the deck
pub deck_front : (xs : List Row) → below_deck xs ≡ up_to_deck xs
deck_front [] = refl
deck_front (r ∷ rest) =
    let back = all_reversed (λ s. s.z == r.z) rest in
    elim (cases_Bool (at_height r rest)) [
      | inl same ↦
          let one = one_height r (reverse rest) (back ∙ same) in
          ap (λ all. reverse (above_bottom all)) (turned r rest) ∙ ap reverse one ∙ rw same refl
      | inr other ↦
          let more = more_heights r (reverse rest) (back ∙ other) in
          ap (λ all. reverse (above_bottom all)) (turned r rest) ∙ ap reverse more ∙ turned_back (above_bottom (reverse rest)) r
          ∙ rw other (ap (λ all. r ∷ all) (deck_front rest))
    ]

-- heights rise from each row to the next
abbrev pub Climb : List Row → Type 0
Climb [] = ⊤
Climb (r ∷ []) = ⊤
Climb (r ∷ s ∷ rest) = (r.z < s.z) × Climb (s ∷ rest)

deck_first : (s : Row) (rest : List Row) → (more : List Row) × (up_to_deck (s ∷ rest) ≡ s ∷ more)
deck_first s rest =
    elim (cases_Bool (at_height s rest)) [
      | inl same ↦ ([], rw same refl)
      | inr other ↦ (up_to_deck rest, rw other refl)
    ]

climb_more : (r s : Row) (rest : List Row) → r.z < s.z → Climb (up_to_deck (s ∷ rest)) → Climb (r ∷ up_to_deck (s ∷ rest))
climb_more r s rest up later =
    let first = deck_first s rest in
    let after = rw first.1 at later in
    rw first.1 (up, after)

-- with no fault, the rows up to the deck rise
pub front_climbs : (xs : List Row) → climb_fault false xs ≡ None → Climb (up_to_deck xs)
front_climbs [] h = tt
front_climbs (r ∷ []) h = tt
front_climbs (r ∷ s ∷ rest) h =
    elim (cases_Bool (at_height r (s ∷ rest))) [
      | inl same ↦ rw same tt
      | inr other ↦
          let up : r.z < s.z = grind (arith, common_steps) in
          let later : climb_fault false (s ∷ rest) ≡ None = grind (arith, common_steps) in
          rw other (climb_more r s rest up (front_climbs (s ∷ rest) later))
    ]

some_bottom : (s : List Row) → 1 ≤ length s → 1 ≤ length (above_bottom s)
some_bottom [] some = some
some_bottom (r ∷ []) some = some
some_bottom (r ∷ s ∷ rest) some =
    elim (cases_Bool (r.z == s.z)) [
      | inl same ↦ rw same (some_bottom (s ∷ rest) (omega arith))
      | inr other ↦ rw other some
    ]

some_front : (s : List Row) → 1 ≤ length s → 1 ≤ length (up_to_deck s)
some_front [] some = some
some_front (r ∷ rest) some =
    let first = deck_first r rest in
    rw first.1 (omega arith)

all_bottom : (P : Row → Type 0) (s : List Row) → AllByRecursion P s → AllByRecursion P (above_bottom s)
all_bottom P [] all = tt
all_bottom P (r ∷ []) all = all
all_bottom P (r ∷ s ∷ rest) all =
    elim (cases_Bool (r.z == s.z)) [
      | inl same ↦ rw same (all_bottom P (s ∷ rest) all.1)
      | inr other ↦ rw other all
    ]

all_front : (P : Row → Type 0) (s : List Row) → AllByRecursion P s → AllByRecursion P (up_to_deck s)
all_front P [] all = tt
all_front P (r ∷ rest) all =
    elim (cases_Bool (at_height r rest)) [
      | inl same ↦ rw same (all.0, tt)
      | inr other ↦ rw other (all.0, all_front P rest all.1)
    ]

-- the heights of the kept rows rise where none is out of order
pub kept_climb : (s : List Row) → height_fault s ≡ None → Climb (kept s)
unfolding kept
kept_climb s h = rw (deck_front (above_bottom s)) (front_climbs (above_bottom s) (sym (climb_start s) ∙ sym (height_climb s) ∙ h))

-- some row is kept
pub some_kept : (s : List Row) → 1 ≤ length s → 1 ≤ length (kept s)
unfolding kept
some_kept s some = rw (deck_front (above_bottom s)) (some_front (above_bottom s) (some_bottom s some))

-- what holds of all rows holds of the kept ones
pub all_kept : (P : Row → Type 0) (s : List Row) → AllByRecursion P s → AllByRecursion P (kept s)
unfolding kept
all_kept P s all = rw (deck_front (above_bottom s)) (all_front P (above_bottom s) (all_bottom P s all))
