-- Lists that are laid end to end: each is found again by its part.
use Rattle.std.proofs.Common.{ℕ, zero, suc, ◌+◌, ◌-◌, ◌≤◌, ◌<◌, ◌≡◌, refl, sym, ◌∙◌, ap, ap₂, List, [], ◌∷◌, ◌++◌, length, take, drop, get_or, arith}
use Rattle.std.proofs.lemmas.List.{append-nil, append_assoc, length-append}
use Rattle.std.proofs.Math.Seq.{drop-append_seam, take-append_seam}
use Rattle.std.specs.List.{AllByRecursion, slice_range}
use Rattle.hull_polyhedron.specs.Parts.{part_at, IsPartOf, AreInOrder, parts_from}
use Rattle.hull_polyhedron.specs.StripLists.{joined}

pub parts-length : {A : Type 0} (place : ℕ) (lists : List (List A)) → length (parts_from place lists) ≡ length lists
parts-length place [] = refl
parts-length place (xs ∷ rest) = ap suc (parts-length (place + length xs) rest)

pub parts_within : {A : Type 0} (place : ℕ) (lists : List (List A)) (count : ℕ) → place + length (joined lists) ≤ count → AllByRecursion (IsPartOf count) (parts_from place lists)
parts_within place [] count h = tt
parts_within place (xs ∷ rest) count h = ((omega arith, omega (arith, length-append xs (joined rest))), parts_within (place + length xs) rest count (omega (arith, length-append xs (joined rest))))

pub in_order : {A : Type 0} (place : ℕ) (lists : List (List A)) → AreInOrder (parts_from place lists)
in_order place [] n less = absurd (omega arith)
in_order place (xs ∷ []) n less = absurd (omega arith)
in_order place (xs ∷ ys ∷ rest) zero less = omega arith
in_order place (xs ∷ ys ∷ rest) (suc n) less = in_order (place + length xs) (ys ∷ rest) n (omega arith)

first_part : {A : Type 0} (before xs : List A) (lists : List (List A)) (after : List A) → slice_range (before ++ ((xs ++ joined lists) ++ after)) (length before) (length before + length xs) ≡ xs
first_part before xs lists after =
    ap₂ take (less (length before) (length xs)) (drop-append_seam before ((xs ++ joined lists) ++ after))
    ∙ ap (take (length xs)) (append_assoc xs (joined lists) after) ∙ take-append_seam xs (joined lists ++ after)
  where
    less : (m n : ℕ) → m + n - m ≡ n
    less m n = omega arith

-- the list of a number, among lists between two others
pub list_at : {A : Type 0} (before : List A) (lists : List (List A)) (after : List A) (n : ℕ) → n < length lists
    → slice_range (before ++ (joined lists ++ after)) (part_at (parts_from (length before) lists) n).from (part_at (parts_from (length before) lists) n).to ≡ get_or lists n []
list_at before [] after n less = absurd (omega arith)
list_at before (xs ∷ rest) after zero less = first_part before xs rest after
list_at {A} before (xs ∷ rest) after (suc n) less = moved ∙ list_at (before ++ xs) rest after n (omega arith)
  where
    same : before ++ ((xs ++ joined rest) ++ after) ≡ (before ++ xs) ++ (joined rest ++ after)
    same = ap (λ ys. before ++ ys) (append_assoc xs (joined rest) after) ∙ sym (append_assoc before xs (joined rest ++ after))

    moved : slice_range (before ++ ((xs ++ joined rest) ++ after)) (part_at (parts_from (length before + length xs) rest) n).from (part_at (parts_from (length before + length xs) rest) n).to ≡ slice_range ((before ++ xs) ++ (joined rest ++ after)) (part_at (parts_from (length (before ++ xs)) rest) n).from (part_at (parts_from (length (before ++ xs)) rest) n).to
    moved = ap₂ (λ (ys : List A) (place : ℕ). slice_range ys (part_at (parts_from place rest) n).from (part_at (parts_from place rest) n).to) same (sym (length-append before xs))

-- without any around them
pub only_list_at : {A : Type 0} (lists : List (List A)) (n : ℕ) → n < length lists
    → slice_range (joined lists) (part_at (parts_from 0 lists) n).from (part_at (parts_from 0 lists) n).to ≡ get_or lists n []
only_list_at {A} lists n less = ap (λ (ys : List A). slice_range ys (part_at (parts_from 0 lists) n).from (part_at (parts_from 0 lists) n).to) (sym (append-nil (joined lists))) ∙ list_at [] lists [] n less

-- what holds of all elements holds of those of a part
pub all_in_slice : {A : Type 0} (P : A → Type 0) (xs : List A) (from to : ℕ) → AllByRecursion P xs → AllByRecursion P (slice_range xs from to)
all_in_slice {A} P xs from to all = all_taken (to - from) (drop from xs) (all_dropped from xs all)
  where
    all_dropped : (n : ℕ) (ys : List A) → AllByRecursion P ys → AllByRecursion P (drop n ys)
    all_dropped zero ys h = h
    all_dropped (suc n) [] h = tt
    all_dropped (suc n) (y ∷ ys) h = all_dropped n ys h.1

    all_taken : (n : ℕ) (ys : List A) → AllByRecursion P ys → AllByRecursion P (take n ys)
    all_taken zero ys h = tt
    all_taken (suc n) [] h = tt
    all_taken (suc n) (y ∷ ys) h = (h.0, all_taken n ys h.1)

pub slice_shorter : {A : Type 0} (xs : List A) (from to : ℕ) → length (slice_range xs from to) ≤ length xs
slice_shorter {A} xs from to = trans (taken (to - from) (drop from xs)) (dropped from xs)
  where
    trans : {l m n : ℕ} → l ≤ m → m ≤ n → l ≤ n
    trans h k = omega arith

    taken : (n : ℕ) (ys : List A) → length (take n ys) ≤ length ys
    taken zero ys = omega arith
    taken (suc n) [] = omega arith
    taken (suc n) (y ∷ ys) = omega (arith, taken n ys)

    dropped : (n : ℕ) (ys : List A) → length (drop n ys) ≤ length ys
    dropped zero ys = omega arith
    dropped (suc n) [] = omega arith
    dropped (suc n) (y ∷ ys) = omega (arith, dropped n ys)
