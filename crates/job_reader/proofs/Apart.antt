-- Lists in which no later element meets an earlier one, and the slabs of different names.
use Rattle.std.proofs.Common.{◌≡◌, ℕ, ◌+◌, ◌<◌, ℤ, Bool, true, false, not, ◌&&◌, List, [], ◌∷◌, ◌++◌, length, map, take, get_or, Option, Some, None, is_some, option_map, int_lt, inl, inr, refl, ap, sym, ◌∙◌}
use Rattle.std.specs.List.{list_all}
use Rattle.std.specs.Str.{bytes_eq}
use Rattle.std.proofs.lemmas.Bool.{cases_Bool, and_parts}
use Rattle.std.proofs.lemmas.List.Folds.{list_all-append}
use Rattle.hull_model.specs.declared.slab.Slab.{Slab}
use Rattle.job_reader.specs.declared.fault.JobFault.{JobFault}
use Rattle.job_reader.specs.declared.fault.JobFault.TheVariants as fault
use Rattle.job_reader.specs.declared.key.Key.{Key}
use Rattle.job_reader.specs.Checks.{is_among, twice_by, flooded_by, overlapped_from, overlap_by, slab_named}
use Rattle.job_reader.specs.Faults.{unless, first_from}
use Rattle.hull_model.specs.Slabs.{ends_of, overlap, is_apart, are_apart}
use Rattle.job_reader.proofs.CheckFacts.{known-named}
use Rattle.job_reader.proofs.Firsts.{none_either, none_at}
use Rattle.std.specs.Cmp.Lexicographic.{pointwise, nat_list_eq_equiv}
use Rattle.std.specs.Prelude.{◌==◌}
use Rattle.indexmap.specs.IndexMap.{insert_entry}

both_all : {A : Type 0} (p q : A → Bool) (xs : List A) → list_all (λ x. p x && q x) xs ≡ true → (list_all p xs ≡ true) × (list_all q xs ≡ true)
both_all p q [] all = (refl, refl)
both_all p q (x ∷ xs) all =
    let here = and_parts (p x && q x) (list_all (λ y. p y && q y) xs) all in
    let parts = and_parts (p x) (q x) here.0 in
    let later = both_all p q xs here.1 in
    (rw (parts.0, later.0) refl, rw (parts.1, later.1) refl)

all_same : {A : Type 0} (p q : A → Bool) → ((x : A) → p x ≡ q x) → (xs : List A) → list_all p xs ≡ true → list_all q xs ≡ true
all_same p q same [] all = refl
all_same p q same (x ∷ xs) all =
    let parts = and_parts (p x) (list_all p xs) all in
    rw (sym (same x) ∙ parts.0, all_same p q same xs parts.1) refl

-- no later element meets an earlier one
abbrev pub pairwise : {A : Type 0} → (A → A → Bool) → List A → Bool
pairwise meet [] = true
pairwise meet (x ∷ rest) = list_all (λ y. not (meet x y)) rest && pairwise meet rest

and_true : (a b : Bool) → (a && (b && true)) ≡ (a && b)
and_true true true = refl
and_true true false = refl
and_true false b = refl

-- where no element is refused, and each is refused that meets one before it, none meets an earlier one
module _ {A : Type 0} (f : ℕ → List A → A → Option JobFault) (meet : A → A → Bool)
    (refuses : (n : ℕ) (before : List A) (x : A) → f n before x ≡ None → list_all (λ b. not (meet b x)) before ≡ true) where
  from_before : (n : ℕ) (before xs : List A) → first_from f n before xs ≡ None
      → (list_all (λ y. list_all (λ b. not (meet b y)) before) xs ≡ true) × (pairwise meet xs ≡ true)
  unfolding first_from
  from_before n before [] h = (refl, refl)
  from_before n before (x ∷ rest) h =
      let parts = none_either (f n before x) (first_from f (n + 1) (before ++ x ∷ []) rest) h in
      let first = refuses n before x parts.0 in
      let later = from_before (n + 1) (before ++ x ∷ []) rest parts.1 in
      let split : (y : A) → list_all (λ b. not (meet b y)) (before ++ x ∷ []) ≡ (list_all (λ b. not (meet b y)) before && not (meet x y)) = λ y. list_all-append (λ b. not (meet b y)) before (x ∷ []) ∙ and_last (list_all (λ b. not (meet b y)) before) (not (meet x y)) in
      let both = both_all (λ y. list_all (λ b. not (meet b y)) before) (λ y. not (meet x y)) rest (all_same _ _ split rest later.0) in
      (rw (first, both.0) refl, rw (both.1, later.1) refl)
    where
      and_last : (a b : Bool) → (a && (b && true)) ≡ (a && b)
      and_last = and_true

  pub none_meet : (xs : List A) → first_from f 1 [] xs ≡ None → pairwise meet xs ≡ true
  none_meet xs h = (from_before 1 [] xs h).1

-- ---- names
refused_twice : (name : List ℕ) (before : List (List ℕ)) (e : JobFault) → unless (not (is_among name before)) e ≡ None → list_all (λ b. not (bytes_eq name b)) before ≡ true
refused_twice name [] e h = refl
refused_twice name (b ∷ before) e h =
    elim (cases_Bool (bytes_eq name b)) [
      | inl same ↦ let no : ◌≡◌ {A = Option JobFault} (Some e) None = rw same at h in absurd cc
      | inr other ↦ let later : unless (not (is_among name before)) e ≡ None = rw other at h in rw (other, refused_twice name before e later) refl
    ]

-- names of which none comes twice differ
pub names_differ : (k : Key) (names : List (List ℕ)) → first_from (twice_by k) 1 [] names ≡ None → pairwise (λ b x. bytes_eq x b) names ≡ true
names_differ k names h = none_meet (twice_by k) (λ b x. bytes_eq x b) (λ n before x none. refused_twice x before (fault.Twice k n) none) names h

flooded_parts : (known : List (List ℕ)) (entry n : ℕ) (before : List (List ℕ)) (name : List ℕ) → flooded_by known entry n before name ≡ None
    → (is_among name known ≡ true) × (list_all (λ b. not (bytes_eq name b)) before ≡ true)
flooded_parts known entry n before name h =
    let parts = none_either _ _ h in
    (held (is_among name known) parts.0, refused_twice name before _ parts.1)
  where
    held : (b : Bool) → unless b (fault.NotNamed entry) ≡ None → b ≡ true
    held true h = refl
    held false h = absurd cc

pub flooded_differ : (known : List (List ℕ)) (entry : ℕ) (names : List (List ℕ)) → first_from (flooded_by known entry) 1 [] names ≡ None → pairwise (λ b x. bytes_eq x b) names ≡ true
flooded_differ known entry names h = none_meet (flooded_by known entry) (λ b x. bytes_eq x b) (λ n before x none. (flooded_parts known entry n before x none).1) names h

-- each name that is flooded is known
pub flooded_known : (compartments : List (List ℕ × Slab)) (entry n : ℕ) (before names : List (List ℕ)) → first_from (flooded_by (map (λ c. c.0) compartments) entry) n before names ≡ None
    → list_all (λ name. is_some (slab_named compartments name)) names ≡ true
unfolding first_from
flooded_known compartments entry n before [] h = refl
flooded_known compartments entry n before (name ∷ rest) h =
    let parts = none_either _ _ h in
    let here = sym (known-named compartments name) ∙ (flooded_parts (map (λ c. c.0) compartments) entry n before name parts.0).0 in
    rw (here, flooded_known compartments entry (n + 1) (before ++ name ∷ []) rest parts.1) refl

-- ---- slabs
overlap_swap : (a b : ℤ × ℤ) → overlap a b ≡ overlap b a
overlap_swap a b = swap (int_lt a.0 b.1) (int_lt b.0 a.1)
  where
    swap : (p q : Bool) → (p && q) ≡ (q && p)
    swap true true = refl
    swap true false = refl
    swap false true = refl
    swap false false = refl

apart_from : (a : ℤ × ℤ) (n : ℕ) (before : List (ℤ × ℤ)) → overlapped_from a n before ≡ None → list_all (λ b. not (overlap b a)) before ≡ true
unfolding overlapped_from
apart_from a n [] h = refl
apart_from a n (b ∷ rest) h =
    elim (cases_Bool (overlap b a)) [
      | inl met ↦ let no : ◌≡◌ {A = Option ℕ} (Some n) None = rw met at h in absurd cc
      | inr apart ↦ let later : overlapped_from a (n + 1) rest ≡ None = rw apart at h in rw (apart, apart_from a (n + 1) rest later) refl
    ]

none_overlaps : (n : ℕ) (before : List (ℤ × ℤ)) (a : ℤ × ℤ) → overlap_by n before a ≡ None → list_all (λ b. not (overlap b a)) before ≡ true
none_overlaps n before a h = apart_from a 1 before (none_inside (overlapped_from a 1 before) h)
  where
    none_inside : (o : Option ℕ) → option_map (λ first. fault.Overlap first n) o ≡ None → o ≡ None
    none_inside None h = refl
    none_inside (Some first) h = absurd cc

pub ends_apart : (ends : List (ℤ × ℤ)) → first_from overlap_by 1 [] ends ≡ None → pairwise overlap ends ≡ true
ends_apart ends h = none_meet overlap_by overlap none_overlaps ends h

some_same : (s t : Slab) → ◌≡◌ {A = Option Slab} (Some s) (Some t) → s ≡ t
some_same s t h = cc

not_true : (b : Bool) → not b ≡ true → b ≡ false
not_true true h = absurd cc
not_true false h = refl

-- what meets no compartment doesn't meet the one of a name
apart_found : (x : ℤ × ℤ) (compartments : List (List ℕ × Slab)) (name : List ℕ) (t : Slab) → list_all (λ y. not (overlap x y)) (map (λ c. ends_of c.1) compartments) ≡ true
    → slab_named compartments name ≡ Some t → overlap x (ends_of t) ≡ false
apart_found x [] name t all found = absurd cc
apart_found x (c ∷ rest) name t all found =
    let parts = and_parts (not (overlap x (ends_of c.1))) _ all in
    elim (cases_Bool (bytes_eq name c.0)) [
      | inl same ↦ let here : ◌≡◌ {A = Option Slab} (Some c.1) (Some t) = rw same at found in rw (← some_same _ _ here) (not_true _ parts.0)
      | inr other ↦ let later : slab_named rest name ≡ Some t = rw other at found in apart_found x rest name t parts.1 later
    ]

-- the compartments of different names
different_apart : (compartments : List (List ℕ × Slab)) (n m : List ℕ) (s t : Slab) → pairwise overlap (map (λ c. ends_of c.1) compartments) ≡ true → bytes_eq m n ≡ false
    → slab_named compartments n ≡ Some s → slab_named compartments m ≡ Some t → overlap (ends_of s) (ends_of t) ≡ false
different_apart [] n m s t all other one two = absurd cc
different_apart (c ∷ rest) n m s t all other one two =
    let parts = and_parts (list_all (λ y. not (overlap (ends_of c.1) y)) (map (λ x. ends_of x.1) rest)) _ all in
    elim (cases_Bool (bytes_eq n c.0)) [
      | inl first ↦
          let here : ◌≡◌ {A = Option Slab} (Some c.1) (Some s) = rw first at one in
          elim (cases_Bool (bytes_eq m c.0)) [
            | inl second ↦ absurd (not_both n m c.0 first second other)
            | inr later ↦ let found : slab_named rest m ≡ Some t = rw later at two in rw (← some_same _ _ here) (apart_found (ends_of c.1) rest m t parts.0 found)
          ]
      | inr past ↦
          let first : slab_named rest n ≡ Some s = rw past at one in
          elim (cases_Bool (bytes_eq m c.0)) [
            | inl second ↦
                let here : ◌≡◌ {A = Option Slab} (Some c.1) (Some t) = rw second at two in
                overlap_swap (ends_of s) (ends_of t) ∙ rw (← some_same _ _ here) (apart_found (ends_of c.1) rest n s parts.0 first)
            | inr later ↦ let found : slab_named rest m ≡ Some t = rw later at two in different_apart rest n m s t parts.1 other first found
          ]
    ]
  where
    not_both : (n m k : List ℕ) → bytes_eq n k ≡ true → bytes_eq m k ≡ true → bytes_eq m n ≡ false → ⊥
    not_both n m k a b c =
        let same : bytes_eq m n ≡ true = sym (nat_list_eq_equiv.congr k m n (nat_list_eq_equiv.symm k m ∙ b)) ∙ nat_list_eq_equiv.symm k n ∙ a in
        let no : true ≡ false = sym same ∙ c in
        (cc)

-- ---- the slabs that a case floods
apart_later : (compartments : List (List ℕ × Slab)) (n : List ℕ) (s : Slab) (names : List (List ℕ)) (slabs : List Slab) → pairwise overlap (map (λ c. ends_of c.1) compartments) ≡ true
    → slab_named compartments n ≡ Some s → list_all (λ y. not (bytes_eq y n)) names ≡ true → map (slab_named compartments) names ≡ map Some slabs → is_apart s slabs ≡ true
apart_later compartments n s [] [] all found differ same = refl
apart_later compartments n s [] (t ∷ slabs) all found differ same = absurd cc
apart_later compartments n s (m ∷ names) [] all found differ same = absurd cc
apart_later compartments n s (m ∷ names) (t ∷ slabs) all found differ same =
    let parts = and_parts (not (bytes_eq m n)) _ differ in
    let here : slab_named compartments m ≡ Some t = cc in
    let rest : map (slab_named compartments) names ≡ map Some slabs = cc in
    rw (different_apart compartments n m s t all (not_true _ parts.0) found here, apart_later compartments n s names slabs all found parts.1 rest) refl

pub slabs_apart : (compartments : List (List ℕ × Slab)) (names : List (List ℕ)) (slabs : List Slab) → pairwise overlap (map (λ c. ends_of c.1) compartments) ≡ true
    → pairwise (λ b x. bytes_eq x b) names ≡ true → map (slab_named compartments) names ≡ map Some slabs → are_apart slabs ≡ true
slabs_apart compartments [] [] all differ same = refl
slabs_apart compartments [] (t ∷ slabs) all differ same = absurd cc
slabs_apart compartments (n ∷ names) [] all differ same = absurd cc
slabs_apart compartments (n ∷ names) (s ∷ slabs) all differ same =
    let parts = and_parts (list_all (λ y. not (bytes_eq y n)) names) _ differ in
    let here : slab_named compartments n ≡ Some s = cc in
    let rest : map (slab_named compartments) names ≡ map Some slabs = cc in
    rw (apart_later compartments n s names slabs all here parts.0 rest, slabs_apart compartments names slabs all parts.1 rest) refl

-- ---- compartments, added one by one
fresh_by : (b : Bool) (e : JobFault) → unless (not b) e ≡ None → b ≡ false
fresh_by true e h = absurd cc
fresh_by false e h = refl

-- a name that isn't refused is new among those before it
pub name_new : {A : Type 0} (name : A → List ℕ) (k : Key) (vs : List A) (i : ℕ) (d : A) → first_from (twice_by k) 1 [] (map name vs) ≡ None → i < length vs
    → is_among (name (get_or vs i d)) (map name (take i vs)) ≡ false
name_new name k vs i d h within = fresh_by _ _ (none_at name (twice_by k) vs i d h within)

-- what is added under a new name goes to the end
pub inserted : (es : List (List ℕ × Slab)) (name : List ℕ) (slab : Slab) → is_among name (map (λ e. e.0) es) ≡ false → insert_entry (pointwise ◌==◌) es name slab ≡ es ++ (name, slab) ∷ []
inserted [] name slab new = refl
inserted (e ∷ es) name slab new =
    elim (cases_Bool (bytes_eq name e.0)) [
      | inl same ↦ let no : true ≡ false = rw same at new in absurd cc
      | inr other ↦ let later : is_among name (map (λ x. x.0) es) ≡ false = rw other at new in rw other (ap (λ xs. e ∷ xs) (inserted es name slab later))
    ]
