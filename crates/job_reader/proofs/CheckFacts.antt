-- Names among others, and slabs that overlap, as loops find them.
use Rattle.std.proofs.Common.{◌≡◌, ℕ, ◌+◌, ◌<◌, ◌≤◌, ℤ, Bool, true, false, ◌||◌, List, [], ◌∷◌, ◌++◌, length, map, take, drop, drop_of_length-le, get_or, Option, Some, None, is_some, inl, inr, not, refl, ap, ap₂, sym, ◌∙◌}
use Rattle.std.specs.List.{list_any}
use Rattle.std.proofs.lemmas.List.{drop_more, map-id, append-nil, take-append-drop}
use Rattle.std.specs.Str.{bytes_eq}
use Rattle.std.proofs.lemmas.Bool.{cases_Bool}
use Rattle.hull_model.specs.declared.slab.Slab.{Slab}
use Rattle.job_reader.specs.Checks.{is_among, slab_named, flooded_by, overlapped_from}
use Rattle.job_reader.specs.Faults.{◌or_later◌, unless}
use Rattle.job_reader.specs.declared.fault.JobFault.TheVariants as fault
use Rattle.job_reader.specs.declared.key.Key.TheVariants as key
use Rattle.hull_model.specs.Slabs.{overlap}

pub list_any-map : {A B : Type 0} (p : B → Bool) (f : A → B) (xs : List A) → list_any p (map f xs) ≡ list_any (λ x. p (f x)) xs
list_any-map p f [] = refl
list_any-map p f (x ∷ xs) = ap (λ b. p (f x) || b) (list_any-map p f xs)

module _ {A : Type 0} (f : A → ℤ × ℤ) (a : ℤ × ℤ) where
  here : (vs : List A) (i n : ℕ) (d : A) → i < length vs → overlapped_from a n (map f (drop i vs)) ≡ overlapped_from a n (f (get_or vs i d) ∷ map f (drop (i + 1) vs))
  here vs i n d within = ap (λ xs. overlapped_from a n (map f xs)) (drop_more vs i d within)

  pub passes : (vs : List A) (i n : ℕ) (d : A) (all : Option ℕ) → i < length vs → overlap (f (get_or vs i d)) a ≡ false
      → all ≡ overlapped_from a n (map f (drop i vs)) → all ≡ overlapped_from a (n + 1) (map f (drop (i + 1) vs))
  unfolding overlapped_from
  passes vs i n d all within apart so_far = so_far ∙ here vs i n d within ∙ rw apart refl

  pub meets : (vs : List A) (i n : ℕ) (d : A) (all : Option ℕ) → i < length vs → overlap (f (get_or vs i d)) a ≡ true
      → all ≡ overlapped_from a n (map f (drop i vs)) → all ≡ Some n
  unfolding overlapped_from
  meets vs i n d all within met so_far = so_far ∙ here vs i n d within ∙ rw met refl

  pub none_met : (vs : List A) (i n : ℕ) (all : Option ℕ) → length vs ≤ i → all ≡ overlapped_from a n (map f (drop i vs)) → all ≡ None
  unfolding overlapped_from
  none_met vs i n all past so_far = so_far ∙ ap (λ xs. overlapped_from a n (map f xs)) (drop_of_length-le vs past)

-- a name is that of a compartment exactly where a slab is found
pub known-named : (compartments : List (List ℕ × Slab)) (name : List ℕ) → is_among name (map (λ c. c.0) compartments) ≡ is_some (slab_named compartments name)
known-named [] name = refl
known-named (c ∷ rest) name =
    elim (cases_Bool (bytes_eq name c.0)) [
      | inl same ↦ rw same refl
      | inr other ↦ rw other (known-named rest name)
    ]

-- what a damage case is refused for at a name
pub flooded_is : (compartments : List (List ℕ × Slab)) (entry n : ℕ) (before : List (List ℕ)) (name : List ℕ) (known again : Bool)
    → is_some (slab_named compartments name) ≡ known → is_among name before ≡ again
    → flooded_by (map (λ c. c.0) compartments) entry n (map (λ b. b) before) name ≡ (unless known (fault.NotNamed entry) or_later unless (not again) (fault.Twice key.DamageFlooded entry))
flooded_is compartments entry n before name known again found among =
    let there = known-named compartments name ∙ found in
    let earlier = ap (is_among name) (map-id before) ∙ among in
    ap₂ (λ k a. unless k (fault.NotNamed entry) or_later unless (not a) (fault.Twice key.DamageFlooded entry)) there earlier

pub take_past : {A : Type 0} (xs : List A) (i : ℕ) → length xs ≤ i → take i xs ≡ xs
take_past xs i past = sym (append-nil (take i xs)) ∙ ap (λ rest. take i xs ++ rest) (sym (drop_of_length-le xs past)) ∙ take-append-drop i xs
