-- The first fault in a list, element by element, as a loop finds it.
use Rattle.std.proofs.Common.{◌≡◌, ℕ, ◌+◌, ◌<◌, ◌≤◌, List, [], ◌∷◌, ◌++◌, length, map, take, drop, drop_of_length-le, get_or, Option, Some, None, refl, ap, ◌∙◌, zero, suc, append_assoc, arith}
use Rattle.std.specs.List.{AllByRecursion}
use Rattle.std.proofs.lemmas.List.{drop_more, map_more, append-nil}
use Rattle.job_reader.specs.declared.fault.JobFault.{JobFault}
use Rattle.job_reader.specs.Faults.{◌or_later◌, first_from, first_in}

pub every_at : {A : Type 0} (P : A → Type 0) (xs : List A) (i : ℕ) (d : A) → i < length xs → AllByRecursion P xs → P (get_or xs i d)
every_at P [] i d within all = absurd (omega (arith, within))
every_at P (x ∷ xs) zero d within all = all.0
every_at P (x ∷ xs) (suc i) d within all = every_at P xs i d (omega (arith, within)) all.1

pub none_either : (f g : Option JobFault) → (f or_later g) ≡ None → (f ≡ None) × (g ≡ None)
none_either None g h = (refl, h)
none_either (Some e) g h = absurd cc

module _ {A B : Type 0} (g : A → B) (f : ℕ → List B → B → Option JobFault) where
  -- the first fault from an index on
  abbrev pub from : List A → ℕ → Option JobFault
  from vs i = first_from f (i + 1) (map g (take i vs)) (map g (drop i vs))

  here : (vs : List A) (i : ℕ) (d : A) → i < length vs → from vs i ≡ first_from f (i + 1) (map g (take i vs)) (g (get_or vs i d) ∷ map g (drop (i + 1) vs))
  here vs i d within = ap (λ xs. first_from f (i + 1) (map g (take i vs)) (map g xs)) (drop_more vs i d within)

  -- an element without a fault leaves it to those after it
  pub goes_on : (vs : List A) (i : ℕ) (d : A) (all : Option JobFault) → i < length vs → f (i + 1) (map g (take i vs)) (g (get_or vs i d)) ≡ None
      → all ≡ from vs i → all ≡ from vs (i + 1)
  unfolding first_from
  goes_on vs i d all within none so_far = so_far ∙ here vs i d within ∙ rw (none, map_more g vs i d within) refl

  -- a fault ends it
  pub stops : (vs : List A) (i : ℕ) (d : A) (all : Option JobFault) (e : JobFault) → i < length vs → f (i + 1) (map g (take i vs)) (g (get_or vs i d)) ≡ Some e
      → all ≡ from vs i → all ≡ Some e
  unfolding first_from
  stops vs i d all e within some so_far = so_far ∙ here vs i d within ∙ rw some refl

  -- at the end there is none
  pub ends : (vs : List A) (i : ℕ) (all : Option JobFault) → length vs ≤ i → all ≡ from vs i → all ≡ None
  unfolding first_from
  ends vs i all past so_far = so_far ∙ ap (λ xs. first_from f (i + 1) (map g (take i vs)) (map g xs)) (drop_of_length-le vs past)

  -- where there is none, no element is refused
  none_from : (n : ℕ) (before : List B) (vs : List A) (i : ℕ) (d : A) → first_from f n before (map g vs) ≡ None → i < length vs → f (n + i) (before ++ map g (take i vs)) (g (get_or vs i d)) ≡ None
  unfolding first_from
  none_from n before [] i d h within = absurd (omega (arith, within))
  none_from n before (v ∷ vs) zero d h within =
      let parts = none_either (f n before (g v)) (first_from f (n + 1) (before ++ g v ∷ []) (map g vs)) h in
      let same : n + 0 ≡ n = omega arith in
      rw (same, append-nil before) parts.0
  none_from n before (v ∷ vs) (suc i) d h within =
      let parts = none_either (f n before (g v)) (first_from f (n + 1) (before ++ g v ∷ []) (map g vs)) h in
      let later = none_from (n + 1) (before ++ g v ∷ []) vs i d parts.1 (omega (arith, within)) in
      let same : n + 1 + i ≡ n + suc i = omega arith in
      rw (same, append_assoc before (g v ∷ []) (map g (take i vs))) at later

  pub none_at : (vs : List A) (i : ℕ) (d : A) → first_in f (map g vs) ≡ None → i < length vs → f (i + 1) (map g (take i vs)) (g (get_or vs i d)) ≡ None
  none_at vs i d h within =
      let same : 1 + i ≡ i + 1 = omega arith in
      rw same at (none_from 1 [] vs i d h within)
