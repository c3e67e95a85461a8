-- Numbers within their ranges.
use Rattle.std.proofs.Common.{◌≡◌, ◌≤◌, ℕ, ◌%◌, ℤ, pos, negsuc, nat_abs, Bool, true, List, [], ◌∷◌, length, map, refl, arith, le-leb}
use Rattle.std.specs.Prelude.{nat_le}
use Rattle.std.specs.List.{list_all}
use Rattle.std.proofs.lemmas.Bool.{and_parts}
use Rattle.std.proofs.lemmas.Grind.{common_steps}
use Rattle.std.proofs.lemmas.List.{length-map}
use Rattle.toml.specs.Data.{Data, string, integer, float, boolean, datetime, array, table}
use Rattle.job_reader.specs.Limits.{is_from, is_whole_from, is_plan}
use Rattle.job_reader.specs.Values.{is_number_within, number_in}

-- what holds of each element for one reason holds for another that follows from it
pub all_imply : {A B : Type 0} (p : A → Bool) (q : B → Bool) (f : A → B) → ((x : A) → p x ≡ true → q (f x) ≡ true)
    → (xs : List A) → list_all p xs ≡ true → list_all q (map f xs) ≡ true
all_imply p q f h [] all = refl
all_imply p q f h (x ∷ xs) all =
    let (here, later) = and_parts (p x) (list_all p xs) all in
    rw (h x here, all_imply p q f h xs later) refl

in_range : (least most : ℕ) (n : ℤ) → is_whole_from least most n ≡ true → is_from least most (nat_abs n) ≡ true
in_range least most (pos n) h = h
in_range least most (negsuc n) h = grind (arith, common_steps)

pub number_in_range : (least most : ℕ) (d : Data) → is_number_within least most d ≡ true → is_from least most (number_in d) ≡ true
unfolding number_in
number_in_range least most (integer n) h = in_range least most n h
number_in_range least most (string s) h = absurd cc
number_in_range least most (float x) h = absurd cc
number_in_range least most (boolean b) h = absurd cc
number_in_range least most (datetime dt) h = absurd cc
number_in_range least most (array ds) h = absurd cc
number_in_range least most (table ms) h = absurd cc

whole_range : (least most n : ℕ) → is_from least most n ≡ true → is_whole_from least most (pos n) ≡ true
whole_range least most n h = h

pub plan_keeps : (ns : List ℕ) (step permeability : ℕ) → length ns ≤ 32 → list_all (is_from 0 524287) ns ≡ true → is_from 2 100000 step ≡ true
    → step % 2 ≡ 0 → is_from 0 1000 permeability ≡ true → is_plan (map pos ns) (pos step) permeability ≡ true
plan_keeps ns step permeability few all range even share =
    let short = le-leb (length ns) 32 few in
    let least : is_from 0 1000 permeability ≡ true = share in
    let most : nat_le permeability 1000 ≡ true = grind (arith, common_steps) in
    rw (length-map ns pos, short, all_imply (is_from 0 524287) (is_whole_from 0 524287) pos (whole_range 0 524287) ns all, range, even) most

pub at_most : (least most n : ℕ) → is_from least most n ≡ true → n ≤ most
at_most least most n h = grind (arith, common_steps)
