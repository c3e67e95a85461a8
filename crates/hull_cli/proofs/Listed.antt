-- Lists that grow at their end.
use Rattle.std.proofs.Common.{◌≡◌, ◌∙◌, refl, sym, ap, subst, ℕ, suc, ◌+◌, List, [], ◌∷◌, ◌++◌, length, append_assoc, Result, Ok, Err, IfOk, IfErr, arith}
use Rattle.std.specs.List.{AllByRecursion}
use Rattle.std.proofs.lemmas.List.{append-nil}
use Rattle.hull_cli.specs.Lists.{Joined, NumberedFrom, NumberedPairs, Pairwise}

pub all_more : {A : Type 0} (P : A → Type 0) (xs ys : List A) → AllByRecursion P xs → AllByRecursion P ys → AllByRecursion P (xs ++ ys)
all_more P [] ys all more = more
all_more P (x ∷ xs) ys all more = (all.0, all_more P xs ys all.1 more)

pub pairs_more : {A B : Type 0} (R : A → B → Type 0) (one : List A) (two : List B) (a : A) (b : B) → Pairwise R one two → R a b → Pairwise R (one ++ a ∷ []) (two ++ b ∷ [])
pairs_more R [] [] a b pairs more = (more, tt)
pairs_more R [] (b' ∷ bs) a b pairs more = absurd pairs
pairs_more R (a' ∷ others) [] a b pairs more = absurd pairs
pairs_more R (a' ∷ others) (b' ∷ bs) a b pairs more = (pairs.0, pairs_more R others bs a b pairs.1 more)

pub numbered_more : {A : Type 0} (R : ℕ → A → Type 0) (from : ℕ) (entries : List A) (n : ℕ) (one : A) → NumberedFrom R from entries → n ≡ length entries + from → R n one → NumberedFrom R from (entries ++ one ∷ [])
numbered_more R from [] n one are place more = (subst (λ (k : ℕ). R k one) (omega (arith, place)) more, tt)
numbered_more R from (first ∷ rest) n one are place more = (are.0, numbered_more R (suc from) rest n one are.1 (omega (arith, place)) more)

pub numbered_pairs_more : {A B : Type 0} (R : ℕ → A → B → Type 0) (from : ℕ) (one : List A) (two : List B) (n : ℕ) (a : A) (b : B) → NumberedPairs R from one two → n ≡ length two + from → R n a b
    → NumberedPairs R from (one ++ a ∷ []) (two ++ b ∷ [])
numbered_pairs_more R from [] [] n a b pairs place more = (subst (λ (k : ℕ). R k a b) (omega (arith, place)) more, tt)
numbered_pairs_more R from [] (b' ∷ bs) n a b pairs place more = absurd pairs
numbered_pairs_more R from (a' ∷ others) [] n a b pairs place more = absurd pairs
numbered_pairs_more R from (a' ∷ others) (b' ∷ bs) n a b pairs place more = (pairs.0, numbered_pairs_more R (suc from) others bs n a b pairs.1 (omega (arith, place)) more)

pub joined_more : {A B : Type 0} (part : A → List B → Type 0) (ones : List A) (one : A) (lines more : List B) → Joined part ones lines → part one more → Joined part (ones ++ one ∷ []) (lines ++ more)
joined_more part [] one lines more none is = (more, [], rw none (sym (append-nil more)), is, refl)
joined_more part (first ∷ others) one lines more are is =
    (are.0, are.1 ++ more, ap (λ (t : List _). t ++ more) are.2 ∙ append_assoc are.0 are.1 more, are.3, joined_more part others one are.1 more are.4 is)

-- what is known of every value of a result
pub of_each_ok : {A E : Type 0} (P Q : A → Type 0) → ((a : A) → P a → Q a) → (r : Result A E) → IfOk r P → IfOk r Q
of_each_ok P Q more (Ok a) p = more a p
of_each_ok P Q more (Err e) p = tt

pub of_each_err : {A E : Type 0} (P Q : E → Type 0) → ((e : E) → P e → Q e) → (r : Result A E) → IfErr r P → IfErr r Q
of_each_err P Q more (Ok a) p = tt
of_each_err P Q more (Err e) p = more e p
