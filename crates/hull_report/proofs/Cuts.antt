-- Text cut at a separator.
use Rattle.std.proofs.Common.{◌≡◌, ℕ, ◌<◌, ◌≤◌, ◌+◌, Bool, true, false, cond, List, [], ◌∷◌, ◌++◌, length, get_or, take, drop, eqb, Option, Some, None, option_map, refl, sym, ap, ◌∙◌, append_assoc}
use Rattle.std.proofs.lemmas.List.{append-nil}
use Rattle.std.proofs.Math.Seq.{drop-cons, take-suc}
use Rattle.std.proofs.Math.ListN.{drop_of_length-le}
use native.Mathlib.Numerals.{unary_clauses}
use Rattle.std.proofs.lemmas.Bool.{eq-eqb, eqb-true}
use Rattle.hull_report.specs.Reading.{cut}
use Rattle.hull_report.proofs.Ranges.{Lacks}

-- the byte at a place, behind what stands before it and before what stands after it
pub drop_one : (bytes : List ℕ) (i : ℕ) → i < length bytes → drop i bytes ≡ get_or bytes i 0 ∷ drop (i + 1) bytes
drop_one bytes i h = simp unary_clauses (drop-cons bytes i 0 h)

pub take_one : (bytes : List ℕ) (i : ℕ) → i < length bytes → take (i + 1) bytes ≡ take i bytes ++ get_or bytes i 0 ∷ []
take_one bytes i h = simp unary_clauses (take-suc bytes i 0 h)

-- what is cut from a text that stands behind another
abbrev pub behind : List ℕ → Option (List ℕ × List ℕ) → Option (List ℕ × List ℕ)
behind front parts = option_map (λ p. (front ++ p.0, p.1)) parts

-- at each byte
pub cut_step : (s i : ℕ) (bytes : List ℕ) → i < length bytes → cut s (drop i bytes) ≡ cond (eqb (get_or bytes i 0) s) (Some ([], drop (i + 1) bytes)) (behind (get_or bytes i 0 ∷ []) (cut s (drop (i + 1) bytes)))
unfolding cut
cut_step s i bytes h = ap (cut s) (drop_one bytes i h)

pub cut_here : (s i : ℕ) (bytes : List ℕ) (total : Option (List ℕ × List ℕ)) → i < length bytes → eqb (get_or bytes i 0) s ≡ true → behind (take i bytes) (cut s (drop i bytes)) ≡ total → Some (take i bytes, drop (i + 1) bytes) ≡ total
cut_here s i bytes total h t e =
    let here : cut s (drop i bytes) ≡ Some ([], drop (i + 1) bytes) = cut_step s i bytes h ∙ ap (λ b. cond b (Some ([], drop (i + 1) bytes)) (behind (get_or bytes i 0 ∷ []) (cut s (drop (i + 1) bytes)))) t in
    ap (λ front. Some (front, drop (i + 1) bytes)) (sym (append-nil (take i bytes))) ∙ ap (behind (take i bytes)) (sym here) ∙ e

behind_twice : (a b : List ℕ) (parts : Option (List ℕ × List ℕ)) → behind a (behind b parts) ≡ behind (a ++ b) parts
behind_twice a b None = refl
behind_twice a b (Some p) = ap (λ front. Some (front, p.1)) (sym (append_assoc a b p.0))

pub cut_on : (s i : ℕ) (bytes : List ℕ) (total : Option (List ℕ × List ℕ)) → i < length bytes → eqb (get_or bytes i 0) s ≡ false → behind (take i bytes) (cut s (drop i bytes)) ≡ total → behind (take (i + 1) bytes) (cut s (drop (i + 1) bytes)) ≡ total
cut_on s i bytes total h t e =
    let on : cut s (drop i bytes) ≡ behind (get_or bytes i 0 ∷ []) (cut s (drop (i + 1) bytes)) = cut_step s i bytes h ∙ ap (λ b. cond b (Some ([], drop (i + 1) bytes)) (behind (get_or bytes i 0 ∷ []) (cut s (drop (i + 1) bytes)))) t in
    ap (λ front. behind front (cut s (drop (i + 1) bytes))) (take_one bytes i h) ∙ sym (behind_twice (take i bytes) (get_or bytes i 0 ∷ []) (cut s (drop (i + 1) bytes))) ∙ ap (behind (take i bytes)) (sym on) ∙ e

pub cut_end : (s i : ℕ) (bytes : List ℕ) (total : Option (List ℕ × List ℕ)) → length bytes ≤ i → behind (take i bytes) (cut s (drop i bytes)) ≡ total → None ≡ total
unfolding cut
cut_end s i bytes total h e = ap (λ rest. behind (take i bytes) (cut s rest)) (sym (drop_of_length-le bytes h)) ∙ e

-- where the separator doesn't stand before it
pub cut_at : (s : ℕ) (a b : List ℕ) → Lacks s a → cut s (a ++ s ∷ b) ≡ Some (a, b)
unfolding cut
cut_at s [] b h = ap (λ t. cond t (Some ([], b)) (behind (s ∷ []) (cut s b))) (eq-eqb s s refl)
cut_at s (x ∷ a) b h = ap (λ t. cond t (Some ([], a ++ s ∷ b)) (behind (x ∷ []) (cut s (a ++ s ∷ b)))) h.0 ∙ ap (behind (x ∷ [])) (cut_at s a b h.1)

pub cut_none : (s : ℕ) (a : List ℕ) → Lacks s a → cut s a ≡ None
unfolding cut
cut_none s [] h = refl
cut_none s (x ∷ a) h = ap (λ t. cond t (Some ([], a)) (behind (x ∷ []) (cut s a))) h.0 ∙ ap (behind (x ∷ [])) (cut_none s a h.1)

-- what is cut is parted by the separator
some_is : {A : Type 0} (x y : A) → Some x ≡ Some y → x ≡ y
some_is x y e = cc

parts_behind : (s x : ℕ) (bytes a b : List ℕ) (here : Bool) (later : Option (List ℕ × List ℕ)) → (here ≡ true → x ≡ s) → ((a b : List ℕ) → Some (a, b) ≡ later → bytes ≡ a ++ s ∷ b)
    → Some (a, b) ≡ cond here (Some ([], bytes)) (behind (x ∷ []) later) → x ∷ bytes ≡ a ++ s ∷ b
parts_behind s x bytes a b true later same parts e = ap (λ y. y ∷ bytes) (same refl) ∙ sym (ap (λ (p : List ℕ × List ℕ). p.0 ++ s ∷ p.1) (some_is (a, b) ([], bytes) e))
parts_behind s x bytes a b false None same parts e = absurd cc
parts_behind s x bytes a b false (Some p) same parts e = ap (λ bytes. x ∷ bytes) (parts p.0 p.1 refl) ∙ sym (ap (λ (p : List ℕ × List ℕ). p.0 ++ s ∷ p.1) (some_is (a, b) (x ∷ p.0, p.1) e))

pub cut_parts : (s : ℕ) (bytes a b : List ℕ) → Some (a, b) ≡ cut s bytes → bytes ≡ a ++ s ∷ b
unfolding cut
cut_parts s [] a b e = absurd cc
cut_parts s (x ∷ bytes) a b e = parts_behind s x bytes a b (eqb x s) (cut s bytes) (eqb-true x s) (λ a b e. cut_parts s bytes a b e) e
