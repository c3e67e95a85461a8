-- Each entry of the table is the number of its degree: a test computes the 90th power of each entry's direction and of the
-- next.
use Rattle.std.proofs.Common.{◌≡◌, ℕ, zero, suc, ◌+◌, ◌<◌, ◌≤◌, ◌⊎◌, pos, refl, subst, arith, Bool, true, not, ◌&&◌, ◌||◌, nat_le, nat_lt, ◌==◌, int_eq, List, [], ◌∷◌, length, slice_index_or}
use mathlib.Core.Logic.{inl, inr}
use Rattle.std.specs.Prelude.{Decides}
use Rattle.std.proofs.lemmas.Bool.Decides.{Decides-and, Decides-or, Decides-not, Decides-ltb, Decides-eqb, Decides-int_eq}
use Rattle.std.proofs.lemmas.Bool.{and_parts, leb-true}
use Rattle.angle_bounds.specs.Degrees.{Counted, counted_power, ninetieth_power, IsAtMostDegrees, last_number, c_of, s_of, IsNumberOf}
use Rattle.angle_bounds.specs.declared.numbers.TheConstants.{NUMBERS}
use Rattle.angle_bounds.proofs.NumberedDirections.{is_number}

-- the power of the direction of q
abbrev counted : ℕ → Counted
counted q = ninetieth_power (c_of q) (s_of q)

-- whether it is at most k degrees
abbrev at_most : ℕ → Counted → Bool
at_most k w = nat_lt w.turns k || w.turns == k && int_eq w.im (pos 0)

-- whether q is the number of k degrees, and less than k degrees between 0 and 90
abbrev is_entry : ℕ → ℕ → Bool
is_entry k q = nat_le q last_number && at_most k (counted q) && (q == last_number || not (at_most k (counted (q + 1)))) && (k == 0 || k == 90 || nat_lt (counted q).turns k)

abbrev are_entries : ℕ → List ℕ → Bool
are_entries k [] = true
are_entries k (q ∷ qs) = is_entry k q && are_entries (suc k) qs

entries : are_entries 0 NUMBERS ≡ true
unfolding counted_power
entries = refl

-- ---- what the test says
at_most_decides : (k q : ℕ) → Decides (at_most k (counted q)) (IsAtMostDegrees k (c_of q) (s_of q))
at_most_decides k q =
    let w = counted q in
    Decides-or (nat_lt w.turns k) _ (Decides-ltb w.turns k) (Decides-and (w.turns == k) (int_eq w.im (pos 0)) (Decides-eqb w.turns k) (Decides-int_eq w.im (pos 0)))

pub record IsEntry (k q : ℕ) : Type 0 where
  pub last : q ≤ last_number
  pub at_most : IsAtMostDegrees k (c_of q) (s_of q)
  pub next : (q ≡ last_number) ⊎ (IsAtMostDegrees k (c_of (q + 1)) (s_of (q + 1)) → ⊥)
  pub less : ((k ≡ 0) ⊎ (k ≡ 90)) ⊎ ((counted q).turns < k)

entry_from : (k q : ℕ) → is_entry k q ≡ true → IsEntry k q
entry_from k q e =
    let most = nat_le q last_number in
    let this = at_most k (counted q) in
    let next = q == last_number || not (at_most k (counted (q + 1))) in
    let less = k == 0 || k == 90 || nat_lt (counted q).turns k in
    let parts = and_parts (most && this && next) less e in
    let three = and_parts (most && this) next parts.0 in
    let two = and_parts most this three.0 in
    record {
      last = leb-true q last_number two.0;
      at_most = (at_most_decides k q).0 two.1;
      next = (Decides-or (q == last_number) (not (at_most k (counted (q + 1)))) (Decides-eqb q last_number) (Decides-not (at_most k (counted (q + 1))) (at_most_decides k (q + 1)))).0 three.1;
      less = (Decides-or (k == 0 || k == 90) (nat_lt (counted q).turns k) (Decides-or (k == 0) (k == 90) (Decides-eqb k 0) (Decides-eqb k 90)) (Decides-ltb (counted q).turns k)).0 parts.1;
    }

tested : (k : ℕ) (qs : List ℕ) (i d n : ℕ) → n ≡ k + i → are_entries k qs ≡ true → i < length qs → is_entry n (slice_index_or qs i d) ≡ true
tested k [] i d n f e h = absurd (omega (arith, h))
tested k (q ∷ qs) zero d n f e h = subst (λ m. is_entry m q ≡ true) (omega (arith, f)) (and_parts (is_entry k q) (are_entries (suc k) qs) e).0
tested k (q ∷ qs) (suc i) d n f e h = tested (suc k) qs i d n (omega (arith, f)) (and_parts (is_entry k q) (are_entries (suc k) qs) e).1 (omega (arith, h))

entry : (k d : ℕ) → k ≤ 90 → IsEntry k (slice_index_or NUMBERS k d)
entry k d h = entry_from k (slice_index_or NUMBERS k d) (tested 0 NUMBERS k d k (omega arith) entries (omega (arith, h)))

pub number_at : (k d : ℕ) → k ≤ 90 → IsNumberOf k (slice_index_or NUMBERS k d)
number_at k d h =
    let e = entry k d h in
    is_number k (slice_index_or NUMBERS k d) e.last e.at_most (λ less m. elim e.next [ inl last ↦ omega (arith, last, less) | inr above ↦ above m ])

pub less_at : (k d : ℕ) → 0 < k → k < 90 → (counted (slice_index_or NUMBERS k d)).turns < k
less_at k d some few = elim (entry k d (omega (arith, few))).less [
  | inl ends ↦ absurd (elim ends [ inl nought ↦ omega (arith, nought, some) | inr all ↦ omega (arith, all, few) ])
  | inr less ↦ less
]
