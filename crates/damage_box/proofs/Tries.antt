-- Corners that were tried, one slope after the other.
use Rattle.std.proofs.Common.{◌≡◌, ◌⊎◌, inl, inr, refl, sym, subst, ap, add-one, ◌∙◌, ℕ, zero, suc, ◌+◌, ◌*◌, ◌^◌, ◌<◌, ◌≤◌, ℤ, ◌+ℤ◌, List, ◌∷◌, length, get_or, arith}
use Rattle.std.proofs.Math.ListN.{set}
use Rattle.std.proofs.Math.Nat.{one-le-pow, pow-suc, pow-le-pow_right}
use Rattle.std.proofs.lemmas.Int.{ints}
use Rattle.std.proofs.lemmas.List.{get_or-set_same, get_or-set_other}
use Rattle.damage_box.specs.Balance.{Balance, IsHalf, IsFar, mirrored}
use Rattle.damage_box.specs.Candidates.{half_of, IsAt}
use Rattle.damage_box.specs.Faults.{turned, AreTriedAft}
use Rattle.damage_box.specs.Reading.{IsTried, Qualifies, IsStart, AreTried}
use Rattle.damage_box.specs.declared.reading.Corner.{Corner}

pub is_half : (j : ℕ) → j < 16 → IsHalf (half_of j)
is_half j h =
    let few : 2 ^ j ≤ 2 ^ 15 = pow-le-pow_right {n = 2} (omega arith) {i = j} {j = 15} (omega (arith, h)) in
    let some : 1 ≤ 2 ^ j = one-le-pow j 2 (omega arith) in
    record { from = omega (arith, ints, some); to = omega (arith, ints, few) }

pub start_of : {b : Balance} {c : Corner} {half : ℤ} (j : ℕ) → j < 16 → half ≡ half_of j → IsTried b half c → Qualifies c → IsStart b c
start_of {b} {c} {half} j h e t q = record { number = j; few = h; half = half; is_half = subst IsHalf (sym e) (is_half j h); is_slope = e; tried = t; qualifies = q }

pub alone : {b : Balance} {c : Corner} (rest : List Corner) → IsTried b (half_of 0) c → (Qualifies c → ⊥) → AreTried b (c ∷ rest) 1
alone {b} {c} rest t n = record { all = all_of; none = none_of }
  where
    all_of : (k : ℕ) → k < 1 → (d : Corner) → IsAt (c ∷ rest) k d → IsTried b (half_of k) d
    all_of zero h d e = subst (λ x. IsTried b (half_of 0) x) e t
    all_of (suc k) h d e = absurd (omega arith)

    none_of : (k : ℕ) → k < 1 → (d : Corner) → IsAt (c ∷ rest) k d → Qualifies d → ⊥
    none_of zero h d e q = n (subst Qualifies (sym e) q)
    none_of (suc k) h d e q = absurd (omega arith)

pub before_or_at : (k j : ℕ) → k < j + 1 → (k < j) ⊎ (k ≡ j)
before_or_at zero zero h = inr refl
before_or_at zero (suc j) h = inl (omega arith)
before_or_at (suc k) zero h = absurd (omega arith)
before_or_at (suc k) (suc j) h = elim (before_or_at k j (omega (arith, h))) [ inl p ↦ inl (omega (arith, p)) | inr p ↦ inr (omega (arith, p)) ]

pub added : {b : Balance} (tried : List Corner) (j : ℕ) (c : Corner) → j < length tried → AreTried b tried j → IsTried b (half_of j) c → (Qualifies c → ⊥) → AreTried b (set tried j c) (j + 1)
added {b} tried j c few a t n = record { all = all_of; none = none_of }
  where
    at : (k : ℕ) (d : Corner) → k ≡ j → IsAt (set tried j c) k d → c ≡ d
    at k d p e = sym (get_or-set_same tried j c d few) ∙ subst (λ i. get_or (set tried j c) i d ≡ d) p e

    before : (k : ℕ) (d : Corner) → k < j → IsAt (set tried j c) k d → IsAt tried k d
    before k d h e = sym (get_or-set_other tried j k c d (λ p. omega (arith, p, h))) ∙ e

    all_of : (k : ℕ) → k < j + 1 → (d : Corner) → IsAt (set tried j c) k d → IsTried b (half_of k) d
    all_of k h d e = elim (before_or_at k j h) [ inl p ↦ a.all k p d (before k d p e) | inr p ↦ subst (λ i. IsTried b (half_of i) d) (sym p) (subst (λ x. IsTried b (half_of j) x) (at k d p e) t) ]

    none_of : (k : ℕ) → k < j + 1 → (d : Corner) → IsAt (set tried j c) k d → Qualifies d → ⊥
    none_of k h d e q = elim (before_or_at k j h) [ inl p ↦ a.none k p d (before k d p e) q | inr p ↦ n (subst Qualifies (sym (at k d p e)) q) ]

pub doubled : {half : ℤ} (j : ℕ) → half ≡ half_of j → half +ℤ half ≡ half_of (j + 1)
doubled {half} j e = subst (λ z. z +ℤ z ≡ half_of (j + 1)) (sym e) (twice j)
  where
    twice : (j : ℕ) → half_of j +ℤ half_of j ≡ half_of (j + 1)
    twice j = let p : 2 ^ (j + 1) ≡ 2 ^ j * 2 = ap (λ i. 2 ^ i) (add-one j) ∙ pow-suc 2 j in omega (arith, ints, p)

pub doubled_far : {half : ℤ} (j : ℕ) → half ≡ half_of j → j < 16 → IsFar (half +ℤ half)
doubled_far {half} j e h = go half (subst IsHalf (sym e) (is_half j h))
  where
    go : (z : ℤ) → IsHalf z → IsFar (z +ℤ z)
    go z m = record { from = omega (arith, ints, m.from); to = omega (arith, ints, m.to) }

-- ---- corners that are turned back, one after the other
abbrev pub AreTurned : (tried back : List Corner) → ℕ → Type 0
AreTurned tried back j = (k : ℕ) → k < j → (c : Corner) → IsAt back k c → IsAt tried k (turned c)

pub none_turned : (tried back : List Corner) → AreTurned tried back 0
none_turned tried back k h c e = absurd (omega (arith, h))

pub more_turned : (tried back : List Corner) (j : ℕ) (d : Corner) → j < length back → ((c : Corner) → get_or tried j c ≡ turned d) → AreTurned tried back j → AreTurned tried (set back j d) (j + 1)
more_turned tried back j d few at a k h c e = elim (before_or_at k j h) [
  | inl p ↦ a k p c (sym (get_or-set_other back j k d c (λ q. omega (arith, q, p))) ∙ e)
  | inr p ↦ subst (λ i. get_or tried i (turned c) ≡ turned c) (sym p) (at (turned c) ∙ ap turned (sym (get_or-set_same back j d c few) ∙ subst (λ i. get_or (set back j d) i c ≡ c) p e))
]

pub aft_tried : {b : Balance} {tried back : List Corner} → AreTurned tried back 16 → AreTried (mirrored b) tried 16 → AreTriedAft b back
aft_tried at a = record {
  all = λ k h c e. a.all k h (turned c) (at k h c e);
  none = λ k h c e. a.none k h (turned c) (at k h c e);
}
