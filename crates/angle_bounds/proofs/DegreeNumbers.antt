-- Where the numbers of degrees part the directions.
use Rattle.std.proofs.Common.{◌≡◌, ℕ, zero, suc, ◌+◌, ◌<◌, ◌≤◌, refl, sym, subst, arith, Bool, true, ◌&&◌, nat_le, List, [], ◌∷◌, length, slice_index_or}
use mathlib.Core.Logic.{inl, inr}
use Rattle.std.proofs.Math.Nat.{eq-or-lt_of_le}
use Rattle.std.proofs.lemmas.Bool.{and_parts, leb-true}
use Rattle.angle_bounds.specs.Directions.{IsDirection, IsAtMost}
use Rattle.angle_bounds.specs.Degrees.{counted_power, IsAtLeastDegrees, IsAtMostDegrees, last_number, c_of, s_of, r_of, IsNumberOf, PartsAt, NumbersPartDegrees, NumbersStandApart}
use Rattle.angle_bounds.specs.declared.numbers.TheConstants.{NUMBERS}
use Rattle.angle_bounds.proofs.Degrees.{degrees_rise}
use Rattle.angle_bounds.proofs.NumberedDirections.{direction_is}
use Rattle.angle_bounds.proofs.Table.{number_at, less_at}

antisym : {a b : ℕ} → a ≤ b → b ≤ a → a ≡ b
antisym h k = omega (arith, h, k)

not_less : {a b : ℕ} → ((b < a) → ⊥) → a ≤ b
not_less n = omega (arith, n)

-- a degree has one number
pub one_number : (k q n : ℕ) → IsNumberOf k q → IsNumberOf k n → q ≡ n
one_number k q n a b = antisym (b.greatest q a.last a.at_most) (a.greatest n b.last b.at_most)

last_turns : (counted_power 90 (c_of last_number) (s_of last_number)).turns ≡ 90
unfolding counted_power
last_turns = refl

-- below 90 degrees there is a next number
pub below_last : (k q : ℕ) → k < 90 → IsNumberOf k q → q < last_number
below_last k q few number = elim (eq-or-lt_of_le number.last) [
  | inl last ↦ absurd (not_last (subst (λ n. IsAtMostDegrees k (c_of n) (s_of n)) last number.at_most))
  | inr less ↦ less
]
  where
    not_last : IsAtMostDegrees k (c_of last_number) (s_of last_number) → ⊥
    not_last (inl h) = omega (arith, h, last_turns, few)
    not_last (inr h) = omega (arith, h.0, last_turns, few)

not_at_most : (k c s : ℕ) → (IsAtMostDegrees k c s → ⊥) → IsAtLeastDegrees k c s
not_at_most k c s h = not_less (λ less. h (inl less))

parts_at : (k q : ℕ) → 0 < k → k < 90 → IsNumberOf k q → PartsAt k q
parts_at k q some few number = record {
  next = below_last k q few number;
  below = λ c s r d before least. less ((degrees_rise k c s r (c_of q) (s_of q) (r_of q) d (direction_is q number.last) before).0 least);
  above = λ c s r d after. let more = above c s r d after in (not_at_most k c s more, more);
}
  where
    table : q ≡ slice_index_or NUMBERS k 0
    table = one_number k q (slice_index_or NUMBERS k 0) number (number_at k 0 (omega (arith, few)))

    less : IsAtLeastDegrees k (c_of q) (s_of q) → ⊥
    less h = omega (arith, less_at k 0 some few, subst (λ n. IsAtLeastDegrees k (c_of n) (s_of n)) table h)

    above : (c s r : ℕ) → IsDirection c s r → IsAtMost (c_of (q + 1)) (s_of (q + 1)) c s → IsAtMostDegrees k c s → ⊥
    above c s r d after most =
        let next : q + 1 ≤ last_number = omega (arith, below_last k q few number) in
        omega (arith, number.greatest (q + 1) next ((degrees_rise k (c_of (q + 1)) (s_of (q + 1)) (r_of (q + 1)) c s r (direction_is (q + 1) next) d after).1 most))

pub numbers_part_degrees : NumbersPartDegrees
numbers_part_degrees = record {
  between = parts_at;
  at_0 = λ q. (λ number. one_number 0 q 0 number (number_at 0 0 (omega arith)), λ e. subst (λ n. IsNumberOf 0 n) (sym e) (number_at 0 0 (omega arith)));
  at_90 = λ q. (λ number. one_number 90 q last_number number (number_at 90 0 (omega arith)), λ e. subst (λ n. IsNumberOf 90 n) (sym e) (number_at 90 0 (omega arith)));
}

-- ---- a degree and the next
abbrev stand_apart : ℕ → List ℕ → Bool
stand_apart q [] = true
stand_apart q (n ∷ qs) = nat_le (q + 2) n && stand_apart n qs

abbrev all_stand_apart : List ℕ → Bool
all_stand_apart [] = true
all_stand_apart (q ∷ qs) = stand_apart q qs

table_stands_apart : all_stand_apart NUMBERS ≡ true
table_stands_apart = refl

apart_at : (q : ℕ) (qs : List ℕ) (i : ℕ) → stand_apart q qs ≡ true → i < length qs → slice_index_or (q ∷ qs) i 0 + 2 ≤ slice_index_or (q ∷ qs) (suc i) 0
apart_at q [] i e h = absurd (omega (arith, h))
apart_at q (n ∷ qs) zero e h = leb-true (q + 2) n (and_parts (nat_le (q + 2) n) (stand_apart n qs) e).0
apart_at q (n ∷ qs) (suc i) e h = apart_at n qs i (and_parts (nat_le (q + 2) n) (stand_apart n qs) e).1 (omega (arith, h))

apart : (qs : List ℕ) (i : ℕ) → all_stand_apart qs ≡ true → suc i < length qs → slice_index_or qs i 0 + 2 ≤ slice_index_or qs (suc i) 0
apart [] i e h = absurd (omega (arith, h))
apart (q ∷ qs) i e h = apart_at q qs i e (omega (arith, h))

pub numbers_stand_apart : NumbersStandApart
numbers_stand_apart k q n few this next = omega (arith, apart NUMBERS k table_stands_apart (omega (arith, few)), one_number k q (slice_index_or NUMBERS k 0) this (number_at k 0 (omega (arith, few))), one_number (k + 1) n (slice_index_or NUMBERS (suc k) 0) next (subst (λ m. IsNumberOf m (slice_index_or NUMBERS (suc k) 0)) (omega arith) (number_at (suc k) 0 (omega (arith, few)))))
