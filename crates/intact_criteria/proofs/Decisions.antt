-- Decisions over numbers below a bound, and where a fraction is greatest.
use Rattle.std.proofs.Common.{◌≡◌, ap, subst, ◌⊎◌, inl, inr, ℕ, zero, suc, ◌+◌, ◌<◌, ◌≤◌, arith}
use Rattle.exact_algebra.proofs.Fraction.{Fraction, fractions, ◌≼◌}
use Rattle.exact_algebra.proofs.Order as Order

pub lt_or_le : (a b : ℕ) → (a < b) ⊎ (b ≤ a)
lt_or_le a zero = inr (omega arith)
lt_or_le zero (suc b) = inl (omega arith)
lt_or_le (suc a) (suc b) = elim (lt_or_le a b) [ inl h ↦ inl (omega arith) | inr h ↦ inr (omega arith) ]

-- a number below n at which P holds, with none before it
pub record FirstBelow (n : ℕ) (P : ℕ → Type 0) : Type 0 where
  pub number : ℕ
  pub below : number < n
  pub holds : P number
  pub before : (j : ℕ) → j < number → ¬ P j

-- what is decided of each number has a first number below n, or none
pub first_or_none : (P : ℕ → Type 0) → ((k : ℕ) → P k ⊎ ¬ P k) → (n : ℕ) → FirstBelow n P ⊎ ((k : ℕ) → k < n → ¬ P k)
first_or_none P decide zero = inr (λ k h. absurd (omega arith))
first_or_none P decide (suc n) = elim (first_or_none P decide n) [
  | inl f ↦ inl (record { number = f.number; below = further f.number f.below; holds = f.holds; before = f.before })
  | inr none ↦ elim (decide n) [
    | inl h ↦ inl (record { number = n; below = omega arith; holds = h; before = none })
    | inr not ↦ inr (λ k h. elim (lt_or_le k n) [ inl l ↦ none k l | inr m ↦ λ p. not (at k m h p) ])
  ]
]
  where
    further : (k : ℕ) → k < n → k < suc n
    further k h = omega arith

    at : (k : ℕ) → n ≤ k → k < suc n → P k → P n
    at k m h p = let e : k ≡ n = omega arith in subst P e p

-- a fraction is greatest somewhere from a number on
pub record GreatestAt (from count : ℕ) (f : ℕ → Fraction) : Type 0 where
  pub place : ℕ
  pub above : from ≤ place
  pub below : place < from + suc count
  pub greatest : (j : ℕ) → from ≤ j → j < from + suc count → f j ≼ f place

pub greatest_exists : (from count : ℕ) (f : ℕ → Fraction) → GreatestAt from count f
greatest_exists from zero f = record {
  place = from;
  above = omega arith;
  below = omega arith;
  greatest = λ j l m. same j l m;
}
  where
    same : (j : ℕ) → from ≤ j → j < from + suc zero → f j ≼ f from
    same j l m = let e : j ≡ from = omega arith in Order.≼_same fractions (ap f e)
greatest_exists from (suc n) f = choose (greatest_exists from n f)
  where
    choose : GreatestAt from n f → GreatestAt from (suc n) f
    choose g = elim (Order.≼_total fractions (f g.place) (f (from + suc n))) [
      | inl up ↦ record {
        place = from + suc n;
        above = omega arith;
        below = omega arith;
        greatest = λ j l m. elim (lt_or_le j (from + suc n)) [ inl k ↦ Order.≼_trans fractions (g.greatest j l k) up | inr k ↦ same j k m ];
      }
      | inr down ↦ record {
        place = g.place;
        above = g.above;
        below = further g.place g.below;
        greatest = λ j l m. elim (lt_or_le j (from + suc n)) [ inl k ↦ g.greatest j l k | inr k ↦ Order.≼_trans fractions (same j k m) down ];
      }
    ]
      where
        same : (j : ℕ) → from + suc n ≤ j → j < from + suc (suc n) → f j ≼ f (from + suc n)
        same j k m = let e : j ≡ from + suc n = omega arith in Order.≼_same fractions (ap f e)

        further : (k : ℕ) → k < from + suc n → k < from + suc (suc n)
        further k h = omega arith
