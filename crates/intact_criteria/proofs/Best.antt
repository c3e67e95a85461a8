-- The first number at which a function is greatest so far.
use Rattle.std.proofs.Common.{◌≡◌, subst, inl, inr, ℕ, ◌+◌, ◌<◌, ◌≤◌, ℤ, ◌≤ℤ◌, ◌<ℤ◌, arith}
use Rattle.std.proofs.lemmas.Int.{ints}
use Rattle.intact_criteria.specs.Degrees.{IsFirstGreatest}
use Rattle.intact_criteria.proofs.Decisions.{lt_or_le}

pub record IsBestBelow (from end : ℕ) (f : ℕ → ℤ) (best : ℕ) : Type 0 where
  pub above : from ≤ best
  pub below : best < end
  pub greatest : (j : ℕ) → from ≤ j → j < end → f j ≤ℤ f best
  pub before : (j : ℕ) → from ≤ j → j < best → f j <ℤ f best

pub best_alone : (from : ℕ) (f : ℕ → ℤ) → IsBestBelow from (from + 1) f from
best_alone from f = record {
  above = omega arith;
  below = omega arith;
  greatest = λ j h k. same j h k;
  before = λ j h k. absurd (omega arith);
}
  where
    itself : (z : ℤ) → z ≤ℤ z
    itself z = omega (arith, ints)

    same : (j : ℕ) → from ≤ j → j < from + 1 → f j ≤ℤ f from
    same j h k = let e : from ≡ j = omega arith in subst (λ (n : ℕ). f n ≤ℤ f from) e (itself (f from))

trans : (a b c : ℤ) → a ≤ℤ b → b <ℤ c → a <ℤ c
trans a b c h k = omega (arith, ints)

weak : (a b : ℤ) → a <ℤ b → a ≤ℤ b
weak a b h = omega (arith, ints)

itself : (z : ℤ) → z ≤ℤ z
itself z = omega (arith, ints)

-- the next number is greater, or isn't
pub best_taken : (from end best : ℕ) (f : ℕ → ℤ) → IsBestBelow from end f best → f best <ℤ f end → IsBestBelow from (end + 1) f end
best_taken from end best f b greater = record {
  above = up from best end b.above b.below;
  below = omega arith;
  greatest = λ j h k. elim (lt_or_le j end) [ inl less ↦ weak (f j) (f end) (trans (f j) (f best) (f end) (b.greatest j h less) greater) | inr more ↦ same j more k ];
  before = λ j h k. trans (f j) (f best) (f end) (b.greatest j h k) greater;
}
  where
    up : (a b c : ℕ) → a ≤ b → b < c → a ≤ c
    up a b c h k = omega arith

    same : (j : ℕ) → end ≤ j → j < end + 1 → f j ≤ℤ f end
    same j h k = let e : end ≡ j = omega arith in subst (λ (n : ℕ). f n ≤ℤ f end) e (itself (f end))

pub best_kept : (from end best : ℕ) (f : ℕ → ℤ) → IsBestBelow from end f best → f end ≤ℤ f best → IsBestBelow from (end + 1) f best
best_kept from end best f b lesser = record {
  above = b.above;
  below = further best b.below;
  greatest = λ j h k. elim (lt_or_le j end) [ inl less ↦ b.greatest j h less | inr more ↦ same j more k ];
  before = b.before;
}
  where
    further : (k : ℕ) → k < end → k < end + 1
    further k h = omega arith

    same : (j : ℕ) → end ≤ j → j < end + 1 → f j ≤ℤ f best
    same j h k = let e : end ≡ j = omega arith in subst (λ (n : ℕ). f n ≤ℤ f best) e lesser

pub best_of_all : (from to best : ℕ) (f : ℕ → ℤ) → IsBestBelow from (to + 1) f best → IsFirstGreatest from to f best
best_of_all from to best f b = record {
  above = b.above;
  below = within best b.below;
  greatest = λ j h k. b.greatest j h (past j k);
  before = b.before;
}
  where
    within : (k : ℕ) → k < to + 1 → k ≤ to
    within k h = omega arith

    past : (k : ℕ) → k ≤ to → k < to + 1
    past k h = omega arith
