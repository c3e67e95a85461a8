-- Steps of the loops over degrees: the greatest degree by the first at which a depth lies above 0.
use Rattle.std.proofs.Common.{◌≡◌, subst, inl, inr, ℕ, zero, suc, ◌+◌, ◌-◌, ◌<◌, ◌≤◌, arith}
use Rattle.intact_criteria.specs.declared.leaks.Test.TheVariants.{Above}
use Rattle.intact_criteria.specs.Downflooding.{SomePasses, IsMost}
use Rattle.intact_criteria.specs.Readings.{Leaks}

pub most_before : (l : Leaks) (degree most : ℕ) → degree < 41 → most ≡ degree - 1 → SomePasses l Above degree → ((j : ℕ) → j < degree → ¬ SomePasses l Above j) → IsMost l most
most_before l zero most few e above before = inl (record { nil = nil most e; floods = above })
  where
    nil : (n : ℕ) → n ≡ zero - 1 → n ≡ 0
    nil n e = omega arith
most_before l (suc n) most few e above before = subst (IsMost l) (same most e) (inr (record {
  most = omega arith;
  dry = λ k h. before k (past k h);
  next = λ h. let e : suc n ≡ n + 1 = omega arith in subst (SomePasses l Above) e above;
}))
  where
    same : (m : ℕ) → m ≡ suc n - 1 → n ≡ m
    same m e = omega arith

    past : (k : ℕ) → k ≤ n → k < suc n
    past k h = omega arith

pub most_of_all : (l : Leaks) (degree : ℕ) → 41 ≤ degree → ((j : ℕ) → j < degree → ¬ SomePasses l Above j) → IsMost l 40
most_of_all l degree past before = inr (record { most = omega arith; dry = λ k h. before k (within k h); next = λ h. absurd (omega arith) })
  where
    within : (k : ℕ) → k ≤ 40 → k < degree
    within k h = omega arith
