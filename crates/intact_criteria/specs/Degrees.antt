-- Facts of degrees: of some or of each from one to another, of the first, and the first at which a number is greatest.
use Rattle.std.specs.Prelude.{ℕ, ◌<◌, ◌≤◌, ℤ, ◌≤ℤ◌, ◌<ℤ◌}

abbrev pub EachFrom : (from to : ℕ) → (ℕ → Type 0) → Type 0
EachFrom from to P = (k : ℕ) → from ≤ k → k ≤ to → P k

pub record SomeFrom (from to : ℕ) (P : ℕ → Type 0) : Type 0 where
  pub degree : ℕ
  pub above : from ≤ degree
  pub below : degree ≤ to
  pub holds : P degree

-- the first from `from` to `to`
pub record IsFirst (from to : ℕ) (P : ℕ → Type 0) (k : ℕ) : Type 0 where
  pub above : from ≤ k
  pub below : k ≤ to
  pub holds : P k
  pub before : (j : ℕ) → from ≤ j → j < k → ¬ P j

-- the first from `from` to `to` at which f is greatest
pub record IsFirstGreatest (from to : ℕ) (f : ℕ → ℤ) (k : ℕ) : Type 0 where
  pub above : from ≤ k
  pub below : k ≤ to
  pub greatest : (j : ℕ) → from ≤ j → j ≤ to → f j ≤ℤ f k
  pub before : (j : ℕ) → from ≤ j → j < k → f j <ℤ f k
