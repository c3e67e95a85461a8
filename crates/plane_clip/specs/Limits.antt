-- How far the ends of spans may lie, and how far apart.
use Rattle.std.specs.Prelude.{ℕ, ◌≤◌, ℤ, pos, ◌≤ℤ◌, ◌+ℤ◌}
use Rattle.std.specs.Int.RustNames.{unsigned_abs}

-- both ends are at most so many units in magnitude
pub record EndsAtMost (most : ℕ) (lo hi : ℤ) : Type 0 where
  pub low : unsigned_abs lo ≤ most
  pub high : unsigned_abs hi ≤ most

-- the ends are at most so many units apart
abbrev pub IsThin : ℕ → ℤ → ℤ → Type 0
IsThin units lo hi = hi ≤ℤ (lo +ℤ pos units)
