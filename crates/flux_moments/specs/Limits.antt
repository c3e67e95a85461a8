-- How far levels and the ends of spans may lie.
use Rattle.std.specs.Prelude.{ℕ, ◌^◌, ◌<◌, ◌≤◌, ℤ, ◌≤ℤ◌}
use Rattle.std.specs.Int.RustNames.{unsigned_abs}
pub use Rattle.plane_clip.specs.Limits.{EndsAtMost}

-- levels of a box in grid units: ordered, and none above the limit
pub record AreLevels (a1 a2 f1 f2 : ℤ) : Type 0 where
  pub aft : a1 ≤ℤ a2
  pub fore : f1 ≤ℤ f2
  pub first : unsigned_abs a1 ≤ 2 ^ 30
  pub second : unsigned_abs a2 ≤ 2 ^ 30
  pub third : unsigned_abs f1 ≤ 2 ^ 30
  pub fourth : unsigned_abs f2 ≤ 2 ^ 30

-- both ends are below so many units in magnitude
pub record EndsLess (bound : ℕ) (lo hi : ℤ) : Type 0 where
  pub low : unsigned_abs lo < bound
  pub high : unsigned_abs hi < bound
