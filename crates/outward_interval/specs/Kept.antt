-- What every span keeps.
use Rattle.std.specs.Prelude.{ℕ, ◌≤◌, ℤ, ◌≤ℤ◌}
use Rattle.exact_fraction.specs.Bounds.{MagnitudeBelow}

-- ends of a span of this scale
pub record IsSpan (scale : ℕ) (lo hi : ℤ) : Type 0 where
  pub ordered : lo ≤ℤ hi
  pub low : MagnitudeBelow 126 lo
  pub high : MagnitudeBelow 126 hi
  pub scaled : scale ≤ 60
