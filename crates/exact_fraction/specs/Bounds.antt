-- The bounds of a ratio's two numbers.
use Rattle.std.specs.Prelude.{ℕ, ◌<◌, ◌^◌, ℤ, pos, ◌≤ℤ◌}
use Rattle.std.specs.Int.RustNames.{unsigned_abs}

-- below 2^bits in magnitude
abbrev pub MagnitudeBelow : ℕ → ℤ → Type 0
MagnitudeBelow bits n = unsigned_abs n < 2 ^ bits

-- a ratio has these two numbers
pub record IsRatio (num den : ℤ) : Type 0 where
  pub size : MagnitudeBelow 90 num
  pub positive : pos 1 ≤ℤ den
  pub most : den ≤ℤ pos (2 ^ 36)
