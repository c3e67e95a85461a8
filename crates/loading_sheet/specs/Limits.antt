-- What a loading keeps.
use Rattle.std.specs.Prelude.{ℕ, ◌≤◌, ◌<◌, ◌*◌, ◌^◌, ℤ}
use Rattle.std.specs.Int.RustNames.{unsigned_abs}

-- a mass in kg, and moments in kg·mm: along the ship, across it and in height
pub record IsLoading (mass mx : ℕ) (my : ℤ) (mz : ℕ) : Type 0 where
  pub some : 1 ≤ mass
  pub most : mass ≤ 2 ^ 36
  pub along : mx ≤ 524287 * mass
  pub across : unsigned_abs my ≤ 65535 * mass
  pub height : mz < 2 ^ 55
