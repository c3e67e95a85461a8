-- The limits of slabs, openings and waters.
use Rattle.std.specs.Prelude.{ℕ, ◌≤◌, ℤ, pos, ◌≤ℤ◌, ◌<ℤ◌}

-- two planes in order along the ship, and a permeability in thousandths
pub record IsSlab (aft fore : ℤ) (permeability : ℕ) : Type 0 where
  pub aft_end : pos 0 ≤ℤ aft
  pub order : aft <ℤ fore
  pub fore_end : fore ≤ℤ pos 524287
  pub share : permeability ≤ 1000

-- a distance from the centreplane and a height, in mm
pub record IsOpening (y z : ℤ) : Type 0 where
  pub beside : pos 0 ≤ℤ y
  pub near : y ≤ℤ pos 65535
  pub above_base : pos 0 ≤ℤ z
  pub low : z ≤ℤ pos 131071

-- a density in kg per m³, and a length in mm
pub record IsWater (density length_bp : ℕ) : Type 0 where
  pub lightest : 500 ≤ density
  pub heaviest : density ≤ 2000
  pub some_length : 1 ≤ length_bp
  pub longest : length_bp ≤ 524287
