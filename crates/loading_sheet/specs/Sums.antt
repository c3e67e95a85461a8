-- Sums over items.
use Rattle.std.specs.Prelude.{ℕ, ◌+◌, ◌*◌, ◌^◌, ◌≤◌, ℤ, pos, ◌+ℤ◌, ◌*ℤ◌, ◌≤ℤ◌, List, [], ◌∷◌}
use Rattle.std.specs.Int.RustNames.{unsigned_abs}
use Rattle.job_reader.specs.declared.job.Item.{Item}

-- the masses, in kg
abbrev pub total_mass : List Item → ℕ
total_mass [] = 0
total_mass (i ∷ rest) = i.mass + total_mass rest

-- the free surface moments, in kg·m
abbrev pub total_free : List Item → ℕ
total_free [] = 0
total_free (i ∷ rest) = i.free_surface + total_free rest

-- the masses times their distances from a plane, in kg·mm
abbrev pub moment_about : (Item → ℤ) → List Item → ℤ
moment_about arm [] = pos 0
moment_about arm (i ∷ rest) = (pos i.mass *ℤ arm i) +ℤ moment_about arm rest

-- sums over at most 256 items
pub record AreWithin (mass : ℕ) (along across height : ℤ) (free : ℕ) : Type 0 where
  pub most : mass ≤ 2 ^ 44
  pub aft : pos 0 ≤ℤ along
  pub fore : along ≤ℤ pos (524287 * mass)
  pub aside : unsigned_abs across ≤ 65535 * mass
  pub low : pos 0 ≤ℤ height
  pub high : height ≤ℤ pos (131071 * mass)
  pub surfaces : free ≤ 2 ^ 44
