-- The readings of one side contain the figures of a choice there.
use Rattle.std.proofs.Common.{◌≡◌, ℕ, ◌<◌, ◌≤◌}
use Rattle.intact_criteria.specs.Figures.{Figures}
use Rattle.intact_criteria.specs.Limit.{Contains}
use Rattle.intact_criteria.specs.Readings.{Readings}

pub record Encloses (r : Readings) (f : Figures) : Type 0 where
  pub gz : (k : ℕ) → k ≤ 90 → Contains (r.gz k) (f.gz k)
  pub separation : (k : ℕ) → k ≤ 90 → Contains (r.separation k) (f.separation k)
  pub gm : Contains r.gm f.gm
  pub openings : r.leaks.openings ≡ f.openings
  pub depth : (place k : ℕ) → place < r.leaks.openings → k ≤ 90 → Contains (r.leaks.depth place k) (f.depth place k)
