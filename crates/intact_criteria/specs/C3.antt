-- C3, paragraph 2.2.1: the area under the righting lever curve between 30 and 40 degrees, or between 30 and the degree of downflooding
-- where that is less than 40, isn't less than 0.03 m·rad. Where it is less than 30 there is no such area, and the criterion fails.
use Rattle.std.specs.Prelude.{ℕ, ◌≤◌, pos}
use Rattle.exact_algebra.proofs.Fraction.{◌≼◌, ◌⊖◌}
use Rattle.exact_algebra.proofs.Whole.{whole}
use Rattle.intact_criteria.specs.declared.finding.Finding.{Finding}
use Rattle.intact_criteria.specs.AreaToFlooding as flooding
use Rattle.intact_criteria.specs.Figures.{Figures, area_to}
use Rattle.intact_criteria.specs.Downflooding.{IsDownflooding, IsWetAt}
use Rattle.intact_criteria.specs.Limit.{in_units}
use Rattle.intact_criteria.specs.Readings.{Ends, Leaks}

-- at a choice, on a side, K the degree of downflooding there; lengths in mm
pub record HoldsAt (f : Figures) : Type 0 where
  pub K : ℕ
  pub flooding : IsDownflooding (IsWetAt f) K
  pub late : 30 ≤ K
  pub area : whole (pos 30) ≼ area_to f K ⊖ area_to f 30

-- the rule, by intervals
abbrev pub IsFound : Leaks → (separation : ℕ → Ends) → Finding → Type 0
IsFound l separation = flooding.IsFound l separation 30 (in_units 30)
