-- C2, paragraph 2.2.1: the area under the righting lever curve up to 40 degrees, or up to the degree of downflooding where that is less,
-- isn't less than 0.09 m·rad.
use Rattle.std.specs.Prelude.{ℕ, pos}
use Rattle.exact_algebra.proofs.Fraction.{◌≼◌}
use Rattle.exact_algebra.proofs.Whole.{whole}
use Rattle.intact_criteria.specs.declared.finding.Finding.{Finding}
use Rattle.intact_criteria.specs.AreaToFlooding as flooding
use Rattle.intact_criteria.specs.Figures.{Figures, area_to}
use Rattle.intact_criteria.specs.Downflooding.{IsDownflooding, IsWetAt}
use Rattle.intact_criteria.specs.Limit.{in_units}
use Rattle.intact_criteria.specs.Readings.{Ends, Leaks}

-- at a choice, on a side, K the degree of downflooding there; lengths in mm
pub record HoldsAt (f : Figures) : Type 0 where
  pub K : ℕ
  pub flooding : IsDownflooding (IsWetAt f) K
  pub area : whole (pos 90) ≼ area_to f K

-- the rule, by intervals
abbrev pub IsFound : Leaks → (separation : ℕ → Ends) → Finding → Type 0
IsFound l separation = flooding.IsFound l separation 0 (in_units 90)
