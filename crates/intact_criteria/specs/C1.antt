-- C1, paragraph 2.2.1 of the Code: the area under the righting lever curve up to 30 degrees of heel isn't less than 0.055 m·rad.
use Rattle.std.specs.Prelude.{ℕ, pos}
use Rattle.exact_algebra.proofs.Fraction.{◌≼◌}
use Rattle.exact_algebra.proofs.Whole.{whole}
use Rattle.intact_criteria.specs.declared.finding.Finding.{Finding}
use Rattle.intact_criteria.specs.AreaToFlooding.{area_between}
use Rattle.intact_criteria.specs.Figures.{Figures, area_to}
use Rattle.intact_criteria.specs.Limit.{in_units, IsFoundAgainst}
use Rattle.intact_criteria.specs.Readings.{Ends}

-- at a choice, on a side; lengths in mm
abbrev pub HoldsAt : Figures → Type 0
HoldsAt f = whole (pos 55) ≼ area_to f 30

-- the rule, by intervals
abbrev pub IsFound : (ℕ → Ends) → Finding → Type 0
IsFound separation = IsFoundAgainst (in_units 55) 30 (area_between separation 0 30)
