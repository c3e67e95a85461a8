-- C6, paragraph 2.2.4: the initial metacentric height GM isn't less than 0.15 m.
use Rattle.std.specs.Prelude.{pos}
use Rattle.exact_algebra.proofs.Fraction.{◌≼◌}
use Rattle.exact_algebra.proofs.Whole.{whole}
use Rattle.intact_criteria.specs.declared.finding.Finding.{Finding}
use Rattle.intact_criteria.specs.Figures.{Figures}
use Rattle.intact_criteria.specs.Limit.{in_units, IsFoundAgainst}
use Rattle.intact_criteria.specs.Readings.{Ends}

-- at a choice, on a side; lengths in mm
abbrev pub HoldsAt : Figures → Type 0
HoldsAt f = whole (pos 150) ≼ f.gm

-- the rule, by intervals
abbrev pub IsFound : Ends → Finding → Type 0
IsFound gm = IsFoundAgainst (in_units 150) 0 gm
