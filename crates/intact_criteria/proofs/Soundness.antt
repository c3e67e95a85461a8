-- When a rule is right about a criterion, and what it may show.
use Rattle.std.specs.Prelude.{⊤, ℕ, ◌≤◌}
use Rattle.outward_interval.specs.Ends.{EndsBelow}
use Rattle.intact_criteria.specs.declared.finding.Finding.{Finding}
use Rattle.intact_criteria.specs.declared.finding.Finding.TheVariants.{Holds, Fails, Unsure}
use Rattle.intact_criteria.specs.declared.finding.Shown.{Shown}
use Rattle.intact_criteria.specs.Figures.{Figures}
use Rattle.intact_criteria.specs.Readings.{Ends, Readings}
use Rattle.intact_criteria.specs.Open.{IsOpen}
use Rattle.intact_criteria.specs.Bounds.{IsBounded}
use Rattle.intact_criteria.proofs.Enclosure.{Encloses}

-- a rule is right about a criterion: what it finds to hold holds, and what it finds to fail doesn't
pub record IsSound (Rule : Readings → Finding → Type 0) (C : Figures → Type 0) : Type 0 where
  pub holds : (r : Readings) (f : Figures) → Encloses r f → Rule r Holds → C f
  pub fails : (r : Readings) (f : Figures) → Encloses r f → (shown : Shown) → Rule r (Fails shown) → ¬ C f

-- what is shown where a rule is unsure leaves the criterion open
abbrev pub OpenFinding : ℕ → Readings → Finding → Type 0
OpenFinding n r Holds = ⊤
OpenFinding n r (Fails s) = ⊤
OpenFinding n r (Unsure s) = IsOpen n r s

-- no end of what a rule shows reaches 2^96 in magnitude
abbrev pub BoundedFinding : Finding → Type 0
BoundedFinding Holds = ⊤
BoundedFinding (Fails s) = IsBounded s
BoundedFinding (Unsure s) = IsBounded s

abbrev pub Bounded : Ends → Type 0
Bounded ends = EndsBelow 96 ends.lo ends.hi

abbrev pub IsSmall : Ends → Type 0
IsSmall ends = EndsBelow 95 ends.lo ends.hi

-- readings whose ends are small
pub record AreSmall (r : Readings) : Type 0 where
  pub gz : (k : ℕ) → k ≤ 90 → IsSmall (r.gz k)
  pub separation : (k : ℕ) → k ≤ 90 → IsSmall (r.separation k)
  pub gm : IsSmall r.gm
  pub depth : (place k : ℕ) → Bounded (r.leaks.depth place k)

-- all that is asked of the rule of a criterion: it is right, leaves open what it is unsure of, and shows small ends
pub record IsRuleOf (Rule : Readings → Finding → Type 0) (C : Figures → Type 0) (n : ℕ) : Type 0 where
  pub sound : IsSound Rule C
  pub open_where_unsure : (r : Readings) (x : Finding) → Rule r x → OpenFinding n r x
  pub bounded : (r : Readings) → AreSmall r → (x : Finding) → Rule r x → BoundedFinding x
