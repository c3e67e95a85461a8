-- The rule for one figure against a limit: what it shows.
use Rattle.intact_criteria.specs.Limit.{IsFoundAgainst}
use Rattle.intact_criteria.specs.Readings.{Ends, Readings}
use Rattle.intact_criteria.specs.Open.{interval_of, limit_of}
use Rattle.intact_criteria.specs.declared.finding.Finding.{Finding}
use Rattle.std.proofs.Common.{◌≡◌, ℕ, ℤ, ◌≤◌}
use Rattle.intact_criteria.specs.declared.finding.Finding.TheVariants as finding
use Rattle.intact_criteria.proofs.Soundness.{OpenFinding, BoundedFinding, Bounded}
use Rattle.intact_criteria.proofs.ShownLaws.{interval_bounded, open_interval, not_at_most, not_below}

-- ---- the rule for one figure against a limit
pub against_open : (n : ℕ) (r : Readings) (degree : ℕ) (ends : Ends) → degree ≤ 90 → interval_of n r degree ≡ ends → (x : Finding) → IsFoundAgainst (limit_of n) degree ends x → OpenFinding n r x
against_open n r degree ends w e finding.Holds found = tt
against_open n r degree ends w e (finding.Fails s) found = tt
against_open n r degree ends w e (finding.Unsure s) found = open_interval n r degree ends w e (not_at_most (limit_of n) ends.lo found.0) (not_below ends.hi (limit_of n) found.1) s found.2

pub against_bounded : (limit : ℤ) (degree : ℕ) (ends : Ends) → Bounded ends → (x : Finding) → IsFoundAgainst limit degree ends x → BoundedFinding x
against_bounded limit degree ends b finding.Holds h = tt
against_bounded limit degree ends b (finding.Fails s) h = interval_bounded degree ends b s h.1
against_bounded limit degree ends b (finding.Unsure s) h = interval_bounded degree ends b s h.2
