-- An interval against a limit.
use Rattle.std.specs.Prelude.{ℕ, ◌*◌, ◌^◌, ℤ, pos, ◌≤ℤ◌, ◌<ℤ◌}
use Rattle.exact_algebra.proofs.Fraction.{Fraction}
use Rattle.exact_algebra.proofs.Span.{ContainsFraction}
use Rattle.intact_criteria.specs.declared.finding.Finding.{Finding}
use Rattle.intact_criteria.specs.Readings.{Ends}
use Rattle.intact_criteria.specs.Finding.{Follows, IsInterval}

-- so many mm or mm·rad in units of 2^-20
abbrev pub in_units : ℕ → ℤ
in_units n = pos (n * 2 ^ 20)

-- the interval contains the fraction
abbrev pub Contains : Ends → Fraction → Type 0
Contains ends x = ContainsFraction 20 ends.lo ends.hi x

-- all of the interval reaches the limit, none of it does, or it contains the limit with its lower end below it
abbrev pub Reaches : ℤ → Ends → Type 0
Reaches limit ends = limit ≤ℤ ends.lo

abbrev pub StaysBelow : ℤ → Ends → Type 0
StaysBelow limit ends = ends.hi <ℤ limit

pub record Straddles (limit : ℤ) (ends : Ends) : Type 0 where
  pub below : ends.lo <ℤ limit
  pub reaches : limit ≤ℤ ends.hi

-- the rule of a criterion that asks that one figure reaches a limit: that interval is shown, at a degree
abbrev pub IsFoundAgainst : (limit : ℤ) (degree : ℕ) → Ends → Finding → Type 0
IsFoundAgainst limit degree ends = Follows (Reaches limit ends) (StaysBelow limit ends) (IsInterval degree ends) (IsInterval degree ends)
