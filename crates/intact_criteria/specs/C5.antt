-- C5, paragraph 2.2.3: the maximum righting lever, of the whole degrees from 0 to 90, occurs at an angle of heel not less than 25 degrees.
use Rattle.std.specs.Prelude.{ℕ, ◌≤ℤ◌, ◌<ℤ◌}
use Rattle.exact_algebra.proofs.Fraction.{◌≼◌}
use Rattle.intact_criteria.specs.declared.finding.Finding.{Finding}
use Rattle.intact_criteria.specs.declared.finding.Shown.{Shown}
use Rattle.intact_criteria.specs.Figures.{Figures}
use Rattle.intact_criteria.specs.Degrees.{SomeFrom, EachFrom, IsFirstGreatest}
use Rattle.intact_criteria.specs.Finding.{Follows, IsPair}
use Rattle.intact_criteria.specs.Readings.{Ends}

-- at a choice, on a side; lengths in mm
abbrev pub HoldsAt : Figures → Type 0
HoldsAt f = SomeFrom 25 90 (λ k. EachFrom 0 90 (λ j. f.gz j ≼ f.gz k))

-- failing: the first degrees of the greatest lower end before 25 and of the greatest upper end from 25 on
pub record ShowsFailing (gz : ℕ → Ends) (shown : Shown) : Type 0 where
  pub low : ℕ
  pub high : ℕ
  pub before : IsFirstGreatest 0 24 (λ k. (gz k).lo) low
  pub after : IsFirstGreatest 25 90 (λ k. (gz k).hi) high
  pub shows : IsPair low high shown

-- unsure: the first degrees of the greatest upper ends on both sides of 25
pub record ShowsUnsure (gz : ℕ → Ends) (shown : Shown) : Type 0 where
  pub low : ℕ
  pub high : ℕ
  pub before : IsFirstGreatest 0 24 (λ k. (gz k).hi) low
  pub after : IsFirstGreatest 25 90 (λ k. (gz k).hi) high
  pub shows : IsPair low high shown

-- holds where a lower end from 25 on is at least each upper end before 25, fails where a lower end before 25 is above each
-- upper end from 25 on
abbrev pub IsFound : (ℕ → Ends) → Finding → Type 0
IsFound gz = Follows (SomeFrom 25 90 (λ k. EachFrom 0 24 (λ j. (gz j).hi ≤ℤ (gz k).lo))) (SomeFrom 0 24 (λ k. EachFrom 25 90 (λ j. (gz j).hi <ℤ (gz k).lo))) (ShowsFailing gz) (ShowsUnsure gz)
