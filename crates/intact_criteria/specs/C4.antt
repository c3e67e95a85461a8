-- C4, paragraph 2.2.2: the righting lever GZ is at least 0.2 m at an angle of heel of 30 degrees or more, of the whole degrees up to 90.
use Rattle.std.specs.Prelude.{ℕ, pos, ◌≤ℤ◌}
use Rattle.exact_algebra.proofs.Fraction.{◌≼◌}
use Rattle.exact_algebra.proofs.Whole.{whole}
use Rattle.intact_criteria.specs.declared.finding.Finding.{Finding}
use Rattle.intact_criteria.specs.declared.finding.Shown.{Shown}
use Rattle.intact_criteria.specs.Figures.{Figures}
use Rattle.intact_criteria.specs.Degrees.{SomeFrom, EachFrom, IsFirst, IsFirstGreatest}
use Rattle.intact_criteria.specs.Finding.{Follows, IsInterval}
use Rattle.intact_criteria.specs.Limit.{in_units, Reaches, StaysBelow}
use Rattle.intact_criteria.specs.Readings.{Ends}

-- at a choice, on a side; lengths in mm
abbrev pub HoldsAt : Figures → Type 0
HoldsAt f = SomeFrom 30 90 (λ k. whole (pos 200) ≼ f.gz k)

-- failing: the first degree with the greatest upper end
pub record ShowsGreatest (gz : ℕ → Ends) (shown : Shown) : Type 0 where
  pub degree : ℕ
  pub greatest : IsFirstGreatest 30 90 (λ k. (gz k).hi) degree
  pub shows : IsInterval degree (gz degree) shown

-- unsure: the first degree whose upper end reaches the limit
pub record ShowsReaching (gz : ℕ → Ends) (shown : Shown) : Type 0 where
  pub degree : ℕ
  pub reaching : IsFirst 30 90 (λ k. in_units 200 ≤ℤ (gz k).hi) degree
  pub shows : IsInterval degree (gz degree) shown

-- holds where some lower end reaches the limit, fails where no upper end does
abbrev pub IsFound : (ℕ → Ends) → Finding → Type 0
IsFound gz = Follows (SomeFrom 30 90 (λ k. Reaches (in_units 200) (gz k))) (EachFrom 30 90 (λ k. StaysBelow (in_units 200) (gz k))) (ShowsGreatest gz) (ShowsReaching gz)
