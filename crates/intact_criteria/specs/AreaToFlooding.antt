-- The rule for an area up to the degree of downflooding.
use Rattle.std.specs.Prelude.{◌⊎◌, ◌==◌, if◌then◌else◌, ℕ, ◌<◌, ◌≤◌, ℤ, ◌-ℤ◌}
use Rattle.intact_criteria.specs.declared.finding.Finding.{Finding}
use Rattle.intact_criteria.specs.declared.finding.Mark.{Mark}
use Rattle.intact_criteria.specs.declared.finding.Mark.TheVariants.{Holds, Fails, Unsure}
use Rattle.intact_criteria.specs.declared.finding.Shown.{Shown}
use Rattle.intact_criteria.specs.Downflooding.{IsMost, IsCandidate, ShowsNextLeak, ShowsFirstLeak}
use Rattle.intact_criteria.specs.Finding.{Follows, IsInterval}
use Rattle.intact_criteria.specs.Limit.{Reaches, StaysBelow, Straddles}
use Rattle.intact_criteria.specs.Readings.{Ends, Leaks, nothing}

-- the exact difference of two intervals
abbrev pub difference : Ends → Ends → Ends
difference a b = record { lo = a.lo -ℤ b.hi; hi = a.hi -ℤ b.lo }

-- the area under GZ from one degree to another, which from a degree to itself is 0
abbrev pub area_between : (ℕ → Ends) → (from to : ℕ) → Ends
area_between separation from to = (if from == to then nothing else difference (separation to) (separation from))

-- Where K has a value, the area from `base` to it holds against the limit, fails, or is unsure. It fails below `base`.
abbrev pub IsMarked : (separation : ℕ → Ends) (base : ℕ) (limit : ℤ) → Mark → ℕ → Type 0
IsMarked separation base limit Holds k = (base ≤ k) × Reaches limit (area_between separation base k)
IsMarked separation base limit Fails k = (k < base) ⊎ ((base ≤ k) × StaysBelow limit (area_between separation base k))
IsMarked separation base limit Unsure k = (base ≤ k) × Straddles limit (area_between separation base k)

abbrev pub EachCandidate : Leaks → (separation : ℕ → Ends) (most base : ℕ) (limit : ℤ) → Mark → Type 0
EachCandidate l separation most base limit mark = (k : ℕ) → IsCandidate l most k → IsMarked separation base limit mark k

-- the first candidate that is so marked
pub record IsFirstMarked (l : Leaks) (separation : ℕ → Ends) (most base : ℕ) (limit : ℤ) (mark : Mark) (k : ℕ) : Type 0 where
  pub candidate : IsCandidate l most k
  pub marked : IsMarked separation base limit mark k
  pub before : (j : ℕ) → j < k → IsCandidate l most j → ¬ IsMarked separation base limit mark j

-- failing: the interval at the greatest candidate, or the next leak where that is below `base`
pub record ShowsFailing (l : Leaks) (separation : ℕ → Ends) (most base : ℕ) (shown : Shown) : Type 0 where
  pub reached : base ≤ most → IsInterval most (area_between separation base most) shown
  pub flooded : most < base → ShowsNextLeak l most shown

-- unsure: the interval at the first candidate that is unsure, or the first leak where there is none
pub record ShowsCandidate (l : Leaks) (separation : ℕ → Ends) (most base : ℕ) (limit : ℤ) (shown : Shown) : Type 0 where
  pub degree : ℕ
  pub first : IsFirstMarked l separation most base limit Unsure degree
  pub shows : IsInterval degree (area_between separation base degree) shown

pub record ShowsLeak (l : Leaks) (separation : ℕ → Ends) (most base : ℕ) (limit : ℤ) (shown : Shown) : Type 0 where
  pub none : (k : ℕ) → IsCandidate l most k → ¬ IsMarked separation base limit Unsure k
  pub shows : ShowsFirstLeak l most shown

-- holds where each candidate does, fails where each does
pub record IsFound (l : Leaks) (separation : ℕ → Ends) (base : ℕ) (limit : ℤ) (finding : Finding) : Type 0 where
  pub most : ℕ
  pub is_most : IsMost l most
  pub follows : Follows (EachCandidate l separation most base limit Holds) (EachCandidate l separation most base limit Fails) (ShowsFailing l separation most base) (λ shown. ShowsCandidate l separation most base limit shown ⊎ ShowsLeak l separation most base limit shown) finding
