-- The degree of downflooding, at a choice and by intervals, and what is shown of a leak.
use Rattle.std.specs.Prelude.{◌≡◌, ◌⊎◌, ℕ, ◌+◌, ◌<◌, ◌≤◌, pos, ◌≤ℤ◌, ◌<ℤ◌}
use Rattle.exact_algebra.proofs.Fraction.{nought, ◌≺◌}
use Rattle.intact_criteria.specs.declared.finding.Shown.{Shown}
use Rattle.intact_criteria.specs.declared.leaks.Test.{Test}
use Rattle.intact_criteria.specs.declared.leaks.Test.TheVariants.{Above, MayBeAbove, Unclear}
use Rattle.intact_criteria.specs.Figures.{Figures}
use Rattle.intact_criteria.specs.Degrees.{IsFirst}
use Rattle.intact_criteria.specs.Finding.{IsLeak}
use Rattle.intact_criteria.specs.Readings.{Ends, Leaks}

-- of some place of a list, by its length
pub record SomePlace (count : ℕ) (P : ℕ → Type 0) : Type 0 where
  pub place : ℕ
  pub within : place < count
  pub holds : P place

-- the first place of a list
pub record IsFirstPlace (count : ℕ) (P : ℕ → Type 0) (place : ℕ) : Type 0 where
  pub within : place < count
  pub holds : P place
  pub before : (i : ℕ) → i < place → ¬ P i

-- something is wet at 0, and the degree is 0
pub record IsWetAtOnce (wet : ℕ → Type 0) (K : ℕ) : Type 0 where
  pub nil : K ≡ 0
  pub floods : wet 0

-- nothing is wet at any degree 0 to K, up to 40, and something at the next one
pub record IsLastDry (wet : ℕ → Type 0) (K : ℕ) : Type 0 where
  pub most : K ≤ 40
  pub dry : (k : ℕ) → k ≤ K → ¬ wet k
  pub next : K < 40 → wet (K + 1)

-- K is the last degree up to 40 such that nothing is wet at any degree 0 to K, and 0 where something is wet at 0
abbrev pub IsDownflooding : (ℕ → Type 0) → ℕ → Type 0
IsDownflooding wet K = IsWetAtOnce wet K ⊎ IsLastDry wet K

-- at a choice: some opening is wet, its depth above 0
abbrev pub IsWetAt : Figures → ℕ → Type 0
IsWetAt f k = SomePlace f.openings (λ place. nought ≺ f.depth place k)

-- by intervals: a depth lies above 0; it may be above 0; it may be above 0 or not
abbrev pub Passes : Test → Ends → Type 0
Passes Above ends = pos 0 <ℤ ends.lo
Passes MayBeAbove ends = pos 0 <ℤ ends.hi
Passes Unclear ends = (ends.lo ≤ℤ pos 0) × (pos 0 <ℤ ends.hi)

-- the depth of some opening at a degree passes the test
abbrev pub SomePasses : Leaks → Test → ℕ → Type 0
SomePasses l test k = SomePlace l.openings (λ place. Passes test (l.depth place k))

-- most: the greatest degree that K may have
abbrev pub IsMost : Leaks → ℕ → Type 0
IsMost l most = IsDownflooding (SomePasses l Above) most

-- the degrees that K may have: the greatest; each below it before one at which a depth may be above 0; and 0, where one may at 0
abbrev pub IsCandidate : Leaks → (most k : ℕ) → Type 0
IsCandidate l most k = (k ≡ most) ⊎ (((k < most) × SomePasses l MayBeAbove (k + 1)) ⊎ ((k ≡ 0) × SomePasses l MayBeAbove 0))

-- the depth of the first opening that passes the test at a degree is shown
pub record ShowsFirst (l : Leaks) (test : Test) (degree : ℕ) (shown : Shown) : Type 0 where
  pub place : ℕ
  pub first : IsFirstPlace l.openings (λ i. Passes test (l.depth i degree)) place
  pub shows : IsLeak place degree (l.depth place degree) shown

-- the leak at most + 1, or at 0 where a depth lies above 0 there
pub record ShowsNextLeak (l : Leaks) (most : ℕ) (shown : Shown) : Type 0 where
  pub at_once : SomePasses l Above 0 → ShowsFirst l Above 0 shown
  pub later : ¬ SomePasses l Above 0 → ShowsFirst l Above (most + 1) shown

-- the first leak, by degrees from 0 to most and then by openings, that may be above 0 or not
pub record ShowsFirstLeak (l : Leaks) (most : ℕ) (shown : Shown) : Type 0 where
  pub degree : ℕ
  pub first : IsFirst 0 most (SomePasses l Unclear) degree
  pub shows : ShowsFirst l Unclear degree shown
