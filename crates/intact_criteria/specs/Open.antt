-- What is shown of an undecided criterion leaves it open.
use Rattle.std.specs.Prelude.{◌≡◌, ⊤, ℕ, zero, suc, ◌+◌, ◌<◌, ◌≤◌, ℤ, pos, ◌≤ℤ◌, ◌<ℤ◌}
use Rattle.outward_interval.specs.declared.span.Span.{Span}
use Rattle.intact_criteria.specs.AreaToFlooding.{area_between}
use Rattle.intact_criteria.specs.declared.finding.Shown.{Shown}
use Rattle.intact_criteria.specs.declared.finding.Shown.TheVariants as shown
use Rattle.intact_criteria.specs.declared.finding.Side.{Side}
use Rattle.intact_criteria.specs.declared.finding.Verdict.{Verdict}
use Rattle.intact_criteria.specs.declared.finding.Verdict.TheVariants as verdict
use Rattle.intact_criteria.specs.Limit.{in_units}
use Rattle.intact_criteria.specs.Readings.{Ends, Readings, HasEnds, nothing}

-- the limit of the criterion of a number; C5 has none
abbrev pub limit_of : ℕ → ℤ
limit_of zero = pos 0
limit_of (suc zero) = in_units 55
limit_of (suc (suc zero)) = in_units 90
limit_of (suc (suc (suc zero))) = in_units 30
limit_of (suc (suc (suc (suc zero)))) = in_units 200
limit_of (suc (suc (suc (suc (suc zero))))) = pos 0
limit_of (suc (suc (suc (suc (suc (suc n)))))) = in_units 150

-- two intervals have a number in common
pub record Overlap (a b : Ends) : Type 0 where
  pub first : a.lo ≤ℤ b.hi
  pub second : b.lo ≤ℤ a.hi

-- the interval that the rule of a criterion reads at a degree
abbrev pub interval_of : ℕ → Readings → ℕ → Ends
interval_of zero r k = nothing
interval_of (suc zero) r k = area_between r.separation 0 k
interval_of (suc (suc zero)) r k = area_between r.separation 0 k
interval_of (suc (suc (suc zero))) r k = area_between r.separation 30 k
interval_of (suc (suc (suc (suc zero)))) r k = r.gz k
interval_of (suc (suc (suc (suc (suc zero))))) r k = r.gz k
interval_of (suc (suc (suc (suc (suc (suc n)))))) r k = r.gm

-- the criterion's interval at a degree contains the limit
pub record IsOpenInterval (n : ℕ) (r : Readings) (degree : ℕ) (span : Span 20) : Type 0 where
  pub within : degree ≤ 90
  pub ends : HasEnds (interval_of n r degree) span
  pub below : span.lo <ℤ limit_of n
  pub reaches : limit_of n ≤ℤ span.hi

-- the levers at two degrees on both sides of 25 overlap
pub record IsOpenPair (r : Readings) (low high : ℕ) : Type 0 where
  pub before : low < 25
  pub after : 25 ≤ high
  pub last : high ≤ 90
  pub overlap : Overlap (r.gz low) (r.gz high)

-- the depth of an opening at a degree may be above 0 or not
pub record IsOpenLeak (r : Readings) (opening degree : ℕ) (span : Span 20) : Type 0 where
  pub place : ℕ
  pub number : opening ≡ place + 1
  pub within : degree ≤ 90
  pub ends : HasEnds (r.leaks.depth place degree) span
  pub below : span.lo ≤ℤ pos 0
  pub above : pos 0 <ℤ span.hi

-- what is shown of the criterion of a number leaves it open
abbrev pub IsOpen : ℕ → Readings → Shown → Type 0
IsOpen n r (shown.Interval degree span) = IsOpenInterval n r degree span
IsOpen n r (shown.Pair low high) = IsOpenPair r low high
IsOpen n r (shown.Leak opening degree span) = IsOpenLeak r opening degree span

-- an undecided criterion is open on the side that is named
abbrev pub IsOpenIfUndecided : (Side → Readings) → Verdict → Type 0
IsOpenIfUndecided r verdict.Pass = ⊤
IsOpenIfUndecided r (verdict.Fail n side shown) = ⊤
IsOpenIfUndecided r (verdict.Undecided n side shown) = IsOpen n (r side) shown
