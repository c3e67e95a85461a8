-- What is shown of an undecided criterion is as narrow as what is read.
use Rattle.std.proofs.Common.{◌≡◌, refl, ℕ, zero, suc, ◌<◌, ◌≤◌, Bool, true, false, ◌==◌, if◌then◌else◌, ℤ, pos, ◌≤ℤ◌, ◌<ℤ◌, arith}
use Rattle.std.proofs.lemmas.Int.{ints}
use Rattle.exact_algebra.proofs.Fraction.{Fraction, ◌⊕◌}
use Rattle.outward_interval.specs.declared.span.Span.{Span}
use Rattle.outward_interval.specs.Widths.{IsNarrow}
use Rattle.outward_interval.proofs.Narrow.{narrow-difference}
use Rattle.intact_criteria.specs.declared.finding.Shown.{Shown}
use Rattle.intact_criteria.specs.declared.finding.Shown.TheVariants as shown
use Rattle.intact_criteria.specs.declared.finding.Side.{Side}
use Rattle.intact_criteria.specs.declared.finding.Verdict.{Verdict}
use Rattle.intact_criteria.specs.declared.finding.Verdict.TheVariants as verdict
use Rattle.intact_criteria.specs.AreaToFlooding.{area_between, difference}
use Rattle.intact_criteria.specs.Narrow.{Widths, IsNoWider, AreNarrow, width_of, IsNarrowShown, IsAsNarrowAsRead}
use Rattle.intact_criteria.specs.Open.{interval_of, limit_of, IsOpen, IsOpenIfUndecided}
use Rattle.intact_criteria.specs.Readings.{Ends, Readings, HasEnds, nothing}

shown_narrow : (w : Fraction) (ends : Ends) (span : Span 20) → HasEnds ends span → IsNoWider w ends → IsNarrow 20 w span.lo span.hi
shown_narrow w ends span has n = record { width = rw (has.low, has.high) n.width }

-- an interval on both sides of a limit isn't that of 0 alone
not_nothing : (limit lo hi : ℤ) → lo ≡ pos 0 → hi ≡ pos 0 → lo <ℤ limit → limit ≤ℤ hi → ⊥
not_nothing limit lo hi e f h k = omega (arith, ints)

pub difference_narrow : (w v : Fraction) (a b : Ends) → IsNoWider w a → IsNoWider v b → IsNoWider (w ⊕ v) (difference a b)
difference_narrow w v a b n m = narrow-difference {a = a.lo} {b = a.hi} {c = b.lo} {d = b.hi} (record { low = refl; high = refl }) n m

area_narrow : (separation : ℕ → Ends) (w v : Fraction) (limit : ℤ) (base k : ℕ) (span : Span 20) → HasEnds (area_between separation base k) span → span.lo <ℤ limit → limit ≤ℤ span.hi
    → IsNoWider w (separation k) → IsNoWider v (separation base) → IsNarrow 20 (w ⊕ v) span.lo span.hi
area_narrow separation w v limit base k span has below reaches n m = at (base == k) has
  where
    at : (b : Bool) → HasEnds (if b then nothing else difference (separation k) (separation base)) span → IsNarrow 20 (w ⊕ v) span.lo span.hi
    at true has = absurd (not_nothing limit span.lo span.hi has.low has.high below reaches)
    at false has = shown_narrow (w ⊕ v) (difference (separation k) (separation base)) span has (difference_narrow w v (separation k) (separation base) n m)

module _ (w : Widths) (r : Readings) (n : AreNarrow w r) where
  interval_narrow : (number k : ℕ) → k ≤ 90 → (span : Span 20) → HasEnds (interval_of number r k) span → span.lo <ℤ limit_of number → limit_of number ≤ℤ span.hi → IsNarrow 20 (width_of number w k) span.lo span.hi
  interval_narrow zero k few span has h j = absurd (not_nothing (pos 0) span.lo span.hi has.low has.high h j)
  interval_narrow (suc zero) k few span has h j = area_narrow r.separation _ _ _ 0 k span has h j (n.separation k few) (n.separation 0 (omega arith))
  interval_narrow (suc (suc zero)) k few span has h j = area_narrow r.separation _ _ _ 0 k span has h j (n.separation k few) (n.separation 0 (omega arith))
  interval_narrow (suc (suc (suc zero))) k few span has h j = area_narrow r.separation _ _ _ 30 k span has h j (n.separation k few) (n.separation 30 (omega arith))
  interval_narrow (suc (suc (suc (suc zero)))) k few span has h j = shown_narrow (w.gz k) (r.gz k) span has (n.gz k few)
  interval_narrow (suc (suc (suc (suc (suc zero))))) k few span has h j = shown_narrow (w.gz k) (r.gz k) span has (n.gz k few)
  interval_narrow (suc (suc (suc (suc (suc (suc number)))))) k few span has h j = shown_narrow w.gm r.gm span has n.gm

  open_narrow : (number : ℕ) (s : Shown) → IsOpen number r s → IsNarrowShown number w r s
  open_narrow number (shown.Interval degree span) is = interval_narrow number degree is.within span is.ends is.below is.reaches
  open_narrow number (shown.Pair low high) is = (n.gz low (early low is.before), n.gz high is.last)
    where
      early : (k : ℕ) → k < 25 → k ≤ 90
      early k h = omega arith
  open_narrow number (shown.Leak opening degree span) is = record {
    place = is.place;
    number = is.number;
    narrow = shown_narrow (w.depth is.place degree) (r.leaks.depth is.place degree) span is.ends (n.depth is.place degree is.within);
  }

pub open_is_narrow : (r : Side → Readings) (v : Verdict) → IsOpenIfUndecided r v → IsAsNarrowAsRead r v
open_is_narrow r verdict.Pass open_so w n = tt
open_is_narrow r (verdict.Fail number side s) open_so w n = tt
open_is_narrow r (verdict.Undecided number side s) open_so w n = open_narrow (w side) (r side) (n side) number s open_so
