-- What C5's rule finds, by where the ends of GZ are greatest.
use Rattle.std.proofs.Common.{refl, ℕ, ℤ, ◌≤ℤ◌, ◌<ℤ◌, arith}
use Rattle.std.proofs.lemmas.Int.{ints}
use Rattle.intact_criteria.specs.declared.finding.Finding.TheVariants as finding
use Rattle.intact_criteria.specs.declared.finding.Shown.TheVariants as shown
use Rattle.intact_criteria.specs.C5.{IsFound}
use Rattle.intact_criteria.specs.Degrees.{IsFirstGreatest}
use Rattle.intact_criteria.specs.Readings.{Ends}

at_most_below : (a b c : ℤ) → a ≤ℤ b → b <ℤ c → a <ℤ c
at_most_below a b c h k = omega (arith, ints)

at_most_trans : (a b c : ℤ) → a ≤ℤ b → b ≤ℤ c → a ≤ℤ c
at_most_trans a b c h k = omega (arith, ints)

below_at_most : (a b c : ℤ) → a <ℤ b → b ≤ℤ c → a <ℤ c
below_at_most a b c h k = omega (arith, ints)

pub found_to_fail : (gz : ℕ → Ends) (low high : ℕ) → IsFirstGreatest 0 24 (λ k. (gz k).lo) low → IsFirstGreatest 25 90 (λ k. (gz k).hi) high → (gz high).hi <ℤ (gz low).lo
    → IsFound gz (finding.Fails (shown.Pair low high))
found_to_fail gz low high before after h = (
  record { degree = low; above = before.above; below = before.below; holds = λ j from to. at_most_below (gz j).hi (gz high).hi (gz low).lo (after.greatest j from to) h },
  record { low = low; high = high; before = before; after = after; shows = (refl, refl) },
)

pub found_unsure : (gz : ℕ → Ends) (lower_before upper_before lower_after upper_after : ℕ)
    → IsFirstGreatest 0 24 (λ k. (gz k).lo) lower_before → IsFirstGreatest 0 24 (λ k. (gz k).hi) upper_before
    → IsFirstGreatest 25 90 (λ k. (gz k).lo) lower_after → IsFirstGreatest 25 90 (λ k. (gz k).hi) upper_after
    → ¬ ((gz upper_before).hi ≤ℤ (gz lower_after).lo) → ¬ ((gz upper_after).hi <ℤ (gz lower_before).lo)
    → IsFound gz (finding.Unsure (shown.Pair upper_before upper_after))
found_unsure gz lb ub la ua at_lb at_ub at_la at_ua apart above = (
  λ s. apart (at_most_trans (gz ub).hi (gz s.degree).lo (gz la).lo (s.holds ub at_ub.above at_ub.below) (at_la.greatest s.degree s.above s.below)),
  λ s. above (below_at_most (gz ua).hi (gz s.degree).lo (gz lb).lo (s.holds ua at_ua.above at_ua.below) (at_lb.greatest s.degree s.above s.below)),
  record { low = ub; high = ua; before = at_ub; after = at_ua; shows = (refl, refl) },
)
