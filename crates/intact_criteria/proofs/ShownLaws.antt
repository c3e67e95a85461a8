-- What is shown of an interval, of two levers and of a leak: how large it is, and that it leaves the criterion open.
use Rattle.intact_criteria.specs.Finding.{IsInterval, IsPair, IsLeak}
use Rattle.intact_criteria.specs.Readings.{Ends, Readings, HasEnds}
use Rattle.intact_criteria.specs.Open.{IsOpen, interval_of, limit_of}
use Rattle.intact_criteria.specs.Bounds.{IsBounded}
use Rattle.intact_criteria.specs.declared.finding.Shown.{Shown}
use Rattle.std.proofs.Common.{◌≡◌, inl, inr, ℕ, pos, ◌<ℤ◌, arith, ℤ, ◌≤ℤ◌, sym, subst, ◌≤◌}
use Rattle.std.proofs.lemmas.Int.{ints}
use Rattle.intact_criteria.specs.declared.finding.Shown.TheVariants as shown
use Rattle.intact_criteria.proofs.ReadRows.{ends_below}
use Rattle.intact_criteria.proofs.Soundness.{Bounded}
use Rattle.intact_criteria.proofs.FoundLaws.{≤ℤ_or_<ℤ}

-- ---- sizes
pub interval_bounded : (degree : ℕ) (ends : Ends) → Bounded ends → (s : Shown) → IsInterval degree ends s → IsBounded s
interval_bounded degree ends b (shown.Interval d span) is = ends_below 96 ends span is.1 b
interval_bounded degree ends b (shown.Pair i j) is = absurd is
interval_bounded degree ends b (shown.Leak o d span) is = absurd is

pub pair_bounded : (low high : ℕ) (s : Shown) → IsPair low high s → IsBounded s
pair_bounded low high (shown.Interval d span) is = absurd is
pair_bounded low high (shown.Pair i j) is = tt
pair_bounded low high (shown.Leak o d span) is = absurd is

pub leak_bounded : (place degree : ℕ) (ends : Ends) → Bounded ends → (s : Shown) → IsLeak place degree ends s → IsBounded s
leak_bounded place degree ends b (shown.Interval d span) is = absurd is
leak_bounded place degree ends b (shown.Pair i j) is = absurd is
leak_bounded place degree ends b (shown.Leak o d span) is = ends_below 96 ends span is.2 b

-- ---- orders
pub not_at_most : (a b : ℤ) → (a ≤ℤ b → ⊥) → b <ℤ a
not_at_most a b n = elim (≤ℤ_or_<ℤ a b) [ inl h ↦ absurd (n h) | inr s ↦ s ]

pub not_below : (a b : ℤ) → (a <ℤ b → ⊥) → b ≤ℤ a
not_below a b n = elim (≤ℤ_or_<ℤ b a) [ inl h ↦ h | inr s ↦ absurd (n s) ]

same_below : (a b c : ℤ) → a ≡ b → b <ℤ c → a <ℤ c
same_below a b c e h = omega (arith, ints)

below_same : (a b c : ℤ) → a ≡ b → c <ℤ b → c <ℤ a
below_same a b c e h = omega (arith, ints)

at_most_same : (a b c : ℤ) → a ≡ b → c ≤ℤ b → c ≤ℤ a
at_most_same a b c e h = omega (arith, ints)

same_at_most : (a b c : ℤ) → a ≡ b → b ≤ℤ c → a ≤ℤ c
same_at_most a b c e h = omega (arith, ints)

pub trans : (a b c : ℤ) → a ≤ℤ b → b <ℤ c → a <ℤ c
trans a b c h k = omega (arith, ints)

pub weak : (a b : ℤ) → a <ℤ b → a ≤ℤ b
weak a b h = omega (arith, ints)

-- ---- what leaves a criterion open
module _ (n : ℕ) (r : Readings) where
  pub open_interval : (degree : ℕ) (ends : Ends) → degree ≤ 90 → interval_of n r degree ≡ ends → ends.lo <ℤ limit_of n → limit_of n ≤ℤ ends.hi → (s : Shown) → IsInterval degree ends s → IsOpen n r s
  open_interval degree ends w e h k (shown.Interval d span) is = record {
    within = subst (λ (i : ℕ). i ≤ 90) (sym is.0) w;
    ends = subst (λ (i : ℕ). HasEnds (interval_of n r i) span) (sym is.0) (subst (λ (x : Ends). HasEnds x span) (sym e) is.1);
    below = same_below span.lo ends.lo (limit_of n) is.1.low h;
    reaches = at_most_same span.hi ends.hi (limit_of n) is.1.high k;
  }
  open_interval degree ends w e h k (shown.Pair i j) is = absurd is
  open_interval degree ends w e h k (shown.Leak o d span) is = absurd is

  pub open_leak : (place degree : ℕ) → degree ≤ 90 → (r.leaks.depth place degree).lo ≤ℤ pos 0 → pos 0 <ℤ (r.leaks.depth place degree).hi → (s : Shown) → IsLeak place degree (r.leaks.depth place degree) s → IsOpen n r s
  open_leak place degree w h k (shown.Interval d span) is = absurd is
  open_leak place degree w h k (shown.Pair i j) is = absurd is
  open_leak place degree w h k (shown.Leak o d span) is = record {
    place = place;
    number = is.0;
    within = subst (λ (i : ℕ). i ≤ 90) (sym is.1) w;
    ends = subst (λ (i : ℕ). HasEnds (r.leaks.depth place i) span) (sym is.1) is.2;
    below = same_at_most span.lo (r.leaks.depth place degree).lo (pos 0) is.2.low h;
    above = below_same span.hi (r.leaks.depth place degree).hi (pos 0) is.2.high k;
  }
