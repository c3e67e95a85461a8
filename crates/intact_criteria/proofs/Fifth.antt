-- C5: its rule is right, and what it shows.
use Rattle.exact_algebra.proofs.Fraction.{fractions}
use Rattle.intact_criteria.specs.Figures.{Figures}
use Rattle.intact_criteria.specs.Degrees.{SomeFrom, EachFrom}
use Rattle.intact_criteria.specs.Finding.{IsPair}
use Rattle.intact_criteria.specs.Readings.{Ends, Readings}
use Rattle.intact_criteria.specs.Open.{Overlap, IsOpen, IsOpenPair}
use Rattle.intact_criteria.specs.declared.finding.Finding.{Finding}
use Rattle.intact_criteria.specs.declared.finding.Shown.{Shown}
use Rattle.std.proofs.Common.{◌≡◌, inl, inr, ℕ, suc, ◌+◌, ◌<◌, ◌≤◌, ◌<ℤ◌, arith}
use Rattle.exact_algebra.proofs.Order as Order
use Rattle.intact_criteria.specs.C5 as C5
use Rattle.intact_criteria.specs.declared.finding.Finding.TheVariants as finding
use Rattle.intact_criteria.specs.declared.finding.Shown.TheVariants as shown
use Rattle.intact_criteria.proofs.Soundness.{IsSound, IsRuleOf, OpenFinding, BoundedFinding}
use Rattle.intact_criteria.proofs.ShownLaws.{pair_bounded, not_below, trans, weak}
use Rattle.intact_criteria.proofs.AgainstLimit.{contained_order, separated}
use Rattle.intact_criteria.proofs.Decisions.{lt_or_le, GreatestAt, greatest_exists}
use Rattle.intact_criteria.proofs.Enclosure.{Encloses}

pub fifth_sound : IsSound (λ r. C5.IsFound r.gz) C5.HoldsAt
fifth_sound = record {
  holds = λ r f e h. at r f e h (greatest_exists 25 65 f.gz);
  fails = λ r f e shown h c. above_all r f e h.0 c;
}
  where
    at : (r : Readings) (f : Figures) → Encloses r f → C5.IsFound r.gz finding.Holds → GreatestAt 25 65 f.gz → C5.HoldsAt f
    at r f e h g = record {
      degree = g.place;
      above = g.above;
      below = within g.place g.below;
      holds = λ j from to. elim (lt_or_le j 25) [
        | inl less ↦ Order.≼_trans fractions (contained_order (r.gz j) (r.gz h.degree) (f.gz j) (f.gz h.degree) (e.gz j to) (e.gz h.degree h.below) (h.holds j from (before j less)))
            (g.greatest h.degree h.above (back h.degree h.below))
        | inr more ↦ g.greatest j more (back j to)
      ];
    }
      where
        within : (k : ℕ) → k < 25 + suc 65 → k ≤ 90
        within k h = omega arith

        back : (k : ℕ) → k ≤ 90 → k < 25 + suc 65
        back k h = omega arith

        before : (k : ℕ) → k < 25 → k ≤ 24
        before k h = omega arith

    above_all : (r : Readings) (f : Figures) → Encloses r f → SomeFrom 0 24 (λ k. EachFrom 25 90 (λ j. (r.gz j).hi <ℤ (r.gz k).lo)) → C5.HoldsAt f → ⊥
    above_all r f e s c = separated (r.gz c.degree) (r.gz s.degree) (f.gz c.degree) (f.gz s.degree) (e.gz c.degree c.below) (e.gz s.degree (up s.degree s.below)) (s.holds c.degree c.above c.below)
        (c.holds s.degree (omega arith) (up s.degree s.below))
      where
        up : (k : ℕ) → k ≤ 24 → k ≤ 90
        up k h = omega arith

fifth_unsure : (r : Readings) (s : Shown) → C5.IsFound r.gz (finding.Unsure s) → IsOpen 5 r s
fifth_unsure r s found = at s found.2.shows
  where
    overlap : Overlap (r.gz found.2.low) (r.gz found.2.high)
    overlap = record {
      first = not_below (r.gz found.2.high).hi (r.gz found.2.low).lo (λ h. found.1 (record {
        degree = found.2.low;
        above = found.2.before.above;
        below = found.2.before.below;
        holds = λ j from to. trans (r.gz j).hi (r.gz found.2.high).hi (r.gz found.2.low).lo (found.2.after.greatest j from to) h;
      }));
      second = not_below (r.gz found.2.low).hi (r.gz found.2.high).lo (λ h. found.0 (record {
        degree = found.2.high;
        above = found.2.after.above;
        below = found.2.after.below;
        holds = λ j from to. weak (r.gz j).hi (r.gz found.2.high).lo (trans (r.gz j).hi (r.gz found.2.low).hi (r.gz found.2.high).lo (found.2.before.greatest j from to) h);
      }));
    }

    late : (k : ℕ) → k ≤ 24 → k < 25
    late k h = omega arith

    both : (i j : ℕ) → i ≡ found.2.low → j ≡ found.2.high → IsOpenPair r i j
    both i j e f = rw (e, f) (record { before = late found.2.low found.2.before.below; after = found.2.after.above; last = found.2.after.below; overlap = overlap })

    at : (s : Shown) → IsPair found.2.low found.2.high s → IsOpen 5 r s
    at (shown.Interval d span) is = absurd is
    at (shown.Pair i j) is = both i j is.0 is.1
    at (shown.Leak o d span) is = absurd is

fifth_open : (r : Readings) (x : Finding) → C5.IsFound r.gz x → OpenFinding 5 r x
fifth_open r finding.Holds found = tt
fifth_open r (finding.Fails s) found = tt
fifth_open r (finding.Unsure s) found = fifth_unsure r s found

fifth_bounded : (gz : ℕ → Ends) → (x : Finding) → C5.IsFound gz x → BoundedFinding x
fifth_bounded gz finding.Holds h = tt
fifth_bounded gz (finding.Fails s) h = pair_bounded h.1.low h.1.high s h.1.shows
fifth_bounded gz (finding.Unsure s) h = pair_bounded h.2.low h.2.high s h.2.shows

pub fifth_rule : IsRuleOf (λ r. C5.IsFound r.gz) C5.HoldsAt 5
fifth_rule = record {
  sound = fifth_sound;
  open_where_unsure = λ r x h. fifth_open r x h;
  bounded = λ r small x h. fifth_bounded r.gz x h;
}
