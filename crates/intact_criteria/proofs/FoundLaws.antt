-- What the marks of the candidates say of the finding for an area up to the degree of downflooding.
use Rattle.std.proofs.Common.{subst, ◌⊎◌, inl, inr, ℕ, ◌<◌, ◌≤◌, Bool, true, false, ◌==◌, if◌then◌else◌, ℤ, ◌-ℤ◌, ◌≤ℤ◌, ◌<ℤ◌, Option, Some, None, slice_get, arith}
use Rattle.std.specs.Prelude.{option_and_then}
use Rattle.std.proofs.lemmas.Int.{ints}
use Rattle.exact_algebra.proofs.Fraction.{fractions}
use Rattle.exact_algebra.proofs.Order as Order
use Rattle.exact_algebra.proofs.Whole.{whole, whole-≼_out, whole-≺_out}
use Rattle.outward_interval.specs.declared.span.Span.{Span}
use Rattle.intact_criteria.specs.declared.finding.Finding.TheVariants as finding
use Rattle.intact_criteria.specs.declared.finding.Mark.{Mark}
use Rattle.intact_criteria.specs.declared.finding.Mark.TheVariants.{Holds, Fails, Unsure}
use Rattle.intact_criteria.specs.declared.finding.Shown.{Shown}
use Rattle.intact_criteria.specs.declared.finding.Side.{Side}
use Rattle.intact_criteria.specs.declared.leaks.Test.TheVariants.{Unclear}
use Rattle.dynamic_lever.specs.declared.rows.Arm.{Arm}
use Rattle.dynamic_lever.specs.declared.rows.ArmTable.{ArmTable}
use Rattle.intact_criteria.specs.AreaToFlooding.{area_between, difference, IsMarked, IsFirstMarked, ShowsFailing, IsFound}
use Rattle.intact_criteria.specs.Degrees.{SomeFrom}
use Rattle.intact_criteria.specs.Downflooding.{IsMost, IsCandidate, SomePasses, ShowsFirstLeak}
use Rattle.intact_criteria.specs.Finding.{IsInterval}
use Rattle.intact_criteria.specs.Limit.{Reaches, StaysBelow}
use Rattle.intact_criteria.specs.Readings.{Ends, Leaks, nothing, ends_if_there, on_side, gz_at, separation_at}
use Rattle.intact_criteria.proofs.Decisions.{lt_or_le}
use Rattle.intact_criteria.proofs.DownfloodingLaws.{leak_between}

pub ≤ℤ_or_<ℤ : (a b : ℤ) → (a ≤ℤ b) ⊎ (b <ℤ a)
≤ℤ_or_<ℤ a b = elim (Order.≼_or_≺ fractions (whole a) (whole b)) [ inl h ↦ inl (whole-≼_out a b h) | inr s ↦ inr (whole-≺_out b a s) ]

pub never_both : (a b : ℤ) → a ≤ℤ b → b <ℤ a → ⊥
never_both a b h k = omega (arith, ints)

-- ---- intervals are in order
abbrev pub IsOrdered : Ends → Type 0
IsOrdered ends = ends.lo ≤ℤ ends.hi

ordered_if_there : (span : Option (Span 20)) → IsOrdered (ends_if_there span)
ordered_if_there None = omega (arith, ints)
ordered_if_there (Some span) = span.ordered

pub separation_ordered : (arms : ArmTable) (side : Side) (k : ℕ) → IsOrdered (separation_at arms side k)
unfolding separation_at
separation_ordered arms side k = ordered_if_there (option_and_then (λ (arm : Arm). on_side side arm.sep) (slice_get arms.rows k))

pub gz_ordered : (arms : ArmTable) (side : Side) (k : ℕ) → IsOrdered (gz_at arms side k)
unfolding gz_at
gz_ordered arms side k = ordered_if_there (option_and_then (λ (arm : Arm). on_side side arm.gz) (slice_get arms.rows k))

difference_ordered : (a b : Ends) → IsOrdered a → IsOrdered b → IsOrdered (difference a b)
difference_ordered a b h k = go a.lo a.hi b.lo b.hi h k
  where
    go : (p q r s : ℤ) → p ≤ℤ q → r ≤ℤ s → (p -ℤ s) ≤ℤ (q -ℤ r)
    go p q r s h k = omega (arith, ints)

pub area_ordered : (separation : ℕ → Ends) → ((k : ℕ) → IsOrdered (separation k)) → (from to : ℕ) → IsOrdered (area_between separation from to)
area_ordered separation ordered from to = at (from == to)
  where
    at : (b : Bool) → IsOrdered (if b then nothing else difference (separation to) (separation from))
    at true = omega (arith, ints)
    at false = difference_ordered (separation to) (separation from) (ordered to) (ordered from)

-- ---- one mark for each degree
module _ (l : Leaks) (separation : ℕ → Ends) (ordered : (k : ℕ) → IsOrdered (separation k)) (base : ℕ) (limit : ℤ) where
  abbrev at : ℕ → Ends
  at k = area_between separation base k

  marked_or_unsure : (k : ℕ) → (IsMarked separation base limit Holds k ⊎ IsMarked separation base limit Fails k) ⊎ IsMarked separation base limit Unsure k
  marked_or_unsure k = elim (lt_or_le k base) [
    | inl early ↦ inl (inr (inl early))
    | inr late ↦ elim (≤ℤ_or_<ℤ limit (area_between separation base k).lo) [
      | inl h ↦ inl (inl (late, h))
      | inr below ↦ elim (≤ℤ_or_<ℤ limit (area_between separation base k).hi) [
        | inl reaches ↦ inr (late, record { below = below; reaches = reaches })
        | inr under ↦ inl (inr (inr (late, under)))
      ]
    ]
  ]

  early_late : (k : ℕ) → k < base → base ≤ k → ⊥
  early_late k h m = omega arith

  apart : (ends : Ends) → IsOrdered ends → Reaches limit ends → StaysBelow limit ends → ⊥
  apart ends h r s = go ends.lo ends.hi h r s
    where
      go : (lo hi : ℤ) → lo ≤ℤ hi → limit ≤ℤ lo → hi <ℤ limit → ⊥
      go lo hi h r s = omega (arith, ints)

  pub holds_not_fails : (k : ℕ) → IsMarked separation base limit Holds k → IsMarked separation base limit Fails k → ⊥
  holds_not_fails k h f = elim f [
    | inl early ↦ early_late k early h.0
    | inr under ↦ apart (area_between separation base k) (area_ordered separation ordered base k) h.1 under.1
  ]

  holds_not_unsure : (k : ℕ) → IsMarked separation base limit Holds k → IsMarked separation base limit Unsure k → ⊥
  holds_not_unsure k h u = never_both limit (area_between separation base k).lo h.1 u.1.below

  fails_not_unsure : (k : ℕ) → IsMarked separation base limit Fails k → IsMarked separation base limit Unsure k → ⊥
  fails_not_unsure k f u = elim f [
    | inl early ↦ early_late k early u.0
    | inr under ↦ never_both limit (area_between separation base k).hi u.1.reaches under.1
  ]

  -- ---- findings
  module _ (most : ℕ) (is_most : IsMost l most) where
    abbrev None_marked : Mark → Type 0
    None_marked mark = (k : ℕ) → IsCandidate l most k → ¬ IsMarked separation base limit mark k

    pub unsure_by_area : (k : ℕ) (shown : Shown) → IsFirstMarked l separation most base limit Unsure k → IsInterval k (area_between separation base k) shown
        → IsFound l separation base limit (finding.Unsure shown)
    unsure_by_area k shown first shows = record {
      most = most;
      is_most = is_most;
      follows = (
        λ each. holds_not_unsure k (each k first.candidate) first.marked,
        λ each. fails_not_unsure k (each k first.candidate) first.marked,
        inl (record { degree = k; first = first; shows = shows }),
      );
    }

    pub found_to_hold : None_marked Unsure → None_marked Fails → IsFound l separation base limit finding.Holds
    found_to_hold no_unsure no_failing = record {
      most = most;
      is_most = is_most;
      follows = λ k candidate. elim (marked_or_unsure k) [
        | inl one ↦ elim one [ inl holds ↦ holds | inr fails ↦ absurd (no_failing k candidate fails) ]
        | inr unsure ↦ absurd (no_unsure k candidate unsure)
      ];
    }

    pub found_to_fail : (shown : Shown) → None_marked Unsure → None_marked Holds → ShowsFailing l separation most base shown → IsFound l separation base limit (finding.Fails shown)
    found_to_fail shown no_unsure no_holding shows = record {
      most = most;
      is_most = is_most;
      follows = (
        λ k candidate. elim (marked_or_unsure k) [
          | inl one ↦ elim one [ inl holds ↦ absurd (no_holding k candidate holds) | inr fails ↦ fails ]
          | inr unsure ↦ absurd (no_unsure k candidate unsure)
        ],
        shows,
      );
    }

    -- a candidate that holds and one that fails come with a leak between them
    pub leak_exists : (i j : ℕ) → IsFirstMarked l separation most base limit Fails i → IsFirstMarked l separation most base limit Holds j → SomeFrom 0 most (SomePasses l Unclear)
    leak_exists i j failing holding = leak_between l most i j is_most failing.candidate holding.candidate
        (λ e. holds_not_fails j holding.marked (subst (IsMarked separation base limit Fails) e failing.marked))

    pub unsure_by_leak : (i j : ℕ) (shown : Shown) → None_marked Unsure → IsFirstMarked l separation most base limit Fails i → IsFirstMarked l separation most base limit Holds j
        → ShowsFirstLeak l most shown → IsFound l separation base limit (finding.Unsure shown)
    unsure_by_leak i j shown no_unsure failing holding shows = record {
      most = most;
      is_most = is_most;
      follows = (
        λ each. holds_not_fails i (each i failing.candidate) failing.marked,
        λ each. holds_not_fails j holding.marked (each j holding.candidate),
        inr (record { none = no_unsure; shows = shows }),
      );
    }
