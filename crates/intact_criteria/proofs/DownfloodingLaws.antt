-- The degree of downflooding at a choice is among the candidates of the intervals.
use Rattle.std.proofs.Common.{◌≡◌, ◌≢◌, refl, sym, subst, ◌⊎◌, inl, inr, ℕ, zero, suc, ◌+◌, ◌<◌, ◌≤◌, ℤ, pos, negsuc, ◌≤ℤ◌, ◌<ℤ◌, arith}
use Rattle.std.proofs.lemmas.Int.{ints}
use Rattle.exact_algebra.proofs.Fraction.{Fraction, fractions, nought, ◌≺◌}
use Rattle.exact_algebra.proofs.Order as Order
use Rattle.intact_criteria.specs.declared.leaks.Test.TheVariants.{Above, MayBeAbove, Unclear}
use Rattle.intact_criteria.specs.Figures.{Figures}
use Rattle.intact_criteria.specs.Degrees.{SomeFrom}
use Rattle.intact_criteria.specs.Downflooding.{IsDownflooding, IsLastDry, IsWetAt, SomePasses, IsMost, IsCandidate}
use Rattle.intact_criteria.specs.Readings.{Readings, Leaks}
use Rattle.intact_criteria.proofs.AgainstLimit.{lies_above, may_lie_above}
use Rattle.intact_criteria.proofs.Decisions.{lt_or_le, first_or_none}
use Rattle.intact_criteria.proofs.Enclosure.{Encloses}

-- ---- the degree exists where it is decided of each degree whether something is wet
pub downflooding_exists : (wet : ℕ → Type 0) → ((k : ℕ) → wet k ⊎ ¬ wet k) → (K : ℕ) × IsDownflooding wet K
downflooding_exists wet decide = elim (first_or_none wet decide 41) [
  | inl f ↦ first f.number f.below f.holds f.before
  | inr none ↦ (40, inr (record { most = omega arith; dry = λ k h. none k (omega arith); next = λ h. absurd (omega arith) }))
]
  where
    first : (n : ℕ) → n < 41 → wet n → ((j : ℕ) → j < n → ¬ wet j) → (K : ℕ) × IsDownflooding wet K
    first zero h w before = (0, inl (record { nil = refl; floods = w }))
    first (suc n) h w before = (
      n,
      inr (record {
        most = omega arith;
        dry = λ k l. before k (omega arith);
        next = λ l. let e : suc n ≡ n + 1 = omega arith in subst wet e w;
      }),
    )

-- it is decided of each degree of a choice whether an opening is wet
wet_or_dry : (x : Fraction) → (nought ≺ x) ⊎ ¬ (nought ≺ x)
wet_or_dry x = elim (Order.≼_or_≺ fractions x nought) [ inl h ↦ inr (λ s. Order.≺-not_≼ fractions s h) | inr s ↦ inl s ]

pub wet_decided : (f : Figures) (k : ℕ) → IsWetAt f k ⊎ ¬ IsWetAt f k
wet_decided f k = elim (first_or_none (λ place. nought ≺ f.depth place k) (λ place. wet_or_dry (f.depth place k)) f.openings) [
  | inl first ↦ inl (record { place = first.number; within = first.below; holds = first.holds })
  | inr none ↦ inr (λ s. none s.place s.within s.holds)
]

pub choice_floods : (f : Figures) → (K : ℕ) × IsDownflooding (IsWetAt f) K
choice_floods f = downflooding_exists (IsWetAt f) (wet_decided f)

-- ---- readings against figures
module _ (r : Readings) (f : Figures) (e : Encloses r f) where
  -- where a depth lies above 0 an opening is wet, and where one is wet a depth may be above 0
  pub wet_where_above : (k : ℕ) → k ≤ 90 → SomePasses r.leaks Above k → IsWetAt f k
  wet_where_above k h s = record {
    place = s.place;
    within = subst (λ (n : ℕ). s.place < n) e.openings s.within;
    holds = lies_above (r.leaks.depth s.place k) (f.depth s.place k) (e.depth s.place k s.within h) s.holds;
  }

  pub may_where_wet : (k : ℕ) → k ≤ 90 → IsWetAt f k → SomePasses r.leaks MayBeAbove k
  may_where_wet k h s = at (subst (λ (n : ℕ). s.place < n) (sym e.openings) s.within)
    where
      at : s.place < r.leaks.openings → SomePasses r.leaks MayBeAbove k
      at within = record { place = s.place; within = within; holds = may_lie_above (r.leaks.depth s.place k) (f.depth s.place k) (e.depth s.place k within h) s.holds }

  pub is_candidate : (most K : ℕ) → IsMost r.leaks most → IsDownflooding (IsWetAt f) K → IsCandidate r.leaks most K
  is_candidate most K is_most flooding = elim flooding [
    | inl wet ↦ inr (inr (wet.nil, may_where_wet 0 (omega arith) wet.floods))
    | inr dry ↦ elim is_most [ inl m ↦ absurd (dry.dry 0 (omega arith) (wet_where_above 0 (omega arith) m.floods)) | inr m ↦ dry_below dry m ]
  ]
    where
      dry_below : IsLastDry (IsWetAt f) K → IsLastDry (SomePasses r.leaks Above) most → IsCandidate r.leaks most K
      dry_below dry m = elim (lt_or_le K most) [
        | inl less ↦ inr (inl (less, may_where_wet (K + 1) (few K most less m.most) (dry.next (up_to K most less m.most))))
        | inr more ↦ elim (lt_or_le most K) [
          | inl past ↦ absurd (dry.dry (most + 1) (succ most K past) (wet_where_above (most + 1) (few most K past dry.most) (m.next (up_to most K past dry.most))))
          | inr same ↦ inl (equal K most same more)
        ]
      ]
        where
          few : (a b : ℕ) → a < b → b ≤ 40 → a + 1 ≤ 90
          few a b h k = omega arith

          up_to : (a b : ℕ) → a < b → b ≤ 40 → a < 40
          up_to a b h k = omega arith

          succ : (a b : ℕ) → a < b → a + 1 ≤ b
          succ a b h = omega arith

          equal : (a b : ℕ) → a ≤ b → b ≤ a → a ≡ b
          equal a b h k = omega arith

-- ---- candidates
pub most_within : (l : Leaks) (most : ℕ) → IsMost l most → most ≤ 40
most_within l most is_most = elim is_most [ inl m ↦ nil most m.nil | inr m ↦ m.most ]
  where
    nil : (n : ℕ) → n ≡ 0 → n ≤ 40
    nil n h = omega arith

pub candidate_within : (l : Leaks) (most k : ℕ) → IsCandidate l most k → k ≤ most
candidate_within l most k candidate = elim candidate [
  | inl e ↦ same k most e
  | inr other ↦ elim other [ inl less ↦ weak k most less.0 | inr nil ↦ zero_below k most nil.0 ]
]
  where
    same : (a b : ℕ) → a ≡ b → a ≤ b
    same a b h = omega arith

    weak : (a b : ℕ) → a < b → a ≤ b
    weak a b h = omega arith

    zero_below : (a b : ℕ) → a ≡ 0 → a ≤ b
    zero_below a b h = omega arith

-- a depth that may be above 0 and doesn't lie above it is unclear
unclear : (l : Leaks) (k : ℕ) → ¬ SomePasses l Above k → SomePasses l MayBeAbove k → SomePasses l Unclear k
unclear l k none s = record {
  place = s.place;
  within = s.within;
  holds = (at_most (l.depth s.place k).lo (λ h. none (record { place = s.place; within = s.within; holds = h })), s.holds);
}
  where
    at_most : (z : ℤ) → (pos 0 <ℤ z → ⊥) → z ≤ℤ pos 0
    at_most (pos zero) n = omega (arith, ints)
    at_most (pos (suc k)) n = absurd (n (positive k))
      where
        positive : (k : ℕ) → pos 0 <ℤ pos (suc k)
        positive k = omega (arith, ints)
    at_most (negsuc k) n = omega (arith, ints)

-- a candidate below the greatest comes with an unclear leak
pub leak_below : (l : Leaks) (most k : ℕ) → IsMost l most → IsCandidate l most k → k ≢ most → SomeFrom 0 most (SomePasses l Unclear)
leak_below l most k is_most candidate other = elim candidate [
  | inl e ↦ absurd (other e)
  | inr rest ↦ elim rest [
    | inl less ↦ record { degree = k + 1; above = omega arith; below = succ k most less.0; holds = unclear l (k + 1) (dry (k + 1) (succ k most less.0) (positive k most less.0)) less.1 }
    | inr nil ↦ record { degree = 0; above = omega arith; below = omega arith; holds = unclear l 0 (dry 0 (omega arith) (past k most nil.0 other)) nil.1 }
  ]
]
  where
    succ : (a b : ℕ) → a < b → a + 1 ≤ b
    succ a b h = omega arith

    positive : (a b : ℕ) → a < b → 0 < b
    positive a b h = omega arith

    past : (a b : ℕ) → a ≡ 0 → a ≢ b → 0 < b
    past a b h n = omega arith

    not_nil : (n : ℕ) → n ≡ 0 → 0 < n → ⊥
    not_nil n h k = omega arith

    dry : (j : ℕ) → j ≤ most → 0 < most → ¬ SomePasses l Above j
    dry j h some = elim is_most [ inl m ↦ absurd (not_nil most m.nil some) | inr m ↦ m.dry j h ]

pub leak_between : (l : Leaks) (most i j : ℕ) → IsMost l most → IsCandidate l most i → IsCandidate l most j → i ≢ j → SomeFrom 0 most (SomePasses l Unclear)
leak_between l most i j is_most first second differ = elim (lt_or_le i most) [
  | inl less ↦ leak_below l most i is_most first (below i most less)
  | inr more ↦ leak_below l most j is_most second (λ e. differ (at i j most more (candidate_within l most i first) e))
]
  where
    below : (a b : ℕ) → a < b → a ≢ b
    below a b h e = omega arith

    at : (a b c : ℕ) → c ≤ a → a ≤ c → b ≡ c → a ≡ b
    at a b c h k e = omega arith

-- below 40, a depth lies above 0 at the degree after the greatest, unless it does at 0
pub next_leak : (l : Leaks) (most : ℕ) → IsMost l most → most < 40 → ¬ SomePasses l Above 0 → SomePasses l Above (most + 1)
next_leak l most is_most few none = elim is_most [ inl m ↦ absurd (none m.floods) | inr m ↦ m.next few ]
