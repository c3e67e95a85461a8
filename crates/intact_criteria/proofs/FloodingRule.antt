-- The rule for an area up to the degree of downflooding: what it shows.
use Rattle.intact_criteria.specs.AreaToFlooding.{area_between, difference, ShowsFailing, IsFound}
use Rattle.intact_criteria.specs.Downflooding.{SomePasses, ShowsFirst}
use Rattle.intact_criteria.specs.Readings.{Ends, Leaks, Readings}
use Rattle.intact_criteria.specs.Bounds.{IsBounded}
use Rattle.intact_criteria.specs.Open.{interval_of, limit_of}
use Rattle.intact_criteria.specs.declared.finding.Finding.{Finding}
use Rattle.intact_criteria.specs.declared.finding.Shown.{Shown}
use Rattle.intact_criteria.specs.declared.leaks.Test.{Test}
use Rattle.intact_criteria.specs.declared.leaks.Test.TheVariants.{Above}
use Rattle.std.proofs.Common.{◌≡◌, inl, inr, ℕ, ◌+◌, ◌≤◌, pos, ◌<ℤ◌, arith, ◌⊎◌, ℤ, ◌≤ℤ◌}
use Rattle.std.proofs.lemmas.Int.{ints}
use Rattle.intact_criteria.specs.AreaToFlooding as flooding
use Rattle.intact_criteria.specs.declared.finding.Finding.TheVariants as finding
use Rattle.intact_criteria.proofs.Soundness.{IsSmall, OpenFinding, BoundedFinding, Bounded}
use Rattle.intact_criteria.proofs.ShownLaws.{interval_bounded, leak_bounded, open_interval, open_leak}
use Rattle.intact_criteria.proofs.Sizes.{area-small}
use Rattle.intact_criteria.proofs.FoundLaws.{≤ℤ_or_<ℤ}
use Rattle.intact_criteria.proofs.Decisions.{lt_or_le, first_or_none}
use Rattle.intact_criteria.proofs.DownfloodingLaws.{candidate_within, most_within}

above_decided : (l : Leaks) (k : ℕ) → SomePasses l Above k ⊎ ¬ SomePasses l Above k
above_decided l k = elim (first_or_none (λ place. pos 0 <ℤ (l.depth place k).lo) (λ place. decide (l.depth place k).lo) l.openings) [
  | inl f ↦ inl (record { place = f.number; within = f.below; holds = f.holds })
  | inr none ↦ inr (λ s. none s.place s.within s.holds)
]
  where
    never : (z : ℤ) → z ≤ℤ pos 0 → pos 0 <ℤ z → ⊥
    never z h k = omega (arith, ints)

    decide : (z : ℤ) → (pos 0 <ℤ z) ⊎ ¬ (pos 0 <ℤ z)
    decide z = elim (≤ℤ_or_<ℤ z (pos 0)) [ inl h ↦ inr (λ k. never z h k) | inr s ↦ inl s ]

module _ (l : Leaks) (depths : (place k : ℕ) → Bounded (l.depth place k)) (separation : ℕ → Ends) (small : (k : ℕ) → k ≤ 90 → IsSmall (separation k)) (base : ℕ) (early : base ≤ 90) (limit : ℤ) where
  first_bounded : (test : Test) (degree : ℕ) (s : Shown) → ShowsFirst l test degree s → IsBounded s
  first_bounded test degree s h = leak_bounded h.place degree (l.depth h.place degree) (depths h.place degree) s h.shows

  few : (n : ℕ) → n ≤ 40 → n ≤ 90
  few n h = omega arith

  lower : (n m : ℕ) → n ≤ m → m ≤ 40 → n ≤ 90
  lower n m h k = omega arith

  failing_bounded : (most : ℕ) → most ≤ 40 → (s : Shown) → ShowsFailing l separation most base s → IsBounded s
  failing_bounded most h s shows = elim (lt_or_le most base) [
    | inr reached ↦ interval_bounded most (area_between separation base most) (area-small separation small base most early (few most h)) s (shows.reached reached)
    | inl flooded ↦ elim (above_decided l 0) [
      | inl now ↦ first_bounded Above 0 s ((shows.flooded flooded).at_once now)
      | inr not ↦ first_bounded Above (most + 1) s ((shows.flooded flooded).later not)
    ]
  ]

  pub flooding_bounded : (x : Finding) → flooding.IsFound l separation base limit x → BoundedFinding x
  flooding_bounded finding.Holds h = tt
  flooding_bounded (finding.Fails s) h = failing_bounded h.most (most_within l h.most h.is_most) s h.follows.1
  flooding_bounded (finding.Unsure s) h = elim h.follows.2 [
    | inl area ↦ interval_bounded area.degree (area_between separation base area.degree)
        (area-small separation small base area.degree early (lower area.degree h.most (candidate_within l h.most area.degree area.first.candidate) (most_within l h.most h.is_most))) s area.shows
    | inr leak ↦ leak_bounded leak.shows.shows.place leak.shows.degree (l.depth leak.shows.shows.place leak.shows.degree) (depths leak.shows.shows.place leak.shows.degree) s leak.shows.shows.shows
  ]

up_to : (a b : ℕ) → a ≤ b → b ≤ 40 → a ≤ 90
up_to a b h k = omega arith

pub flooding_open : (n : ℕ) (r : Readings) (base : ℕ) → ((k : ℕ) → interval_of n r k ≡ area_between r.separation base k) → (x : Finding) → flooding.IsFound r.leaks r.separation base (limit_of n) x → OpenFinding n r x
flooding_open n r base e finding.Holds found = tt
flooding_open n r base e (finding.Fails s) found = tt
flooding_open n r base e (finding.Unsure s) found = elim found.follows.2 [
  | inl area ↦ open_interval n r area.degree (area_between r.separation base area.degree) (up_to area.degree found.most (candidate_within r.leaks found.most area.degree area.first.candidate) (most_within r.leaks found.most found.is_most)) (e area.degree) area.first.marked.1.below area.first.marked.1.reaches s area.shows
  | inr leak ↦ open_leak n r leak.shows.shows.place leak.shows.degree (up_to leak.shows.degree found.most leak.shows.first.below (most_within r.leaks found.most found.is_most)) leak.shows.shows.first.holds.0 leak.shows.shows.first.holds.1 s leak.shows.shows.shows
]
