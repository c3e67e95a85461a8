-- Areas between degrees are contained, and the rule for an area up to the degree of downflooding is right at each choice.
use Rattle.std.proofs.Common.{◌≡◌, refl, sym, ◌∙◌, ap, subst, ◌≤ℤ◌, [], ◌∷◌, inl, inr, ℕ, zero, suc, ◌<◌, ◌≤◌, Bool, true, false, ◌==◌, if◌then◌else◌, pos, arith}
use Rattle.std.proofs.lemmas.Bool.{eqb-true}
use Rattle.exact_algebra.specs.Expression.{var, number, ◌:-◌}
use Rattle.exact_algebra.proofs.Fraction.{Fraction, fraction_ring, nought, ◌⊖◌, ◌≼◌}
use Rattle.exact_algebra.proofs.Products.{contains_difference}
use Rattle.exact_algebra.proofs.Ring.{ring}
use Rattle.exact_algebra.proofs.Span.{contains_whole}
use Rattle.exact_algebra.proofs.Whole.{whole, whole-nought}
use Rattle.intact_criteria.specs.declared.finding.Finding.TheVariants.{Holds, Fails}
use Rattle.intact_criteria.specs.declared.finding.Shown.{Shown}
use Rattle.intact_criteria.specs.AreaToFlooding.{area_between, difference, IsFound}
use Rattle.intact_criteria.specs.Figures.{Figures, area_to}
use Rattle.intact_criteria.specs.Downflooding.{IsDownflooding, IsWetAt, IsCandidate}
use Rattle.intact_criteria.specs.Limit.{Contains, in_units}
use Rattle.intact_criteria.specs.Readings.{Ends, Readings, nothing}
use Rattle.intact_criteria.proofs.AgainstLimit.{reaches_limit, below_limit}
use Rattle.intact_criteria.proofs.DownfloodingLaws.{is_candidate, candidate_within, most_within}
use Rattle.intact_criteria.proofs.Enclosure.{Encloses}

-- areas from upright differ as the separations do
area_difference : (f : Figures) (a b : ℕ) → f.separation a ⊖ f.separation b ≡ area_to f a ⊖ area_to f b
area_difference f zero zero = ring fraction_ring (f.separation 0 ∷ []) (var 0 :- var 0) (number 0 :- number 0) refl
area_difference f zero (suc b) = ring fraction_ring (f.separation 0 ∷ f.separation (suc b) ∷ []) (var 0 :- var 1) (number 0 :- (var 1 :- var 0)) refl
area_difference f (suc a) zero = ring fraction_ring (f.separation 0 ∷ f.separation (suc a) ∷ []) (var 1 :- var 0) ((var 1 :- var 0) :- number 0) refl
area_difference f (suc a) (suc b) = ring fraction_ring (f.separation 0 ∷ f.separation (suc a) ∷ f.separation (suc b) ∷ []) (var 1 :- var 2) ((var 1 :- var 0) :- (var 2 :- var 0)) refl

-- an area from upright is itself
pub from_upright : (f : Figures) (k : ℕ) → area_to f k ⊖ area_to f 0 ≡ area_to f k
from_upright f k = ring fraction_ring (area_to f k ∷ []) (var 0 :- number 0) (var 0) refl

nothing_contains : (x : Fraction) → x ≡ nought → Contains nothing x
nothing_contains x e = subst (Contains nothing) (whole-nought ∙ sym e) (contains_whole 20 (pos 0))

-- ---- where the intervals of the separations contain those of a choice
module _ (separation : ℕ → Ends) (f : Figures) (e : (k : ℕ) → k ≤ 90 → Contains (separation k) (f.separation k)) where
  pub area_contained : (from to : ℕ) → from ≤ 90 → to ≤ 90 → Contains (area_between separation from to) (area_to f to ⊖ area_to f from)
  area_contained from to h k = at (from == to) (λ same. eqb-true from to same)
    where
      apart : Contains (difference (separation to) (separation from)) (area_to f to ⊖ area_to f from)
      apart = subst (Contains (difference (separation to) (separation from))) (area_difference f to from) (contains_difference (e to k) (e from h))

      together : from ≡ to → Contains nothing (area_to f to ⊖ area_to f from)
      together same = nothing_contains (area_to f to ⊖ area_to f from)
          (ap (λ n. area_to f to ⊖ area_to f n) same ∙ ring fraction_ring (area_to f to ∷ []) (var 0 :- var 0) (number 0) refl)

      at : (b : Bool) → (b ≡ true → from ≡ to) → Contains (if b then nothing else difference (separation to) (separation from)) (area_to f to ⊖ area_to f from)
      at true same = together (same refl)
      at false same = apart

  pub whole_area_contained : (k : ℕ) → k ≤ 90 → Contains (area_between separation 0 k) (area_to f k)
  whole_area_contained k few = subst (Contains (area_between separation 0 k)) (from_upright f k) (area_contained 0 k (omega arith) few)

-- ---- an area up to the degree of downflooding
module _ (r : Readings) (f : Figures) (e : Encloses r f) where
  module _ (base mm : ℕ) where
    few : (n m : ℕ) → n ≤ m → m ≤ 40 → n ≤ 90
    few n m h k = omega arith

    lower : (n m : ℕ) → n ≤ m → m ≤ 90 → n ≤ 90
    lower n m h k = omega arith

    -- K is at most 40
    K_within : (K : ℕ) → IsFound r.leaks r.separation base (in_units mm) Holds → IsDownflooding (IsWetAt f) K → K ≤ 90
    K_within K found flooding = few K found.most (candidate_within r.leaks found.most K (is_candidate r f e found.most K found.is_most flooding)) (most_within r.leaks found.most found.is_most)

    pub area_holds : (K : ℕ) → IsFound r.leaks r.separation base (in_units mm) Holds → IsDownflooding (IsWetAt f) K → (base ≤ K) × (whole (pos mm) ≼ area_to f K ⊖ area_to f base)
    area_holds K found flooding = marked (found.follows K (is_candidate r f e found.most K found.is_most flooding))
      where
        marked : (base ≤ K) × ((in_units mm) ≤ℤ (area_between r.separation base K).lo) → (base ≤ K) × (whole (pos mm) ≼ area_to f K ⊖ area_to f base)
        marked m = (
          m.0,
          reaches_limit mm (area_between r.separation base K) (area_to f K ⊖ area_to f base)
              (area_contained r.separation f e.separation base K (lower base K m.0 (K_within K found flooding)) (K_within K found flooding)) m.1,
        )

    pub area_fails : (K : ℕ) (shown : Shown) → IsFound r.leaks r.separation base (in_units mm) (Fails shown) → IsDownflooding (IsWetAt f) K → base ≤ K → whole (pos mm) ≼ area_to f K ⊖ area_to f base → ⊥
    area_fails K shown found flooding reached area = elim (found.follows.0 K candidate) [
      | inl less ↦ not_both base K reached less
      | inr below ↦ below_limit mm (area_between r.separation base K) (area_to f K ⊖ area_to f base) (area_contained r.separation f e.separation base K (lower base K reached within) within) below.1 area
    ]
      where
        candidate : IsCandidate r.leaks found.most K
        candidate = is_candidate r f e found.most K found.is_most flooding

        within : K ≤ 90
        within = few K found.most (candidate_within r.leaks found.most K candidate) (most_within r.leaks found.most found.is_most)

        not_both : (a b : ℕ) → a ≤ b → b < a → ⊥
        not_both a b h k = omega arith
