-- What a verdict says, from what is found of each criterion.
use Rattle.intact_criteria.specs.Figures.{Figures, OnBothSides}
use Rattle.intact_criteria.specs.Finding.{on_both, mark_of, first_failing, first_unsure, verdict_of}
use Rattle.intact_criteria.specs.Marks.{IsFoundOnBoth, AreFound}
use Rattle.intact_criteria.specs.Right.{IsRight, AreRight, AllHold, criterion, IsRightOf}
use Rattle.intact_criteria.specs.Readings.{Readings}
use Rattle.intact_criteria.specs.Open.{IsOpen, IsOpenIfUndecided}
use Rattle.intact_criteria.specs.Bounds.{IsBounded, IsBoundedVerdict}
use Rattle.intact_criteria.specs.declared.finding.Finding.{Finding}
use Rattle.intact_criteria.specs.declared.finding.Found.{Found}
use Rattle.intact_criteria.specs.declared.finding.Side.{Side}
use Rattle.intact_criteria.specs.declared.finding.Side.TheVariants.{Port, Starboard}
use Rattle.intact_criteria.specs.declared.finding.Verdict.{Verdict}
use Rattle.std.proofs.Common.{◌≡◌, refl, sym, [], ◌∷◌, ℕ, ◌+◌, subst, List, Option, Some, None}
use Rattle.std.specs.Prelude.{⊤, unwrap_or}
use Rattle.intact_criteria.specs.declared.finding.Finding.TheVariants as finding
use Rattle.intact_criteria.specs.declared.finding.Found.TheVariants as found
use Rattle.intact_criteria.specs.declared.finding.Verdict.TheVariants as verdict
use Rattle.intact_criteria.proofs.Soundness.{OpenFinding, BoundedFinding, AreSmall}
use Rattle.intact_criteria.proofs.First.{first_rule}
use Rattle.intact_criteria.proofs.Second.{second_rule}
use Rattle.intact_criteria.proofs.Third.{third_rule}
use Rattle.intact_criteria.proofs.Fourth.{fourth_rule}
use Rattle.intact_criteria.proofs.Fifth.{fifth_rule}
use Rattle.intact_criteria.proofs.Sixth.{sixth_rule}

-- ---- on both sides
abbrev OpenFound : ℕ → (Side → Readings) → Found → Type 0
OpenFound n r found.Holds = ⊤
OpenFound n r (found.Fails side s) = ⊤
OpenFound n r (found.Unsure side s) = IsOpen n (r side) s

joined_open : (n : ℕ) (r : Side → Readings) (p s : Finding) → OpenFinding n (r Port) p → OpenFinding n (r Starboard) s → OpenFound n r (on_both p s)
joined_open n r (finding.Fails x) s h k = tt
joined_open n r finding.Holds (finding.Fails x) h k = tt
joined_open n r (finding.Unsure y) (finding.Fails x) h k = tt
joined_open n r finding.Holds finding.Holds h k = tt
joined_open n r (finding.Unsure x) finding.Holds h k = h
joined_open n r (finding.Unsure x) (finding.Unsure y) h k = h
joined_open n r finding.Holds (finding.Unsure x) h k = k

both_open : (n : ℕ) (r : Side → Readings) (P : Side → Finding → Type 0) → ((side : Side) (x : Finding) → P side x → OpenFinding n (r side) x)
    → (x : Found) → IsFoundOnBoth P x → OpenFound n r x
both_open n r P f x is = subst (OpenFound n r) (sym is.joined) (joined_open n r is.on_port is.on_starboard (f Port is.on_port is.port_rule) (f Starboard is.on_starboard is.starboard_rule))

-- ---- along the list of all six
abbrev AllOpen : (Side → Readings) → ℕ → List Found → Type 0
AllOpen r n [] = ⊤
AllOpen r n (x ∷ xs) = OpenFound n r x × AllOpen r (n + 1) xs

no_verdict : (v : Verdict) → ◌≡◌ {A = Option Verdict} None (Some v) → ⊥
no_verdict v e = cc

some_same : {A : Type 0} (x y : A) → ◌≡◌ {A = Option A} (Some x) (Some y) → x ≡ y
some_same x y e = cc

unsure_open : (r : Side → Readings) (xs : List Found) (n : ℕ) (v : Verdict) → AllOpen r n xs → first_unsure n xs ≡ Some v → IsOpenIfUndecided r v
unsure_open r [] n v all e = absurd (no_verdict v e)
unsure_open r (found.Holds ∷ xs) n v all e = unsure_open r xs (n + 1) v all.1 e
unsure_open r (found.Fails side s ∷ xs) n v all e = unsure_open r xs (n + 1) v all.1 e
unsure_open r (found.Unsure side s ∷ xs) n v all e = subst (IsOpenIfUndecided r) (some_same (verdict.Undecided n side s) v e) all.0

failing_open : (r : Side → Readings) (xs : List Found) (n : ℕ) (v : Verdict) → first_failing n xs ≡ Some v → IsOpenIfUndecided r v
failing_open r [] n v e = absurd (no_verdict v e)
failing_open r (found.Holds ∷ xs) n v e = failing_open r xs (n + 1) v e
failing_open r (found.Fails side s ∷ xs) n v e = subst (IsOpenIfUndecided r) (some_same (verdict.Fail n side s) v e) tt
failing_open r (found.Unsure side s ∷ xs) n v e = failing_open r xs (n + 1) v e

verdict_open : (r : Side → Readings) (xs : List Found) → AllOpen r 1 xs → IsOpenIfUndecided r (verdict_of xs)
verdict_open r xs all = go (first_failing 1 xs) (first_unsure 1 xs) refl refl
  where
    go : (a b : Option Verdict) → first_failing 1 xs ≡ a → first_unsure 1 xs ≡ b → IsOpenIfUndecided r (unwrap_or a (unwrap_or b verdict.Pass))
    go (Some v) b e f = failing_open r xs 1 v e
    go None (Some v) e f = unsure_open r xs 1 v all f
    go None None e f = tt

-- ---- the criterion that a verdict names
module _ (figures : Side → Figures) where
  abbrev AllRight : ℕ → List Found → Type 0
  AllRight n [] = ⊤
  AllRight n (x ∷ xs) = IsRight (OnBothSides (criterion n) figures) (mark_of x) × AllRight (n + 1) xs

  failing_right : (xs : List Found) (n : ℕ) (v : Verdict) → AllRight n xs → first_failing n xs ≡ Some v → IsRightOf figures v
  failing_right [] n v all e = absurd (no_verdict v e)
  failing_right (found.Holds ∷ xs) n v all e = failing_right xs (n + 1) v all.1 e
  failing_right (found.Fails side s ∷ xs) n v all e = subst (IsRightOf figures) (some_same (verdict.Fail n side s) v e) all.0
  failing_right (found.Unsure side s ∷ xs) n v all e = failing_right xs (n + 1) v all.1 e

  unsure_right : (xs : List Found) (n : ℕ) (v : Verdict) → first_unsure n xs ≡ Some v → IsRightOf figures v
  unsure_right [] n v e = absurd (no_verdict v e)
  unsure_right (found.Holds ∷ xs) n v e = unsure_right xs (n + 1) v e
  unsure_right (found.Fails side s ∷ xs) n v e = unsure_right xs (n + 1) v e
  unsure_right (found.Unsure side s ∷ xs) n v e = subst (IsRightOf figures) (some_same (verdict.Undecided n side s) v e) tt

  abbrev AllCriteria : ℕ → List Found → Type 0
  AllCriteria n [] = ⊤
  AllCriteria n (x ∷ xs) = OnBothSides (criterion n) figures × AllCriteria (n + 1) xs

  all_hold : (xs : List Found) (n : ℕ) → AllRight n xs → first_failing n xs ≡ None → first_unsure n xs ≡ None → AllCriteria n xs
  all_hold [] n all e f = tt
  all_hold (found.Holds ∷ xs) n all e f = (all.0, all_hold xs (n + 1) all.1 e f)
  all_hold (found.Fails side s ∷ xs) n all e f = absurd (no_verdict (verdict.Fail n side s) (sym e))
  all_hold (found.Unsure side s ∷ xs) n all e f = absurd (no_verdict (verdict.Undecided n side s) (sym f))

  verdict_right : (xs : List Found) → AllRight 1 xs → (AllCriteria 1 xs → AllHold figures) → IsRightOf figures (verdict_of xs)
  verdict_right xs all whole = go (first_failing 1 xs) (first_unsure 1 xs) refl refl
    where
      go : (a b : Option Verdict) → first_failing 1 xs ≡ a → first_unsure 1 xs ≡ b → IsRightOf figures (unwrap_or a (unwrap_or b verdict.Pass))
      go (Some v) b e f = failing_right xs 1 v all e
      go None (Some v) e f = unsure_right xs 1 v f
      go None None e f = whole (all_hold xs 1 all e f)

  six_hold : (c1 c2 c3 c4 c5 c6 : Found) → AllCriteria 1 (c1 ∷ c2 ∷ c3 ∷ c4 ∷ c5 ∷ c6 ∷ []) → AllHold figures
  six_hold c1 c2 c3 c4 c5 c6 h = (h.0, h.1.0, h.1.1.0, h.1.1.1.0, h.1.1.1.1.0, h.1.1.1.1.1.0)

  -- the verdict on findings whose marks are right is right
  pub findings_right : (c1 c2 c3 c4 c5 c6 : Found) → AreRight figures (mark_of c1 ∷ mark_of c2 ∷ mark_of c3 ∷ mark_of c4 ∷ mark_of c5 ∷ mark_of c6 ∷ [])
      → IsRightOf figures (verdict_of (c1 ∷ c2 ∷ c3 ∷ c4 ∷ c5 ∷ c6 ∷ []))
  findings_right c1 c2 c3 c4 c5 c6 r = verdict_right (c1 ∷ c2 ∷ c3 ∷ c4 ∷ c5 ∷ c6 ∷ []) (r.0, (r.1, (r.2, (r.3, (r.4, (r.5, tt)))))) (six_hold c1 c2 c3 c4 c5 c6)

-- ---- on both sides, and along the list
abbrev BoundedFound : Found → Type 0
BoundedFound found.Holds = ⊤
BoundedFound (found.Fails side s) = IsBounded s
BoundedFound (found.Unsure side s) = IsBounded s

joined_bounded : (p s : Finding) → BoundedFinding p → BoundedFinding s → BoundedFound (on_both p s)
joined_bounded (finding.Fails x) s h k = h
joined_bounded finding.Holds (finding.Fails x) h k = k
joined_bounded (finding.Unsure y) (finding.Fails x) h k = k
joined_bounded finding.Holds finding.Holds h k = tt
joined_bounded (finding.Unsure x) finding.Holds h k = h
joined_bounded (finding.Unsure x) (finding.Unsure y) h k = h
joined_bounded finding.Holds (finding.Unsure x) h k = k

both_bounded : (P : Side → Finding → Type 0) → ((side : Side) (x : Finding) → P side x → BoundedFinding x) → (x : Found) → IsFoundOnBoth P x → BoundedFound x
both_bounded P f x is = subst BoundedFound (sym is.joined) (joined_bounded is.on_port is.on_starboard (f Port is.on_port is.port_rule) (f Starboard is.on_starboard is.starboard_rule))

abbrev AllBounded : List Found → Type 0
AllBounded [] = ⊤
AllBounded (x ∷ xs) = BoundedFound x × AllBounded xs

failing_list : (xs : List Found) (n : ℕ) (v : Verdict) → AllBounded xs → first_failing n xs ≡ Some v → IsBoundedVerdict v
failing_list [] n v all e = absurd (no_verdict v e)
failing_list (found.Holds ∷ xs) n v all e = failing_list xs (n + 1) v all.1 e
failing_list (found.Fails side s ∷ xs) n v all e = subst IsBoundedVerdict (some_same (verdict.Fail n side s) v e) all.0
failing_list (found.Unsure side s ∷ xs) n v all e = failing_list xs (n + 1) v all.1 e

unsure_list : (xs : List Found) (n : ℕ) (v : Verdict) → AllBounded xs → first_unsure n xs ≡ Some v → IsBoundedVerdict v
unsure_list [] n v all e = absurd (no_verdict v e)
unsure_list (found.Holds ∷ xs) n v all e = unsure_list xs (n + 1) v all.1 e
unsure_list (found.Fails side s ∷ xs) n v all e = unsure_list xs (n + 1) v all.1 e
unsure_list (found.Unsure side s ∷ xs) n v all e = subst IsBoundedVerdict (some_same (verdict.Undecided n side s) v e) all.0

verdict_bounded : (xs : List Found) → AllBounded xs → IsBoundedVerdict (verdict_of xs)
verdict_bounded xs all = go (first_failing 1 xs) (first_unsure 1 xs) refl refl
  where
    go : (a b : Option Verdict) → first_failing 1 xs ≡ a → first_unsure 1 xs ≡ b → IsBoundedVerdict (unwrap_or a (unwrap_or b verdict.Pass))
    go (Some v) b e f = failing_list xs 1 v all e
    go None (Some v) e f = unsure_list xs 1 v all f
    go None None e f = tt

-- ---- findings by the rules
module _ (r : Side → Readings) (c1 c2 c3 c4 c5 c6 : Found) (are : AreFound r c1 c2 c3 c4 c5 c6) where
  -- an undecided criterion is open
  pub findings_open : IsOpenIfUndecided r (verdict_of (c1 ∷ c2 ∷ c3 ∷ c4 ∷ c5 ∷ c6 ∷ []))
  findings_open = verdict_open r (c1 ∷ c2 ∷ c3 ∷ c4 ∷ c5 ∷ c6 ∷ []) (
    both_open 1 r _ (λ side x h. first_rule.open_where_unsure (r side) x h) c1 are.first,
    (
      both_open 2 r _ (λ side x h. second_rule.open_where_unsure (r side) x h) c2 are.second,
      (
        both_open 3 r _ (λ side x h. third_rule.open_where_unsure (r side) x h) c3 are.third,
        (
          both_open 4 r _ (λ side x h. fourth_rule.open_where_unsure (r side) x h) c4 are.fourth,
          (
            both_open 5 r _ (λ side x h. fifth_rule.open_where_unsure (r side) x h) c5 are.fifth,
            (
              both_open 6 r _ (λ side x h. sixth_rule.open_where_unsure (r side) x h) c6 are.sixth,
              tt,
            ),
          ),
        ),
      ),
    ),
  )

  -- what is shown is small where the readings are
  pub findings_bounded : ((side : Side) → AreSmall (r side)) → IsBoundedVerdict (verdict_of (c1 ∷ c2 ∷ c3 ∷ c4 ∷ c5 ∷ c6 ∷ []))
  findings_bounded small = verdict_bounded (c1 ∷ c2 ∷ c3 ∷ c4 ∷ c5 ∷ c6 ∷ []) (
    both_bounded _ (λ side x h. first_rule.bounded (r side) (small side) x h) c1 are.first,
    (
      both_bounded _ (λ side x h. second_rule.bounded (r side) (small side) x h) c2 are.second,
      (
        both_bounded _ (λ side x h. third_rule.bounded (r side) (small side) x h) c3 are.third,
        (
          both_bounded _ (λ side x h. fourth_rule.bounded (r side) (small side) x h) c4 are.fourth,
          (
            both_bounded _ (λ side x h. fifth_rule.bounded (r side) (small side) x h) c5 are.fifth,
            (
              both_bounded _ (λ side x h. sixth_rule.bounded (r side) (small side) x h) c6 are.sixth,
              tt,
            ),
          ),
        ),
      ),
    ),
  )
