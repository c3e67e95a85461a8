-- What the loop over a station's points keeps: the section of all points is what was passed and the section of the rest.
use Rattle.std.proofs.Common.{◌≡◌, refl, sym, ◌∙◌, ap, ap₂, subst, ℕ, ◌+◌, ◌-◌, ◌*◌, ◌<◌, ◌≤◌, List, [], ◌∷◌, length, get_or, take, drop, take_all, pos, arith}
use Rattle.std.proofs.lemmas.Int.{ints}
use Rattle.std.specs.List.{AllByRecursion}
use Rattle.exact_algebra.specs.Expression.{var, unit, number, ◌:+◌, ◌:*◌, opposite}
use Rattle.exact_algebra.proofs.Ring.{ring, ring_from, none, given}
use Rattle.exact_algebra.proofs.Fraction.{Fraction, nought, ◌⊕◌, ◌⊗◌, fraction_ring}
use Rattle.exact_algebra.proofs.Whole.{whole-nought}
use Rattle.hull_model.specs.declared.point.Point.{Point}
use Rattle.hull_model.specs.Body.{IsPoint}
use Rattle.hull_model.specs.Lists.{Rises}
use Rattle.hull_model.specs.Section.{section_area, section_moment}
use Rattle.hull_model.proofs.Trapezium.{natural}
use Rattle.hull_model.proofs.Section.{section_area-above, section_moment-above, section_area-short, section_moment-short}
use Rattle.bonjean_curves.specs.Trapezium.{thrice_moment, area_below, moment_below}
use Rattle.bonjean_curves.specs.Quotient.{IsQuotient}
use Rattle.bonjean_curves.proofs.Strips.{AreNeighbours, natural-add, natural-mul, area-passed, moment-passed, area-cut, moment-cut}

-- the place that an index past a list's end reads
abbrev pub origin : Point
origin = record { y = pos 0; z = pos 0 }

-- the first two points of a list
abbrev pub AtHead : List Point → ℕ → ℕ → ℕ → ℕ → Type 0
AtHead points foot head lower upper = AreNeighbours (get_or points 0 origin) (get_or points 1 origin) foot head lower upper

-- a number that is passed, beside the one before
total : (x a y b r : Fraction) → x ≡ a ⊕ y → y ≡ b ⊕ r → x ≡ (a ⊕ b) ⊕ r
total x a y b r e h = ring_from fraction_ring (x ∷ a ∷ y ∷ b ∷ r ∷ []) ((unit, var 0, var 1 :+ var 2) ∷ (unit, var 2, var 3 :+ var 4) ∷ []) (given e (given h none)) (var 0) ((var 1 :+ var 3) :+ var 4) refl

tail : (p q : Point) (rest ys : List Point) → ys ≡ take (length (p ∷ q ∷ rest) - 1) (drop 1 (p ∷ q ∷ rest)) → ys ≡ q ∷ rest
tail p q rest ys e = e ∙ take_all (length (p ∷ q ∷ rest) - 1) (q ∷ rest) (omega arith)

pub Rises-tail : (xs ys : List Point) → ys ≡ take (length xs - 1) (drop 1 xs) → Rises (λ p. p.z) xs → Rises (λ p. p.z) ys
Rises-tail xs ys e h = subst (Rises (λ p. p.z)) (sym e) (go xs h)
  where
    go : (xs : List Point) → Rises (λ p. p.z) xs → Rises (λ p. p.z) (take (length xs - 1) (drop 1 xs))
    go [] h = tt
    go (p ∷ []) h = tt
    go (p ∷ q ∷ rest) h = subst (Rises (λ p. p.z)) (sym (tail p q rest _ refl)) h.1

pub limits-tail : (xs ys : List Point) → ys ≡ take (length xs - 1) (drop 1 xs) → AllByRecursion IsPoint xs → AllByRecursion IsPoint ys
limits-tail xs ys e h = subst (AllByRecursion IsPoint) (sym e) (go xs h)
  where
    go : (xs : List Point) → AllByRecursion IsPoint xs → AllByRecursion IsPoint (take (length xs - 1) (drop 1 xs))
    go [] h = tt
    go (p ∷ []) h = tt
    go (p ∷ q ∷ rest) h = subst (AllByRecursion IsPoint) (sym (tail p q rest _ refl)) h.1

-- ---- a strip below the draft
pub area_passed-step : (points xs ys : List Point) (draft foot head lower upper area more : ℕ) → section_area points draft ≡ natural area ⊕ section_area xs draft
    → more ≡ (lower + upper) * (head - foot) → 2 ≤ length xs → ys ≡ take (length xs - 1) (drop 1 xs) → AtHead xs foot head lower upper → foot < head → head ≤ draft
    → section_area points draft ≡ natural (area + more) ⊕ section_area ys draft
area_passed-step points [] ys draft foot head lower upper area more e m two t n rises under = absurd (omega arith)
area_passed-step points (p ∷ []) ys draft foot head lower upper area more e m two t n rises under = absurd (omega arith)
area_passed-step points (p ∷ q ∷ rest) ys draft foot head lower upper area more e m two t n rises under =
    total _ _ _ _ _ e (area-passed p q rest draft foot head lower upper n rises under ∙ ap₂ (λ x zs. natural x ⊕ section_area zs draft) (sym m) (sym (tail p q rest ys t)))
    ∙ ap (λ x. x ⊕ section_area ys draft) (sym (natural-add area more))

pub moment_passed-step : (points xs ys : List Point) (draft foot head lower upper moment more : ℕ) → natural 3 ⊗ section_moment points draft ≡ natural moment ⊕ natural 3 ⊗ section_moment xs draft
    → more ≡ thrice_moment foot head lower upper * (head - foot) → 2 ≤ length xs → ys ≡ take (length xs - 1) (drop 1 xs) → AtHead xs foot head lower upper → foot < head → head ≤ draft
    → natural 3 ⊗ section_moment points draft ≡ natural (moment + more) ⊕ natural 3 ⊗ section_moment ys draft
moment_passed-step points [] ys draft foot head lower upper moment more e m two t n rises under = absurd (omega arith)
moment_passed-step points (p ∷ []) ys draft foot head lower upper moment more e m two t n rises under = absurd (omega arith)
moment_passed-step points (p ∷ q ∷ rest) ys draft foot head lower upper moment more e m two t n rises under =
    total _ _ _ _ _ e (moment-passed p q rest draft foot head lower upper n rises under ∙ ap₂ (λ x zs. natural x ⊕ natural 3 ⊗ section_moment zs draft) (sym m) (sym (tail p q rest ys t)))
    ∙ ap (λ x. x ⊕ natural 3 ⊗ section_moment ys draft) (sym (natural-add moment more))

-- ---- the strip that the draft cuts
-- x is what was passed and y, and y is part / rise
joined : (x y : Fraction) (passed part rise : ℕ) → x ≡ natural passed ⊕ y → y ⊗ natural rise ≡ natural part → x ⊗ natural rise ≡ natural (part + passed * rise)
joined x y passed part rise e h = ring_from fraction_ring (x ∷ y ∷ natural passed ∷ natural part ∷ natural rise ∷ []) ((var 4, var 0, var 2 :+ var 1) ∷ (unit, var 1 :* var 4, var 3) ∷ [])
    (given e (given h none)) (var 0 :* var 4) (var 3 :+ var 2 :* var 4) refl
    ∙ ap (λ z. natural part ⊕ z) (sym (natural-mul passed rise)) ∙ sym (natural-add part (passed * rise))

-- three times x over the rise
third : (x : Fraction) (n rise : ℕ) → (natural 3 ⊗ x) ⊗ natural rise ≡ natural n → x ⊗ natural (3 * rise) ≡ natural n
third x n rise e = ap (λ z. x ⊗ z) (natural-mul 3 rise) ∙ ring fraction_ring (x ∷ natural 3 ∷ natural rise ∷ []) (var 0 :* (var 1 :* var 2)) ((var 1 :* var 0) :* var 2) refl ∙ e

pub area-quotient : (points xs : List Point) (draft foot head lower upper area part result rise : ℕ) → section_area points draft ≡ natural area ⊕ section_area xs draft
    → rise ≡ head - foot → part ≡ area_below foot head lower upper draft → result ≡ part + area * rise
    → 2 ≤ length xs → Rises (λ p. p.z) xs → AtHead xs foot head lower upper → foot < draft → draft < head → IsQuotient (section_area points draft) result rise
area-quotient points [] draft foot head lower upper area part result rise e r h m two rises n under over = absurd (omega arith)
area-quotient points (p ∷ []) draft foot head lower upper area part result rise e r h m two rises n under over = absurd (omega arith)
area-quotient points (p ∷ q ∷ rest) draft foot head lower upper area part result rise e r h m two rises n under over = record {
  product = joined _ (section_area (p ∷ q ∷ rest) draft) area part rise e
      (ap (λ k. section_area (p ∷ q ∷ rest) draft ⊗ natural k) r ∙ area-cut p q rest draft foot head lower upper n rises.1 under over ∙ ap natural (sym h)) ∙ ap natural (sym m);
}

pub moment-quotient : (points xs : List Point) (draft foot head lower upper moment part result rise rise' : ℕ) → natural 3 ⊗ section_moment points draft ≡ natural moment ⊕ natural 3 ⊗ section_moment xs draft
    → rise ≡ head - foot → part ≡ moment_below foot head lower upper draft → result ≡ part + moment * rise → rise' ≡ rise
    → 2 ≤ length xs → Rises (λ p. p.z) xs → AtHead xs foot head lower upper → foot < draft → draft < head → IsQuotient (section_moment points draft) result (3 * rise')
moment-quotient points [] draft foot head lower upper moment part result rise rise' e r h m s two rises n under over = absurd (omega arith)
moment-quotient points (p ∷ []) draft foot head lower upper moment part result rise rise' e r h m s two rises n under over = absurd (omega arith)
moment-quotient points (p ∷ q ∷ rest) draft foot head lower upper moment part result rise rise' e r h m s two rises n under over = record {
  product = ap (λ k. section_moment points draft ⊗ natural (3 * k)) s ∙ third (section_moment points draft) result rise (joined _ (natural 3 ⊗ section_moment (p ∷ q ∷ rest) draft) moment part rise e
      (ap (λ k. (natural 3 ⊗ section_moment (p ∷ q ∷ rest) draft) ⊗ natural k) r ∙ moment-cut p q rest draft foot head lower upper n rises.1 under over ∙ ap natural (sym h)) ∙ ap natural (sym m));
}

-- ---- no strip below the draft is left
-- the rest has fewer than two points, or its first lies at the draft or above
pub data IsAbove (xs : List Point) (draft : ℕ) : Type 0 where
  short : length xs < 2 → IsAbove xs draft
  dry : (foot : ℕ) → 2 ≤ length xs → pos foot ≡ (get_or xs 0 origin).z → draft ≤ foot → IsAbove xs draft

above_area : (xs : List Point) (draft : ℕ) → Rises (λ p. p.z) xs → IsAbove xs draft → section_area xs draft ≡ nought
above_area xs draft rises (short h) = section_area-short draft xs h
above_area [] draft rises (dry foot two z d) = absurd (omega arith)
above_area (p ∷ rest) draft rises (dry foot two z d) = section_area-above draft p rest rises (omega (arith, ints, z))

above_moment : (xs : List Point) (draft : ℕ) → Rises (λ p. p.z) xs → IsAbove xs draft → section_moment xs draft ≡ nought
above_moment xs draft rises (short h) = section_moment-short draft xs h
above_moment [] draft rises (dry foot two z d) = absurd (omega arith)
above_moment (p ∷ rest) draft rises (dry foot two z d) = section_moment-above draft p rest rises (omega (arith, ints, z))

none_left : (y : Fraction) (rise : ℕ) → y ≡ nought → y ⊗ natural rise ≡ natural 0
none_left y rise e = ap (λ x. x ⊗ natural rise) e ∙ ring fraction_ring (natural rise ∷ []) (number 0 :* var 0) (number 0) refl ∙ sym whole-nought

pub area-quotient_above : (points xs : List Point) (draft area part result rise : ℕ) → section_area points draft ≡ natural area ⊕ section_area xs draft
    → part ≡ 0 → result ≡ part + area * rise → Rises (λ p. p.z) xs → IsAbove xs draft → IsQuotient (section_area points draft) result rise
area-quotient_above points xs draft area part result rise e p m rises a = record {
  product = joined _ (section_area xs draft) area part rise e (none_left (section_area xs draft) rise (above_area xs draft rises a) ∙ ap natural (sym p)) ∙ ap natural (sym m);
}

pub moment-quotient_above : (points xs : List Point) (draft moment part result rise : ℕ) → natural 3 ⊗ section_moment points draft ≡ natural moment ⊕ natural 3 ⊗ section_moment xs draft
    → part ≡ 0 → result ≡ part + moment * rise → Rises (λ p. p.z) xs → IsAbove xs draft → IsQuotient (section_moment points draft) result (3 * rise)
moment-quotient_above points xs draft moment part result rise e p m rises a = record {
  product = third (section_moment points draft) result rise (joined _ (natural 3 ⊗ section_moment xs draft) moment part rise e
      (none_left (natural 3 ⊗ section_moment xs draft) rise (ap (λ x. natural 3 ⊗ x) (above_moment xs draft rises a) ∙ ring fraction_ring (natural 3 ∷ []) (var 0 :* number 0) (number 0) refl) ∙ ap natural (sym p)) ∙ ap natural (sym m));
}

-- ---- at the start
pub area_passed-start : (points : List Point) (draft : ℕ) → section_area points draft ≡ natural 0 ⊕ section_area points draft
area_passed-start points draft = ring_from fraction_ring (section_area points draft ∷ natural 0 ∷ []) ((opposite unit, var 1, number 0) ∷ []) (given whole-nought none) (var 0) (var 1 :+ var 0) refl

pub moment_passed-start : (points : List Point) (draft : ℕ) → natural 3 ⊗ section_moment points draft ≡ natural 0 ⊕ natural 3 ⊗ section_moment points draft
moment_passed-start points draft = ring_from fraction_ring ((natural 3 ⊗ section_moment points draft) ∷ natural 0 ∷ []) ((opposite unit, var 1, number 0) ∷ []) (given whole-nought none) (var 0) (var 1 :+ var 0) refl
