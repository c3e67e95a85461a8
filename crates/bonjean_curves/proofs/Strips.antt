-- The section by the code's integrals: what a strip adds to it, and what the strip that the draft cuts does.
use Rattle.std.proofs.Common.{◌≡◌, refl, sym, ◌∙◌, ap, ap₂, subst, ℕ, ◌+◌, ◌-◌, ◌*◌, ◌<◌, ◌≤◌, List, [], ◌∷◌, ℤ, pos, arith}
use Rattle.std.proofs.lemmas.Int.{ints}
use Rattle.exact_algebra.specs.Expression.{var, unit, ◌:+◌, ◌:-◌, ◌:*◌, opposite}
use Rattle.exact_algebra.specs.Span.{IsLeastSpan}
use Rattle.exact_algebra.proofs.Ring.{ring, ring_from, none, given}
use Rattle.exact_algebra.proofs.Fraction.{Fraction, ◌⊕◌, ◌⊗◌, ◌⊖◌, inverse, over, fractions, fraction_ring}
use Rattle.exact_algebra.proofs.Whole.{whole, whole-add, whole-mul, whole-≺, positive-whole, nonnegative-whole, over_is}
use Rattle.exact_algebra.proofs.Span.{IsLeastSpanOf, least_span_over}
use Rattle.exact_algebra.proofs.Bounds as Bounds
use Rattle.hull_model.specs.declared.point.Point.{Point}
use Rattle.hull_model.specs.Lists.{Rises}
use Rattle.hull_model.specs.Section.{section_area, section_moment}
use Rattle.hull_model.proofs.Strip.{NonNegative}
use Rattle.hull_model.proofs.Strip as Strip
use Rattle.hull_model.proofs.Trapezium.{natural, trapezium_area, trapezium_moment, breadth_law}
use Rattle.hull_model.proofs.Section.{section_area-below, section_moment-below, section_area-cut, section_moment-cut}
use Rattle.bonjean_curves.specs.Trapezium.{thrice_moment, breadth_at, area_below, moment_below}
use Rattle.bonjean_curves.specs.Quotient.{IsQuotient}

-- ---- natural numbers among the fractions
pub natural-add : (a b : ℕ) → natural (a + b) ≡ natural a ⊕ natural b
natural-add a b = whole-add (pos a) (pos b)

pub natural-mul : (a b : ℕ) → natural (a * b) ≡ natural a ⊗ natural b
natural-mul a b = whole-mul (pos a) (pos b)

pub natural-sub : (a b : ℕ) → b ≤ a → natural (a - b) ≡ natural a ⊖ natural b
natural-sub a b h = ring_from fraction_ring (natural a ∷ natural b ∷ natural (a - b) ∷ []) ((opposite unit, var 0, var 2 :+ var 1) ∷ []) (given (ap natural whole_of ∙ natural-add (a - b) b) none) (var 2) (var 0 :- var 1) refl
  where
    whole_of : a ≡ (a - b) + b
    whole_of = omega arith

-- ---- a quotient's least span
pub least_span_quotient : {F : ℕ} {lo hi : ℤ} {x : Fraction} {n d : ℕ} → 0 < d → IsLeastSpan F lo hi (pos n) d → IsQuotient x n d → IsLeastSpanOf F lo hi x
least_span_quotient {F} {lo} {hi} {x} {n} {d} h s q = subst (λ y. IsLeastSpanOf F lo hi y) same (least_span_over (pos n) d h s)
  where
    same : over (pos n) d h ≡ x
    same = over_is (pos n) d h ∙ ring_from fraction_ring (x ∷ natural d ∷ inverse (natural d) ∷ natural n ∷ []) ((opposite (var 2), var 0 :* var 1, var 3) ∷ (var 0, var 1 :* var 2, unit) ∷ [])
        (given q.product (given (Bounds.mul-inverse_positive fractions (positive-whole d h)) none)) (var 3 :* var 2) (var 0) refl

-- ---- the trapezia
trapezium_area-natural : (foot head lower upper : ℕ) → foot ≤ head → natural ((lower + upper) * (head - foot)) ≡ trapezium_area (natural lower) (natural foot) (natural upper) (natural head)
trapezium_area-natural foot head lower upper h = natural-mul (lower + upper) (head - foot) ∙ ap₂ ◌⊗◌ (natural-add lower upper) (natural-sub head foot h)

natural-thrice_moment : (foot head lower upper : ℕ)
    → natural (thrice_moment foot head lower upper) ≡ natural foot ⊗ (natural 2 ⊗ natural lower ⊕ natural upper) ⊕ natural head ⊗ (natural lower ⊕ natural 2 ⊗ natural upper)
natural-thrice_moment foot head lower upper = natural-add (foot * (2 * lower + upper)) (head * (lower + 2 * upper))
    ∙ ap₂ ◌⊕◌ (natural-mul foot (2 * lower + upper) ∙ ap (λ x. natural foot ⊗ x) (natural-add (2 * lower) upper ∙ ap (λ x. x ⊕ natural upper) (natural-mul 2 lower)))
    (natural-mul head (lower + 2 * upper) ∙ ap (λ x. natural head ⊗ x) (natural-add lower (2 * upper) ∙ ap (λ x. natural lower ⊕ x) (natural-mul 2 upper)))

trapezium_moment-natural : (foot head lower upper : ℕ) → foot ≤ head
    → natural (thrice_moment foot head lower upper * (head - foot)) ≡ trapezium_moment (natural lower) (natural foot) (natural upper) (natural head)
trapezium_moment-natural foot head lower upper h = natural-mul (thrice_moment foot head lower upper) (head - foot) ∙ ap₂ ◌⊗◌ (natural-thrice_moment foot head lower upper) (natural-sub head foot h)

natural-breadth_at : (foot head lower upper draft : ℕ) → foot ≤ draft → draft ≤ head
    → natural (breadth_at foot head lower upper draft) ≡ natural lower ⊗ (natural head ⊖ natural draft) ⊕ natural upper ⊗ (natural draft ⊖ natural foot)
natural-breadth_at foot head lower upper draft h k = natural-add (lower * (head - draft)) (upper * (draft - foot))
    ∙ ap₂ ◌⊕◌ (natural-mul lower (head - draft) ∙ ap (λ x. natural lower ⊗ x) (natural-sub head draft k)) (natural-mul upper (draft - foot) ∙ ap (λ x. natural upper ⊗ x) (natural-sub draft foot h))

-- two points by natural numbers
pub record AreNeighbours (p q : Point) (foot head lower upper : ℕ) : Type 0 where
  pub heights : (pos foot ≡ p.z) × (pos head ≡ q.z)
  pub breadths : (pos lower ≡ p.y) × (pos upper ≡ q.y)

module _ (p q : Point) (rest : List Point) (draft foot head lower upper : ℕ) (n : AreNeighbours p q foot head lower upper) where
  p-positive : NonNegative (whole p.y)
  p-positive = subst (λ y. NonNegative (whole y)) n.breadths.0 (nonnegative-whole lower)

  q-positive : NonNegative (whole q.y)
  q-positive = subst (λ y. NonNegative (whole y)) n.breadths.1 (nonnegative-whole upper)

  -- a strip below the draft
  module _ (rises : foot < head) (under : head ≤ draft) where
    pub area-passed : section_area (p ∷ q ∷ rest) draft ≡ natural ((lower + upper) * (head - foot)) ⊕ section_area (q ∷ rest) draft
    area-passed = section_area-below draft p q rest p-positive q-positive (omega (arith, ints, n.heights)) (omega (arith, ints, n.heights)) (omega (arith, ints, n.heights))
        ∙ ap (λ x. x ⊕ section_area (q ∷ rest) draft) (sym named ∙ sym (trapezium_area-natural foot head lower upper (omega arith)))
      where
        named : trapezium_area (natural lower) (natural foot) (natural upper) (natural head) ≡ trapezium_area (whole p.y) (whole p.z) (whole q.y) (whole q.z)
        named = ap₂ (λ y z. trapezium_area (whole y) (whole z) (natural upper) (natural head)) n.breadths.0 n.heights.0 ∙ ap₂ (λ u w. trapezium_area (whole p.y) (whole p.z) (whole u) (whole w)) n.breadths.1 n.heights.1

    pub moment-passed : natural 3 ⊗ section_moment (p ∷ q ∷ rest) draft ≡ natural (thrice_moment foot head lower upper * (head - foot)) ⊕ natural 3 ⊗ section_moment (q ∷ rest) draft
    moment-passed = section_moment-below draft p q rest p-positive q-positive (omega (arith, ints, n.heights)) (omega (arith, ints, n.heights)) (omega (arith, ints, n.heights))
        ∙ ap (λ x. x ⊕ natural 3 ⊗ section_moment (q ∷ rest) draft) (sym named ∙ sym (trapezium_moment-natural foot head lower upper (omega arith)))
      where
        named : trapezium_moment (natural lower) (natural foot) (natural upper) (natural head) ≡ trapezium_moment (whole p.y) (whole p.z) (whole q.y) (whole q.z)
        named = ap₂ (λ y z. trapezium_moment (whole y) (whole z) (natural upper) (natural head)) n.breadths.0 n.heights.0 ∙ ap₂ (λ u w. trapezium_moment (whole p.y) (whole p.z) (whole u) (whole w)) n.breadths.1 n.heights.1

  -- the strip that the draft cuts
  module _ (rises : Rises (λ p. p.z) (q ∷ rest)) (under : foot < draft) (over : draft < head) where
    rise : natural (head - foot) ≡ whole q.z ⊖ whole p.z
    rise = natural-sub head foot (omega arith) ∙ ap₂ (λ w z. whole w ⊖ whole z) n.heights.1 n.heights.0

    full : natural (breadth_at foot head lower upper foot) ≡ whole p.y ⊗ (whole q.z ⊖ whole p.z)
    full = natural-breadth_at foot head lower upper foot (omega arith) (omega arith)
        ∙ ring fraction_ring (natural foot ∷ natural head ∷ natural lower ∷ natural upper ∷ []) (var 2 :* (var 1 :- var 0) :+ var 3 :* (var 0 :- var 0)) (var 2 :* (var 1 :- var 0)) refl
        ∙ ap₂ (λ y w. whole y ⊗ (whole w ⊖ natural foot)) n.breadths.0 n.heights.1 ∙ ap (λ z. whole p.y ⊗ (whole q.z ⊖ whole z)) n.heights.0

    middle : Fraction
    middle = Strip.breadth_at (natural draft) (whole p.y) (whole p.z) (whole q.y) (whole q.z)

    part : natural (breadth_at foot head lower upper draft) ≡ middle ⊗ (whole q.z ⊖ whole p.z)
    unfolding middle
    part = natural-breadth_at foot head lower upper draft (omega arith) (omega arith)
        ∙ ap₂ (λ y w. whole y ⊗ (whole w ⊖ natural draft) ⊕ natural upper ⊗ (natural draft ⊖ natural foot)) n.breadths.0 n.heights.1
        ∙ ap₂ (λ u z. whole p.y ⊗ (whole q.z ⊖ natural draft) ⊕ whole u ⊗ (natural draft ⊖ whole z)) n.breadths.1 n.heights.0
        ∙ sym (breadth_law (natural draft) (whole p.y) (whole p.z) (whole q.y) (whole q.z) p-positive q-positive (whole-≺ (omega (arith, ints, n.heights))) (whole-≺ (omega (arith, ints, n.heights))))

    depth : natural (draft - foot) ≡ natural draft ⊖ whole p.z
    depth = natural-sub draft foot (omega arith) ∙ ap (λ z. natural draft ⊖ whole z) n.heights.0

    pub area-cut : section_area (p ∷ q ∷ rest) draft ⊗ natural (head - foot) ≡ natural (area_below foot head lower upper draft)
    unfolding middle
    area-cut = ap₂ ◌⊗◌ (section_area-cut draft p q rest p-positive q-positive rises (omega (arith, ints, n.heights)) (omega (arith, ints, n.heights))) rise
        ∙ ring fraction_ring (whole p.y ∷ whole p.z ∷ middle ∷ natural draft ∷ whole q.z ∷ [])
        (((var 0 :+ var 2) :* (var 3 :- var 1)) :* (var 4 :- var 1)) ((var 0 :* (var 4 :- var 1) :+ var 2 :* (var 4 :- var 1)) :* (var 3 :- var 1)) refl
        ∙ sym (natural-mul (breadth_at foot head lower upper foot + breadth_at foot head lower upper draft) (draft - foot)
        ∙ ap₂ ◌⊗◌ (natural-add (breadth_at foot head lower upper foot) (breadth_at foot head lower upper draft) ∙ ap₂ ◌⊕◌ full part) depth)

    pub moment-cut : (natural 3 ⊗ section_moment (p ∷ q ∷ rest) draft) ⊗ natural (head - foot)
        ≡ natural (moment_below foot head lower upper draft)
    unfolding middle
    moment-cut = ap₂ ◌⊗◌ (section_moment-cut draft p q rest p-positive q-positive rises (omega (arith, ints, n.heights)) (omega (arith, ints, n.heights))) rise
        ∙ ring fraction_ring (whole p.y ∷ whole p.z ∷ middle ∷ natural draft ∷ whole q.z ∷ natural 2 ∷ [])
        (((var 1 :* (var 5 :* var 0 :+ var 2) :+ var 3 :* (var 0 :+ var 5 :* var 2)) :* (var 3 :- var 1)) :* (var 4 :- var 1))
        ((var 1 :* (var 5 :* (var 0 :* (var 4 :- var 1)) :+ var 2 :* (var 4 :- var 1)) :+ var 3 :* (var 0 :* (var 4 :- var 1) :+ var 5 :* (var 2 :* (var 4 :- var 1)))) :* (var 3 :- var 1)) refl
        ∙ sym (trapezium_moment-natural foot draft (breadth_at foot head lower upper foot) (breadth_at foot head lower upper draft) (omega arith)
        ∙ ap₂ (λ y z. trapezium_moment y z (natural (breadth_at foot head lower upper draft)) (natural draft)) full (ap whole n.heights.0)
        ∙ ap (λ v. trapezium_moment (whole p.y ⊗ (whole q.z ⊖ whole p.z)) (whole p.z) v (natural draft)) part)
