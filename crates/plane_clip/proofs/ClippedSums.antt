-- The triangles that a triangle is clipped to make up the same as the pieces that it is cut into.
use mathlib.Core.Path.{◌≡◌, refl, sym, ◌∙◌, ap, ap₂}
use mathlib.Core.List.{List, [], ◌∷◌}
use mathlib.Core.Bool.{Bool, true, false}
use lib.IntN.{ℤ}
use Rattle.exact_algebra.specs.Expression.{var, unit, number, ◌:+◌, ◌:-◌, ◌:*◌, opposite}
use Rattle.exact_algebra.specs.OrderedField.{Sign, below, level, above}
use Rattle.exact_algebra.proofs.Ring.{ring, ring_from, none, given}
use Rattle.exact_algebra.proofs.Fraction.{Fraction, nought, ◌⊕◌, ◌⊖◌, inverse, sign, fractions, fraction_ring}
use Rattle.exact_algebra.proofs.DividedDifference as Over
use Rattle.exact_algebra.proofs.WetForm as Form
use Rattle.exact_algebra.proofs.Whole.{whole}
use mathlib.Core.Logic.{◌≢◌}
use Rattle.hull_model.specs.FaceParts.{parts_between}
use Rattle.hull_model.specs.Flooded.{cut_by, forward_of, aft_of}
use Rattle.hull_model.specs.Fractions.{sum_over}
use Rattle.hull_model.specs.TriangleCut.{Triangle, triangle, are_opposite, is_above}
use Rattle.hull_model.specs.TriangleSums.{on, Function, IsAlternating, Splits, value, MakeUpTheSame}
use Rattle.hull_model.specs.Waterplane.{Position}
use Rattle.hull_model.proofs.CutInduction.{inside}
use Rattle.hull_model.proofs.ShareSplits.{sum_over-one, sum_over-none}
use Rattle.hull_model.proofs.EdgeSplits.{IsLinearFunction, AddsUpInside, swap_last, same_first, same_ends}
use Rattle.hull_model.proofs.CrossingPoints.{Differ, part, cross, differ_turned, cross-first}
use Rattle.hull_model.proofs.KeptPart.{tip, kept_part, part_by}
use Rattle.hull_model.proofs.PartSums.{sum_over-flat_map, aft_linear, forward_linear, inside_edges, aft_part, aft_part-alternating, aft_part-adds, parts-sum}
use Rattle.plane_clip.specs.Clipped.{meets, clip_by, clip_with, clip_forward, clip_aft, clipped}

true-ne-false : true ≡ false → ⊥
true-ne-false h = cc

sum_over-two : {A : Type 0} (f : A → Fraction) (x y : A) → sum_over f (x ∷ y ∷ []) ≡ f x ⊕ f y
unfolding sum_over
sum_over-two f x y = ring fraction_ring (f x ∷ f y ∷ []) (var 0 :+ (var 1 :+ number 0)) (var 0 :+ var 1) refl

-- one test for a sign, written twice
same_test : (s : Sign) → is_above s ≡ Over.is_above s
same_test above = refl
same_test level = refl
same_test below = refl

module _ (d : Position → Fraction) where
  abbrev without : Position → Position → Position → List (Triangle Position)
  without a b c = triangle (cross d a b) b c ∷ triangle (cross d a b) c (cross d a c) ∷ []

  abbrev tip_of : Position → Position → Position → List (Triangle Position)
  tip_of a b c = triangle a (cross d a b) (cross d a c) ∷ []

  -- the same with the crossing points of the function
  abbrev cut_to : Bool → Bool → Bool → Position → Position → Position → List (Triangle Position)
  cut_to true true true a b c = triangle a b c ∷ []
  cut_to true true false a b c = without c a b
  cut_to true false true a b c = without b c a
  cut_to false true true a b c = without a b c
  cut_to true false false a b c = tip_of a b c
  cut_to false true false a b c = tip_of b c a
  cut_to false false true a b c = tip_of c a b
  cut_to false false false a b c = []

  up : (s : Sign) → is_above s ≡ true → s ≡ above
  up above h = refl
  up level h = absurd (true-ne-false (sym h))
  up below h = absurd (true-ne-false (sym h))

  -- the crossing points are those at a place, between corners on different sides
  module _ (at : ℤ) (same : (p q : Position) → Differ d p q → cross d p q ≡ meets at p q) where
    differ : (p q : Position) → is_above (sign (d p)) ≡ true → is_above (sign (d q)) ≡ false → Differ d p q
    differ p q e f = Form.differ_over fractions (d p) (d q) (sym (same_test (sign (d p))) ∙ e) (sym (same_test (sign (d q))) ∙ f)

    over_under : (p q : Position) → is_above (sign (d p)) ≡ true → is_above (sign (d q)) ≡ false → cross d p q ≡ meets at p q
    over_under p q e f = same p q (differ p q e f)

    under_over : (p q : Position) → is_above (sign (d p)) ≡ false → is_above (sign (d q)) ≡ true → cross d p q ≡ meets at p q
    under_over p q e f = same p q (differ_turned d q p (differ q p f e))

    without_at : (a b c : Position) → cross d a b ≡ meets at a b → cross d a c ≡ meets at a c → without a b c ≡ triangle (meets at a b) b c ∷ triangle (meets at a b) c (meets at a c) ∷ []
    without_at a b c e f = λ i. triangle (e i) b c ∷ triangle (e i) c (f i) ∷ []

    tip_at_place : (a b c : Position) → cross d a b ≡ meets at a b → cross d a c ≡ meets at a c → tip_of a b c ≡ triangle a (meets at a b) (meets at a c) ∷ []
    tip_at_place a b c e f = λ i. triangle a (e i) (f i) ∷ []

    at_place : (u v w : Bool) (a b c : Position) → is_above (sign (d a)) ≡ u → is_above (sign (d b)) ≡ v → is_above (sign (d c)) ≡ w → cut_to u v w a b c ≡ clip_by u v w at a b c
    at_place true true true a b c e f g = refl
    at_place true true false a b c e f g = without_at c a b (under_over c a g e) (under_over c b g f)
    at_place true false true a b c e f g = without_at b c a (under_over b c f g) (under_over b a f e)
    at_place false true true a b c e f g = without_at a b c (under_over a b e f) (under_over a c e g)
    at_place true false false a b c e f g = tip_at_place a b c (over_under a b e f) (over_under a c e g)
    at_place false true false a b c e f g = tip_at_place b c a (over_under b c f g) (over_under b a f e)
    at_place false false true a b c e f g = tip_at_place c a b (over_under c a g e) (over_under c b g f)
    at_place false false false a b c e f g = refl

module _ (d : Position → Fraction) (d_linear : IsLinearFunction d) (k : Function) (alternating : IsAlternating k) (adds : AddsUpInside k) where
  open alternating use {swap, roll}

  -- the corner a is below
  without_below : (a b c : Position) → Splits k (cross d a b) a b → Splits k (cross d a c) a c → sum_over (value k) (without d a b c) ≡ k a b c ⊖ tip d k a b c
  without_below a b c s r = sum_over-two (value k) (triangle X b c) (triangle X c Z)
      ∙ ring_from fraction_ring (k X b c ∷ k X c Z ∷ k a b c ∷ k a X c ∷ k a c X ∷ k a Z X ∷ k Z c X ∷ k a X Z ∷ k Z X c ∷ k X Z c ∷ [])
      ((opposite unit, var 2, var 3 :+ var 0) ∷ (opposite unit, var 4, opposite (var 3)) ∷ (unit, var 4, var 5 :+ var 6) ∷ (unit, var 5, opposite (var 7)) ∷ (unit, var 6, opposite (var 8)) ∷ (opposite unit, var 9, opposite (var 8)) ∷ (unit, var 1, opposite (var 9)) ∷ [])
      (given (s c) (given (swap_last k alternating a X c) (given (r X) (given (swap_last k alternating a X Z) (given (swap_last k alternating Z X c) (given (swap Z X c) (given (swap_last k alternating X Z c) none)))))))
      (var 0 :+ var 1) (var 2 :- var 7) refl
    where
      X : Position
      X = cross d a b

      Z : Position
      Z = cross d a c

  -- a is at depth 0
  without_level : (a b c : Position) → d a ≡ nought → sum_over (value k) (without d a b c) ≡ k a b c ⊖ tip d k a b c
  without_level a b c e = sum_over-two (value k) (triangle (cross d a b) b c) (triangle (cross d a b) c (cross d a c))
      ∙ (λ i. k (cross-first d a b e i) b c ⊕ k (cross-first d a b e i) c (cross-first d a c e i))
      ∙ ring_from fraction_ring (k a b c ∷ k a c a ∷ k a a a ∷ []) ((unit, var 1, number 0) ∷ (unit, var 2, number 0) ∷ [])
      (given (same_ends k alternating a c) (given (same_first k alternating a a) none)) (var 0 :+ var 1) (var 0 :- var 2) refl
      ∙ ap₂ (λ p q. k a b c ⊖ k a p q) (sym (cross-first d a b e)) (sym (cross-first d a c e))

  opposite_splits : (a b : Position) → sign (d a) ≡ below → sign (d b) ≡ above → Splits k (cross d a b) a b
  opposite_splits a b e f = adds (part d a b) (inside (cut_by d) d_linear a b (ap₂ are_opposite e f)) a b

  without-sum : (a b c : Position) → is_above (sign (d a)) ≡ false → is_above (sign (d b)) ≡ true → is_above (sign (d c)) ≡ true → sum_over (value k) (without d a b c) ≡ k a b c ⊖ tip d k a b c
  without-sum a b c e f g = go (sign (d a)) refl e
    where
      go : (s : Sign) → sign (d a) ≡ s → is_above s ≡ false → sum_over (value k) (without d a b c) ≡ k a b c ⊖ tip d k a b c
      go below h x = without_below a b c (opposite_splits a b h (up d (sign (d b)) f)) (opposite_splits a c h (up d (sign (d c)) g))
      go level h x = without_level a b c (fractions.laws.nought_from_sign (d a) h)
      go above h x = absurd (true-ne-false x)

  by_sides : (u v w : Bool) (a b c : Position) → is_above (sign (d a)) ≡ u → is_above (sign (d b)) ≡ v → is_above (sign (d c)) ≡ w
      → sum_over (value k) (cut_to d u v w a b c) ≡ part_by u v w (k a b c) (tip d k a b c) (tip d k b c a) (tip d k c a b)
  by_sides true true true a b c e f g = sum_over-one (value k) (triangle a b c)
  by_sides true true false a b c e f g = without-sum c a b g e f ∙ ap (λ x. x ⊖ tip d k c a b) (sym (roll c a b))
  by_sides true false true a b c e f g = without-sum b c a f g e ∙ ap (λ x. x ⊖ tip d k b c a) (roll a b c)
  by_sides false true true a b c e f g = without-sum a b c e f g
  by_sides true false false a b c e f g = sum_over-one (value k) (triangle a (cross d a b) (cross d a c))
  by_sides false true false a b c e f g = sum_over-one (value k) (triangle b (cross d b c) (cross d b a))
  by_sides false false true a b c e f g = sum_over-one (value k) (triangle c (cross d c a) (cross d c b))
  by_sides false false false a b c e f g = sum_over-none (value k)

  clip-sum : (at : ℤ) → ((p q : Position) → Differ d p q → cross d p q ≡ meets at p q) → (t : Triangle Position) → sum_over (value k) (clip_with d at t) ≡ kept_part d k t.a t.b t.c
  unfolding kept_part
  clip-sum at same t = ap (sum_over (value k)) (sym (at_place d at same _ _ _ t.a t.b t.c refl refl refl)) ∙ by_sides _ _ _ t.a t.b t.c refl refl refl
      ∙ (λ i. part_by (same_test (sign (d t.a)) i) (same_test (sign (d t.b)) i) (same_test (sign (d t.c)) i) (k t.a t.b t.c) (tip d k t.a t.b t.c) (tip d k t.b t.c t.a) (tip d k t.c t.a t.b))

-- crossing points are the same whichever side counts as above
aft_same : (at : ℤ) (p q : Position) → Differ (aft_of at) p q → cross (aft_of at) p q ≡ meets at p q
aft_same at p q n = ap (λ (t : Fraction). on t p q) (ring_from fraction_ring (p.x ∷ q.x ∷ whole at ∷ r ∷ s ∷ [])
    (((var 0 :- var 2) :* var 4, ((var 2 :- var 0) :- (var 2 :- var 1)) :* var 3, unit) ∷ ((var 0 :- var 2) :* var 3, ((var 0 :- var 2) :- (var 1 :- var 2)) :* var 4, unit) ∷ [])
    (given (fractions.laws.mul-inverse _ n) (given (fractions.laws.mul-inverse _ differ) none)) ((var 2 :- var 0) :* var 3) ((var 0 :- var 2) :* var 4) refl)
  where
    r : Fraction
    r = inverse ((whole at ⊖ p.x) ⊖ (whole at ⊖ q.x))

    s : Fraction
    s = inverse ((p.x ⊖ whole at) ⊖ (q.x ⊖ whole at))

    differ : (p.x ⊖ whole at) ⊖ (q.x ⊖ whole at) ≢ nought
    differ e = n (ring_from fraction_ring (p.x ∷ q.x ∷ whole at ∷ []) ((opposite unit, (var 0 :- var 2) :- (var 1 :- var 2), number 0) ∷ []) (given e none) ((var 2 :- var 0) :- (var 2 :- var 1)) (number 0) refl)

-- what a triangle is clipped to makes up its part between two places along the ship
pub clipped_make_up : (aft fore : ℤ) (t : Triangle Position) → MakeUpTheSame (clipped aft fore t) (parts_between aft fore t)
unfolding clipped
clipped_make_up aft fore t k alternating adds =
    sum_over-flat_map (value k) (clip_aft fore) (clip_forward aft t)
    ∙ (λ i. sum_over (λ p. clip-sum (aft_of fore) (aft_linear fore) k alternating (inside_edges aft fore k alternating adds) fore (aft_same fore) p i) (clip_forward aft t))
    ∙ clip-sum (forward_of aft) (forward_linear aft) (aft_part fore k) (aft_part-alternating aft fore k alternating adds) (aft_part-adds aft fore k alternating adds) aft (λ p q n. refl) t
    ∙ sym (parts-sum aft fore k alternating adds t)
