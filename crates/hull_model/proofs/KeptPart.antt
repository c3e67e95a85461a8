-- What is summed of an alternating function over the part of a triangle where a linear function of positions is above 0, by the sides of the
-- corners: it is alternating, and adds up at each point of an edge.
use native.Mathlib.Omega.{arith}
use mathlib.Core.Path.{◌≡◌, refl, sym, ◌∙◌, ap, ap₂, subst}
use mathlib.Core.List.{[], ◌∷◌}
use mathlib.Core.Logic.{◌≢◌}
use mathlib.Core.Bool.{Bool, true, false}
use Rattle.exact_algebra.specs.Expression.{var, unit, number, ◌:+◌, ◌:-◌, ◌:*◌, opposite}
use Rattle.exact_algebra.specs.OrderedField.{Sign, below, level, above, turned}
use Rattle.exact_algebra.proofs.Ring.{ring, ring_from, none, given}
use Rattle.exact_algebra.proofs.Fraction.{Fraction, nought, one, ◌⊕◌, ◌⊖◌, negative, sign, fractions, fraction_ring}
use Rattle.exact_algebra.proofs.Order as Order
use Rattle.exact_algebra.proofs.WetForm as Form
use Rattle.exact_algebra.proofs.DividedDifference as Over
use Rattle.hull_model.specs.Waterplane.{Position}
use Rattle.hull_model.specs.TriangleCut.{are_opposite}
use Rattle.hull_model.specs.Flooded.{cut_by}
use Rattle.hull_model.proofs.CutInduction.{IsInside, inside}
use Rattle.hull_model.specs.TriangleSums.{on, Function, IsAlternating, Splits, AddsUp}
use Rattle.hull_model.proofs.EdgeSplits.{on-turned, AddsUpInside, swap_last, same_first, splits_turned, IsLinearFunction}
use Rattle.hull_model.proofs.CrossingPoints.{Differ, part, cross, is_part, differ_turned, cross-turned, cross-along, along_turned, cross-first, cross-last, cross-behind, before, on-edge, fan_part, cross-fan, across_part, cross-across}

abbrev over : Fraction → Bool
over x = Over.is_above (sign x)

true-ne-false : true ≡ false → ⊥
true-ne-false h = cc

level-ne-above : level ≡ above → ⊥
level-ne-above h = cc

level-ne-below : level ≡ below → ⊥
level-ne-below h = cc

above_over : (s : Sign) → Over.is_above s ≡ true → s ≡ above
above_over above e = refl
above_over below e = absurd (true-ne-false (sym e))
above_over level e = absurd (true-ne-false (sym e))

-- a depth that isn't above
opposite_over : (x : Fraction) → over x ≡ false → sign (negative x) ≢ below
opposite_over x e = λ b. go (sign x) e (sym (fractions.laws.sign-negative x) ∙ b)
  where
    go : (s : Sign) → Over.is_above s ≡ false → turned s ≡ below → ⊥
    go above e b = true-ne-false e
    go level e b = level-ne-below b
    go below e b = cc

over_opposite : (x : Fraction) → sign (negative x) ≢ below → over x ≡ false
over_opposite x n = go (sign x) refl
  where
    go : (s : Sign) → sign x ≡ s → Over.is_above s ≡ false
    go above e = absurd (n (fractions.laws.sign-negative x ∙ ap turned e))
    go level e = refl
    go below e = refl

-- the sum over the part, by whether the corners are above: where one is alone on its side, tip is what is cut off at it
abbrev pub part_by : Bool → Bool → Bool → Fraction → Fraction → Fraction → Fraction → Fraction
part_by true true true whole tip_a tip_b tip_c = whole
part_by true true false whole tip_a tip_b tip_c = whole ⊖ tip_c
part_by true false true whole tip_a tip_b tip_c = whole ⊖ tip_b
part_by false true true whole tip_a tip_b tip_c = whole ⊖ tip_a
part_by true false false whole tip_a tip_b tip_c = tip_a
part_by false true false whole tip_a tip_b tip_c = tip_b
part_by false false true whole tip_a tip_b tip_c = tip_c
part_by false false false whole tip_a tip_b tip_c = nought

module _ (d : Position → Fraction) (k : Function) where
  -- the part at the corner a, up to the crossing points of the edges from it
  abbrev pub tip : Function
  tip a b c = k a (cross d a b) (cross d a c)

  unfoldable pub kept_part : Function
  kept_part a b c = part_by (over (d a)) (over (d b)) (over (d c)) (k a b c) (tip a b c) (tip b c a) (tip c a b)

  by_sides : (u v w : Bool) (a b c : Position) → over (d a) ≡ u → over (d b) ≡ v → over (d c) ≡ w → kept_part a b c ≡ part_by u v w (k a b c) (tip a b c) (tip b c a) (tip c a b)
  unfolding kept_part
  by_sides u v w a b c e f g = λ i. part_by (e i) (f i) (g i) (k a b c) (tip a b c) (tip b c a) (tip c a b)

  none_by : (u v w : Bool) (x p q r : Fraction) → x ≡ nought → p ≡ nought → q ≡ nought → r ≡ nought → part_by u v w x p q r ≡ nought
  none_by true true true x p q r e f g h = e
  none_by true true false x p q r e f g h = ap₂ ◌⊖◌ e h ∙ fractions.laws.ring.add_negative nought
  none_by true false true x p q r e f g h = ap₂ ◌⊖◌ e g ∙ fractions.laws.ring.add_negative nought
  none_by false true true x p q r e f g h = ap₂ ◌⊖◌ e f ∙ fractions.laws.ring.add_negative nought
  none_by true false false x p q r e f g h = f
  none_by false true false x p q r e f g h = g
  none_by false false true x p q r e f g h = h
  none_by false false false x p q r e f g h = refl

  -- nothing in all, and nothing at any corner
  pub kept_part-none : (a b c : Position) → k a b c ≡ nought → tip a b c ≡ nought → tip b c a ≡ nought → tip c a b ≡ nought → kept_part a b c ≡ nought
  unfolding kept_part
  kept_part-none a b c = none_by (over (d a)) (over (d b)) (over (d c)) (k a b c) (tip a b c) (tip b c a) (tip c a b)

  -- no corner above
  pub kept_part-dry : (a b c : Position) → sign (d a) ≢ above → sign (d b) ≢ above → sign (d c) ≢ above → kept_part a b c ≡ nought
  kept_part-dry a b c x y z = by_sides false false false a b c (dry (d a) x) (dry (d b) y) (dry (d c) z)
    where
      dry : (x : Fraction) → sign x ≢ above → over x ≡ false
      dry x n = go (sign x) refl
        where
          go : (s : Sign) → sign x ≡ s → Over.is_above s ≡ false
          go above e = absurd (n e)
          go level e = refl
          go below e = refl

  module _ (alternating : IsAlternating k) where
    open alternating use {swap, roll}

    tip-turned : (a b c : Position) → tip a c b ≡ negative (tip a b c)
    tip-turned a b c = swap_last k alternating a (cross d a b) (cross d a c)

    -- ---- the order of the corners
    swap_by : (u v w : Bool) (x x' p q r p' q' r' : Fraction) → x' ≡ negative x → p' ≡ negative p → q' ≡ negative q → r' ≡ negative r → part_by v u w x' q' p' r' ≡ negative (part_by u v w x p q r)
    swap_by true true true x x' p q r p' q' r' e f g h = e
    swap_by true true false x x' p q r p' q' r' e f g h = ap₂ ◌⊖◌ e h ∙ ring fraction_ring (x ∷ r ∷ []) (opposite (var 0) :- opposite (var 1)) (opposite (var 0 :- var 1)) refl
    swap_by true false true x x' p q r p' q' r' e f g h = ap₂ ◌⊖◌ e g ∙ ring fraction_ring (x ∷ q ∷ []) (opposite (var 0) :- opposite (var 1)) (opposite (var 0 :- var 1)) refl
    swap_by false true true x x' p q r p' q' r' e f g h = ap₂ ◌⊖◌ e f ∙ ring fraction_ring (x ∷ p ∷ []) (opposite (var 0) :- opposite (var 1)) (opposite (var 0 :- var 1)) refl
    swap_by true false false x x' p q r p' q' r' e f g h = f
    swap_by false true false x x' p q r p' q' r' e f g h = g
    swap_by false false true x x' p q r p' q' r' e f g h = h
    swap_by false false false x x' p q r p' q' r' e f g h = ring fraction_ring [] (number 0) (opposite (number 0)) refl

    roll_by : (u v w : Bool) (x x' p q r : Fraction) → x' ≡ x → part_by v w u x' q r p ≡ part_by u v w x p q r
    roll_by true true true x x' p q r e = e
    roll_by true true false x x' p q r e = ap (λ y. y ⊖ r) e
    roll_by true false true x x' p q r e = ap (λ y. y ⊖ q) e
    roll_by false true true x x' p q r e = ap (λ y. y ⊖ p) e
    roll_by true false false x x' p q r e = refl
    roll_by false true false x x' p q r e = refl
    roll_by false false true x x' p q r e = refl
    roll_by false false false x x' p q r e = refl

    pub kept_part-alternating : IsAlternating kept_part
    unfolding kept_part
    kept_part-alternating = record {
      swap = λ a b c. swap_by (over (d a)) (over (d b)) (over (d c)) (k a b c) (k b a c) (tip a b c) (tip b c a) (tip c a b) (tip a c b) (tip b a c) (tip c b a)
          (swap a b c) (tip-turned a b c) (sym (turned_back (tip b a c) (tip b c a) (tip-turned b a c))) (tip-turned c a b);
      roll = λ a b c. roll_by (over (d a)) (over (d b)) (over (d c)) (k a b c) (k b c a) (tip a b c) (tip b c a) (tip c a b) (roll a b c);
    }
      where
        turned_back : (x y : Fraction) → y ≡ negative x → negative y ≡ x
        turned_back x y e = ring_from fraction_ring (x ∷ y ∷ []) ((opposite unit, var 1, opposite (var 0)) ∷ []) (given e none) (opposite (var 1)) (var 0) refl

    -- ---- no corner below
    differ : (a b : Position) → over (d a) ≡ true → over (d b) ≡ false → Differ d a b
    differ a b e f = Form.differ_over fractions (d a) (d b) e f

    tip-level : (a b c : Position) → d a ≡ nought → tip a b c ≡ nought
    tip-level a b c e = ap (λ p. k a p (cross d a c)) (cross-first d a b e) ∙ same_first k alternating a (cross d a c)

    tip-whole : (a b c : Position) → over (d a) ≡ true → sign (d b) ≡ level → sign (d c) ≡ level → tip a b c ≡ k a b c
    tip-whole a b c e f g = ap₂ (k a) (cross-last d a b (differ a b e (ap Over.is_above f)) (at_nought b f)) (cross-last d a c (differ a c e (ap Over.is_above g)) (at_nought c g))
      where
        at_nought : (p : Position) → sign (d p) ≡ level → d p ≡ nought
        at_nought p h = fractions.laws.nought_from_sign (d p) h

    less_none : (x y : Fraction) → y ≡ nought → x ⊖ y ≡ x
    less_none x y e = ring_from fraction_ring (x ∷ y ∷ []) ((opposite unit, var 1, number 0) ∷ []) (given e none) (var 0 :- var 1) (var 0) refl

    pub kept_part-whole : (a b c : Position) → sign (d a) ≢ below → sign (d b) ≢ below → sign (d c) ≢ below
        → (sign (d a) ≡ level → sign (d b) ≡ level → sign (d c) ≡ level → k a b c ≡ nought) → kept_part a b c ≡ k a b c
    unfolding kept_part
    kept_part-whole a b c x y z flat = go (sign (d a)) (sign (d b)) (sign (d c)) refl refl refl x y z
      where
        none_at : (p q r : Position) → sign (d p) ≡ level → tip p q r ≡ nought
        none_at p q r e = tip-level p q r (fractions.laws.nought_from_sign (d p) e)

        go : (p q r : Sign) → sign (d a) ≡ p → sign (d b) ≡ q → sign (d c) ≡ r → p ≢ below → q ≢ below → r ≢ below
            → part_by (Over.is_above p) (Over.is_above q) (Over.is_above r) (k a b c) (tip a b c) (tip b c a) (tip c a b) ≡ k a b c
        go above above above e f g l m n = refl
        go above above level e f g l m n = less_none (k a b c) (tip c a b) (none_at c a b g)
        go above level above e f g l m n = less_none (k a b c) (tip b c a) (none_at b c a f)
        go level above above e f g l m n = less_none (k a b c) (tip a b c) (none_at a b c e)
        go above level level e f g l m n = tip-whole a b c (ap Over.is_above e) f g
        go level above level e f g l m n = tip-whole b c a (ap Over.is_above f) g e ∙ roll a b c
        go level level above e f g l m n = tip-whole c a b (ap Over.is_above g) e f ∙ sym (roll c a b)
        go level level level e f g l m n = sym (flat e f g)
        go below q r e f g l m n = absurd (l refl)
        go above below r e f g l m n = absurd (m refl)
        go level below r e f g l m n = absurd (m refl)
        go above above below e f g l m n = absurd (n refl)
        go above level below e f g l m n = absurd (n refl)
        go level above below e f g l m n = absurd (n refl)
        go level level below e f g l m n = absurd (n refl)

    -- ---- a split of an edge
    module _ (d_linear : IsLinearFunction d) (adds : AddsUp k) where
      -- the part at a corner off the edge
      fan : (t : Fraction) (a b c : Position) → Differ d c a → Differ d c b → Differ d c (on t a b) → tip c a b ≡ tip c a (on t a b) ⊕ tip c (on t a b) b
      fan t a b c n l o = sym (roll c A B)
          ∙ subst (λ (p : Position). k A B c ≡ k A p c ⊕ k p B c) (cross-fan d d_linear t a b c n l o) (adds (fan_part d d_linear t a b c) A B c)
          ∙ ap₂ ◌⊕◌ (roll c A M) (roll c M B)
        where
          A : Position
          A = cross d c a

          B : Position
          B = cross d c b

          M : Position
          M = cross d c (on t a b)

      -- the part at an end of the edge
      module _ (t : Fraction) (a b c : Position) (ab : Differ d a b) (ac : Differ d a c) (mb : Differ d (on t a b) b) (mc : Differ d (on t a b) c) where
        abbrev m : Position
        m = on t a b

        abbrev X : Position
        X = cross d a b

        abbrev Y : Position
        Y = cross d a c

        abbrev Z : Position
        Z = cross d m c

        -- by the points of depth 0 on the edges and on the line from m to c
        corners_at : d a ≢ nought → k a X Y ≡ (k a m c ⊖ k c Y Z) ⊕ k m X Z
        corners_at n = ring_from fraction_ring
            (k a X Y ∷ k a m Y ∷ k m X Y ∷ k X Y m ∷ k X Z m ∷ k Z Y m ∷ k m X Z ∷ k m Z Y ∷ k a c m ∷ k a Y m ∷ k Y c m ∷ k a m c ∷ k m Y c ∷ k m c Y ∷ k Z c Y ∷ k c Y Z ∷ [])
            ((unit, var 0, var 1 :+ var 2) ∷ (opposite unit, var 3, var 2) ∷ (unit, var 3, var 4 :+ var 5) ∷ (unit, var 4, var 6) ∷ (unit, var 5, var 7) ∷ (opposite unit, var 8, opposite (var 11)) ∷ (unit, var 8, var 9 :+ var 10)
            ∷ (unit, var 9, opposite (var 1)) ∷ (unit, var 10, var 12) ∷ (unit, var 15, var 14) ∷ (opposite unit, var 13, var 7 :+ var 14) ∷ (unit, var 13, opposite (var 12)) ∷ [])
            (given (subst (λ (p : Position). k a X Y ≡ k a p Y ⊕ k p X Y) (on-edge d d_linear t a b ab n) (adds (before d d_linear t a b) a X Y))
            (given (roll m X Y)
            (given (subst (λ (p : Position). k X Y m ≡ k X p m ⊕ k p Y m) (cross-across d d_linear t a b c ab ac mc n) (adds (across_part d d_linear t a b c) X Y m))
            (given (roll m X Z) (given (roll m Z Y) (given (swap_last k alternating a m c) (given (adds (part d a c) a c m)
            (given (swap_last k alternating a m Y) (given (roll m Y c) (given (roll Z c Y) (given (adds (part d m c) m c Y) (given (swap_last k alternating m Y c) none))))))))))))
            (var 0) ((var 11 :- var 15) :+ var 6) refl

        -- a itself is at depth 0
        corner_at_level : d a ≡ nought → k a X Y ≡ (k a m c ⊖ k c Y Z) ⊕ k m X Z
        corner_at_level e = ap (λ (p : Position). k a p Y) (cross-first d a b e) ∙ same_first k alternating a Y
            ∙ ring_from fraction_ring (k a m c ∷ k m c a ∷ k m Z a ∷ k Z c a ∷ k m a Z ∷ k c a Z ∷ [])
            ((unit, var 1, var 0) ∷ (opposite unit, var 1, var 2 :+ var 3) ∷ (opposite unit, var 2, opposite (var 4)) ∷ (unit, var 5, var 3) ∷ [])
            (given (roll a m c) (given (adds (part d m c) m c a) (given (swap_last k alternating m a Z) (given (roll Z c a) none)))) (number 0) ((var 0 :- var 5) :+ var 4) refl
            ∙ ap₂ (λ (p q : Position). (k a m c ⊖ k c p Z) ⊕ k m q Z) (sym (cross-first d a c e)) (sym (cross-first d a b e))

        corners_by : (s : Sign) → sign (d a) ≡ s → k a X Y ≡ (k a m c ⊖ k c Y Z) ⊕ k m X Z
        corners_by level e = corner_at_level (fractions.laws.nought_from_sign (d a) e)
        corners_by above e = corners_at (λ z. level-ne-above (sym fractions.laws.sign-nought ∙ sym (ap sign z) ∙ e))
        corners_by below e = corners_at (λ z. level-ne-below (sym fractions.laws.sign-nought ∙ sym (ap sign z) ∙ e))

        across : tip a b c ≡ (k a m c ⊖ tip c a m) ⊕ tip m b c
        across = corners_by (sign (d a)) refl
            ∙ ap₂ (λ x y. (k a m c ⊖ x) ⊕ y) (ap₂ (k c) (sym (cross-turned d a c ac)) (sym (cross-turned d m c mc))) (ap (λ (p : Position). k m p Z) (sym (cross-behind d d_linear t a b ab mb)))

      across_turned : (t : Fraction) (a b c : Position) → Differ d b a → Differ d b c → Differ d (on t a b) a → Differ d (on t a b) c
          → tip b a c ≡ (k b (on t a b) c ⊖ tip c b (on t a b)) ⊕ tip (on t a b) a c
      across_turned t a b c ba bc = subst (λ (p : Position). Differ d p a → Differ d p c → tip b a c ≡ (k b p c ⊖ tip c b p) ⊕ tip p a c) (on-turned t a b) (across (one ⊖ t) b a c ba bc)

      -- ---- a point strictly inside
      module _ (t : Fraction) (inside : IsInside t) (a b : Position) where
        abbrev mid : Position
        mid = on t a b

        both_over : over (d a) ≡ true → over (d b) ≡ true → over (d mid) ≡ true
        both_over e f = ap Over.is_above (Order.positive_same fractions (d_linear t a b)
            (Order.positive-add fractions (Order.positive-mul fractions inside.1 (above_over (sign (d a)) e)) (Order.nonnegative_positive fractions (Order.positive-mul fractions inside.0 (above_over (sign (d b)) f)))))

        none_over : over (d a) ≡ false → over (d b) ≡ false → over (d mid) ≡ false
        none_over e f = over_opposite (d mid) (Order.nonnegative_same fractions
            (ring_from fraction_ring (t ∷ d a ∷ d b ∷ d mid ∷ []) ((opposite unit, var 3, (unit :- var 0) :* var 1 :+ var 0 :* var 2) ∷ []) (given (d_linear t a b) none)
            (opposite (var 3)) ((unit :- var 0) :* opposite (var 1) :+ var 0 :* opposite (var 2)) refl)
            (Order.nonnegative-add fractions (Order.nonnegative-mul fractions (Order.nonnegative_positive fractions inside.1) (opposite_over (d a) e)) (Order.nonnegative-mul fractions (Order.nonnegative_positive fractions inside.0) (opposite_over (d b) f))))

        -- by the sides of a, b, the point and c
        Sum : Bool → Bool → Bool → Bool → Position → Type 0
        Sum u v w z c = part_by u v z (k a b c) (tip a b c) (tip b c a) (tip c a b)
            ≡ part_by u w z (k a mid c) (tip a mid c) (tip mid c a) (tip c a mid) ⊕ part_by w v z (k mid b c) (tip mid b c) (tip b c mid) (tip c mid b)

        sum_by : (u v w z : Bool) (c : Position) → over (d a) ≡ u → over (d b) ≡ v → over (d mid) ≡ w → over (d c) ≡ z → Sum u v w z c → kept_part a b c ≡ kept_part a mid c ⊕ kept_part mid b c
        unfolding Sum
        sum_by u v w z c e f g h s = by_sides u v z a b c e f h ∙ s ∙ sym (ap₂ ◌⊕◌ (by_sides u w z a mid c e g h) (by_sides w v z mid b c g f h))

        apart : (p q : Position) → over (d p) ≡ true → over (d q) ≡ false → Differ d p q
        apart p q e f = differ p q e f

        apart_turned : (p q : Position) → over (d p) ≡ false → over (d q) ≡ true → Differ d p q
        apart_turned p q e f = differ_turned d q p (differ q p f e)

        over_sum : (z : Bool) (c : Position) → over (d a) ≡ true → over (d b) ≡ true → over (d mid) ≡ true → over (d c) ≡ z → Sum true true true z c
        unfolding Sum
        over_sum true c e f g h = adds t a b c
        over_sum false c e f g h = ring_from fraction_ring (k a b c ∷ k a mid c ∷ k mid b c ∷ tip c a b ∷ tip c a mid ∷ tip c mid b ∷ [])
            ((unit, var 0, var 1 :+ var 2) ∷ (opposite unit, var 3, var 4 :+ var 5) ∷ [])
            (given (adds t a b c) (given (fan t a b c (apart_turned c a h e) (apart_turned c b h f) (apart_turned c mid h g)) none))
            (var 0 :- var 3) ((var 1 :- var 4) :+ (var 2 :- var 5)) refl

        under_sum : (z : Bool) (c : Position) → over (d a) ≡ false → over (d b) ≡ false → over (d mid) ≡ false → over (d c) ≡ z → Sum false false false z c
        unfolding Sum
        under_sum true c e f g h = fan t a b c (apart c a h e) (apart c b h f) (apart c mid h g)
        under_sum false c e f g h = ring fraction_ring [] (number 0) (number 0 :+ number 0) refl

        down_sum : (w z : Bool) (c : Position) → over (d a) ≡ true → over (d b) ≡ false → over (d mid) ≡ w → over (d c) ≡ z → Sum true false w z c
        unfolding Sum
        down_sum true true c e f g h = ring_from fraction_ring (k a b c ∷ k a mid c ∷ k mid b c ∷ tip b c a ∷ tip b c mid ∷ [])
            ((unit, var 0, var 1 :+ var 2) ∷ (unit, var 4, var 3) ∷ [])
            (given (adds t a b c) (given (ap (k b (cross d b c)) (along_turned d d_linear t a b (apart_turned b a f e) (apart_turned b mid f g))) none))
            (var 0 :- var 3) (var 1 :+ (var 2 :- var 4)) refl
        down_sum true false c e f g h = across t a b c (apart a b e f) (apart a c e h) (apart mid b g f) (apart mid c g h)
        down_sum false true c e f g h = ring_from fraction_ring
            (k a b c ∷ k a mid c ∷ k mid b c ∷ tip b c a ∷ tip b a c ∷ k b mid c ∷ tip c b mid ∷ tip mid a c ∷ tip mid c a ∷ tip c mid b ∷ [])
            ((unit, var 0, var 1 :+ var 2) ∷ (opposite unit, var 3, opposite (var 4)) ∷ (unit, var 4, (var 5 :- var 6) :+ var 7) ∷ (unit, var 5, opposite (var 2)) ∷ (opposite unit, var 6, opposite (var 9)) ∷ (unit, var 8, opposite (var 7)) ∷ [])
            (given (adds t a b c) (given (tip-turned b a c) (given (across_turned t a b c (apart_turned b a f e) (apart_turned b c f h) (apart_turned mid a g e) (apart_turned mid c g h))
            (given (swap mid b c) (given (tip-turned c mid b) (given (tip-turned mid a c) none))))))
            (var 0 :- var 3) ((var 1 :- var 8) :+ var 9) refl
        down_sum false false c e f g h = ap (λ (p : Position). k a p (cross d a c)) (sym (cross-along d d_linear t a b (apart a b e f) (apart a mid e g)))
            ∙ ring fraction_ring (tip a mid c ∷ []) (var 0) (var 0 :+ number 0) refl

        splits_over : over (d a) ≡ true → over (d b) ≡ true → Splits kept_part mid a b
        splits_over e f c = sum_by true true true (over (d c)) c e f (both_over e f) refl (over_sum (over (d c)) c e f (both_over e f) refl)

        splits_under : over (d a) ≡ false → over (d b) ≡ false → Splits kept_part mid a b
        splits_under e f c = sum_by false false false (over (d c)) c e f (none_over e f) refl (under_sum (over (d c)) c e f (none_over e f) refl)

        splits_down : over (d a) ≡ true → over (d b) ≡ false → Splits kept_part mid a b
        splits_down e f c = sum_by true false (over (d mid)) (over (d c)) c e f refl refl (down_sum (over (d mid)) (over (d c)) c e f refl refl)

      inside_turned : (t : Fraction) → IsInside t → IsInside (one ⊖ t)
      inside_turned t i = (i.1, Order.positive_same fractions (ring fraction_ring (t ∷ []) (unit :- (unit :- var 0)) (var 0) refl) i.0)

      -- what is kept adds up at each point strictly inside an edge
      pub kept_part-adds : AddsUpInside kept_part
      kept_part-adds t inside a b = go (over (d a)) (over (d b)) refl refl
        where
          go : (u v : Bool) → over (d a) ≡ u → over (d b) ≡ v → Splits kept_part (on t a b) a b
          go true true e f = splits_over t inside a b e f
          go false false e f = splits_under t inside a b e f
          go true false e f = splits_down t inside a b e f
          go false true e f = splits_turned kept_part kept_part-alternating (on t a b) b a
              (subst (λ (p : Position). Splits kept_part p b a) (on-turned t a b) (splits_down (one ⊖ t) (inside_turned t inside) b a f e))

    -- ---- a split at the crossing point of an edge, where the function adds up strictly inside edges
    module _ (d_linear : IsLinearFunction d) (adds_inside : AddsUpInside k) where
      cross-level : (a b : Position) → Differ d a b → d (cross d a b) ≡ nought
      cross-level a b n = ring_from fraction_ring (d a ∷ d b ∷ part d a b ∷ d (cross d a b) ∷ [])
          ((unit, var 3, (unit :- var 2) :* var 0 :+ var 2 :* var 1) ∷ (opposite unit, var 2 :* (var 0 :- var 1), var 0) ∷ [])
          (given (d_linear (part d a b) a b) (given (is_part d a b n) none)) (var 3) (number 0) refl

      inside_edge : (a b : Position) → are_opposite (sign (d a)) (sign (d b)) ≡ true → IsInside (part d a b)
      inside_edge a b e = inside (cut_by d) d_linear a b e

      module _ (a b : Position) (up : sign (d a) ≡ above) (low : sign (d b) ≡ below) where
        abbrev at : Position
        at = cross d a b

        a_over : over (d a) ≡ true
        a_over = ap Over.is_above up

        b_under : over (d b) ≡ false
        b_under = ap Over.is_above low

        at_level : d at ≡ nought
        at_level = cross-level a b (differ a b a_over b_under)

        at_under : over (d at) ≡ false
        at_under = ap over at_level ∙ ap Over.is_above fractions.laws.sign-nought

        crossing_sum : (z : Bool) (c : Position) → over (d c) ≡ z → part_by true false z (k a b c) (tip a b c) (tip b c a) (tip c a b)
            ≡ part_by true false z (k a at c) (tip a at c) (tip at c a) (tip c a at) ⊕ part_by false false z (k at b c) (tip at b c) (tip b c at) (tip c at b)
        crossing_sum true c h = ring_from fraction_ring
            (k a b c ∷ k a at c ∷ k at b c ∷ tip b c a ∷ tip at c a ∷ tip c at b ∷ k b c at ∷ k b Q at ∷ k Q c at ∷ k c at Q ∷ [])
            ((unit, var 0, var 1 :+ var 2) ∷ (opposite unit, var 6, var 2) ∷ (unit, var 6, var 7 :+ var 8) ∷ (opposite unit, var 3, var 7) ∷ (unit, var 4, number 0) ∷ (opposite unit, var 5, var 9) ∷ (opposite unit, var 9, var 8) ∷ [])
            (given (adds_inside (part d a b) (inside_edge a b (ap₂ are_opposite up low)) a b c) (given (roll at b c) (given (adds_inside (part d b c) (inside_edge b c (ap₂ are_opposite low (above_over (sign (d c)) h))) b c at)
            (given (ap (k b Q) (cross-turned d a b (differ a b a_over b_under))) (given (tip-level at c a at_level)
            (given (ap₂ (k c) (cross-last d c at (differ c at h at_under) at_level) (cross-turned d b c (differ_turned d c b (differ c b h b_under)))) (given (roll Q c at) none)))))))
            (var 0 :- var 3) ((var 1 :- var 4) :+ var 5) refl
          where
            Q : Position
            Q = cross d b c
        crossing_sum false c h = ap (λ (p : Position). k a p (cross d a c)) (sym (cross-last d a at (differ a at a_over at_under) at_level))
            ∙ ring fraction_ring (tip a at c ∷ []) (var 0) (var 0 :+ number 0) refl

        splits_crossing : Splits kept_part at a b
        splits_crossing c = by_sides true false (over (d c)) a b c a_over b_under refl ∙ crossing_sum (over (d c)) c refl
            ∙ sym (ap₂ ◌⊕◌ (by_sides true false (over (d c)) a at c a_over at_under refl) (by_sides false false (over (d c)) at b c at_under b_under refl))

      -- what is kept adds up at the crossing point of each edge that has its ends on opposite sides
      pub kept_part-splits : (a b : Position) → are_opposite (sign (d a)) (sign (d b)) ≡ true → Splits kept_part (cross d a b) a b
      kept_part-splits a b e = go (sign (d a)) (sign (d b)) refl refl e
        where
          go : (p q : Sign) → sign (d a) ≡ p → sign (d b) ≡ q → are_opposite p q ≡ true → Splits kept_part (cross d a b) a b
          go above below f g e = splits_crossing a b f g
          go below above f g e = splits_turned kept_part kept_part-alternating (cross d a b) b a
              (subst (λ (p : Position). Splits kept_part p b a) (cross-turned d a b (differ_turned d b a (differ b a (ap Over.is_above g) (ap Over.is_above f)))) (splits_crossing b a g f))
          go above above f g e = absurd (true-ne-false (sym e))
          go above level f g e = absurd (true-ne-false (sym e))
          go below below f g e = absurd (true-ne-false (sym e))
          go below level f g e = absurd (true-ne-false (sym e))
          go level q f g e = absurd (never q e)
            where
              never : (q : Sign) → are_opposite level q ≡ true → ⊥
              never q e = grind arith
