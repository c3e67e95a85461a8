-- What the ends of an enclosure say of what it contains.
use Rattle.std.proofs.Common.{◌≡◌, refl, sym, ◌∙◌, ℤ, pos, ◌^◌, ◌≤ℤ◌, ◌<ℤ◌, [], ◌∷◌}
use Rattle.exact_algebra.specs.OrderedField.{above}
use Rattle.exact_algebra.specs.Expression.{var, unit, number, ◌:+◌, ◌:-◌, ◌:*◌, opposite}
use Rattle.exact_algebra.proofs.Fraction.{Fraction, nought, ◌⊕◌, ◌⊖◌, negative, sign, fractions, fraction_ring, ◌≼◌, ◌≺◌}
use Rattle.exact_algebra.proofs.Order as Order
use Rattle.exact_algebra.proofs.Order.{order_from, strict_order_from, no_more, at_most, scaled, equal}
use Rattle.exact_algebra.proofs.Ring.{ring}
use Rattle.exact_algebra.proofs.Span.{ContainsFraction, in_units, positive-unit}
use Rattle.exact_algebra.proofs.Whole.{whole, whole-nought, whole-≼, whole-≺, positive-whole_above}
use Rattle.outward_interval.specs.Widths.{IsNarrow}
use Rattle.damage_box.specs.Reading.{IsNeed}

-- in units
nought_in : in_units 20 nought ≡ nought
nought_in = ring fraction_ring (whole (pos (2 ^ 20)) ∷ []) (number 0 :* var 0) (number 0) refl

out : (x y : Fraction) → in_units 20 x ≼ in_units 20 y → x ≼ y
out x y h = Order.≼_cancel fractions (positive-unit 20) h

out_strict : (x y : Fraction) → in_units 20 x ≺ in_units 20 y → x ≺ y
out_strict x y h = Order.≺_cancel fractions (positive-unit 20) h

to_nought : {z : ℤ} → z ≤ℤ pos 0 → whole z ≼ in_units 20 nought
to_nought h = Order.≼_trans fractions (whole-≼ h) (Order.≼_same fractions (whole-nought ∙ sym nought_in))

below_positive : {z : ℤ} → z <ℤ pos 0 → sign (negative (whole z)) ≡ above
below_positive {z} h = Order.positive_same fractions (sym (same (whole z))) (Order.≺-≼_trans fractions (whole-≺ h) (Order.≼_same fractions whole-nought))
  where
    same : (x : Fraction) → nought ⊖ x ≡ negative x
    same x = ring fraction_ring (x ∷ []) (number 0 :- var 0) (opposite (var 0)) refl

from_nought : {z : ℤ} → pos 0 ≤ℤ z → in_units 20 nought ≼ whole z
from_nought h = Order.≼_trans fractions (Order.≼_same fractions nought_in) (Order.≼_trans fractions (Order.≼_same fractions (sym whole-nought)) (whole-≼ h))

-- ---- the sign of what is enclosed
pub at_most_nought : {lo hi : ℤ} {q : Fraction} → ContainsFraction 20 lo hi q → hi ≤ℤ pos 0 → q ≼ nought
at_most_nought {lo} {hi} {q} e h = out q nought (Order.≼_trans fractions e.to (to_nought h))

pub at_least_nought : {lo hi : ℤ} {q : Fraction} → ContainsFraction 20 lo hi q → pos 0 ≤ℤ lo → nought ≼ q
at_least_nought {lo} {hi} {q} e h = out nought q (Order.≼_trans fractions (from_nought h) e.from)

pub below_nought : {lo hi : ℤ} {q : Fraction} → ContainsFraction 20 lo hi q → hi <ℤ pos 0 → q ≺ nought
below_nought {lo} {hi} {q} e h = out_strict q nought (Order.≼-≺_trans fractions e.to (Order.≺-≼_trans fractions (whole-≺ h) (Order.≼_trans fractions (Order.≼_same fractions whole-nought) (Order.≼_same fractions (sym nought_in)))))

pub above_nought : {lo hi : ℤ} {q : Fraction} → ContainsFraction 20 lo hi q → pos 0 <ℤ lo → nought ≺ q
above_nought {lo} {hi} {q} e h = out_strict nought q (Order.≼-≺_trans fractions (Order.≼_same fractions (nought_in ∙ sym whole-nought)) (Order.≺-≼_trans fractions (whole-≺ h) e.from))

-- ---- where a sign isn't shown, the quantity is within a width of 0
pub above_bound : {lo hi : ℤ} {q w : Fraction} → ContainsFraction 20 lo hi q → IsNarrow 20 w lo hi → pos 0 <ℤ hi → negative w ≺ q
above_bound {lo} {hi} {q} {w} e n h = out_strict (negative w) q (strict_order_from fractions (whole lo ∷ whole hi ∷ q ∷ w ∷ whole (pos (2 ^ 20)) ∷ [])
    ((unit, var 0, var 2 :* var 4) ∷ (unit, var 1 :- var 0, var 3 :* var 4) ∷ []) (at_most e.from (at_most n.width no_more))
    (var 1) (positive-whole_above h) (opposite (var 3) :* var 4) (var 2 :* var 4) refl)

pub below_bound : {lo hi : ℤ} {q w : Fraction} → ContainsFraction 20 lo hi q → IsNarrow 20 w lo hi → lo <ℤ pos 0 → q ≺ w
below_bound {lo} {hi} {q} {w} e n h = out_strict q w (strict_order_from fractions (whole lo ∷ whole hi ∷ q ∷ w ∷ whole (pos (2 ^ 20)) ∷ [])
    ((unit, var 2 :* var 4, var 1) ∷ (unit, var 1 :- var 0, var 3 :* var 4) ∷ []) (at_most e.to (at_most n.width no_more))
    (opposite (var 0)) (below_positive h) (var 2 :* var 4) (var 3 :* var 4) refl)

-- ---- the need
pub enough : {lo hi up : ℤ} {q need : Fraction} → IsNeed need up → ContainsFraction 20 lo hi q → up ≤ℤ lo → need ≼ q
enough {lo} {hi} {up} {q} {need} n e h = out need q (Order.≼_trans fractions (n.reached lo h) e.from)

pub short : {lo hi up : ℤ} {q w need : Fraction} → IsNeed need up → ContainsFraction 20 lo hi q → IsNarrow 20 w lo hi → lo <ℤ up → q ≺ need ⊕ w
short {lo} {hi} {up} {q} {w} {need} n e k h = out_strict q (need ⊕ w) (strict_order_from fractions (whole lo ∷ whole hi ∷ q ∷ w ∷ whole (pos (2 ^ 20)) ∷ need ∷ [])
    ((unit, var 2 :* var 4, var 1) ∷ (unit, var 1 :- var 0, var 3 :* var 4) ∷ []) (at_most e.to (at_most k.width no_more))
    (var 5 :* var 4 :- var 0) (n.missed lo h) (var 2 :* var 4) ((var 5 :+ var 3) :* var 4) refl)
