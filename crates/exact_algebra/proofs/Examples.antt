-- One worked use each of `ring`, `ring_from`, `order_from` and a bound of a product. A variable's number is its place in
-- the list of values.
use mathlib.Core.Path.{◌≡◌, refl}
use mathlib.Core.List.{[], ◌∷◌}
use mathlib.Core.Logic.{◌≢◌}
use Rattle.exact_algebra.specs.Expression.{var, unit, number, ◌:+◌, ◌:-◌, ◌:*◌, opposite}
use Rattle.exact_algebra.proofs.Ring.{ring, ring_from, none, given}
use Rattle.exact_algebra.proofs.Fraction.{Fraction, nought, one, ◌⊕◌, ◌⊗◌, ◌⊖◌, negative, inverse, fractions, fraction_ring, ◌≼◌}
use Rattle.exact_algebra.proofs.Order as Order
use Rattle.exact_algebra.proofs.Order.{order_from, no_more, at_most, scaled}

-- (a + b) (a - b) = a a - b b
pub difference_of_squares : (a b : Fraction) → (a ⊕ b) ⊗ (a ⊖ b) ≡ a ⊗ a ⊖ b ⊗ b
difference_of_squares a b = ring fraction_ring (a ∷ b ∷ []) ((var 0 :+ var 1) :* (var 0 :- var 1)) (var 0 :* var 0 :- var 1 :* var 1) refl

-- where a line goes from a to b, it is nought at t = -a / (b - a): with r for the inverse, (1 - t) a + t b = -a ((b - a) r - 1)
pub nought_at_crossing : (a b : Fraction) → b ⊖ a ≢ nought →
    let t = negative a ⊗ inverse (b ⊖ a) in (one ⊖ t) ⊗ a ⊕ t ⊗ b ≡ nought
nought_at_crossing a b n =
    let t = opposite (var 0) :* var 2 in
    ring_from fraction_ring (a ∷ b ∷ inverse (b ⊖ a) ∷ []) ((opposite (var 0), (var 1 :- var 0) :* var 2, unit) ∷ [])
    (given (fractions.laws.mul-inverse (b ⊖ a) n) none) ((unit :- t) :* var 0 :+ t :* var 1) (number 0) refl

-- between a and b, x x is at most (a + b) x - a b: the difference is (x - a) (b - x)
pub square_below_chord : (a b x : Fraction) → a ≼ x → x ≼ b → x ⊗ x ≼ (a ⊕ b) ⊗ x ⊖ a ⊗ b
square_below_chord a b x h k = order_from fractions (a ∷ b ∷ x ∷ []) ((var 2 :- var 0, var 2, var 1) ∷ [])
    (scaled h k no_more) (var 2 :* var 2) ((var 0 :+ var 1) :* var 2 :- var 0 :* var 1) refl

-- a rectangle with sides up to b and d has an area of at most b d
pub area_at_most : (b d x y : Fraction) → nought ≼ x → x ≼ b → nought ≼ y → y ≼ d → x ⊗ y ≼ b ⊗ d
area_at_most b d x y x0 xb y0 yd =
    Order.≼-mul_both fractions (Order.nonnegative_from fractions x0) (Order.nonnegative_from fractions (Order.≼_trans fractions y0 yd)) xb yd
