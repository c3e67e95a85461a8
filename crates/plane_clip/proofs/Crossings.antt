-- Depths of whole units: the sides of the corners, and the parts of the edges that cross the water.
use Prim.Native.Nat.{ℕ, zero, suc, ◌+◌, ◌<◌}
use native.Mathlib.Omega.{arith}
use mathlib.Core.Path.{◌≡◌, refl, sym, ◌∙◌, ap}
use mathlib.Core.List.{[], ◌∷◌}
use mathlib.Core.Bool.{true, false}
use lib.IntN.{ℤ, pos, negsuc}
use Rattle.std.specs.Prelude.{unsigned_abs}
use Rattle.exact_algebra.specs.Expression.{var, unit, number, ◌:+◌, ◌:-◌, ◌:*◌, opposite}
use Rattle.exact_algebra.specs.OrderedField.{Sign, below, level, above, sign_product}
use Rattle.exact_algebra.proofs.Ring.{ring_from, none, given}
use Rattle.exact_algebra.proofs.Fraction.{Fraction, ◌⊗◌, ◌⊖◌, negative, inverse, sign, sign_of, fractions, fraction_ring}
use Rattle.exact_algebra.proofs.Whole.{whole, whole-negative, whole-nought, sign-whole}
use Rattle.exact_algebra.proofs.Order as Order
use Rattle.exact_algebra.proofs.WetForm as Form
use Rattle.exact_algebra.proofs.DividedDifference.{is_above}
use Rattle.plane_clip.specs.Rounded.{is_over}
use Rattle.plane_clip.proofs.RoundedBounds.{N, IsPartOf}

true-ne-false : true ≡ false → ⊥
true-ne-false h = cc

times_above : (s : Sign) → sign_product s above ≡ s
times_above below = refl
times_above level = refl
times_above above = refl

is_above-sign_of : (x : ℤ) → is_above (sign_of x) ≡ is_over x
is_above-sign_of (pos zero) = refl
is_above-sign_of (pos (suc n)) = refl
is_above-sign_of (negsuc n) = refl

-- X is the depth of x units, of which p make 1
pub over-whole : (X p : Fraction) (x : ℤ) → sign p ≡ above → X ⊗ p ≡ whole x → Form.over fractions X ≡ is_over x
over-whole X p x h e = ap is_above (sym (Order.sign-product fractions X p ∙ ap (sign_product (sign X)) h ∙ times_above (sign X)) ∙ ap sign e ∙ sign-whole x) ∙ is_above-sign_of x

pub whole-over : (x : ℤ) → is_over x ≡ true → whole x ≡ N (unsigned_abs x)
whole-over (pos zero) e = absurd (true-ne-false (sym e))
whole-over (pos (suc n)) e = refl
whole-over (negsuc n) e = absurd (true-ne-false (sym e))

pub whole-under : (x : ℤ) → is_over x ≡ false → whole x ≡ negative (N (unsigned_abs x))
whole-under (pos zero) e = ring_from fraction_ring (N 0 ∷ []) ((number 2, var 0, number 0) ∷ []) (given whole-nought none) (var 0) (opposite (var 0)) refl
whole-under (pos (suc n)) e = absurd (true-ne-false e)
whole-under (negsuc n) e = whole-negative (pos (suc n))

some_over : (x : ℤ) → is_over x ≡ true → 0 < unsigned_abs x
some_over (pos zero) e = absurd (true-ne-false (sym e))
some_over (pos (suc n)) e = omega arith
some_over (negsuc n) e = absurd (true-ne-false (sym e))

left_some : (m n : ℕ) → 0 < m → 0 < m + n
left_some m n h = omega (arith, h)

right_some : (m n : ℕ) → 0 < n → 0 < m + n
right_some m n h = omega (arith, h)

-- an edge whose ends lie on both sides: the part of it before the crossing point
pub record Crossing (X Y : Fraction) (x y : ℤ) : Type 0 where
  pub t : Fraction
  pub is_part : Form.IsPart fractions X Y t
  pub part_of : IsPartOf (unsigned_abs x) (unsigned_abs y) t
  pub some : 0 < unsigned_abs x + unsigned_abs y

module _ (X Y p : Fraction) (x y : ℤ) (positive : sign p ≡ above) (at_x : X ⊗ p ≡ whole x) (at_y : Y ⊗ p ≡ whole y) where
  T : Fraction
  T = X ⊗ inverse (X ⊖ Y)

  pub crossing_down : is_over x ≡ true → is_over y ≡ false → Crossing X Y x y
  unfolding T
  crossing_down f g = record {
    t = X ⊗ inverse (X ⊖ Y);
    is_part = i;
    part_of = ring_from fraction_ring (X ∷ Y ∷ p ∷ T ∷ N (unsigned_abs x) ∷ N (unsigned_abs y) ∷ [])
        ((var 2, var 3 :* (var 0 :- var 1), var 0) ∷ (unit :- var 3, var 0 :* var 2, var 4) ∷ (var 3, var 1 :* var 2, opposite (var 5)) ∷ []) (given i (given (at_x ∙ whole-over x f) (given (at_y ∙ whole-under y g) none))) (var 3 :* (var 4 :+ var 5)) (var 4) refl;
    some = left_some (unsigned_abs x) (unsigned_abs y) (some_over x f);
  }
    where
      i : Form.IsPart fractions X Y (X ⊗ inverse (X ⊖ Y))
      i = Form.is_part fractions X Y (Form.differ_over fractions X Y (over-whole X p x positive at_x ∙ f) (over-whole Y p y positive at_y ∙ g))

  pub crossing_up : is_over x ≡ false → is_over y ≡ true → Crossing X Y x y
  unfolding T
  crossing_up f g = record {
    t = X ⊗ inverse (X ⊖ Y);
    is_part = i;
    part_of = ring_from fraction_ring (X ∷ Y ∷ p ∷ T ∷ N (unsigned_abs x) ∷ N (unsigned_abs y) ∷ [])
        ((opposite (var 2), var 3 :* (var 0 :- var 1), var 0) ∷ (var 3 :- unit, var 0 :* var 2, opposite (var 4)) ∷ (opposite (var 3), var 1 :* var 2, var 5) ∷ []) (given i (given (at_x ∙ whole-under x f) (given (at_y ∙ whole-over y g) none))) (var 3 :* (var 4 :+ var 5)) (var 4) refl;
    some = right_some (unsigned_abs x) (unsigned_abs y) (some_over y g);
  }
    where
      i : Form.IsPart fractions X Y (X ⊗ inverse (X ⊖ Y))
      i = Form.is_part fractions X Y (Form.differ_under fractions X Y (over-whole X p x positive at_x ∙ f) (over-whole Y p y positive at_y ∙ g))
