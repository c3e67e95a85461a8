-- The law on triangles for the mean of the product of two functions that are linear between points, and for each of the five kinds of
-- mean, which are such means.
use Prim.Native.Nat.{ℕ, zero, suc}
use native.Mathlib.Omega.{arith}
use mathlib.Core.Path.{◌≡◌, refl, sym, ◌∙◌, ap, ap₂}
use mathlib.Core.List.{[], ◌∷◌}
use mathlib.Core.Logic.{◌≢◌, ◌⊎◌, inl, inr}
use mathlib.Core.Bool.{true, false}
use lib.IntN.{pos}
use Rattle.exact_algebra.specs.Expression.{Expression, var, unit, number, ◌:+◌, ◌:-◌, ◌:*◌, opposite}
use Rattle.exact_algebra.specs.OrderedField.{Sign, below, level, above}
use Rattle.exact_algebra.proofs.Ring.{ring, ring_from, none, given}
use Rattle.exact_algebra.proofs.Fraction.{Fraction, nought, one, ◌⊕◌, ◌⊗◌, ◌⊖◌, inverse, sign, fractions, fraction_ring, ◌≼◌}
use Rattle.exact_algebra.proofs.Whole.{whole, whole-add, whole-mul, whole-one, positive-whole}
use Rattle.exact_algebra.proofs.Order as Order
use Rattle.exact_algebra.proofs.Bounds as Bounds
use Rattle.exact_algebra.proofs.WetForm as Form
use Rattle.exact_algebra.proofs.DividedDifference as Over
use Rattle.hull_model.specs.TriangleCut.{Triangle, triangle}
use Rattle.hull_model.specs.WetMean.{Place, with_depths, share_of, wet_mean, linear_mean, product_mean, coordinate}
use Rattle.hull_model.specs.TriangleLaws.{wet_part, between, NoneBelow, NoneAbove, SomeAbove, IsCrossingAt, tip, ObeysLaws}
use Rattle.hull_model.proofs.ShareSplits.{share_first, share_middle, share_last, share-swapped, share-turned}
use Rattle.hull_model.proofs.WetSum.{IsLinearOn, N12, valued, form_at, twelve_at, form_first, form_middle, form_last, wet_part-form, wet_mean-part, wet_mean-form}

pub twelve-twelfth : N12 ⊗ inverse N12 ≡ one
twelve-twelfth = Bounds.mul-inverse_positive fractions (positive-whole 12 (omega arith))

-- x and y whose multiples by 12 are equal
pub by_twelve : (x y : Fraction) → x ⊗ N12 ≡ y ⊗ N12 → x ≡ y
by_twelve x y e = ring_from fraction_ring (x ∷ y ∷ N12 ∷ inverse N12 ∷ []) ((var 1 :- var 0, var 2 :* var 3, unit) ∷ (var 3, var 0 :* var 2, var 1 :* var 2) ∷ [])
    (given twelve-twelfth (given e none)) (var 0) (var 1) refl

over-above : (s : Sign) → s ≡ above → Over.is_above s ≡ true
over-above s e = ap Over.is_above e

over-not_above : (s : Sign) → s ≢ above → Over.is_above s ≡ false
over-not_above above n = absurd (n refl)
over-not_above below n = refl
over-not_above level n = refl

not_all_level : (p q r : Sign) → (p ≡ above) ⊎ (q ≡ above) ⊎ (r ≡ above) → Over.is_above p ≡ false → Over.is_above q ≡ false → Over.is_above r ≡ false → ⊥
not_all_level p q r (inl h) e f g = true-ne-false (sym (ap Over.is_above h) ∙ e)
  where
    true-ne-false : true ≡ false → ⊥
    true-ne-false h = cc
not_all_level p q r (inr (inl h)) e f g = true-ne-false (sym (ap Over.is_above h) ∙ f)
  where
    true-ne-false : true ≡ false → ⊥
    true-ne-false h = cc
not_all_level p q r (inr (inr h)) e f g = true-ne-false (sym (ap Over.is_above h) ∙ g)
  where
    true-ne-false : true ≡ false → ⊥
    true-ne-false h = cc

module _ (mean : Triangle Place → Fraction) (f g : Place → Fraction) (f_linear : IsLinearOn f) (g_linear : IsLinearOn g) (is_twelfth : (t : Triangle Place) → mean t ⊗ N12 ≡ twelve_at f g t) where
  abbrev form : Triangle Place → Fraction
  form t = form_at f g t

  abbrev sum : Triangle Place → Fraction
  sum t = wet_part mean t

  known : (t : Triangle Place) → sum t ⊗ N12 ≡ share_of t ⊗ form t
  known t = wet_part-form mean f g f_linear g_linear is_twelfth t

  -- the sums of a whole and of its parts p, of the share t, and q
  added : (t : Fraction) (w p q : Triangle Place) → form w ≡ t ⊗ form p ⊕ (one ⊖ t) ⊗ form q → (share_of p ≡ t ⊗ share_of w) × (share_of q ≡ (one ⊖ t) ⊗ share_of w) → sum w ≡ sum p ⊕ sum q
  added t w p q m s = by_twelve (sum w) (sum p ⊕ sum q) (ring_from fraction_ring (sum w ∷ sum p ∷ sum q ∷ N12 ∷ share_of w ∷ share_of p ∷ share_of q ∷ form w ∷ form p ∷ form q ∷ t ∷ [])
      ((unit, var 0 :* var 3, var 4 :* var 7) ∷ (opposite unit, var 1 :* var 3, var 5 :* var 8) ∷ (opposite unit, var 2 :* var 3, var 6 :* var 9) ∷ (var 4, var 7, var 10 :* var 8 :+ (unit :- var 10) :* var 9) ∷ (opposite (var 8), var 5, var 10 :* var 4) ∷ (opposite (var 9), var 6, (unit :- var 10) :* var 4) ∷ [])
      (given (known w) (given (known p) (given (known q) (given m (given s.0 (given s.1 none)))))) (var 0 :* var 3) ((var 1 :+ var 2) :* var 3) refl)

  same_sum : (v w : Triangle Place) → share_of v ≡ share_of w → form v ≡ form w → sum v ≡ sum w
  same_sum v w s e = by_twelve (sum v) (sum w) (known v ∙ ap₂ ◌⊗◌ s e ∙ sym (known w))

  nonnegative : (t : Fraction) → nought ≼ t → sign t ≢ below
  nonnegative t h = Order.nonnegative_from fractions h

  wet : (t : Triangle Place) → NoneBelow t → SomeAbove t → sum t ≡ share_of t ⊗ mean t
  wet t n s = by_twelve (sum t) (share_of t ⊗ mean t) (ring_from fraction_ring (sum t ∷ share_of t ∷ mean t ∷ N12 ∷ form t ∷ twelve_at f g t ∷ [])
      ((unit, var 0 :* var 3, var 1 :* var 4) ∷ (var 1, var 4, var 5) ∷ (opposite (var 1), var 2 :* var 3, var 5) ∷ [])
      (given (known t) (given (Form.form_wet fractions (valued f g t.a) (valued f g t.b) (valued f g t.c) n.0 n.1 n.2 (not_all_level (sign t.a.depth) (sign t.b.depth) (sign t.c.depth) s)) (given (is_twelfth t) none)))
      (var 0 :* var 3) ((var 1 :* var 2) :* var 3) refl)

  dry : (t : Triangle Place) → NoneAbove t → sum t ≡ nought
  dry t n = by_twelve (sum t) nought (ring_from fraction_ring (sum t ∷ share_of t ∷ N12 ∷ form t ∷ [])
      ((unit, var 0 :* var 2, var 1 :* var 3) ∷ (var 1, var 3, number 0) ∷ [])
      (given (known t) (given (Form.form_dry fractions (valued f g t.a) (valued f g t.b) (valued f g t.c) n.0 n.1 n.2) none)) (var 0 :* var 2) (number 0 :* var 2) refl)

  -- the values of both functions at the corners of the tip
  tip-twelve : (t s : Fraction) (w : Triangle Place) → mean (tip t s w) ⊗ N12 ≡ Form.twelve fractions (valued f g w.a) (Form.point fractions t (valued f g w.a) (valued f g w.b)) (Form.point fractions s (valued f g w.a) (valued f g w.c))
  tip-twelve t s w = is_twelfth (tip t s w) ∙ (λ i. Form.twelve fractions (valued f g w.a) (w.a.depth, f_linear t w.a w.b i, g_linear t w.a w.b i) (w.a.depth, f_linear s w.a w.c i, g_linear s w.a w.c i))

  one_corner : (t s h k l : Fraction) → sign h ≡ above → sign k ≢ above → sign l ≢ above → IsCrossingAt t h k → IsCrossingAt s h l → wet_mean mean h k l ≡ (t ⊗ s) ⊗ mean (tip t s (with_depths h k l))
  one_corner t s h k l p q r i j = by_twelve (wet_mean mean h k l) ((t ⊗ s) ⊗ mean T) (ring_from fraction_ring (wet_mean mean h k l ∷ t ∷ s ∷ mean T ∷ N12 ∷ form W ∷ twelve_tip ∷ [])
      ((unit, var 0 :* var 4, var 5) ∷ (unit, var 5, (var 1 :* var 2) :* var 6) ∷ (opposite (var 1 :* var 2), var 3 :* var 4, var 6) ∷ [])
      (given (wet_mean-form mean f g f_linear g_linear is_twelfth h k l) (given (Form.form_one_over fractions t s (valued f g W.a) (valued f g W.b) (valued f g W.c) (over-above (sign h) p) (over-not_above (sign k) q) (over-not_above (sign l) r) i j) (given (tip-twelve t s W) none)))
      (var 0 :* var 4) (((var 1 :* var 2) :* var 3) :* var 4) refl)
    where
      W : Triangle Place
      W = with_depths h k l

      T : Triangle Place
      T = tip t s W

      twelve_tip : Fraction
      twelve_tip = Form.twelve fractions (valued f g W.a) (Form.point fractions t (valued f g W.a) (valued f g W.b)) (Form.point fractions s (valued f g W.a) (valued f g W.c))

  two_corners : (t s h k l : Fraction) → sign h ≢ above → sign k ≡ above → sign l ≡ above → IsCrossingAt t h k → IsCrossingAt s h l → wet_mean mean h k l ≡ mean (with_depths h k l) ⊖ (t ⊗ s) ⊗ mean (tip t s (with_depths h k l))
  two_corners t s h k l p q r i j = by_twelve (wet_mean mean h k l) (mean W ⊖ (t ⊗ s) ⊗ mean T) (ring_from fraction_ring (wet_mean mean h k l ∷ t ∷ s ∷ mean T ∷ N12 ∷ form W ∷ twelve_tip ∷ mean W ∷ twelve_at f g W ∷ [])
      ((unit, var 0 :* var 4, var 5) ∷ (unit, var 5, var 8 :- (var 1 :* var 2) :* var 6) ∷ (var 1 :* var 2, var 3 :* var 4, var 6) ∷ (opposite unit, var 7 :* var 4, var 8) ∷ [])
      (given (wet_mean-form mean f g f_linear g_linear is_twelfth h k l) (given (Form.form_two_over fractions t s (valued f g W.a) (valued f g W.b) (valued f g W.c) (over-not_above (sign h) p) (over-above (sign k) q) (over-above (sign l) r) i j) (given (tip-twelve t s W) (given (is_twelfth W) none))))
      (var 0 :* var 4) ((var 7 :- (var 1 :* var 2) :* var 3) :* var 4) refl)
    where
      W : Triangle Place
      W = with_depths h k l

      T : Triangle Place
      T = tip t s W

      twelve_tip : Fraction
      twelve_tip = Form.twelve fractions (valued f g W.a) (Form.point fractions t (valued f g W.a) (valued f g W.b)) (Form.point fractions s (valued f g W.a) (valued f g W.c))

  pub obeys_laws : ObeysLaws mean
  obeys_laws = record {
    whole = λ h k l. sym (wet_mean-part mean f g f_linear g_linear is_twelfth h k l);
    split_first = λ t a b c low high. added t (triangle a b c) (triangle a (between t a b) c) (triangle (between t a b) b c) (form_first mean f g f_linear g_linear is_twelfth t a b c) (share_first t a b c (nonnegative t low) high);
    split_middle = λ t a b c low high. added t (triangle a b c) (triangle a b (between t a c)) (triangle (between t a c) b c) (form_middle mean f g f_linear g_linear is_twelfth t a b c) (share_middle t a b c (nonnegative t low) high);
    split_last = λ t a b c low high. added t (triangle a b c) (triangle a b (between t b c)) (triangle a (between t b c) c) (form_last mean f g f_linear g_linear is_twelfth t a b c) (share_last t a b c (nonnegative t low) high);
    swapped = λ a b c. same_sum (triangle a b c) (triangle b a c) (share-swapped a b c) (Form.swap fractions (valued f g a) (valued f g b) (valued f g c));
    turned = λ a b c. same_sum (triangle a b c) (triangle a c b) (share-turned a b c) (Form.turn fractions (valued f g a) (valued f g b) (valued f g c));
    all_wet = wet;
    all_dry = dry;
    one_above = one_corner;
    two_above = two_corners;
  }

-- ---- the five kinds of mean
abbrev pub constant : Place → Fraction
constant p = one

pub constant_linear : IsLinearOn constant
constant_linear t p q = ring fraction_ring (t ∷ []) unit ((unit :- var 0) :* unit :+ var 0 :* unit) refl

abbrev pub depth_at : Place → Fraction
depth_at p = p.depth

pub depth_linear : IsLinearOn depth_at
depth_linear t p q = refl

pub coordinate_linear : (n : ℕ) → IsLinearOn (coordinate n)
coordinate_linear zero t p q = refl
coordinate_linear (suc zero) t p q = refl
coordinate_linear (suc (suc n)) t p q = refl

-- numbers as sums of ones
N-three : whole (pos 3) ≡ one ⊕ one ⊕ one
N-three = whole-add (pos 2) (pos 1) ∙ ap₂ ◌⊕◌ (whole-add (pos 1) (pos 1) ∙ ap₂ ◌⊕◌ whole-one whole-one) whole-one

N-four : whole (pos 4) ≡ one ⊕ one ⊕ one ⊕ one
N-four = whole-add (pos 3) (pos 1) ∙ ap₂ ◌⊕◌ N-three whole-one

pub N-twelve : N12 ≡ (one ⊕ one ⊕ one ⊕ one) ⊗ (one ⊕ one ⊕ one)
N-twelve = whole-mul (pos 4) (pos 3) ∙ ap₂ ◌⊗◌ N-four N-three

third-three : whole (pos 3) ⊗ inverse (whole (pos 3)) ≡ one
third-three = Bounds.mul-inverse_positive fractions (positive-whole 3 (omega arith))

abbrev four : Expression
four = unit :+ unit :+ unit :+ unit

abbrev three : Expression
three = unit :+ unit :+ unit

pub share-twelfth : (t : Triangle Place) → one ⊗ N12 ≡ twelve_at constant constant t
share-twelfth t = ring_from fraction_ring (N12 ∷ []) ((unit, var 0, four :* three) ∷ []) (given N-twelve none)
    (unit :* var 0) ((unit :* unit :+ unit :* unit :+ unit :* unit) :+ (unit :+ unit :+ unit) :* (unit :+ unit :+ unit)) refl

pub linear-twelfth : (f : Place → Fraction) (t : Triangle Place) → linear_mean f t ⊗ N12 ≡ twelve_at constant f t
linear-twelfth f t = ring_from fraction_ring (f t.a ∷ f t.b ∷ f t.c ∷ N12 ∷ whole (pos 3) ∷ inverse (whole (pos 3)) ∷ [])
    (((var 0 :+ var 1 :+ var 2) :* var 5, var 3, four :* three) ∷ (opposite (four :* (var 0 :+ var 1 :+ var 2) :* var 5), var 4, three) ∷ (four :* (var 0 :+ var 1 :+ var 2), var 4 :* var 5, unit) ∷ [])
    (given N-twelve (given N-three (given third-three none)))
    ((var 0 :+ var 1 :+ var 2) :* var 5 :* var 3) ((unit :* var 0 :+ unit :* var 1 :+ unit :* var 2) :+ (unit :+ unit :+ unit) :* (var 0 :+ var 1 :+ var 2)) refl

pub product-twelfth : (f g : Place → Fraction) (t : Triangle Place) → product_mean f g t ⊗ N12 ≡ twelve_at f g t
product-twelfth f g t = ring_from fraction_ring (twelve_at f g t ∷ N12 ∷ inverse N12 ∷ []) ((var 0, var 1 :* var 2, unit) ∷ []) (given twelve-twelfth none) ((var 0 :* var 2) :* var 1) (var 0) refl

pub share_laws : ObeysLaws (λ t. one)
share_laws = obeys_laws (λ t. one) constant constant constant_linear constant_linear share-twelfth

pub corner_laws : (n : ℕ) → ObeysLaws (linear_mean (coordinate n))
corner_laws n = obeys_laws (linear_mean (coordinate n)) constant (coordinate n) constant_linear (coordinate_linear n) (linear-twelfth (coordinate n))

pub pair_laws : (n m : ℕ) → ObeysLaws (product_mean (coordinate n) (coordinate m))
pair_laws n m = obeys_laws (product_mean (coordinate n) (coordinate m)) (coordinate n) (coordinate m) (coordinate_linear n) (coordinate_linear m) (product-twelfth (coordinate n) (coordinate m))

pub depth_laws : ObeysLaws (linear_mean (λ p. p.depth))
depth_laws = obeys_laws (linear_mean (λ p. p.depth)) constant depth_at constant_linear depth_linear (linear-twelfth depth_at)

pub weighted_laws : (n : ℕ) → ObeysLaws (product_mean (coordinate n) (λ p. p.depth))
weighted_laws n = obeys_laws (product_mean (coordinate n) (λ p. p.depth)) (coordinate n) depth_at (coordinate_linear n) depth_linear (product-twelfth (coordinate n) depth_at)
