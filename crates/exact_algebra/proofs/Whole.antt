-- Whole numbers among the fractions: sums, products and order carry over both ways, and a fraction's cross products with
-- another decide equality and order.
use Prim.Native.Nat.{ℕ, zero, suc, ◌*◌, ◌<◌}
use native.Mathlib.Omega.{arith}
use native.Mathlib.Nat.{mul-pos}
use mathlib.Core.Path.{◌≡◌, refl, sym, ◌∙◌, ap}
use mathlib.Core.List.{[], ◌∷◌}
use mathlib.Core.Logic.{◌≢◌}
use mathlib.Core.Quot.{mk, sound, ind}
use lib.IntN.{ℤ, pos, negsuc, ◌+ℤ◌, ◌-ℤ◌, ◌*ℤ◌, neg_ℤ}
use lib.Signed.{◌≤ℤ◌, ◌<ℤ◌}
use borrow.Author.Differences.{ints}
use Rattle.exact_algebra.specs.Expression.{var, unit, ◌:+◌, ◌:*◌, opposite}
use Rattle.exact_algebra.specs.OrderedField.{below, above}
use Rattle.exact_algebra.proofs.Ring.{ring, ring_from, none, given}
use Rattle.exact_algebra.proofs.WholeNumbers.{integers}
use Rattle.exact_algebra.proofs.Sign.{level-ne-above, level-ne-below, above-ne-below}
use Rattle.exact_algebra.proofs.Fraction.{Fraction, nought, one, ◌⊕◌, ◌⊗◌, ◌⊖◌, negative, inverse, sign, sign_of, over, fractions, fraction_ring, ◌≼◌, ◌≺◌}
use Rattle.exact_algebra.proofs.Order as Order
use Rattle.exact_algebra.proofs.Bounds as Bounds

unfoldable pub whole : ℤ → Fraction
whole n = mk (record { num = n; den = 1; positive = omega arith })

-- ---- sums and products
pub whole-nought : whole (pos 0) ≡ nought
unfolding whole
whole-nought = sound refl

pub whole-one : whole (pos 1) ≡ one
unfolding whole
whole-one = sound refl

pub whole-add : (a b : ℤ) → whole (a +ℤ b) ≡ whole a ⊕ whole b
unfolding whole ◌⊕◌
whole-add a b = sound (ring integers (a ∷ b ∷ []) ((var 0 :+ var 1) :* unit) ((var 0 :* unit :+ var 1 :* unit) :* unit) refl)

pub whole-negative : (a : ℤ) → whole (neg_ℤ a) ≡ negative (whole a)
unfolding whole negative
whole-negative a = sound refl

pub whole-sub : (a b : ℤ) → whole (a -ℤ b) ≡ whole a ⊖ whole b
whole-sub a b = whole-add a (neg_ℤ b) ∙ ap (λ x. whole a ⊕ x) (whole-negative b)

pub whole-mul : (a b : ℤ) → whole (a *ℤ b) ≡ whole a ⊗ whole b
unfolding whole ◌⊗◌
whole-mul a b = sound (ring integers (a ∷ b ∷ []) (var 0 :* var 1 :* unit) (var 0 :* var 1 :* unit) refl)

-- ---- sign and order
pub sign-whole : (a : ℤ) → sign (whole a) ≡ sign_of a
unfolding whole sign
sign-whole a = refl

pub positive-whole : (n : ℕ) → 0 < n → sign (whole (pos n)) ≡ above
positive-whole zero h = absurd (omega arith)
positive-whole (suc n) h = sign-whole (pos (suc n))

sign_of-above : (z : ℤ) → pos 0 <ℤ z → sign_of z ≡ above
sign_of-above (pos zero) h = absurd (omega (arith, ints))
sign_of-above (pos (suc n)) h = refl
sign_of-above (negsuc n) h = absurd (omega (arith, ints))

pub positive-whole_above : {a : ℤ} → pos 0 <ℤ a → sign (whole a) ≡ above
positive-whole_above {a} h = sign-whole a ∙ sign_of-above a h

pub nonnegative-whole : (n : ℕ) → sign (whole (pos n)) ≢ below
nonnegative-whole zero e = level-ne-below (sym (sign-whole (pos 0)) ∙ e)
nonnegative-whole (suc n) e = above-ne-below (sym (sign-whole (pos (suc n))) ∙ e)

sign-difference : (a b : ℤ) → sign (whole b ⊖ whole a) ≡ sign_of (b -ℤ a)
sign-difference a b = ap sign (sym (whole-sub b a)) ∙ sign-whole (b -ℤ a)

pub whole-≼ : {a b : ℤ} → a ≤ℤ b → whole a ≼ whole b
whole-≼ {a} {b} h e = go (b -ℤ a) (difference h) (sym (sign-difference a b) ∙ e)
  where
    difference : {a b : ℤ} → a ≤ℤ b → pos 0 ≤ℤ (b -ℤ a)
    difference h = omega (arith, ints)

    go : (z : ℤ) → pos 0 ≤ℤ z → sign_of z ≡ below → ⊥
    go (pos zero) h e = level-ne-below e
    go (pos (suc n)) h e = above-ne-below e
    go (negsuc n) h e = omega (arith, ints)

pub whole-≺ : {a b : ℤ} → a <ℤ b → whole a ≺ whole b
whole-≺ {a} {b} h = sign-difference a b ∙ sign_of-above (b -ℤ a) (difference h)
  where
    difference : {a b : ℤ} → a <ℤ b → pos 0 <ℤ (b -ℤ a)
    difference h = omega (arith, ints)

pub whole-≼_out : (a b : ℤ) → whole a ≼ whole b → a ≤ℤ b
whole-≼_out a b h = back (go (b -ℤ a) (λ e. h (sign-difference a b ∙ e)))
  where
    back : {a b : ℤ} → pos 0 ≤ℤ (b -ℤ a) → a ≤ℤ b
    back h = omega (arith, ints)

    go : (z : ℤ) → sign_of z ≢ below → pos 0 ≤ℤ z
    go (pos n) h = omega (arith, ints)
    go (negsuc n) h = absurd (h refl)

pub whole-≺_out : (a b : ℤ) → whole a ≺ whole b → a <ℤ b
whole-≺_out a b h = back (go (b -ℤ a) (sym (sign-difference a b) ∙ h))
  where
    back : {a b : ℤ} → pos 0 <ℤ (b -ℤ a) → a <ℤ b
    back h = omega (arith, ints)

    go : (z : ℤ) → sign_of z ≡ above → pos 0 <ℤ z
    go (pos zero) e = absurd (level-ne-above e)
    go (pos (suc n)) e = omega (arith, ints)
    go (negsuc n) e = absurd (above-ne-below (sym e))

pub whole_injective : (a b : ℤ) → whole a ≡ whole b → a ≡ b
whole_injective a b e = antisym (whole-≼_out a b (Order.≼_same fractions e)) (whole-≼_out b a (Order.≼_same fractions (sym e)))
  where
    antisym : {a b : ℤ} → a ≤ℤ b → b ≤ℤ a → a ≡ b
    antisym h k = omega (arith, ints)

-- ---- fractions x and y whose multiples by one c above nought are the whole numbers a and b
pub ≼_scaled : (x y c : Fraction) (a b : ℤ) → sign c ≡ above → x ⊗ c ≡ whole a → y ⊗ c ≡ whole b → a ≤ℤ b → x ≼ y
≼_scaled x y c a b p e f h = Order.≼_cancel fractions p (Order.≼_trans fractions (Order.≼_same fractions e) (Order.≼_trans fractions (whole-≼ h) (Order.≼_same fractions (sym f))))

pub ≺_scaled : (x y c : Fraction) (a b : ℤ) → sign c ≡ above → x ⊗ c ≡ whole a → y ⊗ c ≡ whole b → a <ℤ b → x ≺ y
≺_scaled x y c a b p e f h = Order.≺_cancel fractions p (Order.≼-≺_trans fractions (Order.≼_same fractions e) (Order.≺-≼_trans fractions (whole-≺ h) (Order.≼_same fractions (sym f))))

pub ≼_scaled_out : (x y c : Fraction) (a b : ℤ) → sign c ≡ above → x ⊗ c ≡ whole a → y ⊗ c ≡ whole b → x ≼ y → a ≤ℤ b
≼_scaled_out x y c a b p e f h = whole-≼_out a b (Order.≼_trans fractions (Order.≼_same fractions (sym e)) (Order.≼_trans fractions (Order.≼-mul fractions (Order.nonnegative_positive fractions p) h) (Order.≼_same fractions f)))

pub ≺_scaled_out : (x y c : Fraction) (a b : ℤ) → sign c ≡ above → x ⊗ c ≡ whole a → y ⊗ c ≡ whole b → x ≺ y → a <ℤ b
≺_scaled_out x y c a b p e f h = whole-≺_out a b (Order.≼-≺_trans fractions (Order.≼_same fractions (sym e)) (Order.≺-≼_trans fractions (Order.≺-mul fractions p h) (Order.≼_same fractions f)))

-- ---- a fraction by its numerator and denominator
pub over-add : (n m : ℤ) (d e : ℕ) (h : 0 < d) (k : 0 < e) → over n d h ⊕ over m e k ≡ over (n *ℤ pos e +ℤ m *ℤ pos d) (d * e) (mul-pos h k)
unfolding over ◌⊕◌
over-add n m d e h k = refl

pub over-mul : (n m : ℤ) (d e : ℕ) (h : 0 < d) (k : 0 < e) → over n d h ⊗ over m e k ≡ over (n *ℤ m) (d * e) (mul-pos h k)
unfolding over ◌⊗◌
over-mul n m d e h k = refl

pub over-negative : (n : ℤ) (d : ℕ) (h : 0 < d) → negative (over n d h) ≡ over (neg_ℤ n) d h
unfolding over negative
over-negative n d h = refl

-- the fraction n / d times d is n
pub over-den : (n : ℤ) (d : ℕ) (h : 0 < d) → over n d h ⊗ whole (pos d) ≡ whole n
unfolding over whole ◌⊗◌
over-den n d h = sound (ring integers (n ∷ pos d ∷ []) ((var 0 :* var 1) :* unit) (var 0 :* (var 1 :* unit)) refl)

pub over_is : (n : ℤ) (d : ℕ) (h : 0 < d) → over n d h ≡ whole n ⊗ inverse (whole (pos d))
over_is n d h = ring_from fraction_ring (over n d h ∷ whole n ∷ whole (pos d) ∷ inverse (whole (pos d)) ∷ []) ((opposite (var 0), var 2 :* var 3, unit) ∷ (var 3, var 0 :* var 2, var 1) ∷ [])
    (given (Bounds.mul-inverse_positive fractions (positive-whole d h)) (given (over-den n d h) none)) (var 0) (var 1 :* var 3) refl

-- two fractions are equal exactly where their cross products are
pub over_same : (n m : ℤ) (d e : ℕ) (h : 0 < d) (k : 0 < e) → n *ℤ pos e ≡ m *ℤ pos d → over n d h ≡ over m e k
unfolding over
over_same n m d e h k s = sound s

-- both sides times d e
cross : (n m : ℤ) (d e : ℕ) (h : 0 < d) (k : 0 < e) → (over n d h ⊗ (whole (pos d) ⊗ whole (pos e)) ≡ whole (n *ℤ pos e)) × (over m e k ⊗ (whole (pos d) ⊗ whole (pos e)) ≡ whole (m *ℤ pos d))
cross n m d e h k = (
  ring_from fraction_ring (over n d h ∷ whole (pos d) ∷ whole (pos e) ∷ whole n ∷ whole (n *ℤ pos e) ∷ []) ((var 2, var 0 :* var 1, var 3) ∷ (opposite unit, var 4, var 3 :* var 2) ∷ [])
      (given (over-den n d h) (given (whole-mul n (pos e)) none)) (var 0 :* (var 1 :* var 2)) (var 4) refl,
  ring_from fraction_ring (over m e k ∷ whole (pos d) ∷ whole (pos e) ∷ whole m ∷ whole (m *ℤ pos d) ∷ []) ((var 1, var 0 :* var 2, var 3) ∷ (opposite unit, var 4, var 3 :* var 1) ∷ [])
      (given (over-den m e k) (given (whole-mul m (pos d)) none)) (var 0 :* (var 1 :* var 2)) (var 4) refl,
)

both_positive : (d e : ℕ) → 0 < d → 0 < e → sign (whole (pos d) ⊗ whole (pos e)) ≡ above
both_positive d e h k = Order.positive-mul fractions (positive-whole d h) (positive-whole e k)

pub over_same_out : (n m : ℤ) (d e : ℕ) (h : 0 < d) (k : 0 < e) → over n d h ≡ over m e k → n *ℤ pos e ≡ m *ℤ pos d
over_same_out n m d e h k s = whole_injective (n *ℤ pos e) (m *ℤ pos d)
    (sym (cross n m d e h k).0 ∙ ap (λ x. x ⊗ (whole (pos d) ⊗ whole (pos e))) s ∙ (cross n m d e h k).1)

-- n / d is at most m / e exactly where n e is at most m d
pub over-≼ : (n m : ℤ) (d e : ℕ) (h : 0 < d) (k : 0 < e) → (n *ℤ pos e) ≤ℤ (m *ℤ pos d) → over n d h ≼ over m e k
over-≼ n m d e h k l = ≼_scaled _ _ _ (n *ℤ pos e) (m *ℤ pos d) (both_positive d e h k) (cross n m d e h k).0 (cross n m d e h k).1 l

pub over-≼_out : (n m : ℤ) (d e : ℕ) (h : 0 < d) (k : 0 < e) → over n d h ≼ over m e k → (n *ℤ pos e) ≤ℤ (m *ℤ pos d)
over-≼_out n m d e h k l = ≼_scaled_out _ _ _ (n *ℤ pos e) (m *ℤ pos d) (both_positive d e h k) (cross n m d e h k).0 (cross n m d e h k).1 l

pub sign-over : (n : ℤ) (d : ℕ) (h : 0 < d) → sign (over n d h) ≡ sign_of n
unfolding over sign
sign-over n d h = refl

-- what holds of each whole number over a denominator above 0 holds of every fraction
pub fraction_ind : {P : Fraction → Type 0} → ((x : Fraction) → IsProp (P x)) → ((n : ℤ) (d : ℕ) (h : 0 < d) → P (over n d h)) → (x : Fraction) → P x
unfolding over
fraction_ind p f = ind p (λ r. f r.num r.den r.positive)
