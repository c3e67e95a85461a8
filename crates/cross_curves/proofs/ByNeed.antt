-- An integral by the need: what it contains, how wide it is and how far its ends lie.
use Rattle.std.proofs.Common.{◌≡◌, ◌∙◌, refl, sym, ap, subst, [], ◌∷◌, ℕ, ◌<◌, ◌≤◌, ◌*◌, ◌-◌, ◌^◌, ℤ, pos, negsuc, ◌*ℤ◌, ◌+ℤ◌, ◌-ℤ◌, ◌≤ℤ◌, ◌<ℤ◌, unsigned_abs, arith}
use Rattle.std.proofs.lemmas.Int.{ints, clamps, unsigned_abs-mul}
use Rattle.std.proofs.Math.Nat.{mul-le-mul}
use Rattle.std.specs.Int.{int_min, int_max}
use Rattle.exact_algebra.specs.Expression.{var, unit, number, ◌:+◌, ◌:-◌, ◌:*◌, opposite}
use Rattle.exact_algebra.specs.OrderedField.{above}
use Rattle.exact_algebra.proofs.Bounds as Bounds
use Rattle.exact_algebra.proofs.Fraction.{Fraction, ◌⊕◌, ◌⊗◌, inverse, sign, fractions, fraction_ring, ◌≼◌}
use Rattle.exact_algebra.proofs.Order as Order
use Rattle.exact_algebra.proofs.Ring.{ring, ring_from, given, none}
use Rattle.exact_algebra.proofs.Whole.{whole, whole-mul, over-den, positive-whole, positive-whole_above, ≼_scaled_out}
use Rattle.exact_fraction.specs.declared.ratio.Ratio.{Ratio}
use Rattle.exact_fraction.specs.Bounds.{MagnitudeBelow}
use Rattle.exact_fraction.specs.Fraction.{fraction_of, denominator, denominator-positive}
use Rattle.exact_fraction.proofs.CrossProducts.{den_is}
use Rattle.outward_interval.specs.Ends.{EndsBelow, AreEnds, AreLeastEnds}
use Rattle.outward_interval.specs.Widths.{unit_of, units, IsNarrow}
use Rattle.outward_interval.proofs.Narrow.{nonnegative-unit_of, narrow-wider, narrow-multiple, narrow-over}
use Rattle.flux_moments.specs.Limits.{EndsAtMost}
use Rattle.flux_moments.proofs.ProductEnds.{floor_at_most, ceiling_at_most}
use Rattle.flux_moments.proofs.TotalWidths.{sixteen}
use Rattle.draft_bracket.specs.DraftBracket.{IsNeed}
use Rattle.draft_bracket.proofs.Wholes.{some_need}
use Rattle.cross_curves.specs.Kn.{IsBigNeed}

-- the numerator is above 0, and so is its own magnitude
num_is : (need : Ratio) → IsNeed need → need.num ≡ pos (unsigned_abs need.num)
num_is need is = go need.num is.some
  where
    go : (z : ℤ) → pos 1 ≤ℤ z → z ≡ pos (unsigned_abs z)
    go (pos n) h = refl
    go (negsuc n) h = absurd (omega (arith, ints))

pub num_positive : (need : Ratio) → IsNeed need → 0 < unsigned_abs need.num
num_positive need is = go need.num is.some
  where
    go : (z : ℤ) → pos 1 ≤ℤ z → 0 < unsigned_abs z
    go z h = omega (arith, ints)

module _ (need : Ratio) (is : IsNeed need) where
  abbrev q : Fraction
  q = fraction_of need

  abbrev n : Fraction
  n = whole need.num

  abbrev d : Fraction
  d = whole (pos (denominator need))

  need_some : sign q ≡ above
  need_some = Order.positive_same fractions (ring fraction_ring (q ∷ []) (var 0) (var 0 :- number 0) refl) (some_need need is)

  num_some : sign n ≡ above
  num_some = positive-whole_above (above_nought need.num is.some)
    where
      above_nought : (z : ℤ) → pos 1 ≤ℤ z → pos 0 <ℤ z
      above_nought z h = omega (arith, ints)

  -- by the denominator and over the numerator
  pub by_terms : (x : Fraction) → (x ⊗ whole need.den) ⊗ inverse n ≡ x ⊗ inverse q
  by_terms x = ap (λ z. (x ⊗ whole z) ⊗ inverse n) (den_is need) ∙ ring_from fraction_ring (x ∷ d ∷ inverse n ∷ inverse q ∷ q ∷ n ∷ [])
      ((opposite (var 0 :* var 1 :* var 2), var 4 :* var 3, unit) ∷ (var 0 :* var 2 :* var 3, var 4 :* var 1, var 5) ∷ (var 0 :* var 3, var 5 :* var 2, unit) ∷ [])
      (given (Bounds.mul-inverse_positive fractions need_some) (given (over-den need.num (denominator need) (denominator-positive need)) (given (Bounds.mul-inverse_positive fractions num_some) none)))
      ((var 0 :* var 1) :* var 2) (var 0 :* var 3) refl

  pub by-narrow : {a b lo hi : ℤ} (low high : ℤ) (w : Fraction) → high -ℤ low ≡ pos (unsigned_abs need.den) *ℤ (b -ℤ a)
      → ((hi -ℤ lo) *ℤ pos (unsigned_abs need.num)) ≤ℤ ((high -ℤ low) +ℤ pos (2 * unsigned_abs need.num)) → IsNarrow 20 w a b → IsNarrow 20 (w ⊗ inverse q ⊕ unit_of 16) lo hi
  by-narrow low high w times over narrow = narrow-wider (Order.≼_trans fractions wider (Order.≼_same fractions (ap (λ u. w ⊗ inverse q ⊕ u) (sym sixteen))))
      (narrow-over {a = low} {b = high} (w ⊗ inverse q) (unsigned_abs need.num) (num_positive need is) over (narrow-multiple (denominator need) times narrow) (Order.≼_same fractions shared))
    where
      shared : w ⊗ d ≡ (w ⊗ inverse q) ⊗ whole (pos (unsigned_abs need.num))
      shared = ring_from fraction_ring (w ∷ d ∷ inverse q ∷ q ∷ n ∷ whole (pos (unsigned_abs need.num)) ∷ [])
          ((var 0 :* var 2, var 4, var 5) ∷ (opposite (var 0 :* var 2), var 4, var 3 :* var 1) ∷ (opposite (var 0 :* var 1), var 3 :* var 2, unit) ∷ [])
          (given (ap whole (num_is need is)) (given (sym (over-den need.num (denominator need) (denominator-positive need))) (given (Bounds.mul-inverse_positive fractions need_some) none)))
          (var 0 :* var 1) ((var 0 :* var 2) :* var 5) refl

      wider : w ⊗ inverse q ⊕ units 20 2 ≼ w ⊗ inverse q ⊕ units 20 16
      wider = Order.order_from fractions ((w ⊗ inverse q) ∷ unit_of 20 ∷ []) ((number 14, number 0, var 1) ∷ [])
          (Order.scaled (Order.nonnegative-number fractions 14) (Order.nought-≼ fractions (nonnegative-unit_of 20)) Order.no_more) (var 0 :+ number 2 :* var 1) (var 0 :+ number 16 :* var 1) refl

-- ---- the ends
pub times-small : (x den : ℤ) → unsigned_abs x ≤ 5 * 2 ^ 108 → unsigned_abs den ≤ 2000 → MagnitudeBelow 126 (x *ℤ den)
times-small x den h k = omega (arith, unsigned_abs-mul x den, mul-le-mul h k)

big : (need : Ratio) → IsNeed need → IsBigNeed (fraction_of need) → 500000 * denominator need ≤ unsigned_abs need.num
big need is h = out need.num (denominator need) (≼_scaled_out (whole (pos 500000)) (fraction_of need) (whole (pos (denominator need))) (pos 500000 *ℤ pos (denominator need)) need.num
    (positive-whole (denominator need) (denominator-positive need)) (sym (whole-mul (pos 500000) (pos (denominator need)))) (over-den need.num (denominator need) (denominator-positive need)) h)
  where
    out : (z : ℤ) (m : ℕ) → (pos 500000 *ℤ pos m) ≤ℤ z → 500000 * m ≤ unsigned_abs z
    out z m h = omega (arith, ints)

pub by-ends : (need : Ratio) → IsNeed need → IsBigNeed (fraction_of need) → {a b low high lo hi : ℤ} → EndsAtMost (5 * 2 ^ 108) a b → a ≤ℤ b
    → AreEnds (int_min (a *ℤ need.den) (b *ℤ need.den)) (int_max (a *ℤ need.den) (b *ℤ need.den)) low high → AreLeastEnds low high (unsigned_abs need.num) lo hi → EndsBelow 96 lo hi
by-ends need is h {a} {b} {low} {high} {lo} {hi} ends order times over = record {
  low = at_most (floor_at_most (2 ^ 96 - 1) (unsigned_abs need.num) low lo (small low (lesser (a *ℤ need.den) (b *ℤ need.den) low (product a ends.low) (product b ends.high) times.low)) over.low);
  high = at_most (ceiling_at_most (2 ^ 96 - 1) (unsigned_abs need.num) high hi
      (small high (greater (a *ℤ need.den) (b *ℤ need.den) high (product a ends.low) (product b ends.high) times.high)) over.high);
}
  where
    at_most : {m : ℕ} → m ≤ 2 ^ 96 - 1 → m < 2 ^ 96
    at_most h = omega arith

    same : denominator need ≤ denominator need
    same = omega arith

    product : (x : ℤ) → unsigned_abs x ≤ 5 * 2 ^ 108 → unsigned_abs (x *ℤ need.den) ≤ 5 * 2 ^ 108 * denominator need
    product x h = omega (arith, unsigned_abs-mul x need.den, mul-le-mul h same)

    lesser : (x y z : ℤ) {m : ℕ} → unsigned_abs x ≤ m → unsigned_abs y ≤ m → z ≡ int_min x y → unsigned_abs z ≤ m
    lesser x y z h k e = omega (arith, ints, clamps)

    greater : (x y z : ℤ) {m : ℕ} → unsigned_abs x ≤ m → unsigned_abs y ≤ m → z ≡ int_max x y → unsigned_abs z ≤ m
    greater x y z h k e = omega (arith, ints, clamps)

    small : (z : ℤ) → unsigned_abs z ≤ 5 * 2 ^ 108 * denominator need → unsigned_abs z < (2 ^ 96 - 1) * unsigned_abs need.num
    small z k = under (denominator need) (unsigned_abs need.num) (unsigned_abs z) (denominator-positive need) (big need is h) k
      where
        under : (m n x : ℕ) → 0 < m → 500000 * m ≤ n → x ≤ 5 * 2 ^ 108 * m → x < (2 ^ 96 - 1) * n
        under m n x some h k = omega (arith, h, k)

-- ---- as the code has the denominator and the numerator
module _ (need : Ratio) (is : IsNeed need) (den num : ℤ) (e : den ≡ need.den) (f : num ≡ need.num) where
  pub quotient_is : (x : Fraction) → (x ⊗ whole den) ⊗ inverse (whole num) ≡ x ⊗ inverse (fraction_of need)
  quotient_is x = ap (λ z. (x ⊗ whole z) ⊗ inverse (whole num)) e ∙ ap (λ z. (x ⊗ whole need.den) ⊗ inverse (whole z)) f ∙ by_terms need is x

  pub quotient-narrow : {a b lo hi : ℤ} (low high : ℤ) (w : Fraction) → high -ℤ low ≡ pos (unsigned_abs den) *ℤ (b -ℤ a)
      → ((hi -ℤ lo) *ℤ pos (unsigned_abs num)) ≤ℤ ((high -ℤ low) +ℤ pos (2 * unsigned_abs num)) → IsNarrow 20 w a b → IsNarrow 20 (w ⊗ inverse (fraction_of need) ⊕ unit_of 16) lo hi
  quotient-narrow {a} {b} {lo} {hi} low high w times over narrow = by-narrow need is low high w (times ∙ ap (λ z. pos (unsigned_abs z) *ℤ (b -ℤ a)) e)
      (subst (λ (z : ℤ). ((hi -ℤ lo) *ℤ pos (unsigned_abs z)) ≤ℤ ((high -ℤ low) +ℤ pos (2 * unsigned_abs z))) f over) narrow

  pub quotient-ends : IsBigNeed (fraction_of need) → {a b low high lo hi : ℤ} → EndsAtMost (5 * 2 ^ 108) a b → a ≤ℤ b
      → AreEnds (int_min (a *ℤ den) (b *ℤ den)) (int_max (a *ℤ den) (b *ℤ den)) low high → AreLeastEnds low high (unsigned_abs num) lo hi → EndsBelow 96 lo hi
  quotient-ends big {a} {b} {low} {high} {lo} {hi} ends order times over = by-ends need is big ends order
      (subst (λ (z : ℤ). AreEnds (int_min (a *ℤ z) (b *ℤ z)) (int_max (a *ℤ z) (b *ℤ z)) low high) e times)
      (subst (λ (z : ℤ). AreLeastEnds low high (unsigned_abs z) lo hi) f over)

  pub times-fit : (a b : ℤ) → EndsAtMost (5 * 2 ^ 108) a b → EndsBelow 126 (a *ℤ den) (b *ℤ den)
  times-fit a b ends = record { low = times-small a den ends.low small; high = times-small b den ends.high small }
    where
      small : unsigned_abs den ≤ 2000
      small = subst (λ (z : ℤ). unsigned_abs z ≤ 2000) (sym e) is.parts

  pub some_num : pos 1 ≤ℤ num
  some_num = subst (λ (z : ℤ). pos 1 ≤ℤ z) (sym f) is.some
