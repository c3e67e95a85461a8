-- The fraction of a ratio by its denominator, and the order of two ratios by their cross products.
use Rattle.std.proofs.Common.{◌≡◌, ℕ, ◌<◌, ℤ, pos, negsuc, ◌*ℤ◌, ◌≤ℤ◌, ◌<ℤ◌, refl, sym, ◌∙◌, ap, ap₂, arith}
use Rattle.std.proofs.lemmas.Int.{ints}
use Rattle.std.proofs.lemmas.Cmp.{int_ranked}
use Rattle.std.specs.Int.RustNames.{unsigned_abs}
use Rattle.std.specs.Ordering.{int_cmp, MatchOrdering}
use Rattle.std.specs.declared.cmp.Ordering.{Ordering}
use Rattle.std.specs.declared.cmp.Ordering.TheVariants.{Less, Equal, Greater}
use Rattle.exact_algebra.proofs.Fraction.{Fraction, over, fractions, ◌≺◌}
use Rattle.exact_algebra.proofs.Order as Order
use Rattle.exact_algebra.proofs.Whole.{over_same, over-≼_out}
use Rattle.exact_fraction.specs.declared.ratio.Ratio.{Ratio}
use Rattle.exact_fraction.specs.Fraction.{fraction_of, denominator, denominator-positive, IsOrderOf, RatioIsNumeratorOverDenominator}

pub ratio_is_numerator_over_denominator : RatioIsNumeratorOverDenominator
ratio_is_numerator_over_denominator r d h e = over_same r.num r.num (denominator r) d (denominator-positive r) h (rw (ap unsigned_abs e) refl)

-- n / d is below m / e where n e is below m d
over-≺ : (n m : ℤ) (d e : ℕ) (h : 0 < d) (k : 0 < e) → (n *ℤ pos e) <ℤ (m *ℤ pos d) → over n d h ≺ over m e k
over-≺ n m d e h k less = Order.≺_from_not fractions (λ turned. apart less (over-≼_out m n e d k h turned))
  where
    apart : {a b : ℤ} → a <ℤ b → b ≤ℤ a → ⊥
    apart less turned = omega (arith, ints)

-- an answer is the order of two fractions if the fact that it stands for holds
order_of : (x y : Fraction) (answer : Ordering) → MatchOrdering answer (x ≺ y) (x ≡ y) (y ≺ x) → IsOrderOf x y answer
order_of x y Less h = record {
  less = (λ _. h, λ _. refl);
  equal = (λ e. absurd (cc), λ e. absurd (Order.≺-not_≼ fractions h (Order.≼_same fractions (sym e))));
  greater = (λ e. absurd (cc), λ g. absurd (Order.≺-not_≼ fractions h (Order.≺_weak fractions g)));
}
order_of x y Equal h = record {
  less = (λ e. absurd (cc), λ l. absurd (Order.≺-not_≼ fractions l (Order.≼_same fractions (sym h))));
  equal = (λ _. h, λ _. refl);
  greater = (λ e. absurd (cc), λ g. absurd (Order.≺-not_≼ fractions g (Order.≼_same fractions h)));
}
order_of x y Greater h = record {
  less = (λ e. absurd (cc), λ l. absurd (Order.≺-not_≼ fractions h (Order.≺_weak fractions l)));
  equal = (λ e. absurd (cc), λ e. absurd (Order.≺-not_≼ fractions h (Order.≼_same fractions e)));
  greater = (λ _. h, λ _. refl);
}

-- the same fact holds of n / d and m / e as of n e and m d
ranked : (n m : ℤ) (d e : ℕ) (h : 0 < d) (k : 0 < e) (answer : Ordering)
    → MatchOrdering answer ((n *ℤ pos e) <ℤ (m *ℤ pos d)) (n *ℤ pos e ≡ m *ℤ pos d) ((m *ℤ pos d) <ℤ (n *ℤ pos e))
    → MatchOrdering answer (over n d h ≺ over m e k) (over n d h ≡ over m e k) (over m e k ≺ over n d h)
ranked n m d e h k Less l = over-≺ n m d e h k l
ranked n m d e h k Equal s = over_same n m d e h k s
ranked n m d e h k Greater g = over-≺ m n e d k h g

-- the order of n e and m d is that of n / d and m / e
over_order : (n m : ℤ) (d e : ℕ) (h : 0 < d) (k : 0 < e) (answer : Ordering) → answer ≡ int_cmp (n *ℤ pos e) (m *ℤ pos d) → IsOrderOf (over n d h) (over m e k) answer
over_order n m d e h k answer is = order_of (over n d h) (over m e k) answer (ranked n m d e h k answer (int_ranked _ _ answer is))

-- the denominator is above 0, so it is the natural number
pub den_is : (r : Ratio) → r.den ≡ pos (denominator r)
den_is r = go r.den r.bounds.positive
  where
    go : (z : ℤ) → pos 1 ≤ℤ z → z ≡ pos (unsigned_abs z)
    go (pos n) h = refl
    go (negsuc n) h = absurd (omega (arith, ints))

-- the order of the cross products of two ratios is that of their fractions
pub order_by_products : (a b : Ratio) (answer : Ordering) → answer ≡ int_cmp (a.num *ℤ b.den) (b.num *ℤ a.den) → IsOrderOf (fraction_of a) (fraction_of b) answer
order_by_products a b answer is =
    over_order a.num b.num (denominator a) (denominator b) (denominator-positive a) (denominator-positive b) answer
    (is ∙ ap₂ (λ x y. int_cmp (a.num *ℤ x) (b.num *ℤ y)) (den_is b) (den_is a))
