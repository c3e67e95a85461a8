-- Six times the need against six times the volume of the whole hull.
use Rattle.std.proofs.Common.{◌≡◌, ◌∙◌, refl, sym, ap, subst, ℕ, ◌^◌, [], ◌∷◌, ◌<◌, ℤ, pos, ◌*ℤ◌, ◌≤ℤ◌, ◌<ℤ◌, arith}
use Rattle.std.proofs.lemmas.Int.{ints}
use Rattle.std.proofs.lemmas.Cmp.{int_ranked}
use Rattle.std.specs.Ordering.{int_cmp, MatchOrdering}
use Rattle.std.specs.declared.cmp.Ordering.{Ordering}
use Rattle.std.specs.declared.cmp.Ordering.TheVariants.{Less, Equal, Greater}
use Rattle.exact_algebra.specs.Expression.{var, number, ◌:*◌}
use Rattle.exact_algebra.specs.OrderedField.{above}
use Rattle.exact_algebra.proofs.Fraction.{Fraction, nought, ◌⊗◌, sign, fractions, fraction_ring, ◌≺◌}
use Rattle.exact_algebra.proofs.Order as Order
use Rattle.exact_algebra.proofs.Ring.{ring}
use Rattle.exact_algebra.proofs.Whole.{whole, whole-nought, whole-mul, over-den, positive-whole, ≺_scaled}
use Rattle.exact_fraction.specs.declared.ratio.Ratio.{Ratio}
use Rattle.exact_fraction.specs.Fraction.{fraction_of, denominator, denominator-positive}
use Rattle.exact_fraction.specs.Bounds.{MagnitudeBelow}
use Rattle.exact_fraction.proofs.CrossProducts.{den_is}
use Rattle.outward_interval.proofs.Sides.{over-small}
use Rattle.std.specs.Int.RustNames.{unsigned_abs}
use Rattle.draft_bracket.specs.DraftBracket.{IsNeed}

module _ (need : Ratio) where
  abbrev parts : Fraction
  parts = whole (pos (denominator need))

  parts_some : sign parts ≡ above
  parts_some = positive-whole (denominator need) (denominator-positive need)

  in_parts : fraction_of need ⊗ parts ≡ whole need.num
  in_parts = over-den need.num (denominator need) (denominator-positive need)

  -- a need is above nought
  pub some_need : IsNeed need → nought ≺ fraction_of need
  some_need is = ≺_scaled nought (fraction_of need) parts (pos 0) need.num parts_some (ring fraction_ring (parts ∷ []) (number 0 :* var 0) (number 0) refl ∙ sym whole-nought) in_parts
      (above_nought need.num is.some)
    where
      above_nought : (n : ℤ) → pos 1 ≤ℤ n → pos 0 <ℤ n
      above_nought n h = omega (arith, ints)

  module _ (six : ℤ) where
    six_needs : (whole (pos 6) ⊗ fraction_of need) ⊗ parts ≡ whole (pos 6 *ℤ need.num)
    six_needs = ring fraction_ring (whole (pos 6) ∷ fraction_of need ∷ parts ∷ []) ((var 0 :* var 1) :* var 2) (var 0 :* (var 1 :* var 2)) refl
        ∙ ap (λ x. whole (pos 6) ⊗ x) in_parts ∙ sym (whole-mul (pos 6) need.num)

    six_wholes : whole six ⊗ parts ≡ whole (six *ℤ need.den)
    six_wholes = sym (whole-mul six (pos (denominator need))) ∙ ap (λ d. whole (six *ℤ d)) (sym (den_is need))

    pub need_against_whole : (answer : Ordering) → answer ≡ int_cmp (pos 6 *ℤ need.num) (six *ℤ need.den)
        → MatchOrdering answer (whole (pos 6) ⊗ fraction_of need ≺ whole six) (whole (pos 6) ⊗ fraction_of need ≡ whole six) (whole six ≺ whole (pos 6) ⊗ fraction_of need)
    need_against_whole answer is = go answer (int_ranked _ _ answer is)
      where
        go : (answer : Ordering) → MatchOrdering answer ((pos 6 *ℤ need.num) <ℤ (six *ℤ need.den)) (pos 6 *ℤ need.num ≡ six *ℤ need.den) ((six *ℤ need.den) <ℤ (pos 6 *ℤ need.num))
            → MatchOrdering answer (whole (pos 6) ⊗ fraction_of need ≺ whole six) (whole (pos 6) ⊗ fraction_of need ≡ whole six) (whole six ≺ whole (pos 6) ⊗ fraction_of need)
        go Less l = ≺_scaled _ _ parts _ _ parts_some six_needs six_wholes l
        go Equal e = Order.mul_cancel fractions (Order.not_nought fractions parts_some) (six_needs ∙ ap whole e ∙ sym six_wholes)
        go Greater g = ≺_scaled _ _ parts _ _ parts_some six_wholes six_needs g

-- the product of six times the whole with the denominator stays small
pub whole-small : (six : ℤ) (need : Ratio) (den : ℤ) → MagnitudeBelow 78 six → den ≡ need.den → MagnitudeBelow 126 (six *ℤ den)
whole-small six need den small e = subst (λ d. MagnitudeBelow 126 (six *ℤ d)) (sym e) (over-small six need (wider (unsigned_abs six) small))
  where
    wider : (n : ℕ) → n < 2 ^ 78 → n < 2 ^ 90
    wider n h = omega arith
