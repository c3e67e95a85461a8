-- How wide the spans of means over the wet part of a triangle are and how far from 0 they lie, by the same of the depths of its corners.
use Rattle.std.proofs.Common.{◌≡◌, ◌≢◌, ◌∙◌, refl, sym, ap, List, [], ◌∷◌, ℕ, suc, ◌^◌, ◌<◌, ℤ, pos, ◌-ℤ◌, ◌≤ℤ◌, unsigned_abs, false, arith}
use Rattle.std.proofs.lemmas.Int.{ints}
use Rattle.exact_algebra.specs.Expression.{var, unit, number, ◌:+◌, ◌:-◌, ◌:*◌, opposite}
use Rattle.exact_algebra.specs.OrderedField.{below}
use Rattle.exact_algebra.proofs.Bounds as Bounds
use Rattle.exact_algebra.proofs.DividedDifference.{is_above}
use Rattle.exact_algebra.proofs.Fraction.{Fraction, nought, ◌⊕◌, ◌⊖◌, inverse, sign, sign-nought, fractions, fraction_ring, ◌≼◌}
use Rattle.exact_algebra.proofs.Order as Order
use Rattle.exact_algebra.proofs.Order.{order_from, no_more, at_most, scaled, equal}
use Rattle.exact_algebra.proofs.Ring.{ring, ring_from, none, given}
use Rattle.exact_algebra.proofs.Span.{ContainsFraction, in_units, positive-unit}
use Rattle.exact_algebra.proofs.WetForm as Form
use Rattle.exact_algebra.proofs.Whole.{whole, whole-sub, whole-≼}
use Rattle.hull_model.specs.WetMean.{wet_depth, weighted_depth}
use Rattle.hull_model.proofs.GreatestRise.{rises_by_at_most}
use Rattle.hull_model.proofs.MeanKinds.{depth_kind, weighted_kind, first_place, second_place, third_place, value, kind_form, kind_rises, kind_nonnegative}
use Rattle.hull_model.proofs.MeanSums.{depth_is_sum}
use Rattle.hull_model.proofs.TriangleLaws.{by_twelve}
use Rattle.hull_model.proofs.WetSum.{N12}
use Rattle.outward_interval.specs.declared.span.Span.{Span}
use Rattle.outward_interval.specs.Widths.{unit_of, units, IsNarrow, IsNear}
use Rattle.outward_interval.proofs.Narrow.{units-in, nonnegative-units, near-from, narrow-wider, near-wider}
use Rattle.plane_clip.specs.Enclosure.{Mean, mean_at, in_unit, AreWithin, least_depths, greatest_depths, EnclosesMean, IsNoWider}

pub in_unit-in : (F : ℕ) (z : ℤ) → in_units F (in_unit F z) ≡ whole z
unfolding in_unit
in_unit-in F z = ring_from fraction_ring (whole z ∷ whole (pos (2 ^ F)) ∷ inverse (whole (pos (2 ^ F))) ∷ [])
    ((var 0, var 1 :* var 2, unit) ∷ []) (given (Bounds.mul-inverse_positive fractions (positive-unit F)) none) ((var 0 :* var 2) :* var 1) (var 0) refl

-- from whole bounds of the ends
pub narrow_by : (F : ℕ) (lo hi m : ℤ) → (hi -ℤ lo) ≤ℤ m → IsNarrow F (in_unit F m) lo hi
narrow_by F lo hi m h = record {
  width = Order.≼_trans fractions (Order.≼_same fractions (sym (whole-sub hi lo)))
      (Order.≼_trans fractions (whole-≼ h) (Order.≼_same fractions (sym (in_unit-in F m))));
}

pub near_by : (F : ℕ) (lo hi : ℤ) (k : ℕ) → unsigned_abs lo < suc k → unsigned_abs hi < suc k → IsNear F (in_unit F (pos k)) lo hi
near_by F lo hi k low high = near-from lo hi k low high (Order.≼_same fractions (sym (in_unit-in F (pos k))))

pub contains_end : (F : ℕ) (lo hi z : ℤ) → lo ≤ℤ z → z ≤ℤ hi → ContainsFraction F lo hi (in_unit F z)
contains_end F lo hi z h k = record {
  from = Order.≼_trans fractions (whole-≼ h) (Order.≼_same fractions (sym (in_unit-in F z)));
  to = Order.≼_trans fractions (Order.≼_same fractions (in_unit-in F z)) (whole-≼ k);
}

same_end : (z : ℤ) → z ≤ℤ z
same_end z = whole-≼_refl
  where
    whole-≼_refl : z ≤ℤ z
    whole-≼_refl = omega (arith, ints)

-- ---- from the width and the magnitude of a depth to its ends
pub end_rises : {w : Fraction} (lo hi : ℤ) → IsNarrow 20 w lo hi → in_unit 20 hi ≼ in_unit 20 lo ⊕ w
end_rises {w} lo hi n = Order.≼_cancel fractions (positive-unit 20) (order_from fractions
    (in_unit 20 lo ∷ in_unit 20 hi ∷ w ∷ whole lo ∷ whole hi ∷ whole (pos (2 ^ 20)) ∷ [])
    ((unit, var 4 :- var 3, var 2 :* var 5) ∷ (opposite unit, var 0 :* var 5, var 3) ∷ (unit, var 1 :* var 5, var 4) ∷ [])
    (at_most n.width (equal (in_unit-in 20 lo) (equal (in_unit-in 20 hi) no_more))) (var 1 :* var 5) ((var 0 :+ var 2) :* var 5) refl)

pub ends_rise : (lo hi : ℤ) → lo ≤ℤ hi → in_unit 20 lo ≼ in_unit 20 hi
ends_rise lo hi h = Order.≼_cancel fractions (positive-unit 20) (Order.≼_trans fractions (Order.≼_same fractions (in_unit-in 20 lo))
    (Order.≼_trans fractions (whole-≼ h) (Order.≼_same fractions (sym (in_unit-in 20 hi)))))

pub end_within : {m : Fraction} (lo hi : ℤ) → IsNear 20 m lo hi → in_unit 20 hi ≼ nought ⊕ m
end_within {m} lo hi n = Order.≼_cancel fractions (positive-unit 20) (order_from fractions (in_unit 20 hi ∷ m ∷ whole hi ∷ whole (pos (2 ^ 20)) ∷ [])
    ((unit, var 2, var 1 :* var 3) ∷ (unit, var 0 :* var 3, var 2) ∷ []) (at_most n.to (equal (in_unit-in 20 hi) no_more)) (var 0 :* var 3)
    ((number 0 :+ var 1) :* var 3) refl)

dry : wet_depth nought nought nought ≡ nought
dry = by_twelve (wet_depth nought nought nought) nought (kind_form depth_kind nought nought nought
    ∙ Form.form_none_over fractions (value depth_kind (first_place nought)) (value depth_kind (second_place nought))
    (value depth_kind (third_place nought)) level level level
    ∙ ring fraction_ring (N12 ∷ []) (number 0) (number 0 :* var 0) refl)
  where
    level : Form.over fractions nought ≡ false
    level = ap is_above sign-nought

module _ (x y z : Span 20) where
  abbrev pub depths_of : List (Span 20)
  depths_of = x ∷ y ∷ z ∷ []

  abbrev pub greatest : Mean → Fraction
  greatest mean = mean_at mean (greatest_depths depths_of)

  abbrev pub least : Mean → Fraction
  least mean = mean_at mean (least_depths depths_of)

  within_greatest : AreWithin depths_of (greatest_depths depths_of)
  within_greatest = (
    contains_end 20 x.lo x.hi x.hi x.ordered (same_end x.hi),
    contains_end 20 y.lo y.hi y.hi y.ordered (same_end y.hi),
    contains_end
        20 z.lo z.hi z.hi z.ordered (same_end z.hi),
  )

  within_least : AreWithin depths_of (least_depths depths_of)
  within_least = (
    contains_end 20 x.lo x.hi x.lo (same_end x.lo) x.ordered,
    contains_end 20 y.lo y.hi y.lo (same_end y.lo) y.ordered,
    contains_end 20
        z.lo z.hi z.lo (same_end z.lo) z.ordered,
  )

  -- ---- any mean
  module _ {F : ℕ} (k : ℕ) (s : Span F) (mean : Mean) where
    pub mean-narrow : IsNoWider F k depths_of s mean → IsNarrow F ((greatest mean ⊖ least mean) ⊕ units F k) s.lo s.hi
    mean-narrow n = record {
      width = order_from fractions (whole s.lo ∷ whole s.hi ∷ greatest mean ∷ least mean ∷ units F k ∷ whole (pos k) ∷ whole (pos (2 ^ F)) ∷ [])
          ((unit, var 1 :- var 0, (var 2 :- var 3) :* var 6 :+ var 5) ∷ (opposite unit, var 4 :* var 6, var 5) ∷ [])
          (at_most n (equal (units-in F k) no_more)) (var 1 :- var 0) (((var 2 :- var 3) :+ var 4) :* var 6) refl;
    }

    pub mean-near : EnclosesMean F depths_of s mean → IsNoWider F k depths_of s mean → sign (least mean) ≢ below → sign (greatest mean) ≢ below → IsNear F
        (greatest mean ⊕ units F k) s.lo s.hi
    mean-near e n low high = record {
      from = order_from fractions (whole s.lo ∷ whole s.hi ∷ greatest mean ∷ least mean ∷ units F k ∷ whole (pos k) ∷ whole (pos (2 ^ F)) ∷ [])
          ((unit, var 1 :- var 0, (var 2 :- var 3) :* var 6 :+ var 5) ∷ (unit, var 2 :* var 6, var 1) ∷ (opposite unit, var 4 :* var 6, var 5)
          ∷ (var 6, number 0, var 3) ∷ (var 6, number 0, var 2) ∷ [])
          (at_most n (at_most (e (greatest_depths depths_of) within_greatest).to
          (equal (units-in F k) (scaled scale (Order.nought-≼ fractions low) (scaled scale (Order.nought-≼ fractions high) no_more)))))
          (opposite ((var 2 :+ var 4) :* var 6)) (var 0) refl;
      to = order_from fractions (whole s.lo ∷ whole s.hi ∷ greatest mean ∷ least mean ∷ units F k ∷ whole (pos k) ∷ whole (pos (2 ^ F)) ∷ [])
          ((unit, var 1 :- var 0, (var 2 :- var 3) :* var 6 :+ var 5) ∷ (unit, var 0, var 3 :* var 6) ∷ (opposite unit, var 4 :* var 6, var 5) ∷ [])
          (at_most n (at_most (e (least_depths depths_of) within_least).from (equal (units-in F k) no_more))) (var 1) ((var 2 :+ var 4) :* var 6) refl;
    }
      where
        scale : sign (whole (pos (2 ^ F))) ≢ below
        scale = Order.nonnegative_positive fractions (positive-unit F)

  -- ---- the means of the depth
  module _ (w n : Fraction) (wide : IsNarrow 20 w x.lo x.hi × IsNarrow 20 w y.lo y.hi × IsNarrow 20 w z.lo z.hi)
      (near : IsNear 20 n x.lo x.hi × IsNear 20 n y.lo y.hi × IsNear 20 n z.lo z.hi)
      (some : nought ≼ w) (far : nought ≼ n) where
    pub depth_rise : greatest wet_depth ≼ least wet_depth ⊕ w
    depth_rise = rises_by_at_most w (in_unit 20 x.lo) (in_unit 20 y.lo) (in_unit 20 z.lo) (in_unit 20 x.hi) (in_unit 20 y.hi) (in_unit 20 z.hi) some
        (end_rises x.lo x.hi wide.0) (end_rises y.lo y.hi wide.1) (end_rises z.lo z.hi wide.2)

    pub depth_reach : greatest wet_depth ≼ n
    depth_reach = Order.≼_trans fractions (rises_by_at_most n nought nought nought (in_unit 20 x.hi) (in_unit 20 y.hi) (in_unit 20 z.hi) far
        (end_within x.lo x.hi near.0) (end_within y.lo y.hi near.1) (end_within z.lo z.hi near.2))
        (Order.≼_same fractions (ap (λ m. m ⊕ n) dry ∙ ring fraction_ring (n ∷ []) (number 0 :+ var 0) (var 0) refl))

    nonnegative_depth : (a b c : Fraction) → sign (wet_depth a b c) ≢ below
    nonnegative_depth a b c = kind_nonnegative depth_kind a b c

    pub depth-narrow : (s : Span 20) → IsNoWider 20 8 depths_of s wet_depth → IsNarrow 20 (w ⊕ units 20 8) s.lo s.hi
    depth-narrow s h = narrow-wider (order_from fractions (greatest wet_depth ∷ least wet_depth ∷ w ∷ units 20 8 ∷ [])
        ((unit, var 0, var 1 :+ var 2) ∷ []) (at_most depth_rise no_more) ((var 0 :- var 1) :+ var 3) (var 2 :+ var 3) refl) (mean-narrow 8 s wet_depth h)

    pub depth-near : (s : Span 20) → EnclosesMean 20 depths_of s wet_depth → IsNoWider 20 8 depths_of s wet_depth → IsNear 20 (n ⊕ units 20 8) s.lo s.hi
    depth-near s e h = near-wider (order_from fractions (greatest wet_depth ∷ n ∷ units 20 8 ∷ []) ((unit, var 0, var 1) ∷ [])
        (at_most depth_reach no_more) (var 0 :+ var 2) (var 1 :+ var 2) refl)
        (mean-near 8 s wet_depth e h (nonnegative_depth _ _ _) (nonnegative_depth _ _ _))

    -- ---- and of the depth times a coordinate: together no wider and no farther than the first, but for the rounding
    abbrev pub weighted_width : ℕ → Fraction
    weighted_width k = (greatest (weighted_depth k) ⊖ least (weighted_depth k)) ⊕ units 20 8

    abbrev pub weighted_reach : ℕ → Fraction
    weighted_reach k = greatest (weighted_depth k) ⊕ units 20 8

    pub weighted-narrow : (k : ℕ) (s : Span 20) → IsNoWider 20 8 depths_of s (weighted_depth k) → IsNarrow 20 (weighted_width k) s.lo s.hi
    weighted-narrow k s h = mean-narrow 8 s (weighted_depth k) h

    pub weighted-near : (k : ℕ) (s : Span 20) → EnclosesMean 20 depths_of s (weighted_depth k) → IsNoWider 20 8 depths_of s (weighted_depth k) → IsNear 20
        (weighted_reach k) s.lo s.hi
    weighted-near k s e h = mean-near 8 s (weighted_depth k) e h (kind_nonnegative (weighted_kind k) _ _ _) (kind_nonnegative (weighted_kind k) _ _ _)

    abbrev values : List Fraction
    values = greatest wet_depth ∷ least wet_depth ∷ w ∷ n ∷ unit_of 20 ∷ nought
        ∷ greatest (weighted_depth 0) ∷ greatest (weighted_depth 1) ∷ greatest (weighted_depth 2) ∷ least (weighted_depth 0) ∷ least
        (weighted_depth 1) ∷ least (weighted_depth 2) ∷ []

    pub weighted_widths : (weighted_width 0 ⊕ weighted_width 1) ⊕ weighted_width 2 ≼ w ⊕ units 20 24
    weighted_widths = order_from fractions values
        ((unit, var 0, var 1 :+ var 2) ∷ (opposite unit, var 0, (var 6 :+ var 7) :+ var 8) ∷ (unit, var 1, (var 9 :+ var 10) :+ var 11) ∷ [])
        (at_most depth_rise (equal (depth_is_sum _ _ _) (equal (depth_is_sum _ _ _) no_more)))
        ((((var 6 :- var 9) :+ number 8 :* var 4) :+ ((var 7 :- var 10) :+ number 8 :* var 4)) :+ ((var 8 :- var 11) :+ number 8 :* var 4))
        (var 2 :+ number 24 :* var 4) refl

    pub weighted_reaches : (weighted_reach 0 ⊕ weighted_reach 1) ⊕ weighted_reach 2 ≼ n ⊕ units 20 24
    weighted_reaches = order_from fractions values
        ((unit, var 0, var 3) ∷ (opposite unit, var 0, (var 6 :+ var 7) :+ var 8) ∷ [])
        (at_most depth_reach (equal (depth_is_sum _ _ _) no_more))
        (((var 6 :+ number 8 :* var 4) :+ (var 7 :+ number 8 :* var 4)) :+ (var 8 :+ number 8 :* var 4)) (var 3 :+ number 24 :* var 4) refl

    pub nonnegative_weighted_width : (k : ℕ) → sign (weighted_width k) ≢ below
    nonnegative_weighted_width k = Order.nonnegative-add fractions
        (kind_rises (weighted_kind k) (in_unit 20 x.lo) (in_unit 20 y.lo) (in_unit 20 z.lo) (in_unit 20 x.hi) (in_unit 20 y.hi) (in_unit 20 z.hi)
        (ends_rise x.lo x.hi x.ordered) (ends_rise y.lo y.hi y.ordered) (ends_rise z.lo z.hi z.ordered))
        (nonnegative-units 20 8)

    pub nonnegative_weighted_reach : (k : ℕ) → sign (weighted_reach k) ≢ below
    nonnegative_weighted_reach k = Order.nonnegative-add fractions (kind_nonnegative (weighted_kind k) _ _ _) (nonnegative-units 20 8)
