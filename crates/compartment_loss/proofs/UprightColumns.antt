-- The columns between a face and an upright plane: their values, and how wide they are.
use Rattle.std.proofs.Common.{◌≡◌, ◌≢◌, ◌∙◌, refl, sym, ap, ap₂, [], ◌∷◌, ℕ, ◌+◌, ◌^◌, ◌<◌, ◌≤◌, ℤ, pos, neg_ℤ, ◌+ℤ◌, ◌-ℤ◌, ◌*ℤ◌, ◌≤ℤ◌, unsigned_abs, arith}
use Rattle.std.proofs.lemmas.Int.{ints}
use Rattle.exact_algebra.specs.Expression.{var, unit, number, ◌:+◌, ◌:*◌, opposite}
use Rattle.exact_algebra.specs.OrderedField.{below}
use Rattle.exact_algebra.proofs.Fraction.{Fraction, nought, ◌⊕◌, ◌⊗◌, negative, sign, fractions, fraction_ring, ◌≼◌}
use Rattle.exact_algebra.proofs.Order as Order
use Rattle.exact_algebra.proofs.Order.{order_from, no_more, at_most, scaled}
use Rattle.exact_algebra.proofs.Ring.{ring}
use Rattle.exact_algebra.proofs.Whole.{whole, whole-nought, whole-negative, whole-≼, nonnegative-whole}
use Rattle.exact_fraction.specs.Bounds.{MagnitudeBelow}
use Rattle.hull_model.specs.declared.face.Face.{Face}
use Rattle.hull_model.specs.Faces.{IsFace, triangle_of}
use Rattle.hull_model.specs.Waterplane.{Waterplane}
use Rattle.hull_model.specs.WetMean.{wet_depth, weighted_depth}
use Rattle.outward_interval.specs.declared.span.Span.{Span}
use Rattle.outward_interval.specs.Ends.{AreEnds}
use Rattle.outward_interval.specs.Widths.{units, unit_of, IsNarrow, IsNear}
use Rattle.outward_interval.proofs.Narrow.{nonnegative-unit_of, nonnegative-units, narrow-wider, narrow-sum, narrow-multiple}
use Rattle.plane_clip.specs.Enclosure.{mean_at, IsNoWider}
use Rattle.plane_clip.proofs.FaceSizes.{areas_below}
use Rattle.flux_moments.specs.Columns.{column_volume, column_integral}
use Rattle.flux_moments.specs.Limits.{EndsAtMost, EndsLess}
use Rattle.flux_moments.specs.Planes.{IsIn}
use Rattle.flux_moments.specs.Sizes.{AreSizes, doubled_area, volume_part, length_part}
use Rattle.flux_moments.specs.declared.plane_box.PlaneBox.{PlaneBox}
use Rattle.flux_moments.proofs.DryFaces.{none_narrow}
use Rattle.flux_moments.proofs.FaceColumns.{depths, doubled_seen, volume_doubled, moment_doubled}
use Rattle.flux_moments.proofs.FaceWidths.{width_at, some, far}
use Rattle.flux_moments.proofs.MeanWidths.{depths_of, depth-narrow, weighted_widths, nonnegative_weighted_width}
use Rattle.compartment_loss.specs.Upright.{IsUpright}
use Rattle.compartment_loss.proofs.UprightDepths.{cosine_is, sine_is}

-- ---- values
module _ (planes : PlaneBox) (upright : IsUpright planes) (plane : Waterplane) (is : IsIn planes plane) (first last : ℤ) (f : Face) (face : IsFace f) where
  abbrev mean : ℕ → Fraction
  mean k = mean_at (weighted_depth k) (depths plane first last f face)

  seen_is : doubled_seen plane first last f face ≡ whole (neg_ℤ f.az)
  seen_is = ap₂ (λ c s. negative (s ⊗ whole f.ay ⊕ c ⊗ whole f.az)) (cosine_is planes upright plane is) (sine_is planes upright plane is)
      ∙ ring fraction_ring (whole f.ay ∷ whole f.az ∷ []) (opposite (number 0 :* var 0 :+ unit :* var 1)) (opposite (var 1)) refl ∙ sym (whole-negative f.az)

  pub volume_is : mean_at wet_depth (depths plane first last f face) ⊗ whole (neg_ℤ f.az) ≡ column_volume plane first last f ⊗ whole (pos 2)
  volume_is = ap (λ a. mean_at wet_depth (depths plane first last f face) ⊗ a) (sym seen_is) ∙ volume_doubled plane first last f face

  pub mx_is : ((mean 0 ⊗ whole (triangle_of f).a.x ⊕ mean 1 ⊗ whole (triangle_of f).b.x) ⊕ mean 2 ⊗ whole (triangle_of f).c.x) ⊗ whole (neg_ℤ f.az)
      ≡ column_integral plane first last (λ p. p.x) f ⊗ whole (pos 2)
  mx_is = ap (λ a. ((mean 0 ⊗ whole (triangle_of f).a.x ⊕ mean 1 ⊗ whole (triangle_of f).b.x) ⊕ mean 2 ⊗ whole (triangle_of f).c.x) ⊗ a) (sym seen_is)
      ∙ ring fraction_ring (mean 0 ∷ mean 1 ∷ mean 2 ∷ whole (triangle_of f).a.x ∷ whole (triangle_of f).b.x ∷ whole (triangle_of f).c.x ∷ doubled_seen plane first last f face ∷ [])
      (((var 0 :* var 3 :+ var 1 :* var 4) :+ var 2 :* var 5) :* var 6) (((var 0 :* var 6) :* var 3 :+ (var 1 :* var 6) :* var 4) :+ (var 2 :* var 6) :* var 5) refl
      ∙ moment_doubled plane first last f face (λ p. p.x)

  -- seen edgewise from above
  pub edgewise : f.az ≡ pos 0 → doubled_seen plane first last f face ≡ nought
  edgewise e = seen_is ∙ ap (λ z. whole (neg_ℤ z)) e ∙ whole-nought

-- ---- ends
pub factor_small : (f : Face) → IsFace f → {n : ℤ} → n ≡ neg_ℤ f.az → MagnitudeBelow 37 n
factor_small f is {n} e = small f.az n (areas_below f is).1 e
  where
    small : (z n : ℤ) → unsigned_abs z < 2 ^ 37 → n ≡ neg_ℤ z → unsigned_abs n < 2 ^ 37
    small z n h e = omega (arith, ints, h, e)

pub most_less : (m n : ℕ) {lo hi : ℤ} → m ≤ n → EndsLess m lo hi → EndsAtMost n lo hi
most_less m n room e = record { low = within e.low; high = within e.high }
  where
    within : {k : ℕ} → k < m → k ≤ n
    within h = omega (arith, h, room)

-- ---- widths
module _ (s h a e : Fraction) (is : AreSizes s h a e) where
  above : sign (unit_of 20) ≢ below
  above = nonnegative-unit_of 20

  n : (k : ℕ) → sign (units 20 k) ≢ below
  n k = nonnegative-units 20 k

  pub no_volume_narrow : {lo hi : ℤ} → (lo ≡ pos 0) × (hi ≡ pos 0) → IsNarrow 20 (volume_part s a) lo hi
  no_volume_narrow = none_narrow (volume_part s a) (Order.nonnegative-add fractions
      (Order.nonnegative-mul fractions is.area (Order.nonnegative-add fractions (Order.nonnegative-add fractions is.spread is.spread) (n 24))) (n 2))

  pub no_length_narrow : (x : Fraction) → sign x ≢ below → {lo hi : ℤ} → (lo ≡ pos 0) × (hi ≡ pos 0) → IsNarrow 20 (length_part x s a) lo hi
  no_length_narrow x far = none_narrow (length_part x s a) (Order.nonnegative-mul fractions far (Order.nonnegative-add fractions
      (Order.nonnegative-mul fractions is.area (Order.nonnegative-add fractions (Order.nonnegative-add fractions is.spread is.spread) (n 64))) (n 6)))

  module _ (x y z : Span 20)
      (wide : IsNarrow 20 (s ⊕ units 20 4) x.lo x.hi × IsNarrow 20 (s ⊕ units 20 4) y.lo y.hi × IsNarrow 20 (s ⊕ units 20 4) z.lo z.hi)
      (near : IsNear 20 (h ⊕ units 20 2) x.lo x.hi × IsNear 20 (h ⊕ units 20 2) y.lo y.hi × IsNear 20 (h ⊕ units 20 2) z.lo z.hi)
      (k : ℕ) (seen : whole (pos k) ≼ a) where
    -- a mean times an area as it is seen from above
    pub volume_narrow : (mean r : Span 20) → IsNoWider 20 8 (depths_of x y z) mean wet_depth → r.hi -ℤ r.lo ≡ pos k *ℤ (mean.hi -ℤ mean.lo) → IsNarrow 20 (volume_part s a) r.lo r.hi
    volume_narrow mean r no_wider product = narrow-wider (order_from fractions (s ∷ a ∷ unit_of 20 ∷ whole (pos k) ∷ [])
        ((var 0 :+ number 12 :* var 2, var 3, var 1) ∷ (var 1, number 0, var 0) ∷ (number 12 :* var 1 :+ number 2, number 0, var 2) ∷ [])
        (scaled (Order.nonnegative-add fractions is.spread (n 12)) seen (scaled is.area (Order.nought-≼ fractions is.spread)
        (scaled (Order.nonnegative-add fractions (Order.nonnegative-mul fractions (Order.nonnegative-number fractions 12) is.area) (Order.nonnegative-number fractions 2)) (Order.nought-≼ fractions above) no_more)))
        (((var 0 :+ number 4 :* var 2) :+ number 8 :* var 2) :* var 3) (var 1 :* ((var 0 :+ var 0) :+ number 24 :* var 2) :+ number 2 :* var 2) refl)
        (narrow-multiple k product (depth-narrow x y z (s ⊕ units 20 4) (h ⊕ units 20 2) wide near (some s h a e is x y z wide near) (far s h a e is x y z wide near) mean no_wider))

    abbrev w : ℕ → Fraction
    w j = width_at s h a e is x y z wide near j

    above_w : (j : ℕ) → sign (w j) ≢ below
    above_w j = nonnegative_weighted_width x y z (s ⊕ units 20 4) (h ⊕ units 20 2) wide near (some s h a e is x y z wide near) (far s h a e is x y z wide near) j

    -- the weighted means times places up to l, and times the area
    pub length_narrow : (l : Fraction) (i j m : ℕ) → whole (pos i) ≼ l → whole (pos j) ≼ l → whole (pos m) ≼ l → {a0 b0 a1 b1 a2 b2 a3 b3 a4 b4 lo hi : ℤ}
        → AreEnds (a0 +ℤ a1) (b0 +ℤ b1) a3 b3 → AreEnds (a3 +ℤ a2) (b3 +ℤ b2) a4 b4 → hi -ℤ lo ≡ pos k *ℤ (b4 -ℤ a4)
        → IsNarrow 20 (w 0 ⊗ whole (pos i)) a0 b0 → IsNarrow 20 (w 1 ⊗ whole (pos j)) a1 b1 → IsNarrow 20 (w 2 ⊗ whole (pos m)) a2 b2 → IsNarrow 20 (length_part l s a) lo hi
    length_narrow l i j m hi hj hm two three product n0 n1 n2 = narrow-wider
        (order_from fractions (s ∷ a ∷ unit_of 20 ∷ whole (pos k) ∷ w 0 ∷ w 1 ∷ w 2 ∷ whole (pos i) ∷ whole (pos j) ∷ whole (pos m) ∷ l ∷ [])
        ((var 4 :* var 3, var 7, var 10) ∷ (var 5 :* var 3, var 8, var 10) ∷ (var 6 :* var 3, var 9, var 10)
        ∷ (var 10 :* var 3, (var 4 :+ var 5) :+ var 6, (var 0 :+ number 4 :* var 2) :+ number 24 :* var 2)
        ∷ (var 10 :* (var 0 :+ number 28 :* var 2), var 3, var 1) ∷ (var 10 :* var 1, number 0, var 0) ∷ (var 10 :* (number 36 :* var 1 :+ number 6), number 0, var 2) ∷ [])
        (scaled (Order.nonnegative-mul fractions (above_w 0) (nonnegative-whole k)) hi
        (scaled (Order.nonnegative-mul fractions (above_w 1) (nonnegative-whole k)) hj
        (scaled (Order.nonnegative-mul fractions (above_w 2) (nonnegative-whole k)) hm
        (scaled (Order.nonnegative-mul fractions long (nonnegative-whole k))
        (weighted_widths x y z (s ⊕ units 20 4) (h ⊕ units 20 2) wide near (some s h a e is x y z wide near) (far s h a e is x y z wide near))
        (scaled (Order.nonnegative-mul fractions long (Order.nonnegative-add fractions is.spread (n 28))) seen
        (scaled (Order.nonnegative-mul fractions long is.area) (Order.nought-≼ fractions is.spread)
        (scaled (Order.nonnegative-mul fractions long (Order.nonnegative-add fractions (Order.nonnegative-mul fractions (Order.nonnegative-number fractions 36) is.area) (Order.nonnegative-number fractions 6)))
        (Order.nought-≼ fractions above) no_more)))))))
        (((var 4 :* var 7 :+ var 5 :* var 8) :+ var 6 :* var 9) :* var 3) (var 10 :* (var 1 :* ((var 0 :+ var 0) :+ number 64 :* var 2) :+ number 6 :* var 2)) refl)
        (narrow-multiple k product (narrow-sum three (narrow-sum two n0 n1) n2))
      where
        long : sign l ≢ below
        long = Order.nonnegative_from fractions (Order.≼_trans fractions (Order.nought-≼ fractions (nonnegative-whole i)) hi)

-- what is seen from above is no more than both areas
pub seen_less : (f : Face) {n : ℤ} → n ≡ neg_ℤ f.az → whole (pos (unsigned_abs n)) ≼ doubled_area f
seen_less f {n} e = whole-≼ (less f.ay f.az n e)
  where
    less : (y z n : ℤ) → n ≡ neg_ℤ z → pos (unsigned_abs n) ≤ℤ pos (unsigned_abs y + unsigned_abs z)
    less y z n e = omega (arith, ints, e)
