-- What holds of a hull's integrals at a draft, and of how wide their spans may be.
use Rattle.std.proofs.Common.{◌≡◌, ◌≢◌, refl, sym, subst, ℕ, suc, ◌+◌, ◌^◌, ◌<◌, ◌≤◌, List, [], ◌∷◌, length, ℤ, pos, ◌+ℤ◌, ◌≤ℤ◌, ◌<ℤ◌, unsigned_abs, arith}
use Rattle.std.proofs.lemmas.Int.{ints}
use Rattle.std.specs.List.{AllByRecursion}
use Rattle.exact_algebra.specs.Expression.{var, unit, number, ◌:+◌, ◌:*◌, opposite}
use Rattle.exact_algebra.specs.OrderedField.{below}
use Rattle.exact_algebra.proofs.Bounds as Bounds
use Rattle.exact_algebra.proofs.Fraction.{Fraction, nought, one, ◌⊕◌, ◌⊗◌, inverse, sign, fractions, fraction_ring, ◌≼◌}
use Rattle.exact_algebra.proofs.Order as Order
use Rattle.exact_algebra.proofs.Order.{order_from, no_more, at_most, scaled, equal}
use Rattle.exact_algebra.proofs.Ring.{ring, ring_from, none, given}
use Rattle.exact_algebra.proofs.Span.{positive-unit}
use Rattle.exact_algebra.proofs.Whole.{whole, whole-nought, whole-one, whole-add, whole-mul, whole-≼, positive-whole, nonnegative-whole}
use Rattle.hull_model.specs.declared.face.Face.{Face}
use Rattle.hull_model.specs.declared.station.Station.{Station}
use Rattle.hull_model.specs.Body.{IsHull}
use Rattle.hull_model.specs.Faces.{IsFace}
use Rattle.hull_model.specs.Fractions.{sum_over}
use Rattle.hull_polyhedron.specs.FacesOf.{AreFacesOf}
use Rattle.hull_polyhedron.specs.declared.faces.Faces.{Faces}
use Rattle.outward_interval.specs.Widths.{unit_of, units}
use Rattle.outward_interval.proofs.Narrow.{whole-number, unit-in, nonnegative-unit_of, units-at_most}
use Rattle.flux_moments.specs.Sizes.{doubled_area}
use Rattle.flux_moments.specs.Widths.{half_areas, area_above}
use Rattle.hydro_tables.specs.Extent.{far, IsPart, AreLimited}
use Rattle.hydro_tables.specs.Figures.{integrals_of}
use Rattle.hydro_tables.specs.Widths.{last, breadth, reach, volume_width, area_width, widths_of}
use Rattle.hydro_tables.proofs.HullExtent.{mx_part, mu_part, area_some, x_part, yy_part, xx_part}
use Rattle.hydro_tables.proofs.LidArea.{lid_within, some_face}

nonnegative-half : sign (inverse (whole (pos 2))) ≢ below
nonnegative-half = Order.nonnegative_positive fractions (Bounds.positive-inverse fractions (positive-whole 2 (omega arith)))

-- ---- constants
unit_small : (F : ℕ) → pos 1 ≤ℤ pos (2 ^ F) → unit_of F ≼ one
unit_small F h = Order.≼_trans fractions (Order.≼_same fractions (ring fraction_ring (unit_of F ∷ []) (var 0) (number 1 :* var 0) refl)) (units-at_most F 1 h)

-- the magnitude of a part of a number, by that of a factor
scaled_part : (k m a : Fraction) → nought ≼ k → k ≼ m → nought ≼ a → IsPart m a (k ⊗ a)
scaled_part k m a h l some = (
  Order.nought-≼ fractions (Order.nonnegative-mul fractions (Order.nonnegative_from fractions h) (Order.nonnegative_from fractions some)),
  Order.≼-mul fractions (Order.nonnegative_from fractions some) l,
)

module _ (faces : Faces) (draft : ℕ) where
  abbrev Q : Fraction
  Q = half_areas faces.list

  abbrev S : Fraction
  S = sum_over (λ f. (area_above f ⊗ inverse (whole (pos 2))) ⊗ unit_of 32) faces.list

  abbrev N : Fraction
  N = whole (pos (length faces.list))

  nonnegative_halves : (fs : List Face) → sign (half_areas fs) ≢ below
  unfolding sum_over
  nonnegative_halves [] = Order.nonnegative-nought fractions
  nonnegative_halves (f ∷ fs) = Order.nonnegative-add fractions (Order.nonnegative-mul fractions (nonnegative-whole (unsigned_abs f.ay + unsigned_abs f.az)) nonnegative-half) (nonnegative_halves fs)

  nonnegative_seen : (fs : List Face) → sign (sum_over (λ f. (area_above f ⊗ inverse (whole (pos 2))) ⊗ unit_of 32) fs) ≢ below
  unfolding sum_over
  nonnegative_seen [] = Order.nonnegative-nought fractions
  nonnegative_seen (f ∷ fs) = Order.nonnegative-add fractions (Order.nonnegative-mul fractions (Order.nonnegative-mul fractions (nonnegative-whole (unsigned_abs f.az)) nonnegative-half) (nonnegative-unit_of 32)) (nonnegative_seen fs)

  seen_within : (fs : List Face) → sum_over (λ f. (area_above f ⊗ inverse (whole (pos 2))) ⊗ unit_of 32) fs ≼ half_areas fs
  unfolding sum_over
  seen_within [] = Order.≼_refl fractions nought
  seen_within (f ∷ fs) = Order.≼-add fractions
      (order_from fractions (area_above f ∷ doubled_area f ∷ inverse (whole (pos 2)) ∷ unit_of 32 ∷ []) ((var 0 :* var 2, var 3, unit) ∷ (var 2, var 0, var 1) ∷ [])
      (scaled (Order.nonnegative-mul fractions (nonnegative-whole (unsigned_abs f.az)) nonnegative-half) (unit_small 32 (omega (arith, ints))) (scaled nonnegative-half (whole-≼ (more (unsigned_abs f.ay) (unsigned_abs f.az))) no_more))
      ((var 0 :* var 2) :* var 3) (var 1 :* var 2) refl) (seen_within fs)
    where
      more : (x y : ℕ) → pos y ≤ℤ pos (x + y)
      more x y = omega (arith, ints)

  -- the bound of the volume, times 2^13, is the half areas and 2^17
  volume_width_is : whole (pos (2 ^ 13)) ⊗ volume_width faces draft ≡ Q ⊕ whole (pos (2 ^ 17))
  unfolding volume_width
  volume_width_is = ring_from fraction_ring (Q ∷ whole (pos (2 ^ 17)) ∷ whole (pos 8) ∷ whole (pos (2 ^ 13)) ∷ unit_of 16 ∷ whole (pos (2 ^ 16)) ∷ [])
      ((opposite ((var 0 :+ var 1) :* var 4), var 5, var 3 :* var 2) ∷ (var 0 :+ var 1, var 4 :* var 5, unit) ∷ [])
      (given (whole-mul (pos (2 ^ 13)) (pos 8)) (given (unit-in 16) none)) (var 3 :* ((var 2 :* (var 0 :+ var 1)) :* var 4)) (var 0 :+ var 1) refl

  nonnegative_volume : sign (volume_width faces draft) ≢ below
  unfolding volume_width
  nonnegative_volume = Order.nonnegative-mul fractions (Order.nonnegative-mul fractions (nonnegative-whole 8) (Order.nonnegative-add fractions (nonnegative_halves faces.list) (nonnegative-whole (2 ^ 17)))) (nonnegative-unit_of 16)

  some_volume : whole (pos 2) ≼ volume_width faces draft
  some_volume = Order.≼_cancel fractions (positive-unit 13) (order_from fractions (Q ∷ whole (pos (2 ^ 17)) ∷ whole (pos 2) ∷ whole (pos (2 ^ 13)) ∷ volume_width faces draft ∷ whole (pos (2 ^ 14)) ∷ [])
      ((opposite unit, var 5, var 2 :* var 3) ∷ (unit, var 5, var 1) ∷ (unit, number 0, var 0) ∷ (opposite unit, var 3 :* var 4, var 0 :+ var 1) ∷ [])
      (equal (whole-mul (pos 2) (pos (2 ^ 13))) (at_most (whole-≼ (omega (arith, ints))) (at_most (Order.nought-≼ fractions (nonnegative_halves faces.list)) (equal volume_width_is no_more)))) (var 2 :* var 3) (var 4 :* var 3) refl)

  nonnegative_area : sign (area_width faces draft) ≢ below
  unfolding area_width
  nonnegative_area = Order.nonnegative-add fractions (nonnegative_seen faces.list) (Order.nonnegative-mul fractions (nonnegative-whole (length faces.list)) (nonnegative-unit_of 18))

  few : N ≼ whole (pos (2 ^ 17))
  few = whole-≼ (much (length faces.list) faces.few)
    where
      much : (n : ℕ) → n < 2 ^ 14 → pos n ≤ℤ pos (2 ^ 17)
      much n h = omega (arith, ints)

  area_within : area_width faces draft ≼ whole (pos (2 ^ 13)) ⊗ volume_width faces draft
  unfolding area_width
  area_within = Order.≼_trans fractions (order_from fractions (S ∷ Q ∷ N ∷ unit_of 18 ∷ whole (pos (2 ^ 17)) ∷ []) ((unit, var 0, var 1) ∷ (var 2, var 3, unit) ∷ (unit, var 2, var 4) ∷ [])
      (at_most (seen_within faces.list) (scaled (nonnegative-whole (length faces.list)) (unit_small 18 (omega (arith, ints))) (at_most few no_more))) (var 0 :+ var 2 :* var 3) (var 1 :+ var 4) refl)
      (Order.≼_same fractions (sym volume_width_is))

  -- ---- the places
  last_part : (nought ≼ last faces draft) × (last faces draft ≼ far)
  last_part = (Order.≼_trans fractions (Order.≼_same fractions (sym whole-nought)) (whole-≼ faces.ends.last_within.0), whole-≼ (more faces.last_x faces.ends.last_within.1))
    where
      more : (z : ℤ) → z ≤ℤ pos 524287 → z ≤ℤ pos (2 ^ 20)
      more z h = omega (arith, ints)

  breadth_part : (nought ≼ breadth faces draft) × (breadth faces draft ≼ far)
  breadth_part = (Order.≼_trans fractions (Order.≼_same fractions (sym whole-nought)) (whole-≼ (some faces.half_breadth faces.reach.broad)), whole-≼ (more faces.half_breadth faces.reach.breadth_limit))
    where
      some : (z : ℤ) → pos 1 ≤ℤ z → pos 0 ≤ℤ z
      some z h = omega (arith, ints)

      more : (z : ℤ) → z ≤ℤ pos 65535 → z ≤ℤ pos (2 ^ 20)
      more z h = omega (arith, ints)

  reach_part : draft ≤ 131071 → (nought ≼ reach faces draft) × (reach faces draft ≼ far)
  reach_part h = (
    Order.≼_trans fractions (Order.≼_same fractions (sym whole-nought)) (Order.≼_trans fractions (whole-≼ (some draft faces.high_z faces.half_breadth faces.reach.above_base faces.reach.broad)) (Order.≼_same fractions together)),
    Order.≼_trans fractions (Order.≼_same fractions (sym together)) (whole-≼ (most draft faces.high_z faces.half_breadth h faces.reach.height_limit faces.reach.breadth_limit)),
  )
    where
      together : whole (pos draft +ℤ (faces.high_z +ℤ faces.half_breadth)) ≡ reach faces draft
      together = whole-add (pos draft) (faces.high_z +ℤ faces.half_breadth)

      some : (n : ℕ) (z y : ℤ) → pos 0 ≤ℤ z → pos 1 ≤ℤ y → pos 0 ≤ℤ (pos n +ℤ (z +ℤ y))
      some n z y h k = omega (arith, ints)

      most : (n : ℕ) (z y : ℤ) → n ≤ 131071 → z ≤ℤ pos 65535 → y ≤ℤ pos 65535 → (pos n +ℤ (z +ℤ y)) ≤ℤ pos (2 ^ 20)
      most n z y h k l = omega (arith, ints)

  squared : (k : Fraction) → (nought ≼ k) × (k ≼ far) → (nought ≼ k ⊗ k) × (k ⊗ k ≼ far ⊗ far)
  squared k h = (Order.nought-≼ fractions (Order.nonnegative_square fractions k), Order.≼-mul_both fractions (Order.nonnegative_from fractions h.0) (nonnegative-whole (2 ^ 20)) h.1 h.1)

  -- where there is a face, the bound of the last integral is four units at least
  some_width : (l : List Face) → faces.list ≡ l → (l ≡ [] → ⊥) → units 20 4 ≼ (last faces draft ⊗ last faces draft) ⊗ area_width faces draft
  unfolding area_width
  some_width [] e n = absurd (n refl)
  some_width (f ∷ fs) e n = order_from fractions (S ∷ N ∷ last faces draft ∷ unit_of 18 ∷ unit_of 20 ∷ [])
      ((opposite unit, var 3, number 4 :* var 4) ∷ (var 3, unit, var 1) ∷ (unit, number 0, var 0) ∷ (var 0 :+ var 1 :* var 3, unit, var 2) ∷ ((var 0 :+ var 1 :* var 3) :* var 2, unit, var 2) ∷ [])
      (equal four (scaled (nonnegative-unit_of 18) some (at_most (Order.nought-≼ fractions (nonnegative_seen faces.list)) (scaled area ahead (scaled (Order.nonnegative-mul fractions area (Order.nonnegative_from fractions last_part.0)) ahead no_more)))))
      (number 4 :* var 4) ((var 2 :* var 2) :* (var 0 :+ var 1 :* var 3)) refl
    where
      area : sign (S ⊕ N ⊗ unit_of 18) ≢ below
      area = Order.nonnegative-add fractions (nonnegative_seen faces.list) (Order.nonnegative-mul fractions (nonnegative-whole (length faces.list)) (nonnegative-unit_of 18))

      some : one ≼ N
      some = Order.≼_trans fractions (Order.≼_same fractions (sym whole-one)) (whole-≼ (subst (λ (m : List Face). pos 1 ≤ℤ pos (length m)) (sym e) (more (length fs))))
        where
          more : (n : ℕ) → pos 1 ≤ℤ pos (suc n)
          more n = omega (arith, ints)

      ahead : one ≼ last faces draft
      ahead = Order.≼_trans fractions (Order.≼_same fractions (sym whole-one)) (whole-≼ (further faces.first_x faces.last_x faces.ends.first_within.0 faces.ends.apart))
        where
          further : (first last : ℤ) → pos 0 ≤ℤ first → first <ℤ last → pos 1 ≤ℤ last
          further first last h k = omega (arith, ints)

      four : unit_of 18 ≡ units 20 4
      four = Order.mul_cancel fractions (Order.not_nought fractions (positive-unit 20))
          (ring_from fraction_ring (unit_of 18 ∷ unit_of 20 ∷ whole (pos (2 ^ 18)) ∷ whole (pos (2 ^ 20)) ∷ whole (pos 4) ∷ [])
          ((var 0, var 3, var 2 :* var 4) ∷ (var 4, var 0 :* var 2, unit) ∷ (unit, var 4, number 4) ∷ (opposite (number 4), var 1 :* var 3, unit) ∷ [])
          (given (whole-mul (pos (2 ^ 18)) (pos 4)) (given (unit-in 18) (given (whole-number 4) (given (unit-in 20) none)))) (var 0 :* var 3) ((number 4 :* var 1) :* var 3) refl)

  -- ---- the hull
  pub are_limited : (stations : List Station) → IsHull stations → AreFacesOf stations faces → AllByRecursion IsFace faces.list → draft ≤ 131071 → AreLimited (widths_of faces draft) (integrals_of stations draft)
  are_limited stations hull are limits shallow =
      let at = whole (pos draft) in
      let volume = Order.nought-≼ fractions nonnegative_volume in
      let area = Order.nought-≼ fractions nonnegative_area in
      record {
        mx = mx_part stations hull faces are at;
        mu = mu_part stations hull faces are at;
        area = (area_some stations hull faces are at, Order.≼_trans fractions (lid_within at stations hull faces are limits) within_volume);
        sx = x_part stations hull faces are at;
        syy = yy_part stations hull faces are at;
        sxx = xx_part stations hull faces are at;
        volume_width = some_volume;
        mx_width = scaled_part (last faces draft) far (volume_width faces draft) last_part.0 last_part.1 volume;
        mu_width = scaled_part (reach faces draft) far (volume_width faces draft) (reach_part shallow).0 (reach_part shallow).1 volume;
        area_width = (area, area_within);
        sx_width = scaled_part (last faces draft) far (area_width faces draft) last_part.0 last_part.1 area;
        syy_width = scaled_part (breadth faces draft ⊗ breadth faces draft) (far ⊗ far) (area_width faces draft) (squared (breadth faces draft) breadth_part).0 (squared (breadth faces draft) breadth_part).1 area;
        sxx_width = scaled_part (last faces draft ⊗ last faces draft) (far ⊗ far) (area_width faces draft) (squared (last faces draft) last_part).0 (squared (last faces draft) last_part).1 area;
        some_width = λ o. some_width faces.list refl (λ e. Order.not_nought fractions o (some_face at stations hull faces are e));
      }
    where
      within_volume : Q ≼ whole (pos (2 ^ 13)) ⊗ volume_width faces draft
      within_volume = Order.≼_trans fractions (order_from fractions (Q ∷ whole (pos (2 ^ 17)) ∷ []) ((unit, number 0, var 1) ∷ []) (at_most (Order.nought-≼ fractions (nonnegative-whole (2 ^ 17))) no_more) (var 0) (var 0 :+ var 1) refl)
          (Order.≼_same fractions (sym volume_width_is))
