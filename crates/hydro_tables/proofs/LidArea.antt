-- The area of a hull's lid is no more than half the doubled areas of the faces, as they are seen from above.
use Rattle.std.proofs.Common.{◌≡◌, ◌≢◌, refl, sym, ◌∙◌, ap, ℕ, ◌^◌, List, [], ◌∷◌, ℤ, pos, neg_ℤ, ◌+◌, ◌*ℤ◌, ◌≤ℤ◌, unsigned_abs, true, arith}
use Rattle.std.proofs.lemmas.Int.{ints}
use Rattle.std.specs.List.{AllByRecursion}
use Rattle.exact_algebra.specs.Expression.{var, unit, number, ◌:+◌, ◌:*◌, opposite}
use Rattle.exact_algebra.specs.OrderedField.{below, above}
use Rattle.exact_algebra.proofs.Bounds as Bounds
use Rattle.exact_algebra.proofs.DividedDifference.{is_above}
use Rattle.exact_algebra.proofs.Fraction.{Fraction, nought, one, ◌⊕◌, ◌⊗◌, negative, inverse, sign, fractions, fraction_ring, ◌≼◌}
use Rattle.exact_algebra.proofs.Order as Order
use Rattle.exact_algebra.proofs.Order.{order_from, no_more, at_most, scaled, equal}
use Rattle.exact_algebra.proofs.Ring.{ring, ring_from, none, given}
use Rattle.exact_algebra.proofs.Span.{ContainsFraction, positive-unit}
use Rattle.exact_algebra.proofs.WetForm as Form
use Rattle.exact_algebra.proofs.Whole.{whole, whole-mul, whole-negative, whole-≼, positive-whole, nonnegative-whole}
use Rattle.hull_model.specs.declared.face.Face.{Face}
use Rattle.hull_model.specs.declared.station.Station.{Station}
use Rattle.hull_model.specs.Body.{IsHull}
use Rattle.hull_model.specs.Faces.{IsFace}
use Rattle.hull_model.specs.Fractions.{magnitude, sum_over}
use Rattle.hull_model.specs.Lid.{lid_area}
use Rattle.hull_model.specs.WetMean.{wet_share}
use Rattle.hull_model.proofs.MeanKinds.{share_kind, value, first_place, second_place, third_place, kind_form, kind_rises, kind_nonnegative}
use Rattle.hull_model.proofs.TriangleLaws.{by_twelve, N-twelve}
use Rattle.hull_model.proofs.WetSum.{N12}
use Rattle.hull_polyhedron.specs.FacesOf.{AreFacesOf}
use Rattle.hull_polyhedron.specs.declared.faces.Faces.{Faces}
use Rattle.flux_moments.specs.Columns.{lid_part, lid_parts}
use Rattle.flux_moments.specs.Sizes.{doubled_area}
use Rattle.flux_moments.specs.Widths.{half_areas, area_above}
use Rattle.flux_moments.proofs.Measured.{lid_area_seen}
use Rattle.flux_moments.proofs.SeenMeans.{area_within}
use Rattle.hydro_tables.proofs.RowWidths.{IsMagnitude, magnitude_is}

-- ---- the share of a triangle that is wet
share_full : (m : Fraction) → sign m ≡ above → wet_share m m m ≡ one
share_full m e = by_twelve (wet_share m m m) one (kind_form share_kind m m m
    ∙ Form.form_all_over fractions (value share_kind (first_place m)) (value share_kind (second_place m)) (value share_kind (third_place m)) over over over
    ∙ ring_from fraction_ring (N12 ∷ []) ((opposite unit, var 0, (unit :+ unit :+ unit :+ unit) :* (unit :+ unit :+ unit)) ∷ []) (given N-twelve none)
    ((unit :* unit :+ unit :* unit :+ unit :* unit) :+ (unit :+ unit :+ unit) :* (unit :+ unit :+ unit)) (unit :* var 0) refl)
  where
    over : Form.over fractions m ≡ true
    over = ap is_above e

share_at_most_one : (h k l : Fraction) → wet_share h k l ≼ one
share_at_most_one h k l = Order.≼_trans fractions (kind_rises share_kind h k l m m m first second third) (Order.≼_same fractions (share_full m positive))
  where
    x : IsMagnitude h (magnitude h)
    x = magnitude_is h

    y : IsMagnitude k (magnitude k)
    y = magnitude_is k

    z : IsMagnitude l (magnitude l)
    z = magnitude_is l

    m : Fraction
    m = one ⊕ ((magnitude h ⊕ magnitude k) ⊕ magnitude l)

    positive : sign m ≡ above
    positive = Order.positive-add fractions (Order.positive_same fractions (ring fraction_ring [] unit (number 1) refl) (Order.positive-number fractions 0)) (Order.nonnegative-add fractions (Order.nonnegative-add fractions x.some y.some) z.some)

    first : h ≼ m
    first = order_from fractions (h ∷ magnitude h ∷ magnitude k ∷ magnitude l ∷ []) ((unit, var 0, var 1) ∷ (unit, number 0, var 2) ∷ (unit, number 0, var 3) ∷ (unit, number 0, unit) ∷ [])
        (at_most x.to (at_most (Order.nought-≼ fractions y.some) (at_most (Order.nought-≼ fractions z.some) (at_most (Order.nought-≼ fractions (Order.nonnegative-one fractions)) no_more)))) (var 0) (unit :+ ((var 1 :+ var 2) :+ var 3)) refl

    second : k ≼ m
    second = order_from fractions (k ∷ magnitude h ∷ magnitude k ∷ magnitude l ∷ []) ((unit, var 0, var 2) ∷ (unit, number 0, var 1) ∷ (unit, number 0, var 3) ∷ (unit, number 0, unit) ∷ [])
        (at_most y.to (at_most (Order.nought-≼ fractions x.some) (at_most (Order.nought-≼ fractions z.some) (at_most (Order.nought-≼ fractions (Order.nonnegative-one fractions)) no_more)))) (var 0) (unit :+ ((var 1 :+ var 2) :+ var 3)) refl

    third : l ≼ m
    third = order_from fractions (l ∷ magnitude h ∷ magnitude k ∷ magnitude l ∷ []) ((unit, var 0, var 3) ∷ (unit, number 0, var 1) ∷ (unit, number 0, var 2) ∷ (unit, number 0, unit) ∷ [])
        (at_most z.to (at_most (Order.nought-≼ fractions x.some) (at_most (Order.nought-≼ fractions y.some) (at_most (Order.nought-≼ fractions (Order.nonnegative-one fractions)) no_more)))) (var 0) (unit :+ ((var 1 :+ var 2) :+ var 3)) refl

-- a share of an area lies within its magnitude
share_within : (s : Fraction) (z : ℤ) → sign s ≢ below → s ≼ one → ContainsFraction 20 (neg_ℤ (pos (unsigned_abs z)) *ℤ pos (2 ^ 20)) (pos (unsigned_abs z) *ℤ pos (2 ^ 20)) (s ⊗ whole (neg_ℤ z))
share_within s z some most = record {
  from = order_from fractions (s ∷ whole (neg_ℤ z) ∷ whole (pos (unsigned_abs z)) ∷ whole (neg_ℤ (pos (unsigned_abs z))) ∷ whole (pos (2 ^ 20)) ∷ whole (neg_ℤ (pos (unsigned_abs z)) *ℤ pos (2 ^ 20)) ∷ [])
      ((unit, var 5, var 3 :* var 4) ∷ (var 4, var 3, opposite (var 2)) ∷ (var 0 :* var 4, opposite (var 2), var 1) ∷ (var 2 :* var 4, var 0, unit) ∷ [])
      (equal (whole-mul (neg_ℤ (pos (unsigned_abs z))) (pos (2 ^ 20))) (equal (whole-negative (pos (unsigned_abs z))) (scaled (Order.nonnegative-mul fractions some scale) low
      (scaled (Order.nonnegative-mul fractions (nonnegative-whole (unsigned_abs z)) scale) most no_more)))) (var 5) ((var 0 :* var 1) :* var 4) refl;
  to = order_from fractions (s ∷ whole (neg_ℤ z) ∷ whole (pos (unsigned_abs z)) ∷ whole (pos (2 ^ 20)) ∷ whole (pos (unsigned_abs z) *ℤ pos (2 ^ 20)) ∷ [])
      ((opposite unit, var 4, var 2 :* var 3) ∷ (var 0 :* var 3, var 1, var 2) ∷ (var 2 :* var 3, var 0, unit) ∷ [])
      (equal (whole-mul (pos (unsigned_abs z)) (pos (2 ^ 20))) (scaled (Order.nonnegative-mul fractions some scale) high (scaled (Order.nonnegative-mul fractions (nonnegative-whole (unsigned_abs z)) scale) most no_more)))
      ((var 0 :* var 1) :* var 3) (var 4) refl;
}
  where
    scale : sign (whole (pos (2 ^ 20))) ≢ below
    scale = nonnegative-whole (2 ^ 20)

    at_least : (z : ℤ) → neg_ℤ (pos (unsigned_abs z)) ≤ℤ neg_ℤ z
    at_least z = omega (arith, ints)

    most_of : (z : ℤ) → neg_ℤ z ≤ℤ pos (unsigned_abs z)
    most_of z = omega (arith, ints)

    low : negative (whole (pos (unsigned_abs z))) ≼ whole (neg_ℤ z)
    low = Order.≼_trans fractions (Order.≼_same fractions (sym (whole-negative (pos (unsigned_abs z))))) (whole-≼ (at_least z))

    high : whole (neg_ℤ z) ≼ whole (pos (unsigned_abs z))
    high = whole-≼ (most_of z)

-- ---- the faces
half-inverse : whole (pos 2) ⊗ inverse (whole (pos 2)) ≡ one
half-inverse = Bounds.mul-inverse_positive fractions (positive-whole 2 (omega arith))

part_within : (at : Fraction) (first last : ℤ) (f : Face) → IsFace f → lid_part at first last (λ p. one) (λ p. one) f ≼ doubled_area f ⊗ inverse (whole (pos 2))
part_within at first last f is = order_from fractions (part ∷ whole (pos 2) ∷ inverse (whole (pos 2)) ∷ whole (pos (2 ^ 20)) ∷ area_above f ∷ doubled_area f ∷ [])
    ((opposite (var 0), var 1 :* var 2, unit) ∷ (var 2, var 0 :* var 1, var 4) ∷ (var 2, var 4, var 5) ∷ [])
    (equal half-inverse (scaled half twice (scaled half seen no_more))) (var 0) (var 5 :* var 2) refl
  where
    part : Fraction
    part = lid_part at first last (λ p. one) (λ p. one) f

    half : sign (inverse (whole (pos 2))) ≢ below
    half = Order.nonnegative_positive fractions (Bounds.positive-inverse fractions (positive-whole 2 (omega arith)))

    contained : ContainsFraction 20 (neg_ℤ (pos (unsigned_abs f.az)) *ℤ pos (2 ^ 20)) (pos (unsigned_abs f.az) *ℤ pos (2 ^ 20)) (part ⊗ whole (pos 2))
    contained = area_within at first last f is refl (share_within _ f.az (kind_nonnegative share_kind _ _ _) (share_at_most_one _ _ _))

    twice : part ⊗ whole (pos 2) ≼ area_above f
    twice = Order.≼_cancel fractions (positive-unit 20) (Order.≼_trans fractions contained.to (Order.≼_same fractions (whole-mul (pos (unsigned_abs f.az)) (pos (2 ^ 20)))))

    seen : area_above f ≼ doubled_area f
    seen = whole-≼ (more (unsigned_abs f.ay) (unsigned_abs f.az))
      where
        more : (x y : ℕ) → pos y ≤ℤ pos (x + y)
        more x y = omega (arith, ints)

parts_within : (at : Fraction) (first last : ℤ) (faces : List Face) → AllByRecursion IsFace faces → lid_parts at first last (λ p. one) (λ p. one) faces ≼ half_areas faces
unfolding sum_over
parts_within at first last [] all = Order.≼_refl fractions nought
parts_within at first last (f ∷ faces) all = Order.≼-add fractions (part_within at first last f all.0) (parts_within at first last faces all.1)

pub lid_within : (at : Fraction) (stations : List Station) → IsHull stations → (faces : Faces) → AreFacesOf stations faces → AllByRecursion IsFace faces.list → lid_area at stations ≼ half_areas faces.list
lid_within at stations hull faces are limits = Order.≼_trans fractions (Order.≼_same fractions (sym (lid_area_seen at stations hull faces are))) (parts_within at faces.first_x faces.last_x faces.list limits)

-- a hull with a lid has a face
pub some_face : (at : Fraction) (stations : List Station) → IsHull stations → (faces : Faces) → AreFacesOf stations faces → faces.list ≡ [] → lid_area at stations ≡ nought
unfolding sum_over
some_face at stations hull faces are e = sym (lid_area_seen at stations hull faces are) ∙ ap (λ (l : List Face). lid_parts at faces.first_x faces.last_x (λ p. one) (λ p. one) l) e
