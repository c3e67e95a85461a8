-- The area and the moment of what is kept of a strip: those of a trapezium.
use Prim.Native.Nat.{ℕ}
use native.Mathlib.Omega.{arith}
use mathlib.Core.Path.{◌≡◌, refl, sym, ◌∙◌, ap, ap₂}
use mathlib.Core.List.{[], ◌∷◌}
use lib.IntN.{pos}
use Rattle.exact_algebra.specs.Expression.{var, unit, number, ◌:+◌, ◌:-◌, ◌:*◌, opposite}
use Rattle.exact_algebra.specs.OrderedField.{above}
use Rattle.exact_algebra.proofs.Ring.{ring, ring_from, none, given}
use Rattle.exact_algebra.proofs.Fraction.{Fraction, nought, one, ◌⊕◌, ◌⊗◌, ◌⊖◌, inverse, sign, fractions, fraction_ring, ◌≼◌, ◌≺◌}
use Rattle.exact_algebra.proofs.Whole.{whole, whole-add, whole-one, positive-whole}
use Rattle.exact_algebra.proofs.Order as Order
use Rattle.exact_algebra.proofs.Bounds as Bounds
use Rattle.hull_model.specs.Fractions.{magnitude, sum_over}
use Rattle.hull_model.specs.Section.{determinant, area_of, moment_of}
use Rattle.hull_model.proofs.Strip.{NonNegative, inner, outer, middle, magnitude-inner, magnitude-outer, magnitude-middle, wet_strip, wet_strip-below, wet_strip-cut, share, share_law, breadth_at}

abbrev pub natural : ℕ → Fraction
natural n = whole (pos n)

half_law : natural 2 ⊗ inverse (natural 2) ≡ one
half_law = Bounds.mul-inverse_positive fractions (positive-whole 2 (omega arith))

third_law : natural 3 ⊗ inverse (natural 3) ≡ one
third_law = Bounds.mul-inverse_positive fractions (positive-whole 3 (omega arith))

pub two_is : natural 2 ≡ one ⊕ (one ⊕ nought)
two_is = whole-add (pos 1) (pos 1) ∙ ap₂ ◌⊕◌ whole-one (whole-one ∙ sym (fractions.laws.ring.add_nought one))

-- the full breadth's area, and three times its moment, between the heights z and d with the half-breadths y and v
abbrev pub trapezium_area : Fraction → Fraction → Fraction → Fraction → Fraction
trapezium_area y z v d = (y ⊕ v) ⊗ (d ⊖ z)

abbrev pub trapezium_moment : Fraction → Fraction → Fraction → Fraction → Fraction
trapezium_moment y z v d = (z ⊗ (natural 2 ⊗ y ⊕ v) ⊕ d ⊗ (y ⊕ natural 2 ⊗ v)) ⊗ (d ⊖ z)

module _ (y z v d : Fraction) (y-positive : NonNegative y) (rises : z ≼ d) where
  pub area-two : NonNegative v → natural 2 ⊗ sum_over area_of (inner z v d ∷ outer y z v d ∷ []) ≡ trapezium_area y z v d
  unfolding sum_over
  area-two n = ring_from fraction_ring (y ∷ z ∷ v ∷ d ∷ magnitude (determinant (inner z v d)) ∷ magnitude (determinant (outer y z v d)) ∷ natural 2 ∷ inverse (natural 2) ∷ [])
      ((unit, var 4, var 2 :* (var 3 :- var 1)) ∷ (unit, var 5, var 0 :* (var 3 :- var 1)) ∷ (var 4 :+ var 5, var 6 :* var 7, unit) ∷ [])
      (given (magnitude-inner z v d n rises) (given (magnitude-outer y z v d y-positive rises) (given half_law none)))
      (var 6 :* (var 4 :* var 7 :+ (var 5 :* var 7 :+ number 0))) ((var 0 :+ var 2) :* (var 3 :- var 1)) refl

  pub moment-two : NonNegative v → natural 3 ⊗ (natural 2 ⊗ sum_over moment_of (inner z v d ∷ outer y z v d ∷ [])) ≡ trapezium_moment y z v d
  unfolding sum_over
  moment-two n =
      let low = var 1 :+ var 3 :+ var 3 in
      let high = var 1 :+ var 1 :+ var 3 in
      let sum = var 4 :* low :+ var 5 :* high in
      ring_from fraction_ring (y ∷ z ∷ v ∷ d ∷ magnitude (determinant (inner z v d)) ∷ magnitude (determinant (outer y z v d)) ∷ natural 2 ∷ inverse (natural 2) ∷ natural 3 ∷ inverse (natural 3) ∷ [])
      ((low, var 4, var 2 :* (var 3 :- var 1)) ∷ (high, var 5, var 0 :* (var 3 :- var 1)) ∷ (sum :* (var 8 :* var 9), var 6 :* var 7, unit) ∷ (sum, var 8 :* var 9, unit)
      ∷ (opposite (var 1 :* var 0 :+ var 3 :* var 2) :* (var 3 :- var 1), var 6, number 2) ∷ [])
      (given (magnitude-inner z v d n rises) (given (magnitude-outer y z v d y-positive rises) (given half_law (given third_law (given two_is none)))))
      (var 8 :* (var 6 :* ((var 4 :* var 7) :* (low :* var 9) :+ ((var 5 :* var 7) :* (high :* var 9) :+ number 0))))
      ((var 1 :* (var 6 :* var 0 :+ var 2) :+ var 3 :* (var 0 :+ var 6 :* var 2)) :* (var 3 :- var 1)) refl

  module _ (u : Fraction) (n : NonNegative u) (uv : u ≼ v) where
    pub area-three : natural 2 ⊗ sum_over area_of (inner z u d ∷ middle y z u v d ∷ outer y z u d ∷ []) ≡ trapezium_area y z v d
    unfolding sum_over
    area-three = ring_from fraction_ring (y ∷ z ∷ v ∷ d ∷ magnitude (determinant (inner z u d)) ∷ magnitude (determinant (outer y z u d)) ∷ natural 2 ∷ inverse (natural 2) ∷ magnitude (determinant (middle y z u v d)) ∷ u ∷ [])
        ((unit, var 4, var 9 :* (var 3 :- var 1)) ∷ (unit, var 5, var 0 :* (var 3 :- var 1)) ∷ (var 4 :+ var 5 :+ var 8, var 6 :* var 7, unit) ∷ (unit, var 8, (var 2 :- var 9) :* (var 3 :- var 1)) ∷ [])
        (given (magnitude-inner z u d n rises) (given (magnitude-outer y z u d y-positive rises) (given half_law (given (magnitude-middle y z u v d uv rises) none))))
        (var 6 :* (var 4 :* var 7 :+ (var 8 :* var 7 :+ (var 5 :* var 7 :+ number 0)))) ((var 0 :+ var 2) :* (var 3 :- var 1)) refl

    pub moment-three : natural 3 ⊗ (natural 2 ⊗ sum_over moment_of (inner z u d ∷ middle y z u v d ∷ outer y z u d ∷ [])) ≡ trapezium_moment y z v d
    unfolding sum_over
    moment-three =
        let low = var 1 :+ var 3 :+ var 3 in
        let mid = var 3 :+ var 1 :+ var 3 in
        let high = var 1 :+ var 1 :+ var 3 in
        let sum = var 4 :* low :+ var 10 :* mid :+ var 5 :* high in
        ring_from fraction_ring (y ∷ z ∷ v ∷ d ∷ magnitude (determinant (inner z u d)) ∷ magnitude (determinant (outer y z u d)) ∷ natural 2 ∷ inverse (natural 2) ∷ natural 3 ∷ inverse (natural 3) ∷ magnitude (determinant (middle y z u v d)) ∷ u ∷ [])
        ((low, var 4, var 11 :* (var 3 :- var 1)) ∷ (high, var 5, var 0 :* (var 3 :- var 1)) ∷ (mid, var 10, (var 2 :- var 11) :* (var 3 :- var 1)) ∷ (sum :* (var 8 :* var 9), var 6 :* var 7, unit) ∷ (sum, var 8 :* var 9, unit)
        ∷ (opposite (var 1 :* var 0 :+ var 3 :* var 2) :* (var 3 :- var 1), var 6, number 2) ∷ [])
        (given (magnitude-inner z u d n rises) (given (magnitude-outer y z u d y-positive rises) (given (magnitude-middle y z u v d uv rises) (given half_law (given third_law (given two_is none))))))
        (var 8 :* (var 6 :* ((var 4 :* var 7) :* (low :* var 9) :+ ((var 10 :* var 7) :* (mid :* var 9) :+ ((var 5 :* var 7) :* (high :* var 9) :+ number 0)))))
        ((var 1 :* (var 6 :* var 0 :+ var 2) :+ var 3 :* (var 0 :+ var 6 :* var 2)) :* (var 3 :- var 1)) refl

-- ---- a strip's sums
module _ (d y z u w : Fraction) (y-positive : NonNegative y) (u-positive : NonNegative u) where
  pub strip_area-below : z ≺ w → z ≺ d → w ≼ d → natural 2 ⊗ sum_over area_of (wet_strip d y z u w) ≡ trapezium_area y z u w
  strip_area-below zw zd wd = ap (λ ts. natural 2 ⊗ sum_over area_of ts) (wet_strip-below d y z u w zd wd) ∙ area-two y z u w y-positive (Order.≺_weak fractions zw) u-positive

  pub strip_moment-below : z ≺ w → z ≺ d → w ≼ d → natural 3 ⊗ (natural 2 ⊗ sum_over moment_of (wet_strip d y z u w)) ≡ trapezium_moment y z u w
  strip_moment-below zw zd wd = ap (λ ts. natural 3 ⊗ (natural 2 ⊗ sum_over moment_of ts)) (wet_strip-below d y z u w zd wd) ∙ moment-two y z u w y-positive (Order.≺_weak fractions zw) u-positive

  module _ (zd : z ≺ d) (dw : d ≺ w) where
    t : Fraction
    t = share d z w

    rise-positive : sign (w ⊖ z) ≡ above
    rise-positive = Order.≺_trans fractions zd dw

    share-positive : NonNegative t
    unfolding t
    share-positive = Order.nonnegative_factor fractions rise-positive (Order.nonnegative_same fractions (share_law d z w zd dw) (Order.nonnegative_positive fractions zd))

    rest-positive : NonNegative (one ⊖ t)
    unfolding t
    rest-positive = Order.nonnegative_factor fractions rise-positive (Order.nonnegative_same fractions
        (ring_from fraction_ring (d ∷ z ∷ w ∷ share d z w ∷ []) ((opposite unit, var 3 :* (var 2 :- var 1), var 0 :- var 1) ∷ []) (given (share_law d z w zd dw) none)
        ((unit :- var 3) :* (var 2 :- var 1)) (var 2 :- var 0) refl) (Order.nonnegative_positive fractions dw))

    inner_at : NonNegative (t ⊗ u)
    inner_at = Order.nonnegative-mul fractions share-positive u-positive

    middle_at : t ⊗ u ≼ breadth_at d y z u w
    unfolding t
    middle_at = Order.nonnegative_same fractions (ring fraction_ring (share d z w ∷ y ∷ u ∷ []) (((unit :- var 0) :* var 1 :+ var 0 :* var 2) :- var 0 :* var 2) ((unit :- var 0) :* var 1) refl)
        (Order.nonnegative-mul fractions rest-positive y-positive)

    pub strip_area-cut : natural 2 ⊗ sum_over area_of (wet_strip d y z u w) ≡ trapezium_area y z (breadth_at d y z u w) d
    unfolding t
    strip_area-cut = ap (λ ts. natural 2 ⊗ sum_over area_of ts) (wet_strip-cut d y z u w zd dw) ∙ area-three y z (breadth_at d y z u w) d y-positive (Order.≺_weak fractions zd) (t ⊗ u) inner_at middle_at

    pub strip_moment-cut : natural 3 ⊗ (natural 2 ⊗ sum_over moment_of (wet_strip d y z u w)) ≡ trapezium_moment y z (breadth_at d y z u w) d
    unfolding t
    strip_moment-cut = ap (λ ts. natural 3 ⊗ (natural 2 ⊗ sum_over moment_of ts)) (wet_strip-cut d y z u w zd dw) ∙ moment-three y z (breadth_at d y z u w) d y-positive (Order.≺_weak fractions zd) (t ⊗ u) inner_at middle_at

    -- the half-breadth at the draft, times the rise
    pub breadth_law : breadth_at d y z u w ⊗ (w ⊖ z) ≡ y ⊗ (w ⊖ d) ⊕ u ⊗ (d ⊖ z)
    breadth_law = ring_from fraction_ring (d ∷ y ∷ z ∷ u ∷ w ∷ share d z w ∷ []) ((var 3 :- var 1, var 5 :* (var 4 :- var 2), var 0 :- var 2) ∷ []) (given (share_law d z w zd dw) none)
        (((unit :- var 5) :* var 1 :+ var 5 :* var 3) :* (var 4 :- var 2)) (var 1 :* (var 4 :- var 0) :+ var 3 :* (var 0 :- var 2)) refl
