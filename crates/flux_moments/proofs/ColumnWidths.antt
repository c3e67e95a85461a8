-- How wide the columns of a face are, by the sizes of its corners: orders of fractions that the code's products and sums lead to.
use Rattle.std.proofs.Common.{◌≢◌, refl, [], ◌∷◌, ℕ, arith}
use Rattle.std.proofs.lemmas.Int.{ints}
use Rattle.exact_algebra.specs.Expression.{Expression, var, unit, number, ◌:+◌, ◌:*◌}
use Rattle.exact_algebra.specs.OrderedField.{below}
use Rattle.exact_algebra.specs.Ring.{number_value}
use Rattle.exact_algebra.proofs.Fraction.{Fraction, nought, one, ◌⊕◌, ◌⊗◌, sign, fractions, fraction_ring, ◌≼◌}
use Rattle.exact_algebra.proofs.Order as Order
use Rattle.exact_algebra.proofs.Order.{order_from, no_more, at_most, scaled}
use Rattle.outward_interval.specs.Widths.{unit_of, units}
use Rattle.outward_interval.proofs.Narrow.{nonnegative-unit_of, units-at_most}
use Rattle.flux_moments.specs.Sizes.{AreSizes, column_width, product_width, volume_part, length_part, height_part}

module _ {s h a e : Fraction} (is : AreSizes s h a e) where
  reach : sign h ≢ below
  reach = Order.nonnegative_from fractions (Order.≼_trans fractions (Order.nought-≼ fractions (Order.nonnegative-one fractions)) is.some)

  u : sign (unit_of 20) ≢ below
  u = nonnegative-unit_of 20

  from_nought : nought ≼ unit_of 20
  from_nought = Order.nought-≼ fractions u

  small : units 20 36 ≼ one
  small = units-at_most 20 36 (omega (arith, ints))

  n : (k : ℕ) → sign (number_value fraction_ring.operations k) ≢ below
  n k = Order.nonnegative-number fractions k

  -- ---- the volume
  pub volume-narrow : (((h ⊕ units 20 2) ⊕ units 20 8) ⊗ (e ⊗ a) ⊕ a ⊗ ((s ⊕ units 20 4) ⊕ units 20 8)) ⊕ units 20 2 ≼ volume_part s a
  volume-narrow = order_from fractions (s ∷ h ∷ a ∷ e ∷ unit_of 20 ∷ [])
      ((var 2, var 3 :* var 1, var 0) ∷ (number 10 :* var 4 :* var 2, var 3, unit) ∷ (number 2 :* var 2, number 0, var 4) ∷ [])
      (scaled is.area is.turned (scaled (Order.nonnegative-mul fractions (Order.nonnegative-mul fractions (n 10) u) is.area) is.at_most_one
      (scaled (Order.nonnegative-mul fractions (n 2) is.area) from_nought no_more)))
      ((((var 1 :+ number 2 :* var 4) :+ number 8 :* var 4) :* (var 3 :* var 2) :+ var 2 :* ((var 0 :+ number 4 :* var 4) :+ number 8 :* var 4)) :+
      number 2 :* var 4)
      (var 2 :* ((var 0 :+ var 0) :+ number 24 :* var 4) :+ number 2 :* var 4) refl

  -- ---- the moments, with widths and reaches of the weighted means that together are no more than those of the mean
  module _ (w1 w2 w3 m1 m2 m3 : Fraction) (widths : (w1 ⊕ w2) ⊕ w3 ≼ (s ⊕ units 20 4) ⊕ units 20 24)
      (reaches : (m1 ⊕ m2) ⊕ m3 ≼ (h ⊕ units 20 2) ⊕ units 20 24) where
    -- one column
    abbrev col : Expression → Expression → Expression
    col w m = (m :* (var 3 :* var 2) :+ var 2 :* w) :+ number 2 :* var 4

    abbrev all_widths : Expression
    all_widths = (var 0 :+ number 4 :* var 4) :+ number 24 :* var 4

    abbrev all_reaches : Expression
    all_reaches = (var 1 :+ number 2 :* var 4) :+ number 24 :* var 4

    -- times places that are at most x
    module _ (x k1 k2 k3 : Fraction) (l1 : k1 ≼ x) (l2 : k2 ≼ x) (l3 : k3 ≼ x) (far : sign x ≢ below)
        (nw1 : sign w1 ≢ below) (nw2 : sign w2 ≢ below) (nw3 : sign w3 ≢ below) (nm1 : sign m1 ≢ below) (nm2 : sign m2 ≢ below) (nm3 : sign m3 ≢ below) where
      column : (w m : Fraction) → sign w ≢ below → sign m ≢ below → sign (column_width w m e a) ≢ below
      column w m p q = (Order.nonnegative-add fractions (Order.nonnegative-add fractions
          (Order.nonnegative-mul fractions q (Order.nonnegative-mul fractions is.turn is.area)) (Order.nonnegative-mul fractions is.area p))
          (Order.nonnegative-mul fractions (n 2) u))

      pub length-narrow : (column_width w1 m1 e a ⊗ k1 ⊕ column_width w2 m2 e a ⊗ k2) ⊕ column_width w3 m3 e a ⊗ k3 ≼ length_part x s a
      length-narrow = order_from fractions (s ∷ h ∷ a ∷ e ∷ unit_of 20 ∷ w1 ∷ w2 ∷ w3 ∷ m1 ∷ m2 ∷ m3 ∷ x ∷ k1 ∷ k2 ∷ k3 ∷ [])
          ((col (var 5) (var 8), var 12, var 11) ∷ (col (var 6) (var 9), var 13, var 11) ∷ (col (var 7) (var 10), var 14, var 11)
          ∷ (var 11 :* (var 3 :* var 2), (var 8 :+ var 9) :+ var 10, all_reaches) ∷ (var 11 :* var 2, (var 5 :+ var 6) :+ var 7, all_widths)
          ∷ (var 11 :* var 2, var 3 :* var 1, var 0) ∷ (var 11 :* (number 26 :* var 4 :* var 2), var 3, unit)
          ∷ (var 11 :* (number 10 :* var 2), number 0, var 4) ∷ [])
          (scaled (column w1 m1 nw1 nm1) l1 (scaled (column w2 m2 nw2 nm2) l2 (scaled (column w3 m3 nw3 nm3) l3
          (scaled (Order.nonnegative-mul fractions far (Order.nonnegative-mul fractions is.turn is.area)) reaches
          (scaled (Order.nonnegative-mul fractions far is.area) widths
          (scaled (Order.nonnegative-mul fractions far is.area) is.turned (scaled
          (Order.nonnegative-mul fractions far (Order.nonnegative-mul fractions (Order.nonnegative-mul fractions (n 26) u) is.area))
          is.at_most_one (scaled (Order.nonnegative-mul fractions far (Order.nonnegative-mul fractions (n 10) is.area)) from_nought no_more))))))))
          ((col (var 5) (var 8) :* var 12 :+ col (var 6) (var 9) :* var 13) :+ col (var 7) (var 10) :* var 14)
          (var 11 :* (var 2 :* ((var 0 :+ var 0) :+ number 64 :* var 4) :+ number 6 :* var 4)) refl

    -- times spans no wider than s and no farther from 0 than h, but for the rounding
    abbrev prod : Expression → Expression → Expression
    prod w m = ((m :* var 2 :+ number 1 :* var 4) :* (var 0 :+ number 4 :* var 4) :+ (var 1 :+ number 2 :* var 4) :* col w m) :+ number 2 :* var 4

    abbrev product : Fraction → Fraction → Fraction
    product w m = product_width w m e a (s ⊕ units 20 4) (h ⊕ units 20 2)

    far : sign (h ⊕ units 20 2) ≢ below
    far = (Order.nonnegative-add fractions reach (Order.nonnegative-mul fractions (n 2) u))

    pub height-narrow : (product w1 m1 ⊕ product w2 m2) ⊕ product w3 m3 ≼ height_part h s a
    height-narrow = order_from fractions (s ∷ h ∷ a ∷ e ∷ unit_of 20 ∷ w1 ∷ w2 ∷ w3 ∷ m1 ∷ m2 ∷ m3 ∷ [])
        ((var 2 :* (var 0 :+ number 4 :* var 4) :+ (var 1 :+ number 2 :* var 4) :* (var 3 :* var 2), (var 8 :+ var 9) :+ var 10, all_reaches)
        ∷ ((var 1 :+ number 2 :* var 4) :* var 2, (var 5 :+ var 6) :+ var 7, all_widths)
        ∷ ((var 1 :+ number 2 :* var 4) :* var 2, var 3 :* var 1, var 0) ∷ ((var 1 :+ number 2 :* var 4) :* var 2 :* (number 26 :* var 4), var 3, unit)
        ∷ (var 2 :* var 0 :+ number 6 :* var 2 :* var 4 :+ var 0 :+ number 10 :* var 4, unit, var 1)
        ∷ (var 2 :* var 0 :+ number 6 :* var 2 :* var 4 :+ var 0 :+ number 4 :* var 4, number 36 :* var 4, unit)
        ∷ (number 6 :* var 2 :* var 0 :+ number 4 :* var 2 :* var 4 :+ number 33 :* var 0 :+ number 120 :* var 4, number 0, var 4) ∷ [])
        (scaled (Order.nonnegative-add fractions (Order.nonnegative-mul fractions is.area
        (Order.nonnegative-add fractions is.spread (Order.nonnegative-mul fractions (n 4) u)))
        (Order.nonnegative-mul fractions far (Order.nonnegative-mul fractions is.turn is.area))) reaches
        (scaled (Order.nonnegative-mul fractions far is.area) widths
        (scaled (Order.nonnegative-mul fractions far is.area) is.turned (scaled (Order.nonnegative-mul fractions
        (Order.nonnegative-mul fractions far is.area) (Order.nonnegative-mul fractions (n 26) u)) is.at_most_one
        (scaled (Order.nonnegative-add fractions (Order.nonnegative-add fractions
        (Order.nonnegative-add fractions (Order.nonnegative-mul fractions is.area is.spread)
        (Order.nonnegative-mul fractions (Order.nonnegative-mul fractions (n 6) is.area) u)) is.spread) (Order.nonnegative-mul fractions (n 10) u)) is.some
        (scaled (Order.nonnegative-add fractions (Order.nonnegative-add fractions
        (Order.nonnegative-add fractions (Order.nonnegative-mul fractions is.area is.spread)
        (Order.nonnegative-mul fractions (Order.nonnegative-mul fractions (n 6) is.area) u)) is.spread) (Order.nonnegative-mul fractions (n 4) u)) small
        (scaled (Order.nonnegative-add fractions (Order.nonnegative-add fractions
        (Order.nonnegative-add fractions (Order.nonnegative-mul fractions (Order.nonnegative-mul fractions (n 6) is.area) is.spread)
        (Order.nonnegative-mul fractions (Order.nonnegative-mul fractions (n 4) is.area) u)) (Order.nonnegative-mul fractions (n 33) is.spread))
        (Order.nonnegative-mul fractions (n 120) u)) from_nought no_more)))))))
        ((prod (var 5) (var 8) :+ prod (var 6) (var 9)) :+ prod (var 7) (var 10))
        (var 1 :* ((var 2 :* (((var 0 :+ var 0) :+ (var 0 :+ var 0)) :+ number 64 :* var 4) :+ var 0) :+ number 16 :* var 4)) refl
