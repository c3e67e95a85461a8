-- How wide the integrals over the lid are, from the sums over the faces.
use Rattle.std.proofs.Common.{◌≡◌, ◌≢◌, ◌∙◌, refl, sym, ap, [], ◌∷◌, length, ℕ, zero, suc, ◌*◌, ◌^◌, ◌<◌, ◌≤◌, ℤ, pos, unsigned_abs, ◌+ℤ◌, ◌-ℤ◌, ◌*ℤ◌, ◌≤ℤ◌, ◌<ℤ◌, arith}
use Rattle.std.proofs.lemmas.Int.{ints}
use Rattle.std.proofs.Math.Nat.{mul-le-mul}
use Rattle.exact_algebra.specs.Expression.{var, unit, number, ◌:+◌, ◌:-◌, ◌:*◌, opposite}
use Rattle.exact_algebra.specs.OrderedField.{below}
use Rattle.exact_algebra.specs.Ring.{number_value}
use Rattle.exact_algebra.proofs.Bounds as Bounds
use Rattle.exact_algebra.proofs.Fraction.{Fraction, nought, one, ◌⊕◌, ◌⊗◌, ◌⊖◌, inverse, sign, fractions, fraction_ring, ◌≼◌}
use Rattle.exact_algebra.proofs.Order as Order
use Rattle.exact_algebra.proofs.Order.{order_from, no_more, at_most, scaled, equal}
use Rattle.exact_algebra.proofs.Ring.{ring, ring_from, given, none}
use Rattle.exact_algebra.proofs.Span.{positive-unit}
use Rattle.exact_algebra.proofs.Whole.{whole, whole-nought, whole-one, whole-mul, whole-≼, positive-whole, nonnegative-whole}
use Rattle.hull_model.specs.declared.face.Face.{Face}
use Rattle.hull_model.specs.Fractions.{sum_over}
use Rattle.hull_polyhedron.specs.declared.faces.Faces.{Faces}
use Rattle.outward_interval.specs.Ends.{AreLeastEnds}
use Rattle.outward_interval.specs.Widths.{unit_of, units, IsNarrow}
use Rattle.outward_interval.proofs.Narrow.{whole-number, unit-in, nonnegative-unit_of, narrow-wider, narrow-over}
use Rattle.flux_moments.specs.LidWidths.{seen_part_bound}
use Rattle.flux_moments.specs.Limits.{EndsAtMost}
use Rattle.flux_moments.specs.Widths.{share_rise, area_above, lid_bound}
use Rattle.flux_moments.proofs.LevelEnds.{same_floor, same_ceiling}
use Rattle.flux_moments.proofs.TotalWidths.{sum_affine_of}

-- 2^-18 is four units of 2^-20
four : unit_of 18 ≡ units 20 4
four = Order.mul_cancel fractions (Order.not_nought fractions (positive-unit 20))
    (ring_from fraction_ring (unit_of 18 ∷ unit_of 20 ∷ whole (pos (2 ^ 18)) ∷ whole (pos (2 ^ 20)) ∷ whole (pos 4) ∷ [])
    ((var 0, var 3, var 2 :* var 4) ∷ (var 4, var 0 :* var 2, unit) ∷ (unit, var 4, number 4) ∷ (opposite (number 4), var 1 :* var 3, unit) ∷ [])
    (given (whole-mul (pos (2 ^ 18)) (pos 4)) (given (unit-in 18) (given (whole-number 4) (given (unit-in 20) none)))) (var 0 :* var 3)
    ((number 4 :* var 1) :* var 3) refl)

-- ---- the ends
-- of a boundary, which has few faces
pub lid-far : (most faces : ℕ) {lo hi : ℤ} → faces < 2 ^ 14 → EndsAtMost (faces * most) lo hi → EndsAtMost (16383 * most) lo hi
lid-far most faces few e = record { low = omega (arith, e.low, mul-le-mul fewer same); high = omega (arith, e.high, mul-le-mul fewer same) }
  where
    fewer : faces ≤ 16383
    fewer = omega (arith, few)

    same : most ≤ most
    same = omega arith

-- of one without faces
pub lid-none : (most faces : ℕ) {lo hi : ℤ} → EndsAtMost (faces * most) lo hi → faces ≡ 0 → (lo ≡ pos 0) × (hi ≡ pos 0)
lid-none most faces {lo} {hi} e empty = (nothing lo e.low, nothing hi e.high)
  where
    nothing : (z : ℤ) → unsigned_abs z ≤ faces * most → z ≡ pos 0
    nothing z h = omega (arith, ints, h, ap (λ n. n * most) empty)

module _ (faces : Faces) (d1 d2 : ℤ) where
  abbrev seen : Face → Fraction
  seen f = area_above f ⊗ (share_rise faces.first_x faces.last_x d1 d2 f ⊕ unit_of 32)

  abbrev Q : Fraction
  Q = sum_over seen faces.list

  abbrev N : Fraction
  N = whole (pos (length faces.list))

  abbrev H : Fraction
  H = inverse (whole (pos 2))

  half : whole (pos 2) ⊗ H ≡ one
  half = Bounds.mul-inverse_positive fractions (positive-whole 2 (omega arith))

  bound_is : lid_bound faces d1 d2 ≡ Q ⊗ H ⊕ N ⊗ unit_of 18
  unfolding lid_bound
  bound_is = ap (λ x. x ⊕ N ⊗ unit_of 18) (sum_affine_of faces.list seen (λ f. (area_above f ⊗ H)
      ⊗ (share_rise faces.first_x faces.last_x d1 d2 f ⊕ unit_of 32)) H nought
      (λ f. ring fraction_ring (area_above f ∷ (share_rise faces.first_x faces.last_x d1 d2 f ⊕ unit_of 32) ∷ H ∷ []) ((var 0 :* var 2) :* var 1)
      ((var 0 :* var 1) :* var 2 :+ number 0) refl)
      ∙ ring fraction_ring ((Q ⊗ H) ∷ N ∷ []) (var 0 :+ var 1 :* number 0) (var 0) refl)

  module _ (g : Fraction) (some : one ≼ g) where
    far : sign g ≢ below
    far = Order.nonnegative_from fractions (Order.≼_trans fractions (Order.nought-≼ fractions (Order.nonnegative-one fractions)) some)

    total_is : sum_over (seen_part_bound faces.first_x faces.last_x d1 d2 g) faces.list ≡ Q ⊗ g ⊕ N ⊗ units 20 2
    total_is = sum_affine_of faces.list seen (seen_part_bound faces.first_x faces.last_x d1 d2 g) g (units 20 2)
        (λ f. ring fraction_ring (g ∷ seen f ∷ unit_of 20 ∷ []) (var 0 :* var 1 :+ number 2 :* var 2) (var 1 :* var 0 :+ number 2 :* var 2) refl)

    -- there is a face
    enough : one ≼ N → sum_over (seen_part_bound faces.first_x faces.last_x d1 d2 g) faces.list ≼ (g ⊗ lid_bound faces d1 d2 ⊖ units 20 2) ⊗ whole (pos 2)
    enough face = order_from fractions (g ∷ Q ∷ N ∷ H ∷ whole (pos 2) ∷ unit_of 20 ∷ unit_of 18 ∷ lid_bound faces d1 d2 ∷ sum_over
        (seen_part_bound faces.first_x faces.last_x d1 d2 g) faces.list ∷ [])
        ((unit, var 8, var 1 :* var 0 :+ var 2 :* (number 2 :* var 5)) ∷ (opposite (var 0 :* var 4), var 7, var 1 :* var 3 :+ var 2 :* var 6)
        ∷ (opposite (var 0 :* var 1), var 4 :* var 3, unit)
        ∷ (opposite (var 0 :* var 2 :* var 6 :- number 2 :* var 5), var 4, number 2) ∷ (opposite (number 2 :* var 0 :* var 2), var 6, number 4 :* var 5)
        ∷ (number 6 :* var 5 :* var 2, unit, var 0) ∷ (number 4 :* var 5, unit, var 2) ∷ (number 2 :* var 0 :* var 2, number 0, var 5) ∷ [])
        (equal total_is (equal bound_is (equal half (equal (whole-number 2) (equal four
        (scaled (Order.nonnegative-mul fractions (Order.nonnegative-mul fractions (n 6) u) (nonnegative-whole (length faces.list))) some
        (scaled (Order.nonnegative-mul fractions (n 4) u) face
        (scaled (Order.nonnegative-mul fractions (Order.nonnegative-mul fractions (n 2) far) (nonnegative-whole (length faces.list)))
        (Order.nought-≼ fractions u) no_more))))))))
        (var 8) ((var 0 :* var 7 :- number 2 :* var 5) :* var 4) refl
      where
        u : sign (unit_of 20) ≢ below
        u = nonnegative-unit_of 20

        n : (k : ℕ) → sign (number_value fraction_ring.operations k) ≢ below
        n k = Order.nonnegative-number fractions k

    module _ {low high lo hi : ℤ} (narrow : IsNarrow 20 (sum_over (seen_part_bound faces.first_x faces.last_x d1 d2 g) faces.list) low high)
        (ends : AreLeastEnds low high 2 lo hi) where
      -- there is none
      empty : length faces.list ≡ 0 → (low ≡ pos 0) × (high ≡ pos 0) → IsNarrow 20 (g ⊗ lid_bound faces d1 d2) lo hi
      empty e nothing = record {
        width = order_from fractions (g ∷ Q ∷ N ∷ H ∷ whole (pos (2 ^ 20)) ∷ unit_of 20 ∷ unit_of 18 ∷ lid_bound faces d1 d2 ∷ sum_over
            (seen_part_bound faces.first_x faces.last_x d1 d2 g) faces.list ∷ whole lo ∷ whole hi ∷ whole low ∷ whole high ∷ [])
            ((var 3, var 12 :- var 11, var 8 :* var 4) ∷ (var 3, var 11, number 0) ∷ (opposite (var 3), var 12, number 0)
            ∷ (opposite unit, var 9, number 0) ∷ (unit, var 10, number 0)
            ∷ (var 3 :* var 4, var 8, var 1 :* var 0 :+ var 2 :* (number 2 :* var 5)) ∷ (opposite (var 0 :* var 4), var 7, var 1 :* var 3 :+ var 2 :* var 6)
            ∷ (number 2 :* var 3 :* var 4 :* var 5 :- var 0 :* var 4 :* var 6, var 2, number 0) ∷ [])
            (scaled (Order.nonnegative_positive fractions (Bounds.positive-inverse fractions (positive-whole 2 (omega arith)))) narrow.width
            (equal (ap whole nothing.0 ∙ whole-nought) (equal (ap whole nothing.1 ∙ whole-nought)
            (equal (ap whole lower ∙ whole-nought) (equal (ap whole upper ∙ whole-nought)
            (equal total_is (equal bound_is (equal (ap (λ n. whole (pos n)) e ∙ whole-nought) no_more))))))))
            (var 10 :- var 9) ((var 0 :* var 7) :* var 4) refl;
      }
        where
          lower : lo ≡ pos 0
          lower = same_floor (pos 0) low lo 2 (omega arith) nothing.0 ends.low

          upper : hi ≡ pos 0
          upper = same_ceiling (pos 0) high hi 2 (omega arith) nothing.1 ends.high

      pub lid-total : (length faces.list ≡ 0 → (low ≡ pos 0) × (high ≡ pos 0)) → ((hi -ℤ lo) *ℤ pos 2) ≤ℤ ((high -ℤ low) +ℤ pos (2 * 2)) → IsNarrow 20
          (g ⊗ lid_bound faces d1 d2) lo hi
      lid-total nothing quotient = go (length faces.list) refl
        where
          go : (n : ℕ) → length faces.list ≡ n → IsNarrow 20 (g ⊗ lid_bound faces d1 d2) lo hi
          go zero e = empty e (nothing e)
          go (suc n) e = narrow-wider (Order.≼_same fractions (ring fraction_ring (g ∷ lid_bound faces d1 d2 ∷ unit_of 20 ∷ [])
              ((var 0 :* var 1 :- number 2 :* var 2) :+ number 2 :* var 2) (var 0 :* var 1) refl))
              (narrow-over (g ⊗ lid_bound faces d1 d2 ⊖ units 20 2) 2 (omega arith) quotient narrow (enough face))
            where
              face : one ≼ N
              face = Order.≼_trans fractions (Order.≼_same fractions (sym whole-one)) (whole-≼ (at_least (length faces.list) e))
                where
                  at_least : (m : ℕ) → m ≡ suc n → pos 1 ≤ℤ pos m
                  at_least m e = omega (arith, ints)

  -- the factors
  pub some_length : one ≼ whole faces.last_x
  some_length = Order.≼_trans fractions (Order.≼_same fractions (sym whole-one))
      (whole-≼ (ahead faces.first_x faces.last_x faces.ends.first_within.0 faces.ends.apart))
    where
      ahead : (first last : ℤ) → pos 0 ≤ℤ first → first <ℤ last → pos 1 ≤ℤ last
      ahead first last h k = omega (arith, ints)

  pub some_breadth : one ≼ whole faces.half_breadth
  some_breadth = Order.≼_trans fractions (Order.≼_same fractions (sym whole-one)) (whole-≼ faces.reach.broad)

  pub some_square : (l : Fraction) → one ≼ l → one ≼ l ⊗ l
  some_square l h = order_from fractions (l ∷ []) ((var 0 :+ unit, unit, var 0) ∷ [])
      (scaled (Order.nonnegative-add fractions (Order.nonnegative_from fractions
      (Order.≼_trans fractions (Order.nought-≼ fractions (Order.nonnegative-one fractions)) h)) (Order.nonnegative-one fractions)) h no_more)
      unit (var 0 :* var 0) refl

  pub unscaled : {lo hi : ℤ} → IsNarrow 20 (one ⊗ lid_bound faces d1 d2) lo hi → IsNarrow 20 (lid_bound faces d1 d2) lo hi
  unscaled n = narrow-wider (Order.≼_same fractions (ring fraction_ring (lid_bound faces d1 d2 ∷ []) (unit :* var 0) (var 0) refl)) n
