-- A volume's lower end that is moved outwards to 0: the span stays within its bound, since the volume is then no more than half of that bound. Where it
-- is more, no moment of a hull is too great beside it.
use Rattle.std.proofs.Common.{◌≡◌, ◌≢◌, refl, sym, ◌∙◌, ap, inl, inr, [], ◌∷◌, ℕ, ◌^◌, ℤ, pos, negsuc, neg_ℤ, ◌*ℤ◌, ◌≤ℤ◌, ◌<ℤ◌, unsigned_abs, arith}
use Rattle.std.proofs.lemmas.Int.{ints, clamps}
use Rattle.std.specs.Int.{int_min}
use Rattle.exact_algebra.specs.Expression.{Expression, var, unit, number, ◌:+◌, ◌:-◌, ◌:*◌, opposite}
use Rattle.exact_algebra.specs.OrderedField.{below, above}
use Rattle.exact_algebra.specs.Ring.{number_value}
use Rattle.exact_algebra.proofs.Bounds as Bounds
use Rattle.exact_algebra.proofs.Fraction.{Fraction, nought, one, ◌⊕◌, ◌⊗◌, ◌⊖◌, negative, inverse, sign, fractions, fraction_ring, ◌≼◌}
use Rattle.exact_algebra.proofs.Order as Order
use Rattle.exact_algebra.proofs.Order.{order_from, no_more, at_most, scaled, equal}
use Rattle.exact_algebra.proofs.Ring.{ring_from, none, given}
use Rattle.exact_algebra.proofs.Span.{positive-unit}
use Rattle.exact_algebra.proofs.Whole.{whole, whole-nought, whole-one, whole-mul, whole-negative, whole-≼, whole-≼_out, positive-whole, positive-whole_above, nonnegative-whole}
use Rattle.outward_interval.specs.Widths.{unit_of, IsNarrow, IsNear}
use Rattle.outward_interval.specs.declared.span.Span.{Span}
use Rattle.outward_interval.proofs.Narrow.{whole-number, units-at_most, positive-unit_of, narrow-wider, near-wider}
use Rattle.flux_moments.proofs.TotalWidths.{sixteen}
use Rattle.hydro_tables.specs.Bounds.{IsSmallBeside, IsMoved}
use Rattle.hydro_tables.specs.Extent.{far, IsPart, AreLimited}
use Rattle.hydro_tables.specs.Figures.{Integrals}
use Rattle.hydro_tables.specs.Row.{Holds}
use Rattle.hydro_tables.specs.Widths.{lower, upper, width_of, inertia_width}
use Rattle.hydro_tables.proofs.RowWidths.{in_unit-in, least_width, below_upper, upper_by_width, near_contained}

abbrev K : Fraction
K = whole (pos (2 ^ 13))

abbrev G : Fraction
G = (far ⊗ far) ⊗ K

abbrev N98 : Fraction
N98 = number_value fraction_ring.operations 98

pub halves : whole (pos 2) ⊗ inverse (whole (pos 2)) ≡ one
halves = Bounds.mul-inverse_positive fractions (positive-whole 2 (omega arith))

pub nonnegative-half : sign (inverse (whole (pos 2))) ≢ below
nonnegative-half = Order.nonnegative_positive fractions (Bounds.positive-inverse fractions (positive-whole 2 (omega arith)))

nonnegative-far : sign far ≢ below
nonnegative-far = nonnegative-whole (2 ^ 20)

nonnegative-G : sign G ≢ below
nonnegative-G = Order.nonnegative-mul fractions (Order.nonnegative-mul fractions nonnegative-far nonnegative-far) (nonnegative-whole (2 ^ 13))

one_far : one ≼ far
one_far = Order.≼_trans fractions (Order.≼_same fractions (sym whole-one)) (whole-≼ (omega (arith, ints)))

some_area : one ≼ far ⊗ K
some_area = Order.≼_trans fractions (Order.≼_same fractions (sym whole-one)) (Order.≼_trans fractions (whole-≼ (omega (arith, ints))) (Order.≼_same fractions (whole-mul (pos (2 ^ 20)) (pos (2 ^ 13)))))

few : N98 ≼ far
few = Order.≼_trans fractions (Order.≼_same fractions (sym (whole-number 98))) (whole-≼ (omega (arith, ints)))

far_G : far ⊗ G ≡ whole (pos (2 ^ 73))
far_G = ring_from fraction_ring (far ∷ K ∷ whole (pos (2 ^ 40)) ∷ whole (pos (2 ^ 53)) ∷ whole (pos (2 ^ 73)) ∷ [])
    ((opposite (var 0 :* var 1), var 2, var 0 :* var 0) ∷ (opposite (var 0), var 3, var 2 :* var 1) ∷ (opposite unit, var 4, var 0 :* var 3) ∷ [])
    (given (whole-mul (pos (2 ^ 20)) (pos (2 ^ 20))) (given (whole-mul (pos (2 ^ 40)) (pos (2 ^ 13))) (given (whole-mul (pos (2 ^ 20)) (pos (2 ^ 53))) none)))
    (var 0 :* ((var 0 :* var 0) :* var 1)) (var 4) refl

-- 2^-16 is at most one
sixteenth : unit_of 16 ≼ one
sixteenth = Order.≼_trans fractions (Order.≼_same fractions sixteen) (units-at_most 20 16 (omega (arith, ints)))

module _ (w i : Integrals) (limits : AreLimited w i) (volume : Span 20) (wide : IsNarrow 20 (w.volume ⊗ inverse (whole (pos 2))) volume.lo volume.hi) (in_volume : Holds volume i.volume) where
  abbrev W : Fraction
  W = w.volume

  abbrev q : Fraction
  q = lower volume

  nonnegative-W : sign W ≢ below
  nonnegative-W = Order.nonnegative_from fractions (Order.≼_trans fractions (Order.nought-≼ fractions (nonnegative-whole 2)) limits.volume_width)

  nonnegative-scale : sign (whole (pos (2 ^ 20))) ≢ below
  nonnegative-scale = Order.nonnegative_positive fractions (positive-unit 20)

  -- ---- the move
  pub kept_narrow : IsNarrow 20 W volume.lo volume.hi
  kept_narrow = narrow-wider (order_from fractions (W ∷ inverse (whole (pos 2)) ∷ whole (pos 2) ∷ [])
      ((var 0, var 2 :* var 1, unit) ∷ (opposite (var 0 :* var 1), var 2, number 2) ∷ (var 1, number 0, var 0) ∷ [])
      (equal halves (equal (whole-number 2) (scaled nonnegative-half (Order.nought-≼ fractions nonnegative-W) no_more))) (var 0 :* var 1) (var 0) refl) wide

  pub moved_narrow : (shown : Span 20) → IsMoved volume shown → q ≼ W ⊗ inverse (whole (pos 2)) → IsNarrow 20 W shown.lo shown.hi
  moved_narrow shown moved small = elim (Order.≼_total fractions (whole volume.lo) (whole (pos 0))) [
    | inl k ↦ record {
      width = Order.≼_trans fractions same_high (order_from fractions (whole volume.lo ∷ whole volume.hi ∷ whole shown.lo ∷ W ∷ inverse (whole (pos 2)) ∷ whole (pos 2) ∷ whole (pos (2 ^ 20)) ∷ [])
          ((unit, var 1 :- var 0, (var 3 :* var 4) :* var 6) ∷ (unit, var 0, var 2) ∷ (var 4 :* var 6, number 0, var 3) ∷ (var 3 :* var 6, var 5 :* var 4, unit) ∷ (opposite ((var 3 :* var 4) :* var 6), var 5, number 2) ∷ [])
          (at_most wide.width (at_most (whole-≼ (low_below volume.lo shown.lo moved.low (whole-≼_out volume.lo (pos 0) k))) (scaled (Order.nonnegative-mul fractions nonnegative-half nonnegative-scale) (Order.nought-≼ fractions nonnegative-W)
          (equal halves (equal (whole-number 2) no_more))))) (var 1 :- var 2) (var 3 :* var 6) refl);
    }
    | inr k ↦ record {
      width = Order.≼_trans fractions same_high (order_from fractions (whole volume.lo ∷ whole volume.hi ∷ whole shown.lo ∷ W ∷ inverse (whole (pos 2)) ∷ whole (pos 2) ∷ whole (pos (2 ^ 20)) ∷ [])
          ((unit, var 1 :- var 0, (var 3 :* var 4) :* var 6) ∷ (unit, var 0, (var 3 :* var 4) :* var 6) ∷ (unit, number 0, var 2) ∷ (var 3 :* var 6, var 5 :* var 4, unit) ∷ (opposite ((var 3 :* var 4) :* var 6), var 5, number 2) ∷ [])
          (at_most wide.width (at_most within (at_most (Order.≼_trans fractions (Order.≼_same fractions (sym whole-nought)) (whole-≼ (low_above volume.lo shown.lo moved.low (whole-≼_out (pos 0) volume.lo k))))
          (equal halves (equal (whole-number 2) no_more))))) (var 1 :- var 2) (var 3 :* var 6) refl);
    }
  ]
    where
      same_high : whole shown.hi ⊖ whole shown.lo ≼ whole volume.hi ⊖ whole shown.lo
      same_high = Order.≼_same fractions (ap (λ (z : ℤ). whole z ⊖ whole shown.lo) moved.high)

      within : whole volume.lo ≼ (W ⊗ inverse (whole (pos 2))) ⊗ whole (pos (2 ^ 20))
      within = Order.≼_trans fractions (Order.≼_same fractions (sym (in_unit-in 20 volume.lo))) (Order.≼-mul fractions nonnegative-scale small)

      low_below : (lo to : ℤ) → int_min lo (pos 0) ≤ℤ to → lo ≤ℤ pos 0 → lo ≤ℤ to
      low_below lo to h k = omega (arith, ints, clamps)

      low_above : (lo to : ℤ) → int_min lo (pos 0) ≤ℤ to → pos 0 ≤ℤ lo → pos 0 ≤ℤ to
      low_above lo to h k = omega (arith, ints, clamps)

  -- ---- where the volume is more than half of its bound
  module _ (some : pos 1 ≤ℤ volume.lo) (large : W ⊗ inverse (whole (pos 2)) ≼ q) where
    positive-lower : sign q ≡ above
    positive-lower = Order.positive-mul fractions (positive-whole_above (more some)) (positive-unit_of 20)
      where
        more : {n : ℤ} → pos 1 ≤ℤ n → pos 0 <ℤ n
        more h = omega (arith, ints)

    nonnegative-lower : sign q ≢ below
    nonnegative-lower = Order.nonnegative_positive fractions positive-lower

    bound_within : W ≼ number_value fraction_ring.operations 2 ⊗ q
    bound_within = order_from fractions (W ∷ inverse (whole (pos 2)) ∷ whole (pos 2) ∷ q ∷ []) ((number 2, var 0 :* var 1, var 3) ∷ (opposite (var 0), var 2 :* var 1, unit) ∷ (var 0 :* var 1, var 2, number 2) ∷ [])
        (scaled (Order.nonnegative-number fractions 2) large (equal halves (equal (whole-number 2) no_more))) (var 0) (number 2 :* var 3) refl

    volume_within : i.volume ≼ number_value fraction_ring.operations 2 ⊗ q
    volume_within = order_from fractions (i.volume ∷ upper volume ∷ q ∷ width_of volume ∷ (W ⊗ inverse (whole (pos 2))) ∷ [])
        ((unit, var 0, var 1) ∷ (unit, var 1, var 2 :+ var 3) ∷ (unit, var 3, var 4) ∷ (unit, var 4, var 2) ∷ [])
        (at_most (below_upper volume in_volume) (equal (upper_by_width volume) (at_most (least_width volume wide) (at_most large no_more)))) (var 0) (number 2 :* var 2) refl

    small_by_near : (m : Span 20) → IsNear 20 ((N98 ⊗ G) ⊗ q) m.lo m.hi → IsSmallBeside 74 volume m
    small_by_near m near = record {
      low = finish m.lo volume.lo some (whole-≼_out m.lo _ (Order.≼_trans fractions (whole-≼ m.ordered) to)) (whole-≼_out _ m.lo from);
      high = finish m.hi volume.lo some (whole-≼_out m.hi _ to) (whole-≼_out _ m.hi (Order.≼_trans fractions from (whole-≼ m.ordered)));
    }
      where
        to : whole m.hi ≼ whole (pos (2 ^ 73) *ℤ volume.lo)
        to = Order.≼_trans fractions (order_from fractions (whole m.hi ∷ G ∷ q ∷ whole (pos (2 ^ 20)) ∷ whole volume.lo ∷ far ∷ whole (pos (2 ^ 73)) ∷ [])
            ((unit, var 0, ((number 98 :* var 1) :* var 2) :* var 3) ∷ (number 98 :* var 1, var 2 :* var 3, var 4) ∷ (var 1 :* var 4, number 98, var 5) ∷ (var 4, var 5 :* var 1, var 6) ∷ [])
            (at_most near.to (equal (in_unit-in 20 volume.lo) (scaled (Order.nonnegative-mul fractions nonnegative-G whole-nonnegative) few (equal far_G no_more)))) (var 0) (var 6 :* var 4) refl)
            (Order.≼_same fractions (sym (whole-mul (pos (2 ^ 73)) volume.lo)))
          where
            whole-nonnegative : sign (whole volume.lo) ≢ below
            whole-nonnegative = Order.nonnegative_positive fractions (positive-whole_above (omega (arith, ints, some)))

        from : whole (neg_ℤ (pos (2 ^ 73) *ℤ volume.lo)) ≼ whole m.lo
        from = Order.≼_trans fractions (Order.≼_same fractions (whole-negative (pos (2 ^ 73) *ℤ volume.lo) ∙ ap negative (whole-mul (pos (2 ^ 73)) volume.lo)))
            (order_from fractions (whole m.lo ∷ G ∷ q ∷ whole (pos (2 ^ 20)) ∷ whole volume.lo ∷ far ∷ whole (pos (2 ^ 73)) ∷ [])
            ((unit, opposite (((number 98 :* var 1) :* var 2) :* var 3), var 0) ∷ (number 98 :* var 1, var 2 :* var 3, var 4) ∷ (var 1 :* var 4, number 98, var 5) ∷ (var 4, var 5 :* var 1, var 6) ∷ [])
            (at_most near.from (equal (in_unit-in 20 volume.lo) (scaled (Order.nonnegative-mul fractions nonnegative-G whole-nonnegative) few (equal far_G no_more)))) (opposite (var 6 :* var 4)) (var 0) refl)
          where
            whole-nonnegative : sign (whole volume.lo) ≢ below
            whole-nonnegative = Order.nonnegative_positive fractions (positive-whole_above (omega (arith, ints, some)))

        finish : (z c : ℤ) → pos 1 ≤ℤ c → z ≤ℤ (pos (2 ^ 73) *ℤ c) → neg_ℤ (pos (2 ^ 73) *ℤ c) ≤ℤ z → pos (unsigned_abs z) <ℤ (c *ℤ pos (2 ^ 74))
        finish z (pos c) h k l = omega (arith, ints)
        finish z (negsuc c) h k l = absurd (omega (arith, ints))

    -- what is known of an integral that is at most the distance times the volume
    pub linear_small : (m : Span 20) (x wx : Fraction) → IsPart far i.volume x → IsPart far W wx → Holds m x → IsNarrow 20 wx m.lo m.hi → IsSmallBeside 74 volume m
    linear_small m x wx part part_width in_m wide_m = small_by_near m (near-wider
        (order_from fractions (i.volume ∷ q ∷ W ∷ wx ∷ far ∷ K ∷ [])
        ((var 4, var 0, number 2 :* var 1) ∷ (unit, var 3, var 4 :* var 2) ∷ (var 4, var 2, number 2 :* var 1) ∷ (number 4 :* (var 4 :* var 1), unit, var 4 :* var 5) ∷ (number 94 :* var 1, number 0, (var 4 :* var 4) :* var 5) ∷ [])
        (scaled nonnegative-far volume_within (at_most part_width.1 (scaled nonnegative-far bound_within (scaled (Order.nonnegative-mul fractions (Order.nonnegative-number fractions 4) (Order.nonnegative-mul fractions nonnegative-far nonnegative-lower)) some_area
        (scaled (Order.nonnegative-mul fractions (Order.nonnegative-number fractions 94) nonnegative-lower) (Order.nought-≼ fractions nonnegative-G) no_more)))))
        (var 4 :* var 0 :+ var 3) ((number 98 :* ((var 4 :* var 4) :* var 5)) :* var 1) refl)
        (near_contained x (far ⊗ i.volume) wx in_m wide_m (order_from fractions (x ∷ (far ⊗ i.volume) ∷ []) ((number 2, number 0, var 0) ∷ (unit, var 0, var 1) ∷ [])
        (scaled (Order.nonnegative-number fractions 2) part.0 (at_most part.1 no_more)) (opposite (var 1)) (var 0) refl) part.1))

    -- at most its square times the area
    pub square_small : (m : Span 20) (x wx : Fraction) → IsPart (far ⊗ far) i.area x → IsPart (far ⊗ far) w.area wx → Holds m x → IsNarrow 20 wx m.lo m.hi → IsSmallBeside 74 volume m
    square_small m x wx part part_width in_m wide_m = small_by_near m (near-wider
        (order_from fractions (i.area ∷ q ∷ W ∷ wx ∷ far ∷ K ∷ w.area ∷ [])
        ((var 4 :* var 4, var 0, var 5 :* var 2) ∷ (unit, var 3, (var 4 :* var 4) :* var 6) ∷ (var 4 :* var 4, var 6, var 5 :* var 2) ∷ (number 2 :* ((var 4 :* var 4) :* var 5), var 2, number 2 :* var 1) ∷ (number 94 :* var 1, number 0, (var 4 :* var 4) :* var 5) ∷ [])
        (scaled squares limits.area.1 (at_most part_width.1 (scaled squares limits.area_width.1 (scaled (Order.nonnegative-mul fractions (Order.nonnegative-number fractions 2) nonnegative-G) bound_within
        (scaled (Order.nonnegative-mul fractions (Order.nonnegative-number fractions 94) nonnegative-lower) (Order.nought-≼ fractions nonnegative-G) no_more)))))
        ((var 4 :* var 4) :* var 0 :+ var 3) ((number 98 :* ((var 4 :* var 4) :* var 5)) :* var 1) refl)
        (near_contained x ((far ⊗ far) ⊗ i.area) wx in_m wide_m (order_from fractions (x ∷ ((far ⊗ far) ⊗ i.area) ∷ []) ((number 2, number 0, var 0) ∷ (unit, var 0, var 1) ∷ [])
        (scaled (Order.nonnegative-number fractions 2) part.0 (at_most part.1 no_more)) (opposite (var 1)) (var 0) refl) part.1))
      where
        squares : sign (far ⊗ far) ≢ below
        squares = Order.nonnegative-mul fractions nonnegative-far nonnegative-far

    -- and the inertia about the centre
    pub inertia_small : (inertia : Span 20) (x c e t : Fraction) → x ≡ i.sxx ⊖ c ⊗ i.sx → nought ≼ c → c ≼ far → nought ≼ e → e ≼ far → nought ≼ t → t ≼ i.area ⊕ w.area → Holds inertia x
        → IsNarrow 20 (inertia_width w e t) inertia.lo inertia.hi → IsSmallBeside 74 volume inertia
    inertia_small inertia x c e t is c0 c1 e0 e1 t0 t1 in_inertia wide_inertia = small_by_near inertia (near-wider
        (order_from fractions (i.area ∷ q ∷ W ∷ w.sxx ∷ w.sx ∷ w.area ∷ e ∷ t ∷ unit_of 16 ∷ far ∷ K ∷ whole (pos 2) ∷ whole (pos 8) ∷ [])
        ((opposite inner, number 8, var 12) ∷ (opposite (number 8 :* (var 6 :* var 4)), number 2, var 11) ∷ (number 8, var 3, (var 9 :* var 9) :* var 5) ∷ (number 16 :* var 6, var 4, var 9 :* var 5)
        ∷ (number 16 :* (var 9 :* var 5), var 6, var 9) ∷ (number 8 :* (var 6 :* var 5), var 6, var 9) ∷ (number 8 :* (var 9 :* var 5), var 6, var 9) ∷ (number 8 :* (var 6 :* var 7), var 8, unit) ∷ (number 8 :* var 7, var 6, var 9)
        ∷ (number 8 :* var 9, var 7, var 0 :+ var 5) ∷ (number 8 :* (var 9 :* (var 0 :+ var 5)), unit, var 9) ∷ (number 9 :* (var 9 :* var 9), var 0, var 10 :* var 2) ∷ (number 40 :* (var 9 :* var 9), var 5, var 10 :* var 2)
        ∷ (number 49 :* ((var 9 :* var 9) :* var 10), var 2, number 2 :* var 1) ∷ [])
        (equal (sym (whole-number 8)) (equal (sym (whole-number 2)) (scaled (n 8) limits.sxx_width.1 (scaled (Order.nonnegative-mul fractions (n 16) (Order.nonnegative_from fractions e0)) limits.sx_width.1
        (scaled (Order.nonnegative-mul fractions (n 16) (Order.nonnegative-mul fractions f a)) e1 (scaled (Order.nonnegative-mul fractions (n 8) (Order.nonnegative-mul fractions (Order.nonnegative_from fractions e0) a)) e1 (scaled (Order.nonnegative-mul fractions (n 8) (Order.nonnegative-mul fractions f a)) e1 (scaled (Order.nonnegative-mul fractions (n 8) (Order.nonnegative-mul fractions (Order.nonnegative_from fractions e0) (Order.nonnegative_from fractions t0))) sixteenth (scaled (Order.nonnegative-mul fractions (n 8) (Order.nonnegative_from fractions t0)) e1
        (scaled (Order.nonnegative-mul fractions (n 8) f) t1 (scaled (Order.nonnegative-mul fractions (n 8) (Order.nonnegative-mul fractions f (Order.nonnegative-add fractions (Order.nonnegative_from fractions limits.area.0) a))) one_far (scaled (Order.nonnegative-mul fractions (n 9) (Order.nonnegative-mul fractions f f)) limits.area.1 (scaled (Order.nonnegative-mul fractions (n 40) (Order.nonnegative-mul fractions f f)) limits.area_width.1
        (scaled (Order.nonnegative-mul fractions (n 49) nonnegative-G) bound_within no_more))))))))))))))
        ((var 9 :* var 9) :* var 0 :+ var 12 :* inner) ((number 98 :* ((var 9 :* var 9) :* var 10)) :* var 1) refl)
        (near_contained x ((far ⊗ far) ⊗ i.area) (inertia_width w e t) in_inertia wide_inertia below_x above_x))
      where
        inner : Expression
        inner = ((var 3 :+ (var 11 :* var 6) :* var 4) :+ (var 6 :* var 6) :* var 5) :+ (var 6 :* var 7) :* var 8

        a : sign w.area ≢ below
        a = Order.nonnegative_from fractions limits.area_width.0

        f : sign far ≢ below
        f = nonnegative-far

        n : (k : ℕ) → sign (number_value fraction_ring.operations k) ≢ below
        n k = Order.nonnegative-number fractions k

        above_x : x ≼ (far ⊗ far) ⊗ i.area
        above_x = order_from fractions (x ∷ i.sxx ∷ c ∷ i.sx ∷ far ∷ i.area ∷ []) ((unit, var 0, var 1 :- var 2 :* var 3) ∷ (unit, var 1, (var 4 :* var 4) :* var 5) ∷ (var 2, number 0, var 3) ∷ [])
            (equal is (at_most limits.sxx.1 (scaled (Order.nonnegative_from fractions c0) limits.sx.0 no_more))) (var 0) ((var 4 :* var 4) :* var 5) refl

        below_x : negative ((far ⊗ far) ⊗ i.area) ≼ x
        below_x = order_from fractions (x ∷ i.sxx ∷ c ∷ i.sx ∷ far ∷ i.area ∷ []) ((opposite unit, var 0, var 1 :- var 2 :* var 3) ∷ (unit, number 0, var 1) ∷ (var 3, var 2, var 4) ∷ (var 4, var 3, var 4 :* var 5) ∷ [])
            (equal is (at_most limits.sxx.0 (scaled (Order.nonnegative_from fractions limits.sx.0) c1 (scaled f limits.sx.1 no_more)))) (opposite ((var 4 :* var 4) :* var 5)) (var 0) refl
