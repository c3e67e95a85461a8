-- How wide the inertia about the centre of the waterplane is, where there is one.
use Rattle.std.proofs.Common.{◌≡◌, ◌≢◌, refl, sym, ◌∙◌, [], ◌∷◌, ℕ, ◌^◌, max, suc, ◌<◌, ℤ, pos, ◌≤ℤ◌, ◌<ℤ◌, unsigned_abs, arith}
use Rattle.std.proofs.lemmas.Int.{ints}
use Rattle.exact_algebra.specs.Expression.{Expression, var, unit, number, ◌:+◌, ◌:*◌, opposite}
use Rattle.exact_algebra.specs.OrderedField.{below, above}
use Rattle.exact_algebra.specs.Ring.{number_value}
use Rattle.exact_algebra.proofs.Bounds as Bounds
use Rattle.exact_algebra.proofs.Fraction.{Fraction, one, ◌⊕◌, ◌⊗◌, inverse, sign, fractions, fraction_ring, ◌≼◌}
use Rattle.exact_algebra.proofs.Order as Order
use Rattle.exact_algebra.proofs.Order.{order_from, no_more, at_most, scaled, equal}
use Rattle.exact_algebra.proofs.Ring.{ring, ring_from, none, given}
use Rattle.exact_algebra.proofs.Span.{positive-unit, positive_from_span}
use Rattle.exact_algebra.proofs.Whole.{whole, whole-nought, whole-mul, whole-≼, ≼_scaled, positive-whole_above, nonnegative-whole}
use Rattle.hull_model.specs.Fractions.{magnitude}
use Rattle.hull_model.proofs.Strip.{magnitude-nonnegative}
use Rattle.outward_interval.specs.Widths.{unit_of, units, IsNarrow, IsNear}
use Rattle.outward_interval.specs.declared.span.Span.{Span}
use Rattle.outward_interval.proofs.Narrow.{whole-number, unit-in, positive-unit_of, nonnegative-unit_of, narrow-wider, near-from}
use Rattle.hydro_tables.specs.Bounds.{IsAboard}
use Rattle.hydro_tables.specs.Extent.{far, IsPart, product_width}
use Rattle.hydro_tables.specs.Figures.{Integrals}
use Rattle.hydro_tables.specs.Row.{Holds}
use Rattle.hydro_tables.specs.Widths.{in_unit, lower, upper, width_of, farthest, quotient_width, inertia_width, IsWithin}
use Rattle.hydro_tables.proofs.RowWidths.{in_unit-in, narrow_itself, least_width, nonnegative_width, above_lower, below_upper, upper_by_width, near_contained}

-- ---- constants
small_unit : (d : Fraction) → d ≡ whole (pos 2) ⊗ far → d ⊗ unit_of 60 ≼ unit_of 16
small_unit d e = ≼_scaled (d ⊗ unit_of 60) (unit_of 16) (whole (pos (2 ^ 60))) (pos (2 ^ 21)) (pos (2 ^ 44)) (positive-unit 60)
    (ring_from fraction_ring (d ∷ unit_of 60 ∷ whole (pos (2 ^ 60)) ∷ whole (pos 2) ∷ far ∷ whole (pos (2 ^ 21)) ∷ [])
    ((unit, var 0, var 3 :* var 4) ∷ (var 0, var 1 :* var 2, unit) ∷ (opposite unit, var 5, var 3 :* var 4) ∷ [])
    (given e (given (unit-in 60) (given (whole-mul (pos 2) (pos (2 ^ 20))) none))) ((var 0 :* var 1) :* var 2) (var 5) refl)
    (ring_from fraction_ring (unit_of 16 ∷ whole (pos (2 ^ 60)) ∷ whole (pos (2 ^ 16)) ∷ whole (pos (2 ^ 44)) ∷ [])
    ((var 0, var 1, var 2 :* var 3) ∷ (var 3, var 0 :* var 2, unit) ∷ [])
    (given (whole-mul (pos (2 ^ 16)) (pos (2 ^ 44))) (given (unit-in 16) none)) (var 0 :* var 1) (var 3) refl)
    (omega (arith, ints))

two : whole (pos 2) ≡ one ⊕ one
two = whole-number 2 ∙ ring fraction_ring [] (number 2) (unit :+ unit) refl

small_far : (far ⊕ far) ⊗ unit_of 60 ≼ unit_of 16
small_far = small_unit (far ⊕ far) (ring_from fraction_ring (far ∷ whole (pos 2) ∷ []) ((opposite (var 0), var 1, unit :+ unit) ∷ []) (given two none) (var 0 :+ var 0) (var 1 :* var 0) refl)

small_twice : unit_of 60 ⊕ unit_of 60 ≼ one
small_twice = ≼_scaled (unit_of 60 ⊕ unit_of 60) one (whole (pos (2 ^ 60))) (pos 2) (pos (2 ^ 60)) (positive-unit 60)
    (ring_from fraction_ring (unit_of 60 ∷ whole (pos (2 ^ 60)) ∷ whole (pos 2) ∷ []) ((unit :+ unit, var 0 :* var 1, unit) ∷ (opposite unit, var 2, unit :+ unit) ∷ [])
    (given (unit-in 60) (given two none)) ((var 0 :+ var 0) :* var 1) (var 2) refl)
    (ring fraction_ring (whole (pos (2 ^ 60)) ∷ []) (unit :* var 0) (var 0) refl) (omega (arith, ints))

-- ---- the farthest end
module _ (s : Span 20) where
  pub farthest_near : IsNear 20 (farthest s) s.lo s.hi
  farthest_near = near-from s.lo s.hi (max (unsigned_abs s.lo) (unsigned_abs s.hi)) (first (unsigned_abs s.lo) (unsigned_abs s.hi)) (second (unsigned_abs s.lo) (unsigned_abs s.hi))
      (Order.≼_same fractions (sym (in_unit-in 20 (pos (max (unsigned_abs s.lo) (unsigned_abs s.hi))))))
    where
      first : (x y : ℕ) → x < suc (max x y)
      first x y = omega arith

      second : (x y : ℕ) → y < suc (max x y)
      second x y = omega arith

  by_unit : {a b : ℤ} → a ≤ℤ b → in_unit 20 a ≼ in_unit 20 b
  by_unit h = Order.≼-mul fractions (nonnegative-unit_of 20) (whole-≼ h)

  pub upper_within : upper s ≼ farthest s
  upper_within = by_unit (most s.hi (unsigned_abs s.lo))
    where
      most : (z : ℤ) (n : ℕ) → z ≤ℤ pos (max n (unsigned_abs z))
      most z n = omega (arith, ints)

  module _ (aboard : IsAboard s) where
    pub farthest_far : farthest s ≼ far
    farthest_far = Order.≼_trans fractions (by_unit (most s.lo s.hi aboard.from s.ordered aboard.to)) (Order.≼_same fractions forty)
      where
        most : (a b : ℤ) → pos 0 ≤ℤ a → a ≤ℤ b → b ≤ℤ pos (2 ^ 40) → pos (max (unsigned_abs a) (unsigned_abs b)) ≤ℤ pos (2 ^ 40)
        most a b h k l = omega (arith, ints)

        forty : in_unit 20 (pos (2 ^ 40)) ≡ far
        forty = ring_from fraction_ring (whole (pos (2 ^ 40)) ∷ unit_of 20 ∷ far ∷ []) ((var 1, var 0, var 2 :* var 2) ∷ (var 2, var 1 :* var 2, unit) ∷ [])
            (given (whole-mul (pos (2 ^ 20)) (pos (2 ^ 20))) (given (unit-in 20) none)) (var 0 :* var 1) (var 2) refl

    nonnegative_lower : sign (lower s) ≢ below
    nonnegative_lower = Order.nonnegative-mul fractions (Order.nonnegative_from fractions (Order.≼_trans fractions (Order.≼_same fractions (sym whole-nought)) (whole-≼ aboard.from))) (nonnegative-unit_of 20)

    pub width_within : width_of s ≼ farthest s
    width_within = order_from fractions (lower s ∷ upper s ∷ width_of s ∷ farthest s ∷ []) ((opposite unit, var 1, var 0 :+ var 2) ∷ (unit, number 0, var 0) ∷ (unit, var 1, var 3) ∷ [])
        (equal (upper_by_width s) (at_most (Order.nought-≼ fractions nonnegative_lower) (at_most upper_within no_more))) (var 2) (var 3) refl

  pub nonnegative_farthest : sign (farthest s) ≢ below
  nonnegative_farthest = Order.nonnegative-mul fractions (nonnegative-whole (max (unsigned_abs s.lo) (unsigned_abs s.hi))) (nonnegative-unit_of 20)

-- ---- the inertia
module _ (w i : Integrals) (lcf area sx : Span 20) (aboard : IsAboard lcf) (least : pos 1 ≤ℤ area.lo)
    (in_area : Holds area i.area) (in_sx : Holds sx i.sx) (in_lcf : Holds lcf (i.sx ⊗ inverse i.area)) (centre : IsPart far i.area i.sx)
    (wide_area : IsNarrow 20 w.area area.lo area.hi) (wide_sx : IsNarrow 20 w.sx sx.lo sx.hi) (wide_lcf : IsWithin (quotient_width w.sx w.area (i.sx ⊗ inverse i.area) area) lcf)
    (some : units 20 4 ≼ w.sxx) where
  abbrev E : Fraction
  E = farthest lcf

  abbrev t : Fraction
  t = upper area

  abbrev q : Fraction
  q = lower area

  abbrev c : Fraction
  c = i.sx ⊗ inverse i.area

  more : {n : ℤ} → pos 1 ≤ℤ n → pos 0 <ℤ n
  more h = omega (arith, ints)

  positive_area : sign i.area ≡ above
  positive_area = positive_from_span (more least) in_area

  positive_lower : sign q ≡ above
  positive_lower = Order.positive-mul fractions (positive-whole_above (more least)) (positive-unit_of 20)

  nonnegative_area : sign w.area ≢ below
  nonnegative_area = Order.nonnegative_from fractions (Order.≼_trans fractions (Order.nought-≼ fractions (nonnegative_width area)) (least_width area wide_area))

  nonnegative_sx : sign w.sx ≢ below
  nonnegative_sx = Order.nonnegative_from fractions (Order.≼_trans fractions (Order.nought-≼ fractions (nonnegative_width sx)) (least_width sx wide_sx))

  nonnegative_centre : sign c ≢ below
  nonnegative_centre = Order.nonnegative-mul fractions (Order.nonnegative_from fractions centre.0) (Order.nonnegative_positive fractions (Bounds.positive-inverse fractions positive_area))

  centre_within : c ≼ E
  centre_within = Order.≼_trans fractions (below_upper lcf in_lcf) (upper_within lcf)

  magnitude_within : magnitude c ≼ E
  magnitude_within = Order.≼_trans fractions (Order.≼_same fractions (magnitude-nonnegative c c nonnegative_centre refl)) centre_within

  area_within : t ≼ q ⊕ w.area
  area_within = order_from fractions (q ∷ t ∷ width_of area ∷ w.area ∷ []) ((unit, var 1, var 0 :+ var 2) ∷ (unit, var 2, var 3) ∷ [])
      (equal (upper_by_width area) (at_most (least_width area wide_area) no_more)) (var 1) (var 0 :+ var 3) refl

  lower_within : q ≼ t
  lower_within = Order.≼_trans fractions (above_lower area in_area) (below_upper area in_area)

  nonnegative_upper : sign t ≢ below
  nonnegative_upper = Order.nonnegative_from fractions (Order.≼_trans fractions (Order.nought-≼ fractions (Order.nonnegative_positive fractions positive_lower)) lower_within)

  -- the integral of x is the centre times the area
  sx_near : IsNear 20 (E ⊗ t ⊕ w.sx) sx.lo sx.hi
  sx_near = near_contained i.sx (E ⊗ t) w.sx in_sx wide_sx
      (order_from fractions (i.sx ∷ (E ⊗ t) ∷ []) ((unit, number 0, var 0) ∷ (unit, number 0, var 1) ∷ [])
      (at_most centre.0 (at_most (Order.nought-≼ fractions (Order.nonnegative-mul fractions (nonnegative_farthest lcf) nonnegative_upper)) no_more)) (opposite (var 1)) (var 0) refl)
      (order_from fractions (i.sx ∷ i.area ∷ inverse i.area ∷ E ∷ t ∷ []) ((opposite (var 0), var 1 :* var 2, unit) ∷ (var 1, var 0 :* var 2, var 3) ∷ (var 3, var 1, var 4) ∷ [])
      (equal (Bounds.mul-inverse_positive fractions positive_area) (scaled (Order.nonnegative_positive fractions positive_area) centre_within (scaled (nonnegative_farthest lcf) (below_upper area in_area) no_more))) (var 0) (var 3 :* var 4) refl)

  -- the width of the centre, times the area's lower end
  centre_wide : width_of lcf ⊗ q ≼ (w.sx ⊕ E ⊗ w.area) ⊕ unit_of 16 ⊗ q
  centre_wide = order_from fractions (width_of lcf ∷ w.sx ∷ magnitude c ∷ w.area ∷ inverse q ∷ q ∷ unit_of 16 ∷ E ∷ [])
      ((var 5, var 0, (var 1 :+ var 2 :* var 3) :* var 4 :+ var 6) ∷ (var 1 :+ var 2 :* var 3, var 5 :* var 4, unit) ∷ (var 3, var 2, var 7) ∷ [])
      (scaled (Order.nonnegative_positive fractions positive_lower) (least_width lcf wide_lcf) (equal (Bounds.mul-inverse_positive fractions positive_lower) (scaled nonnegative_area magnitude_within no_more)))
      (var 0 :* var 5) ((var 1 :+ var 7 :* var 3) :+ var 6 :* var 5) refl

  -- the inertia's parts are within its bound
  enough : w.sxx ⊕ product_width E (E ⊗ t ⊕ w.sx) (width_of lcf) w.sx ≼ inertia_width w E t
  enough = order_from fractions (E ∷ t ∷ w.sx ∷ w.sxx ∷ w.area ∷ q ∷ width_of lcf ∷ unit_of 60 ∷ unit_of 20 ∷ unit_of 16 ∷ far ∷ whole (pos 2) ∷ whole (pos 8) ∷ [])
      ((var 0 :* var 6, var 1, var 5 :+ var 4) ∷ (var 0, var 6 :* var 5, (var 2 :+ var 0 :* var 4) :+ var 9 :* var 5) ∷ (var 0 :* var 4, var 6, var 0) ∷ (var 0 :* var 9, var 5, var 1)
      ∷ (var 2, var 6, var 0) ∷ ((var 0 :* var 1 :+ var 2) :* var 7, var 6, var 0) ∷ (number 2 :* (var 0 :* var 1) :* var 7, var 0, var 10) ∷ (var 0 :* var 1, (var 10 :+ var 10) :* var 7, var 9)
      ∷ (var 0 :* var 2, var 7 :+ var 7, unit) ∷ (unit, number 4 :* var 8, var 3) ∷ (number 2, number 0, var 8) ∷ (opposite inner, var 12, number 8)
      ∷ (opposite (number 8 :* (var 0 :* var 2)), var 11, number 2) ∷ (number 6, number 0, var 3) ∷ (number 12 :* var 0, number 0, var 2) ∷ (number 6 :* var 0 :* var 0, number 0, var 4) ∷ (number 6 :* var 0 :* var 9, number 0, var 1) ∷ [])
      (scaled (Order.nonnegative-mul fractions e wl) area_within (scaled e centre_wide (scaled (Order.nonnegative-mul fractions e nonnegative_area) (width_within lcf aboard) (scaled (Order.nonnegative-mul fractions e (nonnegative-unit_of 16)) lower_within
      (scaled nonnegative_sx (width_within lcf aboard) (scaled (Order.nonnegative-mul fractions (Order.nonnegative-add fractions (Order.nonnegative-mul fractions e nonnegative_upper) nonnegative_sx) (nonnegative-unit_of 60)) (width_within lcf aboard)
      (scaled (Order.nonnegative-mul fractions (Order.nonnegative-mul fractions (n 2) (Order.nonnegative-mul fractions e nonnegative_upper)) (nonnegative-unit_of 60)) (farthest_far lcf aboard) (scaled (Order.nonnegative-mul fractions e nonnegative_upper) small_far
      (scaled (Order.nonnegative-mul fractions e nonnegative_sx) small_twice (at_most some (scaled (n 2) (Order.nought-≼ fractions (nonnegative-unit_of 20)) (equal (whole-number 8) (equal (whole-number 2)
      (scaled (n 6) (Order.nought-≼ fractions nonnegative_sxx) (scaled (Order.nonnegative-mul fractions (n 12) e) (Order.nought-≼ fractions nonnegative_sx) (scaled (Order.nonnegative-mul fractions (Order.nonnegative-mul fractions (n 6) e) e) (Order.nought-≼ fractions nonnegative_area)
      (scaled (Order.nonnegative-mul fractions (Order.nonnegative-mul fractions (n 6) e) (nonnegative-unit_of 16)) (Order.nought-≼ fractions nonnegative_upper) no_more)))))))))))))))))
      (var 3 :+ (((var 0 :* var 2 :+ (var 0 :* var 1 :+ var 2) :* var 6) :+ ((var 0 :+ var 6) :* (var 0 :* var 1 :+ var 2)) :* var 7) :+ number 2 :* var 8)) (var 12 :* inner) refl
    where
      inner : Expression
      inner = ((var 3 :+ (var 11 :* var 0) :* var 2) :+ (var 0 :* var 0) :* var 4) :+ (var 0 :* var 1) :* var 9

      e : sign E ≢ below
      e = nonnegative_farthest lcf

      wl : sign (width_of lcf) ≢ below
      wl = nonnegative_width lcf

      n : (k : ℕ) → sign (number_value fraction_ring.operations k) ≢ below
      n k = Order.nonnegative-number fractions k

      nonnegative_sxx : sign w.sxx ≢ below
      nonnegative_sxx = Order.nonnegative_from fractions (Order.≼_trans fractions (Order.nought-≼ fractions (Order.nonnegative-mul fractions (n 4) (nonnegative-unit_of 20))) some)

  pub inertia_narrow : (sxx inertia : Span 20) → IsNarrow 20 w.sxx sxx.lo sxx.hi
      → ((m n l v y : Fraction) → IsNear 20 m lcf.lo lcf.hi → IsNear 20 n sx.lo sx.hi → IsNarrow 20 l lcf.lo lcf.hi → IsNarrow 20 v sx.lo sx.hi → IsNarrow 20 y sxx.lo sxx.hi → IsNarrow 20 (y ⊕ product_width m n l v) inertia.lo inertia.hi)
      → IsNarrow 20 (inertia_width w E t) inertia.lo inertia.hi
  inertia_narrow sxx inertia wide_sxx narrow = narrow-wider enough (narrow E (E ⊗ t ⊕ w.sx) (width_of lcf) w.sx w.sxx (farthest_near lcf) sx_near (narrow_itself lcf) wide_sx wide_sxx)
