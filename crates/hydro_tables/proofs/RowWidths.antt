-- How wide quotients are, and how far from 0 a span lies that contains what is known.
use Rattle.std.proofs.Common.{◌≡◌, ◌≢◌, refl, sym, ◌^◌, [], ◌∷◌, ℕ, ℤ, pos, ◌-ℤ◌, ◌≤ℤ◌, ◌<ℤ◌, arith}
use Rattle.std.proofs.lemmas.Int.{ints}
use Rattle.exact_algebra.specs.Expression.{var, unit, number, ◌:+◌, ◌:-◌, ◌:*◌, opposite}
use Rattle.exact_algebra.specs.OrderedField.{Sign, below, level, above}
use Rattle.exact_algebra.proofs.Bounds as Bounds
use Rattle.exact_algebra.proofs.Fraction.{Fraction, ◌⊕◌, ◌⊗◌, ◌⊖◌, negative, inverse, sign, fractions, fraction_ring, ◌≼◌}
use Rattle.exact_algebra.proofs.Order as Order
use Rattle.exact_algebra.proofs.Order.{order_from, no_more, at_most, scaled, equal}
use Rattle.exact_algebra.proofs.Ring.{ring, ring_from, none, given}
use Rattle.exact_algebra.proofs.Span.{ContainsFraction, in_units, positive-unit, positive_from_span}
use Rattle.exact_algebra.proofs.Whole.{whole, whole-sub, whole-≼, positive-whole_above}
use Rattle.hull_model.specs.Fractions.{magnitude, magnitude_by}
use Rattle.outward_interval.specs.Ends.{AreQuotientEnds}
use Rattle.outward_interval.specs.Widths.{unit_of, units, IsNarrow, IsNear}
use Rattle.outward_interval.specs.declared.span.Span.{Span}
use Rattle.outward_interval.proofs.Narrow.{unit-in, positive-unit_of, nonnegative-unit_of, narrow-wider, narrow-quotient}
use Rattle.flux_moments.proofs.TotalWidths.{sixteen}
use Rattle.hydro_tables.specs.Widths.{in_unit, lower, width_of, IsQuotientNarrow}

-- ---- units
pub in_unit-in : (F : ℕ) (z : ℤ) → in_units F (in_unit F z) ≡ whole z
in_unit-in F z = ring_from fraction_ring (whole z ∷ whole (pos (2 ^ F)) ∷ unit_of F ∷ []) ((var 0, var 2 :* var 1, unit) ∷ []) (given (unit-in F) none) ((var 0 :* var 2) :* var 1) (var 0) refl

nonnegative-scale : (F : ℕ) → sign (whole (pos (2 ^ F))) ≢ below
nonnegative-scale F = Order.nonnegative_positive fractions (positive-unit F)

pub two_units : units 20 2 ≼ unit_of 16
two_units = order_from fractions (unit_of 20 ∷ unit_of 16 ∷ []) ((opposite unit, var 1, number 16 :* var 0) ∷ (number 14, number 0, var 0) ∷ [])
    (equal sixteen (scaled (Order.nonnegative-number fractions 14) (Order.nought-≼ fractions (nonnegative-unit_of 20)) no_more)) (number 2 :* var 0) (var 1) refl

-- two units more are within 2^-16
pub within : (w : Fraction) {lo hi : ℤ} → IsNarrow 20 (w ⊕ units 20 2) lo hi → IsNarrow 20 (w ⊕ unit_of 16) lo hi
within w h = narrow-wider (Order.≼-add fractions (Order.≼_refl fractions w) two_units) h

-- ---- a span by its own width
module _ (s : Span 20) where
  abbrev d : Fraction
  d = whole s.hi ⊖ whole s.lo

  width_in : in_units 20 (width_of s) ≡ d
  width_in = ring_from fraction_ring (width_of s ∷ whole (pos (2 ^ 20)) ∷ whole (s.hi -ℤ s.lo) ∷ whole s.hi ∷ whole s.lo ∷ [])
      ((unit, var 0 :* var 1, var 2) ∷ (unit, var 2, var 3 :- var 4) ∷ []) (given (in_unit-in 20 (s.hi -ℤ s.lo)) (given (whole-sub s.hi s.lo) none)) (var 0 :* var 1) (var 3 :- var 4) refl

  pub narrow_itself : IsNarrow 20 (width_of s) s.lo s.hi
  narrow_itself = record { width = Order.≼_same fractions (sym width_in) }

  pub least_width : {w : Fraction} → IsNarrow 20 w s.lo s.hi → width_of s ≼ w
  least_width n = Order.≼_cancel fractions (positive-unit 20) (Order.≼_trans fractions (Order.≼_same fractions width_in) n.width)

  pub nonnegative_width : sign (width_of s) ≢ below
  nonnegative_width = Order.nonnegative_factor fractions (positive-unit 20) (Order.nonnegative_same fractions width_in (whole-≼ s.ordered))

-- what a span contains lies between its ends
pub above_lower : (s : Span 20) {x : Fraction} → ContainsFraction 20 s.lo s.hi x → in_unit 20 s.lo ≼ x
above_lower s h = Order.≼_cancel fractions (positive-unit 20) (Order.≼_trans fractions (Order.≼_same fractions (in_unit-in 20 s.lo)) h.from)

pub below_upper : (s : Span 20) {x : Fraction} → ContainsFraction 20 s.lo s.hi x → x ≼ in_unit 20 s.hi
below_upper s h = Order.≼_cancel fractions (positive-unit 20) (Order.≼_trans fractions h.to (Order.≼_same fractions (sym (in_unit-in 20 s.hi))))

pub upper_by_width : (s : Span 20) → in_unit 20 s.hi ≡ in_unit 20 s.lo ⊕ width_of s
upper_by_width s = ring_from fraction_ring (unit_of 20 ∷ whole s.lo ∷ whole s.hi ∷ whole (s.hi -ℤ s.lo) ∷ []) ((opposite (var 0), var 3, var 2 :- var 1) ∷ [])
    (given (whole-sub s.hi s.lo) none) (var 2 :* var 0) (var 1 :* var 0 :+ var 3 :* var 0) refl

-- a span that contains x lies no farther from 0 than x may, and its own width more
pub near_contained : {lo hi : ℤ} (x m w : Fraction) → ContainsFraction 20 lo hi x → IsNarrow 20 w lo hi → negative m ≼ x → x ≼ m → IsNear 20 (m ⊕ w) lo hi
near_contained {lo} {hi} x m w is n from to = record {
  from = order_from fractions (whole lo ∷ whole hi ∷ x ∷ m ∷ w ∷ whole (pos (2 ^ 20)) ∷ [])
      ((unit, var 2 :* var 5, var 1) ∷ (unit, var 1 :- var 0, var 4 :* var 5) ∷ (var 5, opposite (var 3), var 2) ∷ [])
      (at_most is.to (at_most n.width (scaled (nonnegative-scale 20) from no_more))) (opposite ((var 3 :+ var 4) :* var 5)) (var 0) refl;
  to = order_from fractions (whole lo ∷ whole hi ∷ x ∷ m ∷ w ∷ whole (pos (2 ^ 20)) ∷ [])
      ((unit, var 0, var 2 :* var 5) ∷ (unit, var 1 :- var 0, var 4 :* var 5) ∷ (var 5, var 2, var 3) ∷ [])
      (at_most is.from (at_most n.width (scaled (nonnegative-scale 20) to no_more))) (var 1) ((var 3 :+ var 4) :* var 5) refl;
}

-- ---- magnitudes
pub record IsMagnitude (x m : Fraction) : Type 0 where
  pub from : negative m ≼ x
  pub to : x ≼ m
  pub some : sign m ≢ below

pub magnitude_is : (x : Fraction) → IsMagnitude x (magnitude x)
unfolding magnitude
magnitude_is x = go (sign x) refl
  where
    under : sign x ≢ below → IsMagnitude x x
    under n = record {
      from = order_from fractions (x ∷ []) ((number 2, number 0, var 0) ∷ []) (scaled (Order.nonnegative-number fractions 2) (Order.nought-≼ fractions n) no_more) (opposite (var 0)) (var 0) refl;
      to = Order.≼_refl fractions x;
      some = n;
    }

    go : (s : Sign) → sign x ≡ s → IsMagnitude x (magnitude_by s x)
    go below e =
        let some : sign (negative x) ≢ below = Order.nonnegative_positive fractions (Order.negative_below fractions e) in
        record {
          from = Order.≼_same fractions (ring fraction_ring (x ∷ []) (opposite (opposite (var 0))) (var 0) refl);
          to = order_from fractions (x ∷ []) ((number 2, number 0, opposite (var 0)) ∷ []) (scaled (Order.nonnegative-number fractions 2) (Order.nought-≼ fractions some) no_more) (var 0) (opposite (var 0)) refl;
          some = some;
        }
    go level e = under (Order.nonnegative_level fractions e)
    go above e = under (Order.nonnegative_positive fractions e)

-- ---- quotients
more : {n : ℤ} → pos 1 ≤ℤ n → pos 0 <ℤ n
more h = omega (arith, ints)

pub quotient_narrow : (moment divisor quotient : Span 20) → pos 1 ≤ℤ divisor.lo → AreQuotientEnds 20 moment.lo moment.hi divisor.lo divisor.hi quotient.lo quotient.hi → IsQuotientNarrow moment divisor quotient
quotient_narrow moment divisor quotient some ends w v x y wide wide' in_x in_y =
    within ((w ⊕ magnitude (x ⊗ inverse y) ⊗ v) ⊗ inverse (lower divisor)) (narrow-quotient x y (magnitude (x ⊗ inverse y)) (lower divisor) some divisor.ordered moment.ordered ends in_x in_y to from is.some
    (Order.positive-mul fractions (positive-whole_above (more some)) (positive-unit_of 20)) (Order.≼_same fractions (in_unit-in 20 divisor.lo)) wide wide')
  where
    is : IsMagnitude (x ⊗ inverse y) (magnitude (x ⊗ inverse y))
    is = magnitude_is (x ⊗ inverse y)

    positive : sign y ≡ above
    positive = positive_from_span (more some) in_y

    exact : x ≡ (x ⊗ inverse y) ⊗ y
    exact = ring_from fraction_ring (x ∷ y ∷ inverse y ∷ []) ((opposite (var 0), var 1 :* var 2, unit) ∷ []) (given (Bounds.mul-inverse_positive fractions positive) none) (var 0) ((var 0 :* var 2) :* var 1) refl

    to : x ≼ magnitude (x ⊗ inverse y) ⊗ y
    to = Order.≼_trans fractions (Order.≼_same fractions exact) (Order.≼-mul fractions (Order.nonnegative_positive fractions positive) is.to)

    from : negative x ≼ magnitude (x ⊗ inverse y) ⊗ y
    from = order_from fractions (x ∷ y ∷ (x ⊗ inverse y) ∷ magnitude (x ⊗ inverse y) ∷ []) ((opposite unit, var 0, var 2 :* var 1) ∷ (var 1, opposite (var 3), var 2) ∷ [])
        (equal exact (scaled (Order.nonnegative_positive fractions positive) is.from no_more)) (opposite (var 0)) (var 3 :* var 1) refl
