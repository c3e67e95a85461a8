-- How wide the columns of a part of a face are: its corners and areas are spans at most 3 units wide, so a factor for its area is wider than
-- that of a face. Another area and another turn, a little larger, account for that.
use Rattle.std.proofs.Common.{List, ◌≡◌, ◌≢◌, ◌∙◌, refl, sym, inl, inr, [], ◌∷◌, ℕ, suc, ◌+◌, ◌*◌, ◌^◌, ◌<◌, ◌≤◌, ℤ, pos, negsuc, ◌+ℤ◌, ◌-ℤ◌, ◌*ℤ◌, ◌≤ℤ◌, ◌<ℤ◌, unsigned_abs, max, arith}
use Rattle.std.proofs.lemmas.Int.{ints}
use Rattle.exact_algebra.specs.Expression.{var, unit, number, opposite, ◌:+◌, ◌:-◌, ◌:*◌}
use Rattle.exact_algebra.specs.OrderedField.{below, above}
use Rattle.exact_algebra.proofs.Bounds as Bounds
use Rattle.exact_algebra.proofs.Fraction.{Fraction, one, ◌⊕◌, ◌⊗◌, inverse, sign, fractions, fraction_ring, ◌≼◌}
use Rattle.exact_algebra.proofs.Order as Order
use Rattle.exact_algebra.proofs.Order.{order_from, no_more, at_most, scaled, equal}
use Rattle.exact_algebra.proofs.Products.{magnitude}
use Rattle.exact_algebra.proofs.Ring.{ring, ring_from, given, none}
use Rattle.exact_algebra.proofs.Span.{positive-unit, in_units}
use Rattle.exact_algebra.proofs.Whole.{whole, whole-add, whole-mul, whole-≼, nonnegative-whole}
use Rattle.outward_interval.specs.Widths.{unit_of, units, IsNarrow, IsNear}
use Rattle.outward_interval.proofs.Narrow.{units-in, unit-in, units-at_most, nonnegative-unit_of, nonnegative-units, narrow-wider, near-from, narrow-scaled, narrow-rescaled}
use Rattle.plane_clip.specs.Enclosure.{in_unit}
use Rattle.plane_clip.specs.Limits.{IsThin}
use Rattle.plane_clip.specs.declared.part.Part.{Part}
use Rattle.flux_moments.specs.Limits.{EndsAtMost}
use Rattle.flux_moments.specs.PartSizes.{part_area, part_volume, part_length, part_height, ArePartWidths}
use Rattle.flux_moments.specs.ColumnSizes.{AreColumnWidths}
use Rattle.flux_moments.specs.Sizes.{AreSizes, volume_part, length_part, height_part}
use Rattle.flux_moments.specs.declared.wet.Wet.{Wet}
use Rattle.flux_moments.proofs.MeanWidths.{in_unit-in, near_by}

-- ---- spans that are thin, and spans of whole bounds
pub thin-narrow : (k : ℕ) (lo hi : ℤ) → IsThin k lo hi → IsNarrow 20 (units 20 k) lo hi
thin-narrow k lo hi h = record {
  width = order_from fractions (whole lo ∷ whole hi ∷ whole (pos k) ∷ whole (lo +ℤ pos k) ∷ in_units 20 (units 20 k) ∷ [])
      ((unit, var 1, var 3) ∷ (unit, var 3, var 0 :+ var 2) ∷ (opposite unit, var 4, var 2) ∷ [])
      (at_most (whole-≼ h) (equal (whole-add lo (pos k)) (equal (units-in 20 k) no_more))) (var 1 :- var 0) (var 4) refl;
}

less : {k m : ℕ} → k ≤ m → k < suc m
less h = omega (arith, h)

pub mm-near : (n : ℕ) {lo hi : ℤ} → EndsAtMost (n * 2 ^ 20) lo hi → IsNear 20 (whole (pos n)) lo hi
mm-near n {lo} {hi} e = near-from lo hi (n * 2 ^ 20) (less e.low) (less e.high) (Order.≼_same fractions (whole-mul (pos n) (pos (2 ^ 20))))

squared : whole (pos (2 ^ 40)) ≡ whole (pos (2 ^ 20)) ⊗ whole (pos (2 ^ 20))
squared = whole-mul (pos (2 ^ 20)) (pos (2 ^ 20))

-- so many units of 2^-20 at scale 40
pub turned-near : (m : ℕ) {lo hi : ℤ} → EndsAtMost (2 ^ 20 * m) lo hi → IsNear 40 (in_unit 20 (pos m)) lo hi
turned-near m {lo} {hi} e = near-from lo hi (2 ^ 20 * m) (less e.low) (less e.high)
    (Order.≼_same fractions (whole-mul (pos (2 ^ 20)) (pos m) ∙ ring_from fraction_ring (in_unit 20 (pos m) ∷ whole (pos m) ∷ whole (pos (2 ^ 20)) ∷ whole (pos (2 ^ 40)) ∷ [])
    ((opposite (var 2), var 0 :* var 2, var 1) ∷ (opposite (var 0), var 3, var 2 :* var 2) ∷ []) (given (in_unit-in 20 (pos m)) (given squared none))
    (var 2 :* var 1) (var 0 :* var 3) refl))

pub one-near : {lo hi : ℤ} → EndsAtMost (2 ^ 40) lo hi → IsNear 40 one lo hi
one-near {lo} {hi} e = near-from lo hi (2 ^ 40) (less e.low) (less e.high)
    (Order.≼_same fractions (ring fraction_ring (whole (pos (2 ^ 40)) ∷ []) (var 0) (unit :* var 0) refl))

two : pos 2 ≤ℤ pos (2 ^ 20)
two = omega (arith, ints)

fine : units 40 2 ≼ units 20 1
fine = Order.≼_cancel fractions (positive-unit 40) (Order.≼_trans fractions (Order.≼_same fractions (units-in 40 2))
    (Order.≼_trans fractions (whole-≼ two) (Order.≼_same fractions (sym coarse))))
  where
    coarse : in_units 40 (units 20 1) ≡ whole (pos (2 ^ 20))
    coarse = ring_from fraction_ring (whole (pos (2 ^ 40)) ∷ whole (pos (2 ^ 20)) ∷ unit_of 20 ∷ []) ((number 1 :* var 2, var 0, var 1 :* var 1) ∷ (var 1, var 2 :* var 1, unit) ∷ [])
        (given squared (given (unit-in 20) none)) ((number 1 :* var 2) :* var 0) (var 1) refl

-- cosine or sine, of width e, times a span at most 3 units wide and no farther than m from 0
pub turned-narrow : (e m : Fraction) (a b c d lo hi : ℤ) → a ≤ℤ b → c ≤ℤ d
    → ((hi -ℤ lo) *ℤ pos (2 ^ 20)) ≤ℤ ((pos (magnitude a b) *ℤ (d -ℤ c) +ℤ pos (magnitude c d) *ℤ (b -ℤ a)) +ℤ pos (2 * 2 ^ 20))
    → EndsAtMost (2 ^ 40) a b → IsNarrow 40 e a b → IsThin 3 c d → IsNear 20 m c d → IsNarrow 40 (e ⊗ m ⊕ units 20 4) lo hi
turned-narrow e m a b c d lo hi ab cd wide ends narrow thin near = narrow-wider
    (order_from fractions (e ∷ m ∷ units 40 2 ∷ units 20 1 ∷ units 20 3 ∷ units 20 4 ∷ unit_of 20 ∷ [])
    ((unit, var 2, var 3) ∷ (unit, var 3, number 1 :* var 6) ∷ (unit, var 4, number 3 :* var 6) ∷ (opposite unit, var 5, number 4 :* var 6) ∷ [])
    (at_most fine (equal refl (equal refl (equal refl no_more)))) ((unit :* var 4 :+ var 1 :* var 0) :+ var 2) (var 0 :* var 1 :+ var 5) refl)
    (narrow-scaled {F = 40} {G = 20} ab cd (omega arith) wide narrow (one-near ends) (thin-narrow 3 c d thin) near)

-- the sum or the difference of two of them, at scale 20
pub part-height-narrow : (e : Fraction) (y z : ℕ) {low high lo hi : ℤ} → IsNarrow 40 ((e ⊗ whole (pos z) ⊕ units 20 4) ⊕ (e ⊗ whole (pos y) ⊕ units 20 4)) low high
    → ((hi -ℤ lo) *ℤ pos (2 ^ 40)) ≤ℤ (((high -ℤ low) *ℤ pos (2 ^ 20)) +ℤ pos (2 * 2 ^ 40)) → IsNarrow 20 (e ⊗ whole (pos (z + y)) ⊕ units 20 10) lo hi
part-height-narrow e y z narrow wide = narrow-wider
    (order_from fractions (e ∷ whole (pos z) ∷ whole (pos y) ∷ whole (pos (z + y)) ∷ units 20 2 ∷ units 20 4 ∷ units 20 10 ∷ unit_of 20 ∷ [])
    ((opposite (var 0), var 3, var 1 :+ var 2) ∷ (unit, var 4, number 2 :* var 7) ∷ (number 2, var 5, number 4 :* var 7) ∷ (opposite unit, var 6, number 10 :* var 7) ∷ [])
    (equal (whole-add (pos z) (pos y)) (equal refl (equal refl (equal refl no_more))))
    (((var 0 :* var 1 :+ var 5) :+ (var 0 :* var 2 :+ var 5)) :+ var 4) (var 0 :* var 3 :+ var 6) refl)
    (narrow-rescaled {F = 40} {G = 20} wide (omega arith) narrow)

pub corner-wide : (r s : Fraction) → r ⊕ units 20 8 ≼ s → r ⊕ units 20 10 ≼ s ⊕ units 20 2
corner-wide r s h = order_from fractions (r ∷ s ∷ units 20 2 ∷ units 20 8 ∷ units 20 10 ∷ unit_of 20 ∷ [])
    ((unit, var 0 :+ var 3, var 1) ∷ (opposite unit, var 2, number 2 :* var 5) ∷ (opposite unit, var 3, number 8 :* var 5) ∷ (unit, var 4, number 10 :* var 5) ∷ [])
    (at_most h (equal refl (equal refl (equal refl no_more)))) (var 0 :+ var 4) (var 1 :+ var 2) refl

-- the greater magnitude of two ends
abbrev pub greatest : ℤ → ℤ → ℕ
greatest lo hi = max (unsigned_abs lo) (unsigned_abs hi)

pub greatest-ends : (lo hi : ℤ) → EndsAtMost (greatest lo hi) lo hi
greatest-ends lo hi = record { low = omega arith; high = omega arith }

pub greatest-near : (lo hi : ℤ) → IsNear 20 (in_unit 20 (pos (greatest lo hi))) lo hi
greatest-near lo hi = near_by 20 lo hi (greatest lo hi) (less (greatest-ends lo hi).low) (less (greatest-ends lo hi).high)

pub part-factor-narrow : (e m n : Fraction) {lo hi : ℤ} → IsNarrow 40 ((e ⊗ m ⊕ units 20 4) ⊕ (e ⊗ n ⊕ units 20 4)) lo hi → IsNarrow 40 (e ⊗ (m ⊕ n) ⊕ units 20 8) lo hi
part-factor-narrow e m n narrow = narrow-wider (order_from fractions (e ∷ m ∷ n ∷ units 20 4 ∷ units 20 8 ∷ unit_of 20 ∷ [])
    ((number 2, var 3, number 4 :* var 5) ∷ (opposite unit, var 4, number 8 :* var 5) ∷ []) (equal refl (equal refl no_more))
    ((var 0 :* var 1 :+ var 3) :+ (var 0 :* var 2 :+ var 3)) (var 0 :* (var 1 :+ var 2) :+ var 4) refl) narrow

-- ---- a turn and an area that account for the width of the factor
-- d for the rise, e for the turn, h for the reach, a for the area
abbrev pub wider_spread : (d e h : Fraction) → Fraction
wider_spread d e h = (d ⊕ e ⊗ h) ⊕ units 20 8

pub record PartFactor (d e h a : Fraction) : Type 0 where
  pub turn : Fraction
  pub area : Fraction
  pub turn_more : e ≼ turn
  pub turn_one : turn ≼ one
  pub area_more : a ≼ area
  pub area_one : area ≼ a ⊕ one
  pub product : e ⊗ a ⊕ units 20 8 ≼ turn ⊗ area
  pub columns : area ⊗ wider_spread d turn h ≼ (a ⊕ one) ⊗ wider_spread d e h ⊕ units 20 8 ⊗ h
  pub spread : wider_spread d turn h ≼ wider_spread d e h ⊕ units 20 8 ⊗ h

module _ (d e h a : Fraction) (rise : sign d ≢ below) (turn : sign e ≢ below) (at_most_one : e ≼ one) (some : one ≼ h) (area : sign a ≢ below) where
  reach : sign h ≢ below
  reach = Order.nonnegative_from fractions (Order.≼_trans fractions (Order.nought-≼ fractions (Order.nonnegative-one fractions)) some)

  u : sign (unit_of 20) ≢ below
  u = nonnegative-unit_of 20

  n : (k : ℕ) → sign (units 20 k) ≢ below
  n k = nonnegative-units 20 k

  spread_above : sign (wider_spread d e h) ≢ below
  spread_above = Order.nonnegative-add fractions (Order.nonnegative-add fractions rise (Order.nonnegative-mul fractions turn reach)) (n 8)

  small : units 20 16 ≼ one
  small = units-at_most 20 16 (omega (arith, ints))

  -- d, e, h, a, u, and 8 and 16 units
  abbrev values : List Fraction
  values = d ∷ e ∷ h ∷ a ∷ unit_of 20 ∷ units 20 8 ∷ units 20 16 ∷ []

  -- where the turn is nearly one, more area does
  by_area : one ≼ e ⊕ units 20 8 → PartFactor d e h a
  by_area large = record {
    turn = e;
    area = a ⊕ units 20 16;
    turn_more = Order.≼_refl fractions e;
    turn_one = at_most_one;
    area_more = order_from fractions values ((unit, number 0, var 6) ∷ []) (at_most (Order.nought-≼ fractions (n 16)) no_more) (var 3) (var 3 :+ var 6) refl;
    area_one = order_from fractions values ((unit, var 6, unit) ∷ []) (at_most small no_more) (var 3 :+ var 6) (var 3 :+ unit) refl;
    product = order_from fractions values ((var 6, unit, var 1 :+ var 5) ∷ (var 5, var 6, unit) ∷ (number 2, var 5, number 8 :* var 4) ∷ (opposite unit, var 6, number 16 :* var 4) ∷ [])
        (scaled (n 16) large (scaled (n 8) small (equal refl (equal refl no_more)))) (var 1 :* var 3 :+ var 5) (var 1 :* (var 3 :+ var 6)) refl;
    columns = order_from fractions values (((var 0 :+ var 1 :* var 2) :+ var 5, var 6, unit) ∷ (var 5, number 0, var 2) ∷ [])
        (scaled spread_above small (scaled (n 8) (Order.nought-≼ fractions reach) no_more))
        ((var 3 :+ var 6) :* ((var 0 :+ var 1 :* var 2) :+ var 5)) ((var 3 :+ unit) :* ((var 0 :+ var 1 :* var 2) :+ var 5) :+ var 5 :* var 2) refl;
    spread = order_from fractions values ((var 5, number 0, var 2) ∷ []) (scaled (n 8) (Order.nought-≼ fractions reach) no_more)
        ((var 0 :+ var 1 :* var 2) :+ var 5) (((var 0 :+ var 1 :* var 2) :+ var 5) :+ var 5 :* var 2) refl;
  }

  -- otherwise more turn does
  more : Fraction
  more = units 20 8 ⊗ inverse (a ⊕ one)

  positive : sign (a ⊕ one) ≡ above
  positive = Order.positive_from fractions fractions.laws.sign-one (order_from fractions values ((unit, number 0, var 3) ∷ []) (at_most (Order.nought-≼ fractions area) no_more) unit (var 3 :+ unit) refl)

  more_is : more ⊗ (a ⊕ one) ≡ units 20 8
  unfolding more
  more_is = ring_from fraction_ring (units 20 8 ∷ inverse (a ⊕ one) ∷ (a ⊕ one) ∷ []) ((var 0, var 2 :* var 1, unit) ∷ []) (given (Bounds.mul-inverse_positive fractions positive) none)
      ((var 0 :* var 1) :* var 2) (var 0) refl

  more_above : sign more ≢ below
  unfolding more
  more_above = Order.nonnegative-mul fractions (n 8) (Order.nonnegative_positive fractions (Bounds.positive-inverse fractions positive))

  abbrev others : List Fraction
  others = d ∷ e ∷ h ∷ a ∷ more ∷ units 20 8 ∷ []

  more_at_most : more ≼ units 20 8
  more_at_most = order_from fractions others ((var 4, number 0, var 3) ∷ (unit, var 4 :* (var 3 :+ unit), var 5) ∷ [])
      (scaled more_above (Order.nought-≼ fractions area) (equal more_is no_more)) (var 4) (var 5) refl

  by_turn : e ⊕ units 20 8 ≼ one → PartFactor d e h a
  by_turn room = record {
    turn = e ⊕ more;
    area = a ⊕ one;
    turn_more = order_from fractions others ((unit, number 0, var 4) ∷ []) (at_most (Order.nought-≼ fractions more_above) no_more) (var 1) (var 1 :+ var 4) refl;
    turn_one = order_from fractions others ((unit, var 4, var 5) ∷ (unit, var 1 :+ var 5, unit) ∷ []) (at_most more_at_most (at_most room no_more)) (var 1 :+ var 4) unit refl;
    area_more = order_from fractions others ((unit, number 0, unit) ∷ []) (at_most (Order.nought-≼ fractions (Order.nonnegative-one fractions)) no_more) (var 3) (var 3 :+ unit) refl;
    area_one = Order.≼_refl fractions (a ⊕ one);
    product = order_from fractions others ((unit, number 0, var 1) ∷ (opposite unit, var 4 :* (var 3 :+ unit), var 5) ∷ [])
        (at_most (Order.nought-≼ fractions turn) (equal more_is no_more)) (var 1 :* var 3 :+ var 5) ((var 1 :+ var 4) :* (var 3 :+ unit)) refl;
    columns = order_from fractions others ((var 2, var 4 :* (var 3 :+ unit), var 5) ∷ [])
        (equal more_is no_more) ((var 3 :+ unit) :* ((var 0 :+ (var 1 :+ var 4) :* var 2) :+ var 5)) ((var 3 :+ unit) :* ((var 0 :+ var 1 :* var 2) :+ var 5) :+ var 5 :* var 2) refl;
    spread = order_from fractions others ((var 2, var 4, var 5) ∷ []) (scaled reach more_at_most no_more)
        ((var 0 :+ (var 1 :+ var 4) :* var 2) :+ var 5) (((var 0 :+ var 1 :* var 2) :+ var 5) :+ var 5 :* var 2) refl;
  }

  pub part_factor : PartFactor d e h a
  part_factor = elim (Order.≼_total fractions (e ⊕ units 20 8) one) [ inl room ↦ by_turn room | inr large ↦ by_area large ]

  pub part_sizes : (f : PartFactor d e h a) → AreSizes (wider_spread d f.turn h) h f.area f.turn
  part_sizes f = record {
    spread = Order.nonnegative-add fractions (Order.nonnegative-add fractions rise (Order.nonnegative-mul fractions more_turn reach)) (n 8);
    some = some;
    area = Order.nonnegative_from fractions (Order.≼_trans fractions (Order.nought-≼ fractions area) f.area_more);
    turn = more_turn;
    at_most_one = f.turn_one;
    turned = order_from fractions (d ∷ f.turn ∷ h ∷ units 20 8 ∷ []) ((unit, number 0, var 0) ∷ (unit, number 0, var 3) ∷ [])
        (at_most (Order.nought-≼ fractions rise) (at_most (Order.nought-≼ fractions (n 8)) no_more)) (var 1 :* var 2) ((var 0 :+ var 1 :* var 2) :+ var 3) refl;
  }
    where
      more_turn : sign f.turn ≢ below
      more_turn = Order.nonnegative_from fractions (Order.≼_trans fractions (Order.nought-≼ fractions turn) f.turn_more)

  pub part_spread : (f : PartFactor d e h a) → (d ⊕ e ⊗ h) ⊕ units 20 8 ≼ wider_spread d f.turn h
  part_spread f = order_from fractions (d ∷ e ∷ h ∷ f.turn ∷ units 20 8 ∷ []) ((var 2, var 1, var 3) ∷ []) (scaled reach f.turn_more no_more)
      ((var 0 :+ var 1 :* var 2) :+ var 4) ((var 0 :+ var 3 :* var 2) :+ var 4) refl

  -- ---- the columns are no wider than those of a part
  module _ (f : PartFactor d e h a) (x : Fraction) (far : sign x ≢ below) where
    abbrev s : Fraction
    s = d ⊕ e ⊗ h

    abbrev t : Fraction
    t = wider_spread d f.turn h

    -- s, t, h, a, the other area, u, x, and units
    abbrev sizes : List Fraction
    sizes = s ∷ t ∷ h ∷ a ∷ f.area ∷ unit_of 20 ∷ x ∷ units 20 8 ∷ []

    volume_wider : volume_part t f.area ≼ part_volume h s a
    volume_wider = order_from fractions sizes ((number 2, var 4 :* var 1, (var 3 :+ unit) :* (var 0 :+ var 7) :+ var 7 :* var 2) ∷ (number 24 :* var 5, var 4, var 3 :+ unit)
        ∷ (number 2 :* (var 3 :+ unit) :+ number 2 :* var 2, var 7, number 8 :* var 5) ∷ [])
        (scaled (Order.nonnegative-number fractions 2) f.columns (scaled (Order.nonnegative-mul fractions (Order.nonnegative-number fractions 24) u) f.area_one (equal refl no_more)))
        (var 4 :* ((var 1 :+ var 1) :+ number 24 :* var 5) :+ number 2 :* var 5) (((var 3 :+ unit) :* ((var 0 :+ var 0) :+ number 40 :* var 5) :+ (number 16 :* var 5) :* var 2) :+ number 2 :* var 5) refl

    length_wider : length_part x t f.area ≼ part_length x h s a
    length_wider = order_from fractions sizes ((var 6 :* number 2, var 4 :* var 1, (var 3 :+ unit) :* (var 0 :+ var 7) :+ var 7 :* var 2) ∷ (var 6 :* (number 64 :* var 5), var 4, var 3 :+ unit)
        ∷ (var 6 :* (number 2 :* (var 3 :+ unit) :+ number 2 :* var 2), var 7, number 8 :* var 5) ∷ [])
        (scaled (Order.nonnegative-mul fractions far (Order.nonnegative-number fractions 2)) f.columns
        (scaled (Order.nonnegative-mul fractions far (Order.nonnegative-mul fractions (Order.nonnegative-number fractions 64) u)) f.area_one (equal refl no_more)))
        (var 6 :* (var 4 :* ((var 1 :+ var 1) :+ number 64 :* var 5) :+ number 6 :* var 5)) (var 6 :* (((var 3 :+ unit) :* ((var 0 :+ var 0) :+ number 80 :* var 5) :+ (number 16 :* var 5) :* var 2) :+ number 6 :* var 5)) refl

    height_wider : height_part h t f.area ≼ part_height h s a
    height_wider = order_from fractions sizes ((var 2 :* number 4, var 4 :* var 1, (var 3 :+ unit) :* (var 0 :+ var 7) :+ var 7 :* var 2) ∷ (var 2 :* (number 64 :* var 5), var 4, var 3 :+ unit)
        ∷ (var 2, var 1, (var 0 :+ var 7) :+ var 7 :* var 2) ∷ (var 2 :* (number 4 :* (var 3 :+ unit) :+ number 5 :* var 2 :+ unit), var 7, number 8 :* var 5) ∷ [])
        (scaled (Order.nonnegative-mul fractions reach (Order.nonnegative-number fractions 4)) f.columns
        (scaled (Order.nonnegative-mul fractions reach (Order.nonnegative-mul fractions (Order.nonnegative-number fractions 64) u)) f.area_one
        (scaled reach f.spread (equal refl no_more))))
        (var 2 :* ((var 4 :* (((var 1 :+ var 1) :+ (var 1 :+ var 1)) :+ number 64 :* var 5) :+ var 1) :+ number 16 :* var 5))
        (var 2 :* ((((var 3 :+ unit) :* (((var 0 :+ var 0) :+ (var 0 :+ var 0)) :+ number 96 :* var 5) :+ (number 40 :* var 5) :* var 2) :+ var 0) :+ number 24 :* var 5)) refl

    pub part_widths : (columns : Wet) → AreColumnWidths x h t f.area columns → ArePartWidths x h s a columns
    part_widths columns are = record {
      volume = narrow-wider volume_wider are.volume;
      mx = narrow-wider length_wider are.mx;
      mv = narrow-wider height_wider are.mv;
      mu = narrow-wider height_wider are.mu;
    }

pub nonnegative_area : (p : Part) → sign (part_area p) ≢ below
unfolding in_unit
nonnegative_area p = Order.nonnegative-add fractions (natural (greatest p.ay.lo p.ay.hi)) (natural (greatest p.az.lo p.az.hi))
  where
    natural : (n : ℕ) → sign (whole (pos n) ⊗ inverse (whole (pos (2 ^ 20)))) ≢ below
    natural n = Order.nonnegative-mul fractions (nonnegative-whole n) (Order.nonnegative_positive fractions (Bounds.positive-inverse fractions (positive-unit 20)))

pub nonnegative_last : (first last : ℤ) → pos 0 ≤ℤ first → first <ℤ last → sign (whole last) ≢ below
nonnegative_last first (pos n) start forwards = nonnegative-whole n
nonnegative_last first (negsuc n) start forwards = absurd (omega (arith, ints, start, forwards))
