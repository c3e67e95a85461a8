-- Spans of heights and sides: how far cosine and sine reach, what their multiples contain, and the size of the ends.
use Rattle.std.proofs.Common.{◌≡◌, refl, [], ◌∷◌, ℕ, ◌+◌, ◌*◌, ◌<◌, ◌≤◌, ◌^◌, ℤ, pos, neg_ℤ, unsigned_abs, ◌+ℤ◌, ◌-ℤ◌, ◌*ℤ◌, ◌≤ℤ◌, subst, w64, arith}
use mir.Val.{SFits, hbits}
use Rattle.std.proofs.lemmas.Int.{ints, clamps, fits_signed_from_abs}
use Rattle.std.specs.Int.{int_min, int_max}
use Rattle.angle_bounds.proofs.Order.{spans_contain_each_direction}
use Rattle.angle_bounds.proofs.Squares.{legs}
use Rattle.angle_bounds.specs.declared.bracket.Bracket.{Bracket}
use Rattle.angle_bounds.specs.Directions.{IsLeastSpanOver}
use Rattle.exact_algebra.specs.Span.{ContainsRatio}
use Rattle.exact_algebra.specs.Expression.{var, ◌:+◌, ◌:-◌, ◌:*◌}
use Rattle.exact_algebra.proofs.Division.{floor_is_greatest, ceiling_is_least}
use Rattle.exact_algebra.proofs.Fraction.{Fraction, fraction_ring, ◌⊕◌, ◌⊗◌, ◌⊖◌, inverse}
use Rattle.exact_algebra.proofs.Ring.{ring}
use Rattle.exact_algebra.proofs.Span.{ContainsFraction, contains_over}
use Rattle.exact_algebra.proofs.Whole.{whole, over_is}
use Rattle.exact_fraction.specs.Bounds.{MagnitudeBelow}
use Rattle.hull_model.specs.Nodes.{IsNode}
use Rattle.hull_model.specs.declared.node.Node.{Node}
use Rattle.hull_model.specs.Waterplane.{Waterplane, Position, height, side_distance}
use Rattle.outward_interval.proofs.Quotients.{le-times}
use Rattle.outward_interval.specs.Ends.{EndsBelow, AreEnds, AreLeastEnds}
use Rattle.plane_clip.proofs.QuotientSizes.{times_size}
use Rattle.flux_moments.specs.Limits.{EndsAtMost}
use Rattle.flux_moments.specs.Planes.{HasDirectionIn, cosine, sine}

-- ---- cosine and sine
-- a least span of numbers from 0 to 1 lies from 0 to one
within_one : (lo hi : ℤ) (n d m e : ℕ) → 1 ≤ d → 1 ≤ e → m ≤ e → IsLeastSpanOver 40 lo hi n d m e → (pos 0 ≤ℤ lo) × (hi ≤ℤ pos (2 ^ 40))
within_one lo hi n d m e some_d some_e part span = (
  ((floor_is_greatest (pos n *ℤ pos (2 ^ 40)) lo d some_d).0 span.low).1 (pos 0) (nothing n d),
  ((ceiling_is_least (pos m *ℤ pos (2 ^ 40)) hi e some_e).0 span.high).1 (pos (2 ^ 40)) (all m e part),
)
  where
    nothing : (n d : ℕ) → pos (0 * d) ≤ℤ pos (n * 2 ^ 40)
    nothing n d = omega (arith, ints)

    all : (m e : ℕ) → m ≤ e → pos (m * 2 ^ 40) ≤ℤ pos (2 ^ 40 * e)
    all m e h = omega (arith, ints)

pub cosine_range : (b : Bracket) → (pos 0 ≤ℤ b.c.lo) × (b.c.hi ≤ℤ pos (2 ^ 40))
cosine_range b = within_one b.c.lo b.c.hi b.high.c b.high.r b.low.c b.low.r b.high.direction.direction.positive b.low.direction.direction.positive
    (legs b.low.c b.low.s b.low.r b.low.direction.direction.square).0 b.bracket.cosine

pub sine_range : (b : Bracket) → (pos 0 ≤ℤ b.s.lo) × (b.s.hi ≤ℤ pos (2 ^ 40))
sine_range b = within_one b.s.lo b.s.hi b.low.s b.low.r b.high.s b.high.r b.low.direction.direction.positive b.high.direction.direction.positive
    (legs b.high.c b.high.s b.high.r b.high.direction.direction.square).1 b.bracket.sine

from_range : (lo hi : ℤ) → lo ≤ℤ hi → (pos 0 ≤ℤ lo) × (hi ≤ℤ pos (2 ^ 40)) → EndsAtMost (2 ^ 40) lo hi
from_range lo hi k h = ends lo hi h.0 k h.1
  where
    ends : (lo hi : ℤ) → pos 0 ≤ℤ lo → lo ≤ℤ hi → hi ≤ℤ pos (2 ^ 40) → EndsAtMost (2 ^ 40) lo hi
    ends lo hi h k l = record { low = omega (arith, ints); high = omega (arith, ints) }

pub cosine_ends : (b : Bracket) → EndsAtMost (2 ^ 40) b.c.lo b.c.hi
cosine_ends b = from_range b.c.lo b.c.hi b.c.ordered (cosine_range b)

pub sine_ends : (b : Bracket) → EndsAtMost (2 ^ 40) b.s.lo b.s.hi
sine_ends b = from_range b.s.lo b.s.hi b.s.ordered (sine_range b)

-- cosine and sine of a direction in the bracket
ratios_contained : (b : Bracket) (plane : Waterplane) → HasDirectionIn b plane → ContainsRatio 40 b.c.lo b.c.hi (pos plane.c) plane.r × ContainsRatio
    40 b.s.lo b.s.hi (pos plane.s) plane.r
ratios_contained b plane h =
    spans_contain_each_direction 40 b.low.c b.low.s b.low.r b.high.c b.high.s b.high.r plane.c plane.s plane.r b.c.lo b.c.hi b.s.lo b.s.hi
    b.low.direction.direction b.high.direction.direction b.bracket (record { square = plane.round; positive = plane.positive }) h

quotient_contained : (lo hi n : ℤ) (r : ℕ) → 0 < r → ContainsRatio 40 lo hi n r → ContainsFraction 40 lo hi (whole n ⊗ inverse (whole (pos r)))
quotient_contained lo hi n r some h = subst (λ (x : Fraction). ContainsFraction 40 lo hi x) (over_is n r some) (contains_over n r some h)

pub cosine_contained : (b : Bracket) (plane : Waterplane) → HasDirectionIn b plane → ContainsFraction 40 b.c.lo b.c.hi (cosine plane)
cosine_contained b plane h = quotient_contained b.c.lo b.c.hi (pos plane.c) plane.r plane.positive (ratios_contained b plane h).0

pub sine_contained : (b : Bracket) (plane : Waterplane) → HasDirectionIn b plane → ContainsFraction 40 b.s.lo b.s.hi (sine plane)
sine_contained b plane h = quotient_contained b.s.lo b.s.hi (pos plane.s) plane.r plane.positive (ratios_contained b plane h).1

-- ---- multiples by a whole number
pub products_below : (a b n : ℤ) → EndsAtMost (2 ^ 40) a b → MagnitudeBelow 41 n → EndsBelow 126 (a *ℤ n) (b *ℤ n)
products_below a b n ends small = record {
  low = below _ _ (times_size (2 ^ 40) a n ends.low) small;
  high = below _ _
      (times_size (2 ^ 40) b n ends.high) small;
}
  where
    below : (x k : ℕ) → x ≤ 2 ^ 40 * k → k < 2 ^ 41 → x < 2 ^ 126
    below x k h l = omega (arith, h, l)

pub products_at_most : (a b n lo hi : ℤ) → EndsAtMost (2 ^ 40) a b → AreEnds (int_min (a *ℤ n) (b *ℤ n)) (int_max (a *ℤ n) (b *ℤ n)) lo hi
    → EndsAtMost (2 ^ 40 * unsigned_abs n) lo hi
products_at_most a b n lo hi ends are = chosen (2 ^ 40 * unsigned_abs n) (a *ℤ n) (b *ℤ n) lo hi (times_size (2 ^ 40) a n ends.low)
    (times_size (2 ^ 40) b n ends.high) are.low are.high
  where
    least : (k : ℕ) (p q lo : ℤ) → unsigned_abs p ≤ k → unsigned_abs q ≤ k → lo ≡ int_min p q → unsigned_abs lo ≤ k
    least k p q lo h l e = omega (arith, ints, clamps)

    greatest : (k : ℕ) (p q hi : ℤ) → unsigned_abs p ≤ k → unsigned_abs q ≤ k → hi ≡ int_max p q → unsigned_abs hi ≤ k
    greatest k p q hi h l e = omega (arith, ints, clamps)

    chosen : (k : ℕ) (p q lo hi : ℤ) → unsigned_abs p ≤ k → unsigned_abs q ≤ k → lo ≡ int_min p q → hi ≡ int_max p q → EndsAtMost k lo hi
    chosen k p q lo hi h l e f = record { low = least k p q lo h l e; high = greatest k p q hi h l f }

-- ---- sums and differences of multiples by numbers of mm
pub sum_at_most : (m k : ℕ) (a b c d lo hi : ℤ) → m ≤ 65535 → k ≤ 65535 → EndsAtMost (2 ^ 40 * m) a b → EndsAtMost (2 ^ 40 * k) c d → AreEnds (a +ℤ c)
    (b +ℤ d) lo hi → EndsAtMost (2 ^ 40 * 131070) lo hi
sum_at_most m k a b c d lo hi few less h l are = record { low = both a c lo h.low l.low are.low; high = both b d hi h.high l.high are.high }
  where
    both : (x y z : ℤ) → unsigned_abs x ≤ 2 ^ 40 * m → unsigned_abs y ≤ 2 ^ 40 * k → z ≡ x +ℤ y → unsigned_abs z ≤ 2 ^ 40 * 131070
    both x y z h l e = omega (arith, ints, few, less)

pub difference_at_most : (m k : ℕ) (a b c d lo hi : ℤ) → m ≤ 65535 → k ≤ 65535 → EndsAtMost (2 ^ 40 * m) a b → EndsAtMost (2 ^ 40 * k) c d → AreEnds
    (a -ℤ d) (b -ℤ c) lo hi → EndsAtMost (2 ^ 40 * 131070) lo hi
difference_at_most m k a b c d lo hi few less h l are = sum_at_most m k a b (neg_ℤ d) (neg_ℤ c) lo hi few less h
    (record { low = opposite (2 ^ 40 * k) d l.high; high = opposite (2 ^ 40 * k) c l.low }) are
  where
    opposite : (n : ℕ) (z : ℤ) → unsigned_abs z ≤ n → unsigned_abs (neg_ℤ z) ≤ n
    opposite n z h = omega (arith, ints)

-- ---- nodes
size : (n : ℤ) → neg_ℤ (pos 65535) ≤ℤ n → n ≤ℤ pos 65535 → unsigned_abs n ≤ 65535
size n h k = omega (arith, ints)

pub breadth_size : (n : Node) → IsNode n → unsigned_abs n.y ≤ 65535
breadth_size n node = size n.y node.port node.starboard

pub height_size : (n : Node) → IsNode n → unsigned_abs n.z ≤ 65535
height_size n node = size n.z (least n.z node.height.0) node.height.1
  where
    least : (z : ℤ) → pos 0 ≤ℤ z → neg_ℤ (pos 65535) ≤ℤ z
    least z h = omega (arith, ints)

place_size : (n : Node) → IsNode n → MagnitudeBelow 19 n.x
place_size n node = go n.x node.place.0 node.place.1
  where
    go : (z : ℤ) → pos 0 ≤ℤ z → z ≤ℤ pos 524287 → unsigned_abs z < 2 ^ 19
    go z h k = omega (arith, ints)

fits : {z : ℤ} → MagnitudeBelow 19 z → SFits w64 z
fits {z} small = fits_signed_from_abs w64 z (below small)
  where
    below : {n : ℕ} → n < 2 ^ 19 → n < 2 ^ hbits w64
    below h = omega arith

small : {n : ℕ} → n ≤ 65535 → n < 2 ^ 19
small h = omega arith

pub place_fits : (n : Node) → IsNode n → SFits w64 n.x
place_fits n node = fits (place_size n node)

pub breadth_fits : (n : Node) → IsNode n → SFits w64 n.y
breadth_fits n node = fits (small (breadth_size n node))

pub height_fits : (n : Node) → IsNode n → SFits w64 n.z
height_fits n node = fits (small (height_size n node))

-- ---- heights and sides in mm
pub height_is : (plane : Waterplane) (p : Position) → cosine plane ⊗ p.z ⊕ sine plane ⊗ p.y ≡ height plane p
unfolding height
height_is plane p = ring fraction_ring (whole (pos plane.c) ∷ whole (pos plane.s) ∷ inverse (whole (pos plane.r)) ∷ p.y ∷ p.z ∷ [])
    ((var 0 :* var 2) :* var 4 :+ (var 1 :* var 2) :* var 3) ((var 0 :* var 4 :+ var 1 :* var 3) :* var 2) refl

pub side_is : (plane : Waterplane) (p : Position) → sine plane ⊗ p.z ⊖ cosine plane ⊗ p.y ≡ side_distance plane p
unfolding side_distance
side_is plane p = ring fraction_ring (whole (pos plane.c) ∷ whole (pos plane.s) ∷ inverse (whole (pos plane.r)) ∷ p.y ∷ p.z ∷ [])
    ((var 1 :* var 2) :* var 4 :- (var 0 :* var 2) :* var 3) ((var 1 :* var 4 :- var 0 :* var 3) :* var 2) refl

-- the least span of scale 20 of a sum or difference of two multiples of scale 40
pub rescaled_at_most : (a b lo hi : ℤ) → EndsAtMost (2 ^ 40 * 131070) a b → lo ≤ℤ hi → AreLeastEnds (a *ℤ pos (2 ^ 20)) (b *ℤ pos (2 ^ 20)) (2 ^ 40)
    lo hi → EndsAtMost (2 ^ 37 + 1) lo hi
rescaled_at_most a b lo hi ends order are = both lo hi
    (((floor_is_greatest (a *ℤ pos (2 ^ 20)) lo (2 ^ 40) (omega arith)).0 are.low).1 (neg_ℤ (pos (2 ^ 37)))
    (le-times (2 ^ 20) (neg_ℤ (pos (2 ^ 57))) a (above a ends.low)))
    order
    (((ceiling_is_least (b *ℤ pos (2 ^ 20)) hi (2 ^ 40) (omega arith)).0 are.high).1 (pos (2 ^ 37)) (le-times (2 ^ 20) b (pos (2 ^ 57)) (below b ends.high)))
  where
    above : (z : ℤ) → unsigned_abs z ≤ 2 ^ 40 * 131070 → neg_ℤ (pos (2 ^ 57)) ≤ℤ z
    above z h = omega (arith, ints)

    below : (z : ℤ) → unsigned_abs z ≤ 2 ^ 40 * 131070 → z ≤ℤ pos (2 ^ 57)
    below z h = omega (arith, ints)

    both : (lo hi : ℤ) → neg_ℤ (pos (2 ^ 37)) ≤ℤ lo → lo ≤ℤ hi → hi ≤ℤ pos (2 ^ 37) → EndsAtMost (2 ^ 37 + 1) lo hi
    both lo hi h k l = record { low = omega (arith, ints); high = omega (arith, ints) }
