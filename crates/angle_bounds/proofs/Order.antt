-- From 0 to 90 degrees the cosine falls and the sine rises, so the ends of a bracket bound both.
use Rattle.std.proofs.Common.{ap, ℕ, zero, suc, ◌⊎◌, ◌*◌, ◌^◌, ◌≤◌, ℤ, pos, ◌*ℤ◌, ◌≤ℤ◌, arith}
use mathlib.Core.Logic.{inl, inr}
use Rattle.std.proofs.Math.Nat.{mul-le-mul_left, mul-le-mul_right, le_of_mul-le-mul_left}
use Rattle.std.proofs.lemmas.Bool.{cases_lt}
use Rattle.std.proofs.lemmas.Int.{ints}
use Rattle.exact_algebra.specs.Span.{ContainsRatio}
use Rattle.exact_algebra.proofs.Fraction.{fractions}
use Rattle.exact_algebra.proofs.Order as Order
use Rattle.exact_algebra.proofs.Division.{floor_is_greatest, ceiling_is_least}
use Rattle.exact_algebra.proofs.Whole.{over-≼}
use Rattle.exact_algebra.proofs.Span.{floor_over, ceiling_over, contains_over_out, positive-unit}
use Rattle.angle_bounds.specs.Directions.{IsDirection, IsAtMost, IsLeastSpanOver, IsDirectionWithin, DirectionsAreOrdered, SpansContainEachDirection, SpansAreLeast}
use Rattle.angle_bounds.proofs.Squares.{le_of-square}

-- of two directions the one that is at most the other has the greater cosine and the lesser sine
pub cosine_falls : (c s r x y z : ℕ) → IsDirection c s r → IsDirection x y z → IsAtMost c s x y → x * r ≤ c * z
cosine_falls c s r x y z d e h = le_of-square (x * r) (c * z)
    (omega (arith, ap (λ t. x * x * t) d.square, ap (λ t. c * c * t) e.square, mul-le-mul_left (s * x) h, mul-le-mul_right (y * c) h))

pub sine_rises : (c s r x y z : ℕ) → IsDirection c s r → IsDirection x y z → IsAtMost c s x y → s * z ≤ y * r
sine_rises c s r x y z d e h = le_of-square (s * z) (y * r)
    (omega (arith, ap (λ t. y * y * t) d.square, ap (λ t. s * s * t) e.square, mul-le-mul_left (s * x) h, mul-le-mul_right (y * c) h))

-- a ratio between two others lies in the least span over them
between : (F : ℕ) (lo hi : ℤ) (n d m e x z : ℕ) → 1 ≤ d → 1 ≤ e → 1 ≤ z → IsLeastSpanOver F lo hi n d m e → n * z ≤ x * d → x * e ≤ m * z → ContainsRatio F lo hi (pos x) z
between F lo hi n d m e x z some_d some_e some_z span h k = contains_over_out (pos x) z some_z (record {
  from = Order.≼_trans fractions (floor_over (pos n) d some_d span.low).below (Order.≼-mul fractions (Order.nonnegative_positive fractions (positive-unit F)) (over-≼ (pos n) (pos x) d z some_d some_z (up h)));
  to = Order.≼_trans fractions (Order.≼-mul fractions (Order.nonnegative_positive fractions (positive-unit F)) (over-≼ (pos x) (pos m) z e some_z some_e (up k))) (ceiling_over (pos m) e some_e span.high).above;
})
  where
    up : {a b : ℕ} → a ≤ b → pos a ≤ℤ pos b
    up h = omega (arith, ints)

pub spans_contain_each_direction : SpansContainEachDirection
spans_contain_each_direction F c s r c' s' r' x y z c_lo c_hi s_lo s_hi low high bracket d within = (
  between F c_lo c_hi c' r' c r x z high.positive low.positive d.positive bracket.cosine (cosine_falls x y z c' s' r' d high within.to) (cosine_falls c s r x y z low d within.from),
  between F s_lo s_hi s r s' r' y z low.positive high.positive d.positive bracket.sine (sine_rises c s r x y z low d within.from) (sine_rises x y z c' s' r' d high within.to),
)

-- a span that contains both ends reaches at least as far
reaches : (F : ℕ) (lo hi a b : ℤ) (n d m e : ℕ) → 1 ≤ d → 1 ≤ e → IsLeastSpanOver F lo hi n d m e → ContainsRatio F a b (pos n) d → ContainsRatio F a b (pos m) e → (a ≤ℤ lo) × (hi ≤ℤ b)
reaches F lo hi a b n d m e some_d some_e span h k = (
  ((floor_is_greatest (pos n *ℤ pos (2 ^ F)) lo d some_d).0 span.low).1 a h.from,
  ((ceiling_is_least (pos m *ℤ pos (2 ^ F)) hi e some_e).0 span.high).1 b k.to,
)

same : (n : ℕ) → n ≤ n
same n = omega arith

pub spans_are_least : SpansAreLeast
spans_are_least F c s r c' s' r' c_lo c_hi s_lo s_hi lo hi low high bracket = (
  λ all. reaches F c_lo c_hi lo hi c' r' c r high.positive low.positive bracket.cosine (all c' s' r' high at_high) (all c s r low at_low),
  λ all. reaches F s_lo s_hi lo hi s r s' r' low.positive high.positive bracket.sine (all c s r low at_low) (all c' s' r' high at_high),
)
  where
    at_low : IsDirectionWithin c s c' s' c s
    at_low = record { from = same (s * c); to = bracket.ordered }

    at_high : IsDirectionWithin c s c' s' c' s'
    at_high = record { from = bracket.ordered; to = same (s' * c') }

-- at a right angle nothing is left of the cosine, and all directions are at most it
transitive : (c s r x y z c' s' r' : ℕ) → IsDirection c s r → IsDirection x y z → IsDirection c' s' r' → IsAtMost c s x y → IsAtMost x y c' s' → IsAtMost c s c' s'
transitive c s r (suc x) y z c' s' r' d e f h k = le_of_mul-le-mul_left {k = suc x} (omega (arith, mul-le-mul_left c' h, mul-le-mul_left c k)) (omega arith)
transitive c s r zero zero z c' s' r' d e f h k = absurd (omega (arith, e.square, mul-le-mul_left z e.positive, e.positive))
transitive c s r zero (suc y) z zero s' r' d e f h k = omega arith
transitive c s r zero (suc y) z (suc c') s' r' d e f h k = absurd (omega (arith, k))

total : (c s x y : ℕ) → IsAtMost c s x y ⊎ IsAtMost x y c s
total c s x y = elim (cases_lt (s * x) (y * c)) [ inl less ↦ inl (omega (arith, less)) | inr h ↦ inr h ]

pub directions_are_ordered : DirectionsAreOrdered
directions_are_ordered = record { total = total; transitive = transitive }
