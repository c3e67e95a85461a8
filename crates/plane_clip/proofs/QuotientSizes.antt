-- How large the product of two whole numbers is, and the floor and the ceiling of a quotient.
use Rattle.std.proofs.Common.{◌≡◌, refl, ℕ, subst, ◌*◌, ◌<◌, ◌≤◌, ℤ, pos, negsuc, neg_ℤ, ◌+ℤ◌, ◌-ℤ◌, ◌*ℤ◌, ◌≤ℤ◌, unsigned_abs, arith}
use Rattle.std.proofs.lemmas.Int.{ints, unsigned_abs-mul}
use Rattle.std.proofs.lemmas.Nat.{mul-le}
use Rattle.std.proofs.Math.Nat.{le_of_mul-le-mul_right}
use mathlib.Core.List.{[], ◌∷◌}
use Rattle.exact_algebra.specs.Expression.{var, opposite, ◌:*◌, ◌:+◌, ◌:-◌, unit}
use Rattle.exact_algebra.specs.Span.{IsFloor, IsCeiling}
use Rattle.exact_algebra.proofs.Ring.{ring}
use Rattle.exact_algebra.proofs.WholeNumbers.{integers}
use Rattle.exact_algebra.proofs.Division.{floor_is_greatest}

pub times_size : (K : ℕ) (a n : ℤ) → unsigned_abs a ≤ K → unsigned_abs (a *ℤ n) ≤ K * unsigned_abs n
times_size K a n h = omega (arith, unsigned_abs-mul a n, mul-le (unsigned_abs a) (unsigned_abs n) K (unsigned_abs n) h (omega arith))

-- a floor and a ceiling are no farther than a whole bound
pub floor-size : (n z : ℤ) (d m : ℕ) → 0 < d → unsigned_abs n ≤ m * d → IsFloor n d z → unsigned_abs z ≤ m
floor-size n (pos k) d m some h f = le_of_mul-le-mul_right (up_to (k * d) (m * d) n f.below h) some
  where
    up_to : (p q : ℕ) (n : ℤ) → pos p ≤ℤ n → unsigned_abs n ≤ q → p ≤ q
    up_to p q n h k = omega (arith, ints)
floor-size n (negsuc k) d m some h f = within (((floor_is_greatest n (negsuc k) d some).0 f).1 (neg_ℤ (pos m)) low)
  where
    least : (q : ℕ) (n : ℤ) → unsigned_abs n ≤ q → neg_ℤ (pos q) ≤ℤ n
    least q n h = omega (arith, ints)

    low : (neg_ℤ (pos m) *ℤ pos d) ≤ℤ n
    low = subst (λ (l : ℤ). l ≤ℤ n) (ring integers (pos m ∷ pos d ∷ []) (opposite (var 0 :* var 1)) (opposite (var 0) :* var 1) refl) (least (m * d) n h)

    within : neg_ℤ (pos m) ≤ℤ negsuc k → unsigned_abs (negsuc k) ≤ m
    within h = omega (arith, ints)

pub ceiling-size : (n z : ℤ) (d m : ℕ) → 0 < d → unsigned_abs n ≤ m * d → IsCeiling n d z → unsigned_abs z ≤ m
ceiling-size n z d m some h c = omega (arith, ints, floor-size (neg_ℤ n) (neg_ℤ z) d m some turned_size turned)
  where
    turned_size : unsigned_abs (neg_ℤ n) ≤ m * d
    turned_size = omega (arith, ints, h)

    negative_product : (z D : ℤ) → neg_ℤ z *ℤ D ≡ neg_ℤ (z *ℤ D)
    negative_product z D = ring integers (z ∷ D ∷ []) (opposite (var 0) :* var 1) (opposite (var 0 :* var 1)) refl

    first : neg_ℤ z *ℤ pos d ≡ neg_ℤ (z *ℤ pos d)
    first = negative_product z (pos d)

    second : (neg_ℤ z +ℤ pos 1) *ℤ pos d ≡ neg_ℤ ((z -ℤ pos 1) *ℤ pos d)
    second = ring integers (z ∷ pos d ∷ []) ((opposite (var 0) :+ unit) :* var 1) (opposite ((var 0 :- unit) :* var 1)) refl

    turned : IsFloor (neg_ℤ n) d (neg_ℤ z)
    turned = record { below = omega (arith, ints, first, c.above); next = omega (arith, ints, second, c.before) }
