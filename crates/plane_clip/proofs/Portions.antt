-- Points of an edge and parts of an area: what their spans contain, how large their ends are, and how wide they are.
use Rattle.std.proofs.Common.{ℕ, suc, ◌≡◌, refl, ◌+◌, ◌*◌, ◌^◌, ◌<◌, ◌≤◌, ℤ, pos, negsuc, ◌+ℤ◌, ◌-ℤ◌, ◌*ℤ◌, ◌≤ℤ◌, unsigned_abs, arith, ap}
use Rattle.std.proofs.lemmas.Int.{ints, clamps, unsigned_abs-mul}
use Rattle.std.proofs.lemmas.Nat.{mul-le}
use Rattle.std.specs.Int.{int_min, int_max}
use mathlib.Core.List.{[], ◌∷◌}
use Rattle.exact_algebra.specs.Expression.{var, ◌:*◌, ◌:+◌, ◌:-◌, unit}
use Rattle.exact_algebra.proofs.Ring.{ring, ring_from, none, given}
use Rattle.exact_algebra.proofs.Fraction.{Fraction, one, ◌⊕◌, ◌⊗◌, inverse, fractions, fraction_ring}
use Rattle.exact_algebra.proofs.Whole.{whole, whole-sub, positive-whole}
use Rattle.exact_algebra.proofs.WholeNumbers.{integers}
use Rattle.exact_algebra.proofs.Bounds as Bounds
use Rattle.exact_algebra.proofs.Division.{floor_is_greatest}
use Rattle.hull_model.specs.Fractions.{interpolated}
use Rattle.outward_interval.specs.Ends.{EndsBelow, AreEnds, AreLeastEnds}
use Rattle.plane_clip.specs.Limits.{IsThin}
use Rattle.plane_clip.proofs.QuotientSizes.{times_size, floor-size, ceiling-size}

pub whole_positive : (d : ℤ) → pos 1 ≤ℤ d → whole d ⊗ inverse (whole d) ≡ one
whole_positive (pos n) h = Bounds.mul-inverse_positive fractions (positive-whole n (omega (arith, ints, h)))
whole_positive (negsuc n) h = absurd (omega (arith, ints, h))

-- a weighted sum over the whole is the point between
pub mixed-value : (x y : Fraction) (n d : ℤ) → pos 1 ≤ℤ d → (x ⊗ whole (d -ℤ n) ⊕ y ⊗ whole n) ⊗ inverse (whole d) ≡ interpolated (whole n ⊗ inverse (whole d)) x y
mixed-value x y n d h = ring_from fraction_ring (x ∷ y ∷ whole n ∷ whole d ∷ inverse (whole d) ∷ whole (d -ℤ n) ∷ [])
    ((var 0 :* var 4, var 5, var 3 :- var 2) ∷ (var 0, var 3 :* var 4, unit) ∷ [])
    (given (whole-sub d n) (given (whole_positive d h) none))
    ((var 0 :* var 5 :+ var 1 :* var 2) :* var 4) ((unit :- var 2 :* var 4) :* var 0 :+ (var 2 :* var 4) :* var 1) refl

pub portion-value : (x : Fraction) (n d : ℤ) → (x ⊗ whole n) ⊗ inverse (whole d) ≡ x ⊗ (whole n ⊗ inverse (whole d))
portion-value x n d = ring fraction_ring (x ∷ whole n ∷ inverse (whole d) ∷ []) ((var 0 :* var 1) :* var 2) (var 0 :* (var 1 :* var 2)) refl

-- ---- how large
pub times_ends : (K : ℕ) (a b n lo hi : ℤ) → unsigned_abs a ≤ K → unsigned_abs b ≤ K → AreEnds (int_min (a *ℤ n) (b *ℤ n)) (int_max (a *ℤ n) (b *ℤ n)) lo hi → (unsigned_abs lo ≤ K * unsigned_abs n) × (unsigned_abs hi ≤ K * unsigned_abs n)
times_ends K a b n lo hi h k e = (
  omega (arith, ints, clamps, times_size K a n h, times_size K b n k, e.low),
  omega (arith, ints, clamps, times_size K a n h, times_size K b n k, e.high),
)

pub parts_of_whole : (K : ℕ) (n d : ℤ) → pos 0 ≤ℤ n → n ≤ℤ d → K * unsigned_abs (d -ℤ n) + K * unsigned_abs n ≡ K * unsigned_abs d
parts_of_whole K n d h k = omega (arith, ap (λ (m : ℕ). K * m) together)
  where
    together : unsigned_abs (d -ℤ n) + unsigned_abs n ≡ unsigned_abs d
    together = omega (arith, ints, h, k)

pub rounded_ends : (K : ℕ) (a b d lo hi : ℤ) → pos 1 ≤ℤ d → unsigned_abs a ≤ K * unsigned_abs d → unsigned_abs b ≤ K * unsigned_abs d → AreLeastEnds a b (unsigned_abs d) lo hi → (unsigned_abs lo ≤ K) × (unsigned_abs hi ≤ K)
rounded_ends K a b d lo hi some h k e = (floor-size a lo (unsigned_abs d) K above h e.low, ceiling-size b hi (unsigned_abs d) K above k e.high)
  where
    above : 0 < unsigned_abs d
    above = omega (arith, ints, some)

-- the sum of two times the parts of a whole
pub sum_ends : (K : ℕ) (n d a b a' b' lo hi : ℤ) → pos 0 ≤ℤ n → n ≤ℤ d → (unsigned_abs a ≤ K * unsigned_abs (d -ℤ n)) × (unsigned_abs b ≤ K * unsigned_abs (d -ℤ n))
    → (unsigned_abs a' ≤ K * unsigned_abs n) × (unsigned_abs b' ≤ K * unsigned_abs n) → AreEnds (a +ℤ a') (b +ℤ b') lo hi → (unsigned_abs lo ≤ K * unsigned_abs d) × (unsigned_abs hi ≤ K * unsigned_abs d)
sum_ends K n d a b a' b' lo hi h k p q e = (
  omega (arith, ints, parts_of_whole K n d h k, p.0, q.0, e.low),
  omega (arith, ints, parts_of_whole K n d h k, p.1, q.1, e.high),
)

-- ends that are at most K, times the part of a whole that is at most M
pub times_fit : (K M : ℕ) (a b n : ℤ) → unsigned_abs a ≤ K → unsigned_abs b ≤ K → unsigned_abs n ≤ M → K * M < 2 ^ 126 → EndsBelow 126 (a *ℤ n) (b *ℤ n)
times_fit K M a b n h k l fit = record { low = omega (arith, fit, within a h); high = omega (arith, fit, within b k) }
  where
    within : (a : ℤ) → unsigned_abs a ≤ K → unsigned_abs (a *ℤ n) ≤ K * M
    within a h = omega (arith, unsigned_abs-mul a n, mul-le (unsigned_abs a) (unsigned_abs n) K M h l)

pub sum_fits : (K M d : ℕ) (lo hi : ℤ) → (unsigned_abs lo ≤ K * d) × (unsigned_abs hi ≤ K * d) → d ≤ M → K * M < 2 ^ 126 → EndsBelow 126 lo hi
sum_fits K M d lo hi h k fit = record { low = omega (arith, fit, h.0, mul-le K d K M (omega arith) k); high = omega (arith, fit, h.1, mul-le K d K M (omega arith) k) }

-- ---- how wide
pub thin-times : (k : ℕ) (n a b lo hi : ℤ) → a ≤ℤ b → IsThin k a b → hi -ℤ lo ≡ pos (unsigned_abs n) *ℤ (b -ℤ a) → IsThin (k * unsigned_abs n) lo hi
thin-times k n a b lo hi order h e = go (b -ℤ a) refl
  where
    go : (z : ℤ) → b -ℤ a ≡ z → IsThin (k * unsigned_abs n) lo hi
    go (pos m) same = omega (arith, ints, e, ap (λ (z : ℤ). pos (unsigned_abs n) *ℤ z) same, mul-le m (unsigned_abs n) k (unsigned_abs n) (omega (arith, ints, h, same)) (omega arith))
    go (negsuc m) same = absurd (omega (arith, ints, order, same))

pub thin-sum : (k : ℕ) (n d a b a' b' lo hi : ℤ) → pos 0 ≤ℤ n → n ≤ℤ d → IsThin (k * unsigned_abs (d -ℤ n)) a b → IsThin (k * unsigned_abs n) a' b'
    → AreEnds (a +ℤ a') (b +ℤ b') lo hi → IsThin (k * unsigned_abs d) lo hi
thin-sum k n d a b a' b' lo hi h i p q e = omega (arith, ints, parts_of_whole k n d h i, p, q, e.low, e.high)

-- a quotient rounded outwards is at most one unit wider
pub thin-over : (k : ℕ) (d a b lo hi : ℤ) → pos 1 ≤ℤ d → IsThin (k * unsigned_abs d) a b → AreLeastEnds a b (unsigned_abs d) lo hi → IsThin (suc k) lo hi
thin-over k (negsuc n) a b lo hi some h e = absurd (omega (arith, ints, some))
thin-over k (pos d) a b lo hi some h e = omega (arith, ints, ((floor_is_greatest a lo d (omega (arith, ints, some))).0 e.low).1 ((hi -ℤ pos 1) -ℤ pos k) low)
  where
    apart : ((hi -ℤ pos 1) -ℤ pos k) *ℤ pos d ≡ ((hi -ℤ pos 1) *ℤ pos d) -ℤ (pos k *ℤ pos d)
    apart = ring integers (hi ∷ pos k ∷ pos d ∷ []) (((var 0 :- unit) :- var 1) :* var 2) (((var 0 :- unit) :* var 2) :- (var 1 :* var 2)) refl

    low : (((hi -ℤ pos 1) -ℤ pos k) *ℤ pos d) ≤ℤ a
    low = omega (arith, ints, apart, e.high.before, h)

pub thin-wider : (k : ℕ) (lo hi : ℤ) → IsThin k lo hi → IsThin (suc k) lo hi
thin-wider k lo hi h = omega (arith, ints, h)
