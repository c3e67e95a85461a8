-- Floors and ceilings of quotients of whole numbers: one after another, their order, and the size of what is rounded.
-- Each order is read off the parts of its two sides, in ℕ.
use Rattle.std.proofs.Common.{◌≡◌, ◌∙◌, refl, sym, ap, [], ◌∷◌, ℕ, ◌+◌, ◌-◌, ◌*◌, ◌<◌, ◌≤◌, ◌^◌, min, ℤ, pos, negsuc, ◌+ℤ◌, ◌-ℤ◌, ◌*ℤ◌, ◌≤ℤ◌, ◌<ℤ◌, unsigned_abs, arith}
use Rattle.std.proofs.Math.Nat.{mul-le-mul_left, mul-le-mul_right, pow-le-pow_right}
use Rattle.std.proofs.lemmas.Int.{ints, unsigned_abs-mul}
use Rattle.std.specs.Int.{int_div_euclid}
use borrow.Author.Differences.{up, down, at_most_in, below_in, le_out, lt_out, product_is, sum_is_lem}
use native.Mathlib.Omega.{by_contra}
use Rattle.exact_fraction.specs.Bounds.{MagnitudeBelow}
use Rattle.exact_algebra.specs.Expression.{var, ◌:*◌}
use Rattle.exact_algebra.specs.Span.{IsFloor, IsCeiling}
use Rattle.exact_algebra.proofs.Ring.{ring}
use Rattle.exact_algebra.proofs.WholeNumbers.{integers}
use Rattle.exact_algebra.proofs.Division.{floor_of-floor, floor_is_greatest, ceiling_is_least}
use Rattle.outward_interval.specs.Ends.{AreLeastEnds}
use Rattle.std.proofs.lemmas.Nat.{pow_pos, pow-add}

pub up-times : (z : ℤ) (k : ℕ) → up (z *ℤ pos k) ≡ up z * k
up-times z k = omega (arith, product_is z (pos k))

pub down-times : (z : ℤ) (k : ℕ) → down (z *ℤ pos k) ≡ down z * k
down-times z k = omega (arith, product_is z (pos k))

up-twice : (z : ℤ) (p d : ℕ) → up (z *ℤ pos (p * d)) ≡ up (z *ℤ pos d) * p
up-twice z p d = up-times z (p * d) ∙ turned (up z) ∙ ap (λ t. t * p) (sym (up-times z d))
  where
    turned : (a : ℕ) → a * (p * d) ≡ a * d * p
    turned a = omega arith

down-twice : (z : ℤ) (p d : ℕ) → down (z *ℤ pos (p * d)) ≡ down (z *ℤ pos d) * p
down-twice z p d = down-times z (p * d) ∙ turned (down z) ∙ ap (λ t. t * p) (sym (down-times z d))
  where
    turned : (a : ℕ) → a * (p * d) ≡ a * d * p
    turned a = omega arith

-- the floor of a floor is the floor by the product of both divisors
pub floor-floor : (p d : ℕ) (n m z : ℤ) → IsFloor n p m → IsFloor m d z → IsFloor n (p * d) z
floor-floor p d n m z first second = record { below = low; next = high }
  where
    low : (z *ℤ pos (p * d)) ≤ℤ n
    low = at_most_in _ _ (omega (arith, up-twice z p d, down-twice z p d, up-times m p, down-times m p, le_out _ _ first.below, mul-le-mul_right p (le_out _ _ second.below)))

    above : (y w : ℤ) → up w + down m ≡ up m + 1 + down w → up m + 1 + down (y *ℤ pos d) ≤ up (y *ℤ pos d) + down m → up n + 1 + down (w *ℤ pos p) ≤ up (w *ℤ pos p) + down n
        → up n + down (y *ℤ pos (p * d)) < up (y *ℤ pos (p * d)) + down n
    above y w more inner outer = omega (arith, up-twice y p d, down-twice y p d, up-times w p, down-times w p, outer, mul-le-mul_right p inner, ap (λ t. t * p) more)

    high : n <ℤ ((z +ℤ pos 1) *ℤ pos (p * d))
    high = below_in _ _ (above (z +ℤ pos 1) (m +ℤ pos 1) (omega (arith, sum_is_lem m (pos 1))) (omega (arith, lt_out _ _ second.next)) (omega (arith, lt_out _ _ first.next)))

-- the floor of the lesser of two is at most the ceiling of the greater
pub floor-le-ceiling : (d : ℕ) (n m z w : ℤ) → 0 < d → n ≤ℤ m → IsFloor n d z → IsCeiling m d w → z ≤ℤ w
floor-le-ceiling d n m z w some order low high = at_most_in z w (cancelled (up z + down w) (up w + down z) (omega (arith, up-times z d, down-times z d, up-times w d, down-times w d, le_out _ _ low.below, le_out _ _ order, le_out _ _ high.above)))
  where
    cancelled : (a b : ℕ) → a * d ≤ b * d → a ≤ b
    cancelled a b h = by_contra a b (λ l. omega (arith, h, some, mul-le-mul_right d l))

-- an order times a number that isn't below 0
pub le-times : (k : ℕ) (a b : ℤ) → a ≤ℤ b → (a *ℤ pos k) ≤ℤ (b *ℤ pos k)
le-times k a b order = at_most_in _ _ (omega (arith, up-times a k, down-times a k, up-times b k, down-times b k, mul-le-mul_right k (le_out _ _ order)))

-- what is scaled by at most nine places stays below 2^126
pub scaled-small : (n : ℤ) (k places : ℕ) → MagnitudeBelow 96 n → places ≤ 9 → k ≡ 10 ^ places → MagnitudeBelow 126 (n *ℤ pos k)
scaled-small n k places small few is = rw (unsigned_abs-mul n (pos k)) (below (unsigned_abs n) k small most)
  where
    most : k ≤ 10 ^ 9
    most = rw is (pow-le-pow_right (omega arith) few)

    below : (a k : ℕ) → a < 2 ^ 96 → k ≤ 10 ^ 9 → a * k < 2 ^ 126
    below a k h most = omega (arith, h, mul-le-mul_left a most)

pub lt-times : (k : ℕ) (a b : ℤ) → 0 < k → a <ℤ b → (a *ℤ pos k) <ℤ (b *ℤ pos k)
lt-times k a b some order = below_in _ _ (omega (arith, up-times a k, down-times a k, up-times b k, down-times b k, some, more (up a) (down a) (up b) (down b) (lt_out _ _ order)))
  where
    more : (x y z w : ℕ) → x + w < z + y → x * k + w * k + k ≤ z * k + y * k
    more x y z w h = omega (arith, mul-le-mul_right k h)

-- a factor above 0 of both numbers changes no floor and no ceiling
times-times : (z : ℤ) (d k : ℕ) → (z *ℤ pos d) *ℤ pos k ≡ z *ℤ pos (d * k)
times-times z d k = ring integers (z ∷ pos d ∷ pos k ∷ []) ((var 0 :* var 1) :* var 2) (var 0 :* (var 1 :* var 2)) refl

pub floor-scaled : (k d : ℕ) (n z : ℤ) → 0 < k → IsFloor n d z → IsFloor (n *ℤ pos k) (d * k) z
floor-scaled k d n z some f = record {
  below = rw (times-times z d k) at (le-times k _ _ f.below);
  next = rw (times-times (z +ℤ pos 1) d k) at (lt-times k _ _ some f.next);
}

pub ceiling-scaled : (k d : ℕ) (n z : ℤ) → 0 < k → IsCeiling n d z → IsCeiling (n *ℤ pos k) (d * k) z
ceiling-scaled k d n z some c = record {
  above = rw (times-times z d k) at (le-times k _ _ c.above);
  before = rw (times-times (z -ℤ pos 1) d k) at (lt-times k _ _ some c.before);
}

-- scales F and G: each 2^(F - G) or 2^(G - F), times 2^(the lesser of both), is 2^F or 2^G
powers : (F G : ℕ) → 2 ^ (F - G) * 2 ^ min F G ≡ 2 ^ F
powers F G = sym (pow-add 2 (F - G) (min F G)) ∙ ap (λ e. 2 ^ e) (omega arith)

powers_turned : (F G : ℕ) → 2 ^ (G - F) * 2 ^ min F G ≡ 2 ^ G
powers_turned F G = sym (pow-add 2 (G - F) (min F G)) ∙ ap (λ e. 2 ^ e) (omega arith)

pub floor_rescaled : (F G : ℕ) (n z : ℤ) → IsFloor (n *ℤ pos (2 ^ (G - F))) (2 ^ (F - G)) z → IsFloor (n *ℤ pos (2 ^ G)) (2 ^ F) z
floor_rescaled F G n z f = rw (times-times n (2 ^ (G - F)) (2 ^ min F G), powers_turned F G, powers F G) at (floor-scaled (2 ^ min F G) (2 ^ (F - G)) (n *ℤ pos (2 ^ (G - F))) z (pow_pos (min F G)) f)

pub ceiling_rescaled : (F G : ℕ) (n z : ℤ) → IsCeiling (n *ℤ pos (2 ^ (G - F))) (2 ^ (F - G)) z → IsCeiling (n *ℤ pos (2 ^ G)) (2 ^ F) z
ceiling_rescaled F G n z f = rw (times-times n (2 ^ (G - F)) (2 ^ min F G), powers_turned F G, powers F G) at (ceiling-scaled (2 ^ min F G) (2 ^ (F - G)) (n *ℤ pos (2 ^ (G - F))) z (pow_pos (min F G)) f)

-- division with a remainder gives the floor
pub floor_by_division : (n d z : ℤ) → pos 1 ≤ℤ d → z ≡ int_div_euclid n d → IsFloor n (unsigned_abs d) z
floor_by_division n (pos k) z some e = rw e (floor_of-floor n k (above some))
  where
    above : {k : ℕ} → pos 1 ≤ℤ pos k → 0 < k
    above h = omega (arith, ints)
floor_by_division n (negsuc k) z some e = absurd (omega (arith, ints))

-- what is scaled by 2^F stays below 2^126
pub shifted-small : (bits F : ℕ) (n : ℤ) → MagnitudeBelow bits n → bits + F ≤ 126 → MagnitudeBelow 126 (n *ℤ pos (2 ^ F))
shifted-small bits F n small few = rw (unsigned_abs-mul n (pos (2 ^ F))) (below (unsigned_abs n) (2 ^ bits) (2 ^ F) (pow_pos F) small most)
  where
    most : 2 ^ bits * 2 ^ F ≤ 2 ^ 126
    most = rw (← pow-add 2 bits F) (pow-le-pow_right (omega arith) few)

    below : (a b k : ℕ) → 0 < k → a < b → b * k ≤ 2 ^ 126 → a * k < 2 ^ 126
    below a b k some h most = omega (arith, some, most, mul-le-mul_right k h)

-- a least span has one lower and one upper end
pub least_ends-unique : (l g : ℤ) (d : ℕ) (a b lo hi : ℤ) → 0 < d → AreLeastEnds l g d a b → AreLeastEnds l g d lo hi → (lo ≡ a) × (hi ≡ b)
least_ends-unique l g d a b lo hi some e f = (
  same lo a ((floor_is_greatest l a d some).0 e.low).1 ((floor_is_greatest l lo d some).0 f.low).1 e.low.below f.low.below,
  same_up hi b ((ceiling_is_least g b d some).0 e.high).1 ((ceiling_is_least g hi d some).0 f.high).1 e.high.above f.high.above,
)
  where
    antisym : {a b : ℤ} → a ≤ℤ b → b ≤ℤ a → a ≡ b
    antisym h k = omega (arith, ints)

    same : (x y : ℤ) → ((w : ℤ) → (w *ℤ pos d) ≤ℤ l → w ≤ℤ y) → ((w : ℤ) → (w *ℤ pos d) ≤ℤ l → w ≤ℤ x) → (y *ℤ pos d) ≤ℤ l → (x *ℤ pos d) ≤ℤ l → x ≡ y
    same x y m n h k = antisym (m x k) (n y h)

    same_up : (x y : ℤ) → ((w : ℤ) → g ≤ℤ (w *ℤ pos d) → y ≤ℤ w) → ((w : ℤ) → g ≤ℤ (w *ℤ pos d) → x ≤ℤ w) → g ≤ℤ (y *ℤ pos d) → g ≤ℤ (x *ℤ pos d) → x ≡ y
    same_up x y m n h k = antisym (n y h) (m x k)
