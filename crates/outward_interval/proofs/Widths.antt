-- Widths of results, from those of their parts.
use Rattle.std.proofs.Common.{◌≡◌, refl, ℕ, suc, [], ◌∷◌, ◌*◌, ◌^◌, max, ℤ, pos, negsuc, neg_ℤ, unsigned_abs, ◌+ℤ◌, ◌-ℤ◌, ◌*ℤ◌, ◌≤ℤ◌, ◌<ℤ◌, arith}
use Rattle.std.proofs.lemmas.Int.{ints, clamps}
use Rattle.std.specs.Int.{int_min, int_max}
use Rattle.exact_algebra.specs.Expression.{var, unit, number, ◌:+◌, ◌:-◌, ◌:*◌, opposite}
use Rattle.exact_algebra.proofs.Ring.{ring}
use Rattle.exact_algebra.proofs.WholeNumbers.{integers}
use Rattle.exact_algebra.proofs.Products.{magnitude, rounded-width}
use Rattle.exact_algebra.specs.Span.{IsFloor, IsCeiling}
use Rattle.outward_interval.specs.Ends.{AreLeastEnds, AreQuotientEnds, least_divisor, greatest_divisor}
use Rattle.outward_interval.specs.Widths.{nearer}
use Rattle.outward_interval.proofs.Quotients.{le-times}

-- a product of width p less two parts of widths m and o, in wholes of so many units
pub two_differences : (one : ℕ) (s p m o d r : ℤ) → (p *ℤ pos one) ≤ℤ (s +ℤ pos (2 * one)) → d ≡ p +ℤ m → r ≡ d +ℤ o
    → (r *ℤ pos one) ≤ℤ (s +ℤ ((pos 2 +ℤ m) +ℤ o) *ℤ pos one)
two_differences one s p m o d r h e f = rw (f, e) (go ((p +ℤ m +ℤ o) *ℤ pos one) (((pos 2 +ℤ m) +ℤ o) *ℤ pos one) (p *ℤ pos one) (m *ℤ pos one) (o *ℤ pos one) (pos 2 *ℤ pos one)
    (ring integers (p ∷ m ∷ o ∷ pos one ∷ []) ((var 0 :+ var 1 :+ var 2) :* var 3) (var 0 :* var 3 :+ var 1 :* var 3 :+ var 2 :* var 3) refl)
    (ring integers (pos 2 ∷ m ∷ o ∷ pos one ∷ []) ((var 0 :+ var 1 :+ var 2) :* var 3) (var 0 :* var 3 :+ var 1 :* var 3 :+ var 2 :* var 3) refl) h)
  where
    go : (x y a b c t : ℤ) → x ≡ (a +ℤ b) +ℤ c → y ≡ (t +ℤ b) +ℤ c → a ≤ℤ (s +ℤ t) → x ≤ℤ (s +ℤ y)
    go x y a b c t e f h = omega (arith, ints)

-- a span of another scale
pub rescaled-width : (f g : ℕ) (a b lo hi : ℤ) → AreLeastEnds (a *ℤ pos g) (b *ℤ pos g) f lo hi → ((hi -ℤ lo) *ℤ pos f) ≤ℤ (((b -ℤ a) *ℤ pos g) +ℤ pos (2 * f))
rescaled-width f g a b lo hi ends = rw (ring integers (a ∷ b ∷ pos g ∷ []) ((var 1 :- var 0) :* var 2) (var 1 :* var 2 :- var 0 :* var 2) refl) (rounded-width (a *ℤ pos g) (b *ℤ pos g) f lo hi ends.low ends.high)

-- a whole multiple is as many times as wide
pub times_whole-width : (a b n lo hi : ℤ) → a ≤ℤ b → lo ≡ int_min (a *ℤ n) (b *ℤ n) → hi ≡ int_max (a *ℤ n) (b *ℤ n) → hi -ℤ lo ≡ pos (unsigned_abs n) *ℤ (b -ℤ a)
times_whole-width a b (pos k) lo hi order low high =
    go (a *ℤ pos k) (b *ℤ pos k) (pos k *ℤ (b -ℤ a)) (ring integers (a ∷ b ∷ pos k ∷ []) (var 2 :* (var 1 :- var 0)) (var 1 :* var 2 :- var 0 :* var 2) refl) (le-times k a b order) low high
  where
    go : (x y w : ℤ) → w ≡ y -ℤ x → x ≤ℤ y → lo ≡ int_min x y → hi ≡ int_max x y → hi -ℤ lo ≡ w
    go x y w e h l m = omega (arith, ints, clamps)
times_whole-width a b (negsuc k) lo hi order low high =
    go (a *ℤ negsuc k) (b *ℤ negsuc k) (a *ℤ pos (suc k)) (b *ℤ pos (suc k)) (pos (suc k) *ℤ (b -ℤ a))
    (ring integers (a ∷ pos (suc k) ∷ []) (var 0 :* opposite (var 1)) (opposite (var 0 :* var 1)) refl)
    (ring integers (b ∷ pos (suc k) ∷ []) (var 0 :* opposite (var 1)) (opposite (var 0 :* var 1)) refl)
    (ring integers (a ∷ b ∷ pos (suc k) ∷ []) (var 2 :* (var 1 :- var 0)) (var 1 :* var 2 :- var 0 :* var 2) refl) (le-times (suc k) a b order) low high
  where
    go : (x y p q w : ℤ) → x ≡ neg_ℤ p → y ≡ neg_ℤ q → w ≡ q -ℤ p → p ≤ℤ q → lo ≡ int_min x y → hi ≡ int_max x y → hi -ℤ lo ≡ w
    go x y p q w d e f h l m = omega (arith, ints, clamps)

-- ends of quotients by p and by q, where p times p' and q times q' are the product w of both divisors
crossed : (k p p' q q' w : ℕ) (a b lo hi s : ℤ) → p * p' ≡ w → q * q' ≡ w → (a *ℤ pos k) <ℤ ((lo +ℤ pos 1) *ℤ pos p) → ((hi -ℤ pos 1) *ℤ pos q) <ℤ (b *ℤ pos k)
    → (b *ℤ pos q' -ℤ a *ℤ pos p') ≤ℤ s → ((hi -ℤ lo) *ℤ pos w) ≤ℤ (s *ℤ pos k +ℤ pos (2 * w))
crossed k p p' q q' w a b lo hi s pw qw low high most =
    go ((hi -ℤ lo) *ℤ pos w) (lo *ℤ pos w) (hi *ℤ pos w) ((a *ℤ pos k) *ℤ pos p') ((b *ℤ pos k) *ℤ pos q') (((lo +ℤ pos 1) *ℤ pos p) *ℤ pos p') (((hi -ℤ pos 1) *ℤ pos q) *ℤ pos q')
    ((b *ℤ pos q' -ℤ a *ℤ pos p') *ℤ pos k) (s *ℤ pos k)
    (ring integers (lo ∷ hi ∷ pos w ∷ []) ((var 1 :- var 0) :* var 2) (var 1 :* var 2 :- var 0 :* var 2) refl)
    (rw pw at lower) (rw qw at upper)
    (ring integers (a ∷ b ∷ pos p' ∷ pos q' ∷ pos k ∷ []) ((var 1 :* var 3 :- var 0 :* var 2) :* var 4) ((var 1 :* var 4) :* var 3 :- (var 0 :* var 4) :* var 2) refl)
    (le-times p' (a *ℤ pos k) ((lo +ℤ pos 1) *ℤ pos p) (weak low)) (le-times q' ((hi -ℤ pos 1) *ℤ pos q) (b *ℤ pos k) (weak high)) (le-times k (b *ℤ pos q' -ℤ a *ℤ pos p') s most)
  where
    weak : {x y : ℤ} → x <ℤ y → x ≤ℤ y
    weak h = omega (arith, ints)

    lower : ((lo +ℤ pos 1) *ℤ pos p) *ℤ pos p' ≡ lo *ℤ pos (p * p') +ℤ pos (p * p')
    lower = ring integers (lo ∷ pos p ∷ pos p' ∷ []) (((var 0 :+ unit) :* var 1) :* var 2) (var 0 :* (var 1 :* var 2) :+ var 1 :* var 2) refl

    upper : ((hi -ℤ pos 1) *ℤ pos q) *ℤ pos q' ≡ hi *ℤ pos (q * q') -ℤ pos (q * q')
    upper = ring integers (hi ∷ pos q ∷ pos q' ∷ []) (((var 0 :- unit) :* var 1) :* var 2) (var 0 :* (var 1 :* var 2) :- var 1 :* var 2) refl

    go : (x l h al bh y z t st : ℤ) → x ≡ h -ℤ l → y ≡ l +ℤ pos w → z ≡ h -ℤ pos w → t ≡ bh -ℤ al → al ≤ℤ y → z ≤ℤ bh → t ≤ℤ st → x ≤ℤ (st +ℤ pos (2 * w))
    go x l h al bh y z t st e f i j below above most = omega (arith, ints)

-- by how much the numerators of a quotient's ends differ over the product of both divisors
abbrev quotient_spread : ℤ → ℤ → ℤ → ℤ → ℤ
quotient_spread a b c d = (b -ℤ a) *ℤ d +ℤ pos (magnitude a b) *ℤ (d -ℤ c)

-- a number of at most this magnitude, times the width of the divisor
widened : (x c d w : ℤ) (s : ℕ) → c ≤ℤ d → x ≤ℤ pos s → (w +ℤ x *ℤ (d -ℤ c)) ≤ℤ (w +ℤ pos s *ℤ (d -ℤ c))
widened x c d w s order most = rw (gap c d order) (more (x *ℤ pos (unsigned_abs (d -ℤ c))) (pos s *ℤ pos (unsigned_abs (d -ℤ c))) (le-times (unsigned_abs (d -ℤ c)) x (pos s) most))
  where
    gap : (c d : ℤ) → c ≤ℤ d → d -ℤ c ≡ pos (unsigned_abs (d -ℤ c))
    gap c d order = omega (arith, ints)

    more : (y z : ℤ) → y ≤ℤ z → (w +ℤ y) ≤ℤ (w +ℤ z)
    more y z h = omega (arith, ints)

by_divisors : (k m n : ℕ) (a b lo hi : ℤ) → pos m ≤ℤ pos n → a ≤ℤ b → IsFloor (a *ℤ pos k) (unsigned_abs (least_divisor a (pos m) (pos n))) lo → IsCeiling (b *ℤ pos k) (unsigned_abs (greatest_divisor b (pos m) (pos n))) hi
    → ((hi -ℤ lo) *ℤ pos (m * n)) ≤ℤ (quotient_spread a b (pos m) (pos n) *ℤ pos k +ℤ pos (2 * (m * n)))
by_divisors k m n (pos x) (pos y) lo hi order ab low high = crossed k n m m n (m * n) (pos x) (pos y) lo hi (quotient_spread (pos x) (pos y) (pos m) (pos n)) (omega arith) refl low.next high.before
    (rw (ring integers (pos x ∷ pos y ∷ pos m ∷ pos n ∷ []) (var 1 :* var 3 :- var 0 :* var 2) ((var 1 :- var 0) :* var 3 :+ var 0 :* (var 3 :- var 2)) refl)
    (widened (pos x) (pos m) (pos n) ((pos y -ℤ pos x) *ℤ pos n) (max x y) order (omega (arith, ints))))
by_divisors k m n (pos x) (negsuc y) lo hi order ab low high = absurd (omega (arith, ints))
by_divisors k m n (negsuc x) (pos y) lo hi order ab low high = crossed k m n m n (m * n) (negsuc x) (pos y) lo hi (quotient_spread (negsuc x) (pos y) (pos m) (pos n)) refl refl low.next high.before
    (rw (ring integers (negsuc x ∷ pos y ∷ pos m ∷ pos n ∷ []) (var 1 :* var 3 :- var 0 :* var 3) ((var 1 :- var 0) :* var 3 :+ number 0 :* (var 3 :- var 2)) refl)
    (widened (pos 0) (pos m) (pos n) ((pos y -ℤ negsuc x) *ℤ pos n) (max (suc x) y) order (omega (arith, ints))))
by_divisors k m n (negsuc x) (negsuc y) lo hi order ab low high = crossed k m n n m (m * n) (negsuc x) (negsuc y) lo hi (quotient_spread (negsuc x) (negsuc y) (pos m) (pos n)) refl (omega arith) low.next high.before
    (rw (ring integers (negsuc x ∷ negsuc y ∷ pos m ∷ pos n ∷ []) (var 1 :* var 2 :- var 0 :* var 3) ((var 1 :- var 0) :* var 3 :+ opposite (var 1) :* (var 3 :- var 2)) refl)
    (widened (pos (suc y)) (pos m) (pos n) ((negsuc y -ℤ negsuc x) *ℤ pos n) (max (suc x) (suc y)) order (omega (arith, ints))))

-- a quotient is no wider, over the product of both ends of the divisor, than the width times the divisor's upper end and
-- the magnitude times the divisor's width, and one unit for each end
pub quotient-width : (F : ℕ) (a b c d lo hi : ℤ) → pos 1 ≤ℤ c → c ≤ℤ d → a ≤ℤ b → AreQuotientEnds F a b c d lo hi
    → ((hi -ℤ lo) *ℤ (c *ℤ d)) ≤ℤ (((b -ℤ a) *ℤ d +ℤ pos (magnitude a b) *ℤ (d -ℤ c)) *ℤ pos (2 ^ F) +ℤ pos 2 *ℤ (c *ℤ d))
quotient-width F a b (pos m) (pos n) lo hi some order ab ends = by_divisors (2 ^ F) m n a b lo hi order ab ends.low ends.high
quotient-width F a b (pos m) (negsuc n) lo hi some order ab ends = absurd (omega (arith, ints))
quotient-width F a b (negsuc m) d lo hi some order ab ends = absurd (omega (arith, ints))

-- ---- sharper: the nearer end in place of the magnitude
abbrev nearer_spread : ℤ → ℤ → ℤ → ℤ → ℤ
nearer_spread a b c d = (b -ℤ a) *ℤ d +ℤ pos (nearer a b) *ℤ (d -ℤ c)

same : (z : ℤ) → z ≤ℤ z
same z = omega (arith, ints)

sharp_by_divisors : (k m n : ℕ) (a b lo hi : ℤ) → a ≤ℤ b → IsFloor (a *ℤ pos k) (unsigned_abs (least_divisor a (pos m) (pos n))) lo → IsCeiling (b *ℤ pos k) (unsigned_abs (greatest_divisor b (pos m) (pos n))) hi
    → ((hi -ℤ lo) *ℤ pos (m * n)) ≤ℤ (nearer_spread a b (pos m) (pos n) *ℤ pos k +ℤ pos (2 * (m * n)))
sharp_by_divisors k m n (pos x) (pos y) lo hi ab low high = crossed k n m m n (m * n) (pos x) (pos y) lo hi (nearer_spread (pos x) (pos y) (pos m) (pos n)) (omega arith) refl low.next high.before
    (rw (ring integers (pos x ∷ pos y ∷ pos m ∷ pos n ∷ []) (var 1 :* var 3 :- var 0 :* var 2) ((var 1 :- var 0) :* var 3 :+ var 0 :* (var 3 :- var 2)) refl) (same (nearer_spread (pos x) (pos y) (pos m) (pos n))))
sharp_by_divisors k m n (pos x) (negsuc y) lo hi ab low high = absurd (omega (arith, ints))
sharp_by_divisors k m n (negsuc x) (pos y) lo hi ab low high = crossed k m n m n (m * n) (negsuc x) (pos y) lo hi (nearer_spread (negsuc x) (pos y) (pos m) (pos n)) refl refl low.next high.before
    (rw (ring integers (negsuc x ∷ pos y ∷ pos m ∷ pos n ∷ []) (var 1 :* var 3 :- var 0 :* var 3) ((var 1 :- var 0) :* var 3 :+ number 0 :* (var 3 :- var 2)) refl) (same (nearer_spread (negsuc x) (pos y) (pos m) (pos n))))
sharp_by_divisors k m n (negsuc x) (negsuc y) lo hi ab low high = crossed k m n n m (m * n) (negsuc x) (negsuc y) lo hi (nearer_spread (negsuc x) (negsuc y) (pos m) (pos n)) refl (omega arith) low.next high.before
    (rw (ring integers (negsuc x ∷ negsuc y ∷ pos m ∷ pos n ∷ []) (var 1 :* var 2 :- var 0 :* var 3) ((var 1 :- var 0) :* var 3 :+ opposite (var 1) :* (var 3 :- var 2)) refl) (same (nearer_spread (negsuc x) (negsuc y) (pos m) (pos n))))

-- a quotient is no wider, over the product of both ends of the divisor, than the width times the divisor's upper end and the nearer end
-- times the divisor's width, and one unit for each end
pub quotient-sharp_width : (F : ℕ) (a b c d lo hi : ℤ) → pos 1 ≤ℤ c → c ≤ℤ d → a ≤ℤ b → AreQuotientEnds F a b c d lo hi
    → ((hi -ℤ lo) *ℤ (c *ℤ d)) ≤ℤ (((b -ℤ a) *ℤ d +ℤ pos (nearer a b) *ℤ (d -ℤ c)) *ℤ pos (2 ^ F) +ℤ pos 2 *ℤ (c *ℤ d))
quotient-sharp_width F a b (pos m) (pos n) lo hi some order ab ends = sharp_by_divisors (2 ^ F) m n a b lo hi ab ends.low ends.high
quotient-sharp_width F a b (pos m) (negsuc n) lo hi some order ab ends = absurd (omega (arith, ints))
quotient-sharp_width F a b (negsuc m) d lo hi some order ab ends = absurd (omega (arith, ints))
