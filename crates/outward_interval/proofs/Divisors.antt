-- Quotients of a number by divisors from c to d, c above 0: rounded from the least, they are at most both; rounded from
-- the greatest, at least both.
use Rattle.std.proofs.Common.{ℕ, suc, ◌<◌, ◌≤◌, ℤ, pos, negsuc, ◌*ℤ◌, ◌≤ℤ◌, ◌<ℤ◌, unsigned_abs, ◌^◌, arith}
use Rattle.std.proofs.Math.Nat.{mul-le-mul_left, mul-pos, zero-lt-suc}
use Rattle.std.proofs.lemmas.Int.{ints}
use Rattle.std.proofs.lemmas.Nat.{pow_pos}
use borrow.Author.Differences.{at_most_in, below_in}
use Rattle.exact_algebra.specs.Span.{IsFloor, IsCeiling}
use Rattle.exact_algebra.proofs.Division.{≤ℤ_cancel}
use Rattle.outward_interval.specs.Ends.{least_divisor, greatest_divisor, AreQuotientEnds}
use Rattle.outward_interval.proofs.Quotients.{up-times, down-times, le-times}
use Rattle.outward_interval.proofs.Signed.{≤ℤ_trans}

grows : (y m n : ℕ) → m ≤ n → (pos y *ℤ pos m) ≤ℤ (pos y *ℤ pos n)
grows y m n h = at_most_in _ _ (omega (arith, up-times (pos y) m, down-times (pos y) m, up-times (pos y) n, down-times (pos y) n, mul-le-mul_left y h))

falls : (y m n : ℕ) → m ≤ n → (negsuc y *ℤ pos n) ≤ℤ (negsuc y *ℤ pos m)
falls y m n h = at_most_in _ _ (omega (arith, up-times (negsuc y) m, down-times (negsuc y) m, up-times (negsuc y) n, down-times (negsuc y) n, mul-le-mul_left (suc y) h))

not_below : (y m : ℕ) → pos 0 ≤ℤ (pos y *ℤ pos m)
not_below y m = at_most_in _ _ (omega (arith, up-times (pos y) m, down-times (pos y) m))

not_above : (y m : ℕ) → (negsuc y *ℤ pos m) ≤ℤ pos 0
not_above y m = at_most_in _ _ (omega (arith, up-times (negsuc y) m, down-times (negsuc y) m))

below_nought : (y m : ℕ) → 0 < m → (negsuc y *ℤ pos m) <ℤ pos 0
below_nought y m some = below_in _ _ (omega (arith, up-times (negsuc y) m, down-times (negsuc y) m, mul-pos (zero-lt-suc y) some))

apart : {a b c : ℤ} → a ≤ℤ b → b ≤ℤ c → c <ℤ a → ⊥
apart h k l = omega (arith, ints)

below_by : (a : ℤ) (m n k : ℕ) (z : ℤ) → 0 < k → 0 < m → m ≤ n → IsFloor (a *ℤ pos k) (unsigned_abs (least_divisor a (pos m) (pos n))) z
    → ((z *ℤ pos m) ≤ℤ (a *ℤ pos k)) × ((z *ℤ pos n) ≤ℤ (a *ℤ pos k))
below_by (pos x) m n k (pos y) some few h f = (≤ℤ_trans (grows y m n h) f.below, f.below)
below_by (pos x) m n k (negsuc y) some few h f = (≤ℤ_trans (not_above y m) (not_below x k), f.below)
below_by (negsuc x) m n k (pos y) some few h f = absurd (apart (not_below y m) f.below (below_nought x k some))
below_by (negsuc x) m n k (negsuc y) some few h f = (f.below, ≤ℤ_trans (falls y m n h) f.below)

above_by : (b : ℤ) (m n k : ℕ) (w : ℤ) → 0 < k → 0 < m → m ≤ n → IsCeiling (b *ℤ pos k) (unsigned_abs (greatest_divisor b (pos m) (pos n))) w
    → ((b *ℤ pos k) ≤ℤ (w *ℤ pos m)) × ((b *ℤ pos k) ≤ℤ (w *ℤ pos n))
above_by (pos x) m n k (pos y) some few h c = (c.above, ≤ℤ_trans c.above (grows y m n h))
above_by (pos x) m n k (negsuc y) some few h c = absurd (apart (not_below x k) c.above (below_nought y m few))
above_by (negsuc x) m n k (pos y) some few h c = (≤ℤ_trans (not_above x k) (not_below y m), c.above)
above_by (negsuc x) m n k (negsuc y) some few h c = (≤ℤ_trans c.above (falls y m n h), c.above)

pub floor-below_both : (a c d z : ℤ) (k : ℕ) → 0 < k → pos 1 ≤ℤ c → c ≤ℤ d → IsFloor (a *ℤ pos k) (unsigned_abs (least_divisor a c d)) z
    → ((z *ℤ c) ≤ℤ (a *ℤ pos k)) × ((z *ℤ d) ≤ℤ (a *ℤ pos k))
floor-below_both a (pos m) (pos n) z k some h o f = below_by a m n k z some (omega (arith, ints)) (omega (arith, ints)) f
floor-below_both a (pos m) (negsuc n) z k some h o f = absurd (omega (arith, ints))
floor-below_both a (negsuc m) d z k some h o f = absurd (omega (arith, ints))

pub both-below_ceiling : (b c d w : ℤ) (k : ℕ) → 0 < k → pos 1 ≤ℤ c → c ≤ℤ d → IsCeiling (b *ℤ pos k) (unsigned_abs (greatest_divisor b c d)) w
    → ((b *ℤ pos k) ≤ℤ (w *ℤ c)) × ((b *ℤ pos k) ≤ℤ (w *ℤ d))
both-below_ceiling b (pos m) (pos n) w k some h o f = above_by b m n k w some (omega (arith, ints)) (omega (arith, ints)) f
both-below_ceiling b (pos m) (negsuc n) w k some h o f = absurd (omega (arith, ints))
both-below_ceiling b (negsuc m) d w k some h o f = absurd (omega (arith, ints))

cancelled : (c z w : ℤ) → pos 1 ≤ℤ c → (z *ℤ c) ≤ℤ (w *ℤ c) → z ≤ℤ w
cancelled (pos m) z w h o = ≤ℤ_cancel z w m (omega (arith, ints)) o
cancelled (negsuc m) z w h o = absurd (omega (arith, ints))

pub quotient_ends-ordered : (F : ℕ) (a b c d z w : ℤ) → pos 1 ≤ℤ c → c ≤ℤ d → a ≤ℤ b → AreQuotientEnds F a b c d z w → z ≤ℤ w
quotient_ends-ordered F a b c d z w h o ab ends = cancelled c z w h
    (≤ℤ_trans (floor-below_both a c d z (2 ^ F) (pow_pos F) h o ends.low).0 (≤ℤ_trans (le-times (2 ^ F) a b ab) (both-below_ceiling b c d w (2 ^ F) (pow_pos F) h o ends.high).0))

pub least_divisor-positive : (a c d : ℤ) → pos 1 ≤ℤ c → c ≤ℤ d → pos 1 ≤ℤ least_divisor a c d
least_divisor-positive (pos x) c d h o = ≤ℤ_trans h o
least_divisor-positive (negsuc x) c d h o = h

pub greatest_divisor-positive : (a c d : ℤ) → pos 1 ≤ℤ c → c ≤ℤ d → pos 1 ≤ℤ greatest_divisor a c d
greatest_divisor-positive (pos x) c d h o = h
greatest_divisor-positive (negsuc x) c d h o = ≤ℤ_trans h o
