-- How far the ends of quotients and products lie.
use Rattle.std.proofs.Common.{◌≡◌, sym, subst, ℕ, ◌+◌, ◌*◌, ◌^◌, ◌<◌, ◌≤◌, ℤ, pos, ◌+ℤ◌, ◌-ℤ◌, ◌*ℤ◌, unsigned_abs, arith}
use Rattle.std.proofs.lemmas.Int.{ints, clamps, unsigned_abs-mul}
use Rattle.std.proofs.Math.Nat.{mul-le-mul}
use Rattle.std.specs.Int.{int_min, int_max}
use Rattle.outward_interval.specs.Ends.{EndsBelow, AreEnds, AreLeastEnds}
use Rattle.flux_moments.specs.Limits.{EndsAtMost}
use Rattle.plane_clip.proofs.QuotientSizes.{floor-size, ceiling-size}

pub at_most_wider : (m n : ℕ) {lo hi : ℤ} → m ≤ n → EndsAtMost m lo hi → EndsAtMost n lo hi
at_most_wider m n h e = record { low = omega (arith, h, e.low); high = omega (arith, h, e.high) }

pub below_at_most : (bits : ℕ) {lo hi : ℤ} → EndsBelow bits lo hi → EndsAtMost (2 ^ bits) lo hi
below_at_most bits e = record { low = weak e.low; high = weak e.high }
  where
    weak : {k : ℕ} → k < 2 ^ bits → k ≤ 2 ^ bits
    weak h = omega (arith, h)

pub quotient_ends : (K D : ℕ) {a b lo hi : ℤ} → 0 < D → EndsAtMost (K * D) a b → AreLeastEnds a b D lo hi → EndsAtMost K lo hi
quotient_ends K D {a} {b} {lo} {hi} some e are = record {
  low = floor-size a lo D K some e.low are.low;
  high = ceiling-size b hi D K some e.high are.high;
}

product_at_most : (K N : ℕ) (a n : ℤ) → unsigned_abs a ≤ K → unsigned_abs n ≤ N → unsigned_abs (a *ℤ n) ≤ K * N
product_at_most K N a n h k = omega (arith, unsigned_abs-mul a n, mul-le-mul h k)

pub multiple_at_most : (K N : ℕ) (n : ℤ) {a b lo hi : ℤ} → EndsAtMost K a b → unsigned_abs n ≤ N → AreEnds (int_min (a *ℤ n) (b *ℤ n)) (int_max (a *ℤ n) (b *ℤ n)) lo hi → EndsAtMost (K * N) lo hi
multiple_at_most K N n {a} {b} {lo} {hi} e h are = record {
  low = subst (λ (z : ℤ). unsigned_abs z ≤ K * N) (sym are.low) (lesser (K * N) (a *ℤ n) (b *ℤ n) first second);
  high = subst (λ (z : ℤ). unsigned_abs z ≤ K * N) (sym are.high) (greater (K * N) (a *ℤ n) (b *ℤ n) first second);
}
  where
    first : unsigned_abs (a *ℤ n) ≤ K * N
    first = product_at_most K N a n e.low h

    second : unsigned_abs (b *ℤ n) ≤ K * N
    second = product_at_most K N b n e.high h

    lesser : (B : ℕ) (p q : ℤ) → unsigned_abs p ≤ B → unsigned_abs q ≤ B → unsigned_abs (int_min p q) ≤ B
    lesser B p q i j = omega (arith, ints, clamps)

    greater : (B : ℕ) (p q : ℤ) → unsigned_abs p ≤ B → unsigned_abs q ≤ B → unsigned_abs (int_max p q) ≤ B
    greater B p q i j = omega (arith, ints, clamps)

pub multiple_below : (K N bits : ℕ) (n : ℤ) {a b : ℤ} → K * N < 2 ^ bits → EndsAtMost K a b → unsigned_abs n ≤ N → EndsBelow bits (a *ℤ n) (b *ℤ n)
multiple_below K N bits n {a} {b} fits e h = record { low = under (product_at_most K N a n e.low h); high = under (product_at_most K N b n e.high h) }
  where
    under : {k : ℕ} → k ≤ K * N → k < 2 ^ bits
    under i = omega (arith, fits, i)

pub sum_at_most : (K L : ℕ) {a b c d lo hi : ℤ} → EndsAtMost K a b → EndsAtMost L c d → AreEnds (a +ℤ c) (b +ℤ d) lo hi → EndsAtMost (K + L) lo hi
sum_at_most K L {a} {b} {c} {d} {lo} {hi} h k are = record { low = both lo a c are.low h.low k.low; high = both hi b d are.high h.high k.high }
  where
    both : (z x y : ℤ) → z ≡ x +ℤ y → unsigned_abs x ≤ K → unsigned_abs y ≤ L → unsigned_abs z ≤ K + L
    both z x y e i j = omega (arith, ints, e, i, j)

pub sum_below : (K L bits : ℕ) {a b c d : ℤ} → K + L < 2 ^ bits → EndsAtMost K a b → EndsAtMost L c d → EndsBelow bits (a +ℤ c) (b +ℤ d)
sum_below K L bits {a} {b} {c} {d} fits h k = record { low = both a c h.low k.low; high = both b d h.high k.high }
  where
    both : (x y : ℤ) → unsigned_abs x ≤ K → unsigned_abs y ≤ L → unsigned_abs (x +ℤ y) < 2 ^ bits
    both x y i j = omega (arith, ints, fits, i, j)

pub difference_below : (K L bits : ℕ) {a b c d : ℤ} → K + L < 2 ^ bits → EndsAtMost K a b → EndsAtMost L c d → EndsBelow bits (a -ℤ d) (b -ℤ c)
difference_below K L bits {a} {b} {c} {d} fits h k = record { low = both a d h.low k.high; high = both b c h.high k.low }
  where
    both : (x y : ℤ) → unsigned_abs x ≤ K → unsigned_abs y ≤ L → unsigned_abs (x -ℤ y) < 2 ^ bits
    both x y i j = omega (arith, ints, fits, i, j)

pub scaled_at_most : (K N : ℕ) (n : ℤ) {a b : ℤ} → EndsAtMost K a b → unsigned_abs n ≤ N → EndsAtMost (K * N) (a *ℤ n) (b *ℤ n)
scaled_at_most K N n {a} {b} e h = record { low = product_at_most K N a n e.low h; high = product_at_most K N b n e.high h }

at_least_as_many : (K n : ℕ) → 1 ≤ n → K ≤ K * n
at_least_as_many K n h = omega (arith, mul-le-mul same h)
  where
    same : K ≤ K
    same = omega arith

pub over_mass_ends : (n : ℕ) {a b low high lo hi : ℤ} → 1 ≤ n → EndsAtMost (2 ^ 96) a b → AreLeastEnds (a *ℤ pos (2 ^ 20)) (b *ℤ pos (2 ^ 20)) (2 ^ 40) low high → AreLeastEnds low high n lo hi → EndsAtMost (2 ^ 77) lo hi
over_mass_ends n {a} {b} {low} {high} {lo} {hi} some e coarse quotient = quotient_ends (2 ^ 77) n above (at_most_wider (2 ^ 76) (2 ^ 77 * n) enough small) quotient
  where
    above : 0 < n
    above = omega (arith, some)

    small : EndsAtMost (2 ^ 76) low high
    small = quotient_ends (2 ^ 76) (2 ^ 40) (omega arith) (scaled_at_most (2 ^ 96) (2 ^ 20) (pos (2 ^ 20)) e (omega arith)) coarse

    enough : 2 ^ 76 ≤ 2 ^ 77 * n
    enough = omega (arith, some)

-- over the displaced volume
pub volume_ends : (most density mass : ℕ) {a b a1 b1 a2 b2 lo hi : ℤ} → density ≤ 2000 → 1 ≤ mass → EndsAtMost (most * 500000) a b → AreLeastEnds a b 1000 a1 b1
    → AreEnds (int_min (a1 *ℤ pos density) (b1 *ℤ pos density)) (int_max (a1 *ℤ pos density) (b1 *ℤ pos density)) a2 b2 → AreLeastEnds a2 b2 (mass * 1000000) lo hi → EndsAtMost most lo hi
volume_ends most density mass {a} {b} {a1} {b1} {a2} {b2} {lo} {hi} light some e first times quotient = quotient_ends most (mass * 1000000) above (at_most_wider (most * 500 * 2000) (most * (mass * 1000000)) enough dense) quotient
  where
    above : 0 < mass * 1000000
    above = omega (arith, some)

    parts : EndsAtMost (most * 500 * 1000) a b
    parts = at_most_wider (most * 500000) (most * 500 * 1000) (omega arith) e

    one_part : EndsAtMost (most * 500) a1 b1
    one_part = quotient_ends (most * 500) 1000 (omega arith) parts first

    dense : EndsAtMost (most * 500 * 2000) a2 b2
    dense = multiple_at_most (most * 500) 2000 (pos density) one_part light times

    enough : most * 500 * 2000 ≤ most * (mass * 1000000)
    enough = omega (arith, at_least_as_many most mass some)

pub opposite_size : (n : ℤ) → unsigned_abs (pos 0 -ℤ n) ≡ unsigned_abs n
opposite_size n = omega (arith, ints)

pub difference_at_most : (K L : ℕ) {a b c d lo hi : ℤ} → EndsAtMost K a b → EndsAtMost L c d → AreEnds (a -ℤ d) (b -ℤ c) lo hi → EndsAtMost (K + L) lo hi
difference_at_most K L {a} {b} {c} {d} {lo} {hi} h k are = record { low = both lo a d are.low h.low k.high; high = both hi b c are.high h.high k.low }
  where
    both : (z x y : ℤ) → z ≡ x -ℤ y → unsigned_abs x ≤ K → unsigned_abs y ≤ L → unsigned_abs z ≤ K + L
    both z x y e i j = omega (arith, ints, e, i, j)
