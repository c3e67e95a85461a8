-- How far the ends of products of spans may lie.
use Rattle.std.proofs.Common.{ℕ, zero, suc, ◌≡◌, sym, subst, ◌+◌, ◌*◌, ◌^◌, ◌<◌, ◌≤◌, ℤ, pos, ◌+ℤ◌, ◌*ℤ◌, unsigned_abs, arith}
use Rattle.std.proofs.lemmas.Int.{ints, clamps, unsigned_abs-mul}
use Rattle.std.proofs.lemmas.Nat.{mul-lt}
use Rattle.std.specs.Int.{int_min, int_max}
use Rattle.exact_algebra.specs.Span.{IsFloor, IsCeiling}
use Rattle.exact_algebra.proofs.Products.{least_of, greatest_of}
use Rattle.outward_interval.specs.Ends.{EndsBelow, ProductsBelow, AreEnds, AreLeastEnds, least_product, greatest_product}
pub use Rattle.plane_clip.proofs.QuotientSizes.{floor-size, ceiling-size}
use Rattle.flux_moments.specs.Limits.{EndsAtMost, EndsLess}

pub product_less : (M N : ℕ) (a c : ℤ) → unsigned_abs a < M → unsigned_abs c < N → unsigned_abs (a *ℤ c) < M * N
product_less M N a c h k = omega (arith, unsigned_abs-mul a c, mul-lt (unsigned_abs a) (unsigned_abs c) M N h k)

pub products_fit : (M N : ℕ) {a b c d : ℤ} → M * N ≤ 2 ^ 126 → EndsLess M a b → EndsLess N c d → ProductsBelow 126 a b c d
products_fit M N {a} {b} {c} {d} fits h k = record {
  first = within (product_less M N a c h.low k.low);
  second = within (product_less M N a d h.low k.high);
  third = within (product_less M N b c h.high k.low);
  fourth = within (product_less M N b d h.high k.high);
}
  where
    within : {n : ℕ} → n < M * N → n < 2 ^ 126
    within h = omega (arith, fits, h)

-- ---- quotients rounded
positive : (K D : ℕ) {n : ℕ} → n < K * D → 0 < D
positive K zero h = absurd (omega (arith, h))
positive K (suc D) h = omega arith

pub floor_at_most : (K D : ℕ) (n z : ℤ) → unsigned_abs n < K * D → IsFloor n D z → unsigned_abs z ≤ K
floor_at_most K D n z h f = floor-size n z D K (positive K D h) (omega (arith, h)) f

pub ceiling_at_most : (K D : ℕ) (n z : ℤ) → unsigned_abs n < K * D → IsCeiling n D z → unsigned_abs z ≤ K
ceiling_at_most K D n z h c = ceiling-size n z D K (positive K D h) (omega (arith, h)) c

-- ---- the least and the greatest of four
least_less : (B : ℕ) (p q r s : ℤ) → unsigned_abs p < B → unsigned_abs q < B → unsigned_abs r < B → unsigned_abs s < B → unsigned_abs (least_of p q r s) < B
least_less B p q r s h i j k = omega (arith, ints, clamps)

greatest_less : (B : ℕ) (p q r s : ℤ) → unsigned_abs p < B → unsigned_abs q < B → unsigned_abs r < B → unsigned_abs s < B → unsigned_abs
    (greatest_of p q r s) < B
greatest_less B p q r s h i j k = omega (arith, ints, clamps)

pub product_ends : (M N K D : ℕ) {a b c d lo hi : ℤ} → M * N ≤ K * D → EndsLess M a b → EndsLess N c d
    → AreLeastEnds (least_product a b c d) (greatest_product a b c d) D lo hi → EndsAtMost K lo hi
product_ends M N K D {a} {b} {c} {d} {lo} {hi} fits h k ends = record {
  low = floor_at_most K D (least_product a b c d) lo (within (least_less (M * N) (a *ℤ c) (a *ℤ d) (b *ℤ c) (b *ℤ d) p q r s)) ends.low;
  high = ceiling_at_most K D (greatest_product a b c d) hi (within (greatest_less (M * N) (a *ℤ c) (a *ℤ d) (b *ℤ c) (b *ℤ d) p q r s)) ends.high;
}
  where
    p : unsigned_abs (a *ℤ c) < M * N
    p = product_less M N a c h.low k.low

    q : unsigned_abs (a *ℤ d) < M * N
    q = product_less M N a d h.low k.high

    r : unsigned_abs (b *ℤ c) < M * N
    r = product_less M N b c h.high k.low

    s : unsigned_abs (b *ℤ d) < M * N
    s = product_less M N b d h.high k.high

    within : {n : ℕ} → n < M * N → n < K * D
    within i = omega (arith, fits, i)

-- ---- bounds under other names
pub less : (bits : ℕ) {lo hi : ℤ} → EndsBelow bits lo hi → EndsLess (2 ^ bits) lo hi
less bits e = record { low = e.low; high = e.high }

pub at_most_less : (most : ℕ) {lo hi : ℤ} → EndsAtMost most lo hi → EndsLess (suc most) lo hi
at_most_less most e = record { low = under e.low; high = under e.high }
  where
    under : {n : ℕ} → n ≤ most → n < suc most
    under h = omega (arith, h)

pub at_most_below : (most bits : ℕ) {lo hi : ℤ} → most < 2 ^ bits → EndsAtMost most lo hi → EndsBelow bits lo hi
at_most_below most bits h e = record { low = under e.low; high = under e.high }
  where
    under : {n : ℕ} → n ≤ most → n < 2 ^ bits
    under k = omega (arith, h, k)

-- a span times a whole number
pub multiple_fits : (M N : ℕ) (n : ℤ) {lo hi : ℤ} → M * N ≤ 2 ^ 126 → EndsLess M lo hi → unsigned_abs n < N → EndsBelow 126 (lo *ℤ n) (hi *ℤ n)
multiple_fits M N n {lo} {hi} fits e h = record { low = within (product_less M N lo n e.low h); high = within (product_less M N hi n e.high h) }
  where
    within : {k : ℕ} → k < M * N → k < 2 ^ 126
    within i = omega (arith, fits, i)

pub multiple_ends : (M N : ℕ) (n : ℤ) {lo hi low high : ℤ} → EndsLess M lo hi → unsigned_abs n < N
    → AreEnds (int_min (lo *ℤ n) (hi *ℤ n)) (int_max (lo *ℤ n) (hi *ℤ n)) low high → EndsLess (M * N) low high
multiple_ends M N n {lo} {hi} {low} {high} e h are = record {
  low = subst (λ (z : ℤ). unsigned_abs z < M * N) (sym are.low) (lesser (M * N) (lo *ℤ n) (hi *ℤ n) first second);
  high = subst (λ (z : ℤ). unsigned_abs z < M * N) (sym are.high) (greater (M * N) (lo *ℤ n) (hi *ℤ n) first second);
}
  where
    first : unsigned_abs (lo *ℤ n) < M * N
    first = product_less M N lo n e.low h

    second : unsigned_abs (hi *ℤ n) < M * N
    second = product_less M N hi n e.high h

    lesser : (B : ℕ) (p q : ℤ) → unsigned_abs p < B → unsigned_abs q < B → unsigned_abs (int_min p q) < B
    lesser B p q i j = omega (arith, ints, clamps)

    greater : (B : ℕ) (p q : ℤ) → unsigned_abs p < B → unsigned_abs q < B → unsigned_abs (int_max p q) < B
    greater B p q i j = omega (arith, ints, clamps)

-- a span times a number below 2^37, taken from scale 40 to scale 20
pub rescaled_ends : (most : ℕ) {lo hi low high : ℤ} → EndsLess (most * 2 ^ 37) lo hi → AreLeastEnds (lo *ℤ pos (2 ^ 20)) (hi *ℤ pos (2 ^ 20)) (2 ^ 40)
    low high → EndsAtMost (most * 2 ^ 17) low high
rescaled_ends most {lo} {hi} {low} {high} e are = record {
  low = floor_at_most (most * 2 ^ 17) (2 ^ 40) (lo *ℤ pos (2 ^ 20)) low (within lo e.low) are.low;
  high = ceiling_at_most (most * 2 ^ 17) (2 ^ 40) (hi *ℤ pos (2 ^ 20)) high (within hi e.high) are.high;
}
  where
    within : (z : ℤ) → unsigned_abs z < most * 2 ^ 37 → unsigned_abs (z *ℤ pos (2 ^ 20)) < most * 2 ^ 17 * 2 ^ 40
    within z h = omega (arith, h, unsigned_abs-mul z (pos (2 ^ 20)))

-- sums of spans
pub sum_fits : (B C : ℕ) {a b c d : ℤ} → B + C ≤ 2 ^ 126 → EndsLess B a b → EndsLess C c d → EndsBelow 126 (a +ℤ c) (b +ℤ d)
sum_fits B C {a} {b} {c} {d} fits h k = record { low = together a c h.low k.low; high = together b d h.high k.high }
  where
    together : (x y : ℤ) → unsigned_abs x < B → unsigned_abs y < C → unsigned_abs (x +ℤ y) < 2 ^ 126
    together x y i j = omega (arith, ints, fits, i, j)

pub sum_ends : (B C : ℕ) {a b c d lo hi : ℤ} → EndsLess B a b → EndsLess C c d → AreEnds (a +ℤ c) (b +ℤ d) lo hi → EndsLess (B + C) lo hi
sum_ends B C {a} {b} {c} {d} {lo} {hi} h k are = record { low = together lo a c are.low h.low k.low; high = together hi b d are.high h.high k.high }
  where
    together : (z x y : ℤ) → z ≡ x +ℤ y → unsigned_abs x < B → unsigned_abs y < C → unsigned_abs z < B + C
    together z x y e i j = omega (arith, ints, e, i, j)

pub at_most_sum : (m n most : ℕ) {a b c d lo hi : ℤ} → m + n ≤ most → EndsAtMost m a b → EndsAtMost n c d → AreEnds (a +ℤ c) (b +ℤ d) lo hi
    → EndsAtMost most lo hi
at_most_sum m n most {a} {b} {c} {d} {lo} {hi} fits h k are = record {
  low = together lo a c are.low h.low k.low;
  high = together hi b d are.high
      h.high k.high;
}
  where
    together : (z x y : ℤ) → z ≡ x +ℤ y → unsigned_abs x ≤ m → unsigned_abs y ≤ n → unsigned_abs z ≤ most
    together z x y e i j = omega (arith, ints, fits, e, i, j)

pub at_most_fits : (m n : ℕ) {a b c d : ℤ} → m + n < 2 ^ 126 → EndsAtMost m a b → EndsAtMost n c d → EndsBelow 126 (a +ℤ c) (b +ℤ d)
at_most_fits m n {a} {b} {c} {d} fits h k = record { low = together a c h.low k.low; high = together b d h.high k.high }
  where
    together : (x y : ℤ) → unsigned_abs x ≤ m → unsigned_abs y ≤ n → unsigned_abs (x +ℤ y) < 2 ^ 126
    together x y i j = omega (arith, ints, fits, i, j)
