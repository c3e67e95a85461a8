-- Spans: the numbers from lo to hi in units of 2^-F, and the least span of a ratio n / d, by cross products of whole
-- numbers. d is above 0 where these are used.
use Rattle.std.specs.Int.{int_div_euclid}
use Rattle.std.specs.Prelude.{◌≡◌, ◌↔◌, ℕ, ◌*◌, ◌^◌, ◌<◌, ℤ, pos, ◌+ℤ◌, ◌-ℤ◌, ◌*ℤ◌, neg_ℤ, ◌≤ℤ◌, ◌<ℤ◌}

-- n / d lies from lo to hi in units of 2^-F
pub record ContainsRatio (F : ℕ) (lo hi n : ℤ) (d : ℕ) : Type 0 where
  pub from : (lo *ℤ pos d) ≤ℤ (n *ℤ pos (2 ^ F))
  pub to : (n *ℤ pos (2 ^ F)) ≤ℤ (hi *ℤ pos d)

-- z is the floor of n / d
pub record IsFloor (n : ℤ) (d : ℕ) (z : ℤ) : Type 0 where
  pub below : (z *ℤ pos d) ≤ℤ n
  pub next : n <ℤ ((z +ℤ pos 1) *ℤ pos d)

-- z is the ceiling of n / d
pub record IsCeiling (n : ℤ) (d : ℕ) (z : ℤ) : Type 0 where
  pub above : n ≤ℤ (z *ℤ pos d)
  pub before : ((z -ℤ pos 1) *ℤ pos d) <ℤ n

-- lo and hi are the ends of the least span of scale F that contains n / d
pub record IsLeastSpan (F : ℕ) (lo hi n : ℤ) (d : ℕ) : Type 0 where
  pub low : IsFloor (n *ℤ pos (2 ^ F)) d lo
  pub high : IsCeiling (n *ℤ pos (2 ^ F)) d hi

-- the floor and the ceiling of n / d
abbrev pub floor_of : ℤ → ℕ → ℤ
floor_of n d = int_div_euclid n (pos d)

abbrev pub ceiling_of : ℤ → ℕ → ℤ
ceiling_of n d = neg_ℤ (int_div_euclid (neg_ℤ n) (pos d))

-- z in units of scale F is at most each product of an end of a, b and an end of c, d
pub record IsBelowProducts (F : ℕ) (z a b c d : ℤ) : Type 0 where
  pub first : (z *ℤ pos (2 ^ F)) ≤ℤ (a *ℤ c)
  pub second : (z *ℤ pos (2 ^ F)) ≤ℤ (a *ℤ d)
  pub third : (z *ℤ pos (2 ^ F)) ≤ℤ (b *ℤ c)
  pub fourth : (z *ℤ pos (2 ^ F)) ≤ℤ (b *ℤ d)

-- z in units of scale F is at least each product of an end of a, b and an end of c, d
pub record IsAboveProducts (F : ℕ) (z a b c d : ℤ) : Type 0 where
  pub first : (a *ℤ c) ≤ℤ (z *ℤ pos (2 ^ F))
  pub second : (a *ℤ d) ≤ℤ (z *ℤ pos (2 ^ F))
  pub third : (b *ℤ c) ≤ℤ (z *ℤ pos (2 ^ F))
  pub fourth : (b *ℤ d) ≤ℤ (z *ℤ pos (2 ^ F))

-- ---- laws
-- the floor is the greatest whole number that is at most n / d, by cross products
abbrev pub FloorIsGreatest : Type 0
FloorIsGreatest = (n z : ℤ) (d : ℕ) → 0 < d → IsFloor n d z ↔ ((z *ℤ pos d) ≤ℤ n × ((w : ℤ) → (w *ℤ pos d) ≤ℤ n → w ≤ℤ z))

-- the ceiling is the least whole number that is at least n / d
abbrev pub CeilingIsLeast : Type 0
CeilingIsLeast = (n z : ℤ) (d : ℕ) → 0 < d → IsCeiling n d z ↔ (n ≤ℤ (z *ℤ pos d) × ((w : ℤ) → n ≤ℤ (w *ℤ pos d) → z ≤ℤ w))

-- each ratio has a least span
abbrev pub LeastSpanExists : Type 0
LeastSpanExists = (F d : ℕ) (n : ℤ) → 0 < d → IsLeastSpan F (floor_of (n *ℤ pos (2 ^ F)) d) (ceiling_of (n *ℤ pos (2 ^ F)) d) n d

-- the least span of a ratio contains it, and lies within each span that contains it
abbrev pub LeastSpanIsLeast : Type 0
LeastSpanIsLeast = (F d : ℕ) (n lo hi : ℤ) → 0 < d → IsLeastSpan F lo hi n d
    → ContainsRatio F lo hi n d × ((a b : ℤ) → ContainsRatio F a b n d → (a ≤ℤ lo) × (hi ≤ℤ b))

-- a ratio has at most one least span
abbrev pub LeastSpanIsUnique : Type 0
LeastSpanIsUnique = (F d : ℕ) (n lo hi a b : ℤ) → 0 < d → IsLeastSpan F lo hi n d → IsLeastSpan F a b n d → (a ≡ lo) × (b ≡ hi)

-- ratios with equal cross products lie in the same spans, and have the same least span
abbrev pub SameRatioHasSameSpans : Type 0
SameRatioHasSameSpans = (F d e : ℕ) (n m lo hi : ℤ) → 0 < d → 0 < e → n *ℤ pos e ≡ m *ℤ pos d
    → (ContainsRatio F lo hi n d → ContainsRatio F lo hi m e) × (IsLeastSpan F lo hi n d → IsLeastSpan F lo hi m e)

-- the sum of two ratios lies in the sum of the spans in which they lie
abbrev pub SumLiesInSum : Type 0
SumLiesInSum = (F d e : ℕ) (n m a b a' b' : ℤ) → 0 < d → 0 < e → ContainsRatio F a b n d → ContainsRatio F a' b' m e
    → ContainsRatio F (a +ℤ a') (b +ℤ b') (n *ℤ pos e +ℤ m *ℤ pos d) (d * e)

-- the product of two ratios lies in each span that reaches from below to above the four products of the ends
abbrev pub ProductLiesInProducts : Type 0
ProductLiesInProducts = (F d e : ℕ) (n m a b a' b' lo hi : ℤ) → 0 < d → 0 < e → ContainsRatio F a b n d → ContainsRatio F a' b' m e
    → IsBelowProducts F lo a b a' b' → IsAboveProducts F hi a b a' b' → ContainsRatio F lo hi (n *ℤ m) (d * e)
