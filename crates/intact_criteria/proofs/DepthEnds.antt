-- The ends of depths: their order and how large they are.
use Rattle.std.proofs.Common.{◌≡◌, refl, ◌∙◌, ap, ℕ, ◌*◌, ◌^◌, ◌<◌, ◌≤◌, ℤ, pos, negsuc, ◌+ℤ◌, ◌-ℤ◌, ◌*ℤ◌, ◌≤ℤ◌, unsigned_abs, arith}
use Rattle.std.proofs.lemmas.Int.{ints}
use Rattle.std.specs.Int.{w64, w128}
use mir.Val.{SFits}
use Rattle.hull_model.proofs.Magnitudes.{fits_64, fits_128}
use Rattle.std.proofs.lemmas.Nat.{pow_pos}
use Rattle.angle_bounds.specs.declared.bracket.Bracket.{Bracket}
use Rattle.exact_algebra.specs.Span.{IsFloor, floor_of, ceiling_of}
use Rattle.exact_algebra.proofs.Division.{floor_of-floor, ceiling_of-ceiling, ≤ℤ_cancel}
use Rattle.outward_interval.proofs.Quotients.{le-times}
use Rattle.outward_interval.specs.Kept.{IsSpan}
use Rattle.outward_interval.specs.declared.span.Span.{Span}
use Rattle.plane_clip.proofs.QuotientSizes.{times_size}
use Rattle.hull_model.specs.declared.opening.Opening.{Opening}
use Rattle.draft_bracket.specs.declared.drafts.Drafts.{Drafts}
use Rattle.intact_criteria.specs.Readings.{HasEnds, depth_of, least_depth, greatest_depth}

trans : {a b c : ℤ} → a ≤ℤ b → b ≤ℤ c → a ≤ℤ c
trans h k = omega (arith, ints)

-- a multiple by a number that isn't negative keeps the order
times_up : (a b n : ℤ) → a ≤ℤ b → pos 0 ≤ℤ n → (a *ℤ n) ≤ℤ (b *ℤ n)
times_up a b (pos n) h k = le-times n a b h
times_up a b (negsuc n) h k = absurd (negative n k)
  where
    negative : (n : ℕ) → pos 0 ≤ℤ negsuc n → ⊥
    negative n k = omega (arith, ints)

pub depths_ordered : (bracket : Bracket) (drafts : Drafts) (o : Opening) → least_depth bracket drafts o ≤ℤ greatest_depth bracket drafts o
depths_ordered bracket drafts o = go (drafts.d1 *ℤ pos (2 ^ 30)) (drafts.d2 *ℤ pos (2 ^ 30)) (bracket.c.lo *ℤ o.z) (bracket.c.hi *ℤ o.z) (bracket.s.lo *ℤ o.y) (bracket.s.hi *ℤ o.y)
    (le-times (2 ^ 30) drafts.d1 drafts.d2 drafts.ordered) (times_up bracket.c.lo bracket.c.hi o.z bracket.c.ordered o.limits.above_base) (times_up bracket.s.lo bracket.s.hi o.y bracket.s.ordered o.limits.beside)
  where
    go : (p q r s t u : ℤ) → p ≤ℤ q → r ≤ℤ s → t ≤ℤ u → ((p -ℤ s) +ℤ t) ≤ℤ ((q -ℤ r) +ℤ u)
    go p q r s t u h k l = omega (arith, ints)

pub rounded_ordered : (a b : ℤ) → a ≤ℤ b → floor_of a (2 ^ 20) ≤ℤ ceiling_of b (2 ^ 20)
rounded_ordered a b h = ≤ℤ_cancel (floor_of a (2 ^ 20)) (ceiling_of b (2 ^ 20)) (2 ^ 20) (pow_pos 20)
    (trans (floor_of-floor a (2 ^ 20) (pow_pos 20)).below (trans h (ceiling_of-ceiling b (2 ^ 20) (pow_pos 20)).above))

-- ---- sizes
pub y_small : (o : Opening) → unsigned_abs o.y < 2 ^ 17
y_small o = go o.y o.limits.beside o.limits.near
  where
    go : (z : ℤ) → pos 0 ≤ℤ z → z ≤ℤ pos 65535 → unsigned_abs z < 2 ^ 17
    go z h k = omega (arith, ints)

pub z_small : (o : Opening) → unsigned_abs o.z < 2 ^ 17
z_small o = go o.z o.limits.above_base o.limits.low
  where
    go : (z : ℤ) → pos 0 ≤ℤ z → z ≤ℤ pos 131071 → unsigned_abs z < 2 ^ 17
    go z h k = omega (arith, ints)

pub times-small : (a n : ℤ) → unsigned_abs a ≤ 2 ^ 40 → unsigned_abs n < 2 ^ 17 → unsigned_abs (a *ℤ n) ≤ 2 ^ 57
times-small a n h k = below (unsigned_abs (a *ℤ n)) (unsigned_abs n) (times_size (2 ^ 40) a n h) k
  where
    below : (x m : ℕ) → x ≤ 2 ^ 40 * m → m < 2 ^ 17 → x ≤ 2 ^ 57
    below x m h k = omega (arith, h, k)

pub level-small : (a : ℤ) → unsigned_abs a ≤ 2 ^ 28 → unsigned_abs (a *ℤ pos (2 ^ 30)) ≤ 2 ^ 58
level-small a h = times_size (2 ^ 28) a (pos (2 ^ 30)) h

pub floor-small : (n : ℤ) → unsigned_abs n ≤ 2 ^ 59 → unsigned_abs (floor_of n (2 ^ 20)) ≤ 2 ^ 59
floor-small n h = go (floor_of n (2 ^ 20)) (floor_of-floor n (2 ^ 20) (pow_pos 20))
  where
    go : (z : ℤ) → IsFloor n (2 ^ 20) z → unsigned_abs z ≤ 2 ^ 59
    go z f = omega (arith, ints, f.below, f.next)

-- ---- 128 bits
pub times-fits : (a n : ℤ) → unsigned_abs a ≤ 2 ^ 40 → unsigned_abs n < 2 ^ 17 → SFits w128 (a *ℤ n)
times-fits a n h k = fits_128 (a *ℤ n) (below (unsigned_abs (a *ℤ n)) (times-small a n h k))
  where
    below : (x : ℕ) → x ≤ 2 ^ 57 → x < 2 ^ 127
    below x h = omega arith

module _ (a b c : ℤ) (at_a : unsigned_abs a ≤ 2 ^ 58) (at_b : unsigned_abs b ≤ 2 ^ 57) (at_c : unsigned_abs c ≤ 2 ^ 57) where
  pub lowered-fits : SFits w128 (a -ℤ b)
  lowered-fits = fits_128 (a -ℤ b) (omega (arith, ints))

  pub raised-small : unsigned_abs ((a -ℤ b) +ℤ c) ≤ 2 ^ 59
  raised-small = omega (arith, ints)

  pub raised-fits : SFits w128 ((a -ℤ b) +ℤ c)
  raised-fits = fits_128 ((a -ℤ b) +ℤ c) (below (unsigned_abs ((a -ℤ b) +ℤ c)) raised-small)
    where
      below : (x : ℕ) → x ≤ 2 ^ 59 → x < 2 ^ 127
      below x h = omega arith

-- the rounded ends of a depth are those of a span
pub rounded_span : (a b : ℤ) → a ≤ℤ b → unsigned_abs (floor_of a (2 ^ 20)) ≤ 2 ^ 59 → unsigned_abs (ceiling_of b (2 ^ 20)) ≤ 2 ^ 59 → IsSpan 20 (floor_of a (2 ^ 20)) (ceiling_of b (2 ^ 20))
rounded_span a b h k l = record { ordered = rounded_ordered a b h; low = below _ k; high = below _ l; scaled = omega arith }
  where
    below : (x : ℕ) → x ≤ 2 ^ 59 → x < 2 ^ 126
    below x h = omega arith

pub depth_has_ends : (bracket : Bracket) (drafts : Drafts) (o : Opening) (least greatest lo hi : ℤ) (span : Span 20)
    → least ≡ least_depth bracket drafts o → greatest ≡ greatest_depth bracket drafts o → lo ≡ floor_of least (2 ^ 20) → hi ≡ ceiling_of greatest (2 ^ 20)
    → span.lo ≡ lo → span.hi ≡ hi → HasEnds (depth_of bracket drafts o) span
depth_has_ends bracket drafts o least greatest lo hi span at_least at_greatest at_lo at_hi low high = record {
  low = low ∙ at_lo ∙ ap (λ n. floor_of n (2 ^ 20)) at_least;
  high = high ∙ at_hi ∙ ap (λ n. ceiling_of n (2 ^ 20)) at_greatest;
}

pub depth_span : (bracket : Bracket) (drafts : Drafts) (o : Opening) (least greatest lo hi : ℤ)
    → least ≡ least_depth bracket drafts o → greatest ≡ greatest_depth bracket drafts o → lo ≡ floor_of least (2 ^ 20) → hi ≡ ceiling_of greatest (2 ^ 20)
    → unsigned_abs lo ≤ 2 ^ 59 → unsigned_abs hi ≤ 2 ^ 59 → IsSpan 20 lo hi
depth_span bracket drafts o least greatest lo hi at_least at_greatest at_lo at_hi small_lo small_hi =
    rw (at_lo, at_hi) (rounded_span least greatest (rw (at_least, at_greatest) (depths_ordered bracket drafts o)) (rw at_lo at small_lo) (rw at_hi at small_hi))

pub level_fits : (drafts : Drafts) → SFits w64 drafts.d1 × SFits w64 drafts.d2
level_fits drafts = (fits_64 drafts.d1 (below _ drafts.first_range), fits_64 drafts.d2 (below _ drafts.last_range))
  where
    below : (x : ℕ) → x ≤ 2 ^ 28 → x < 2 ^ 63
    below x h = omega arith

pub place_fits : (o : Opening) → SFits w64 o.y × SFits w64 o.z
place_fits o = (fits_64 o.y (below _ (y_small o)), fits_64 o.z (below _ (z_small o)))
  where
    below : (x : ℕ) → x < 2 ^ 17 → x < 2 ^ 63
    below x h = omega arith

pub sum_of : (a b c p q r : ℤ) → a ≡ p → b ≡ q → c ≡ r → (a -ℤ b) +ℤ c ≡ (p -ℤ q) +ℤ r
sum_of a b c p q r e f g = rw (e, f, g) refl
