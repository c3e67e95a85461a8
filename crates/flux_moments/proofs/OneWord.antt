-- Products of ends by a coordinate, of which the sign says which is the lesser, and their rounding.
use Rattle.std.proofs.Common.{◌≡◌, ℕ, suc, ◌*◌, ◌^◌, ◌<◌, ◌≤◌, ℤ, pos, negsuc, neg_ℤ, ◌*ℤ◌, ◌≤ℤ◌, ◌<ℤ◌, unsigned_abs, refl, [], ◌∷◌, arith}
use Rattle.std.proofs.lemmas.Int.{ints, clamps}
use Rattle.std.specs.Int.{int_min, int_max}
use Rattle.exact_algebra.specs.Expression.{var, unit, ◌:*◌, opposite}
use Rattle.exact_algebra.specs.Span.{IsFloor, IsCeiling}
use Rattle.exact_algebra.proofs.Ring.{ring}
use Rattle.exact_algebra.proofs.WholeNumbers.{integers}
use Rattle.exact_fraction.specs.Bounds.{MagnitudeBelow}
use Rattle.outward_interval.specs.Ends.{AreEnds, AreLeastEnds}
use Rattle.outward_interval.proofs.Quotients.{le-times, floor_rescaled, ceiling_rescaled}
use Rattle.plane_clip.proofs.QuotientSizes.{times_size}
use Rattle.flux_moments.specs.Limits.{EndsAtMost}
use Rattle.flux_moments.proofs.Heights.{products_at_most}

-- ---- how large a product is
pub product_at_most : (a n : ℤ) → unsigned_abs a ≤ 2 ^ 40 → MagnitudeBelow 16 n → unsigned_abs (a *ℤ n) ≤ 2 ^ 56
product_at_most a n h small = within _ _ (times_size (2 ^ 40) a n h) small
  where
    within : (x k : ℕ) → x ≤ 2 ^ 40 * k → k < 2 ^ 16 → x ≤ 2 ^ 56
    within x k h l = omega (arith, h, l)

-- ---- which is the lesser
rising : (a b n : ℤ) → a ≤ℤ b → pos 0 ≤ℤ n → (a *ℤ n) ≤ℤ (b *ℤ n)
rising a b (pos k) order some = le-times k a b order
rising a b (negsuc k) order some = absurd (omega (arith, ints))

falling : (a b n : ℤ) → a ≤ℤ b → n <ℤ pos 0 → (b *ℤ n) ≤ℤ (a *ℤ n)
falling a b (pos k) order less = absurd (omega (arith, ints))
falling a b (negsuc k) order less = turned (a *ℤ negsuc k) (b *ℤ negsuc k) (a *ℤ pos (suc k)) (b *ℤ pos (suc k))
    (ring integers (a ∷ pos (suc k) ∷ []) (var 0 :* opposite (var 1)) (opposite (var 0 :* var 1)) refl)
    (ring integers (b ∷ pos (suc k) ∷ []) (var 0 :* opposite (var 1)) (opposite (var 0 :* var 1)) refl) (le-times (suc k) a b order)
  where
    turned : (x y p q : ℤ) → x ≡ neg_ℤ p → y ≡ neg_ℤ q → p ≤ℤ q → y ≤ℤ x
    turned x y p q e f h = omega (arith, ints)

pub products_rising : (a b n : ℤ) {p q : ℤ} → a ≤ℤ b → pos 0 ≤ℤ n → p ≡ a *ℤ n → q ≡ b *ℤ n → AreEnds (int_min (a *ℤ n) (b *ℤ n)) (int_max (a *ℤ n) (b *ℤ n)) p q
products_rising a b n {p} {q} order some e f = in_order (a *ℤ n) (b *ℤ n) p q (rising a b n order some) e f
  where
    in_order : (x y p q : ℤ) → x ≤ℤ y → p ≡ x → q ≡ y → AreEnds (int_min x y) (int_max x y) p q
    in_order x y p q h e f = record { low = omega (arith, ints, clamps); high = omega (arith, ints, clamps) }

pub products_falling : (a b n : ℤ) {p q : ℤ} → a ≤ℤ b → n <ℤ pos 0 → p ≡ a *ℤ n → q ≡ b *ℤ n → AreEnds (int_min (a *ℤ n) (b *ℤ n)) (int_max (a *ℤ n) (b *ℤ n)) q p
products_falling a b n {p} {q} order less e f = in_turn (a *ℤ n) (b *ℤ n) p q (falling a b n order less) e f
  where
    in_turn : (x y p q : ℤ) → y ≤ℤ x → p ≡ x → q ≡ y → AreEnds (int_min x y) (int_max x y) q p
    in_turn x y p q h e f = record { low = omega (arith, ints, clamps); high = omega (arith, ints, clamps) }

-- ---- rounding
once : (n : ℤ) → n ≡ n *ℤ pos 1
once n = ring integers (n ∷ []) (var 0) (var 0 :* unit) refl

pub rounded_ends : (a b : ℤ) {lo hi : ℤ} → IsFloor a (2 ^ 20) lo → IsCeiling b (2 ^ 20) hi → AreLeastEnds (a *ℤ pos (2 ^ 20)) (b *ℤ pos (2 ^ 20)) (2 ^ 40) lo hi
rounded_ends a b {lo} {hi} floor ceiling = record {
  low = floor_rescaled 40 20 a lo (rw (once a) at floor);
  high = ceiling_rescaled 40 20 b hi (rw (once b) at ceiling);
}

-- ---- the ends of all multiples of a part
module _ (a b n lo hi : ℤ) (part : EndsAtMost (2 ^ 40) a b) (n_small : MagnitudeBelow 16 n) (ends : AreEnds (int_min (a *ℤ n) (b *ℤ n)) (int_max (a *ℤ n) (b *ℤ n)) lo hi) where
  pub multiples_small : EndsAtMost (2 ^ 56) lo hi
  multiples_small = record { low = within most.low n_small; high = within most.high n_small }
    where
      most : EndsAtMost (2 ^ 40 * unsigned_abs n) lo hi
      most = products_at_most a b n lo hi part ends

      within : {x k : ℕ} → x ≤ 2 ^ 40 * k → k < 2 ^ 16 → x ≤ 2 ^ 56
      within h l = omega (arith, h, l)

  pub multiples_ordered : lo ≤ℤ hi
  multiples_ordered = go (a *ℤ n) (b *ℤ n) lo hi ends.low ends.high
    where
      go : (x y lo hi : ℤ) → lo ≡ int_min x y → hi ≡ int_max x y → lo ≤ℤ hi
      go x y lo hi e f = omega (arith, ints, clamps)
