-- Floor and ceiling of whole numbers: a common factor above 0 may be left out of an order, the floor is the greatest whole
-- number by cross products, and division with a remainder gives it.
use Prim.Native.Nat.{ℕ, ◌+◌, ◌*◌, ◌<◌, ◌≤◌}
use native.Mathlib.Omega.{arith}
use mathlib.Core.Path.{◌≡◌, refl, sym, ap}
use mathlib.Core.List.{[], ◌∷◌}
use mathlib.Core.Logic.{◌⊎◌, inl, inr}
use lib.IntN.{ℤ, pos, negsuc, ◌+ℤ◌, ◌-ℤ◌, ◌*ℤ◌, neg_ℤ}
use lib.Signed.{◌≤ℤ◌, ◌<ℤ◌}
use borrow.Author.Differences.{up, down, ints, product_is}
use Rattle.std.specs.Int.{int_div_euclid}
use Rattle.exact_algebra.specs.Expression.{var, unit, ◌:+◌, ◌:-◌, ◌:*◌, opposite}
use Rattle.exact_algebra.specs.Span.{IsFloor, IsCeiling, floor_of, ceiling_of, FloorIsGreatest, CeilingIsLeast}
use Rattle.exact_algebra.proofs.Ring.{ring}
use Rattle.exact_algebra.proofs.WholeNumbers.{integers}
use Rattle.exact_algebra.proofs.Fraction.{fractions}
use Rattle.exact_algebra.proofs.Whole.{whole, whole-mul, positive-whole, whole-≼_out, whole-≺_out, ≺_scaled_out, ≼_scaled_out}
use Rattle.exact_algebra.proofs.Whole as Whole
use Rattle.exact_algebra.proofs.Order as Order

-- ---- a common factor above 0
pub ≤ℤ_cancel : (a b : ℤ) (d : ℕ) → 0 < d → (a *ℤ pos d) ≤ℤ (b *ℤ pos d) → a ≤ℤ b
≤ℤ_cancel a b d h k = whole-≼_out a b (Whole.≼_scaled (whole a) (whole b) (whole (pos d)) (a *ℤ pos d) (b *ℤ pos d) (positive-whole d h) (sym (whole-mul a (pos d))) (sym (whole-mul b (pos d))) k)

pub <ℤ_cancel : (a b : ℤ) (d : ℕ) → 0 < d → (a *ℤ pos d) <ℤ (b *ℤ pos d) → a <ℤ b
<ℤ_cancel a b d h k = whole-≺_out a b (Whole.≺_scaled (whole a) (whole b) (whole (pos d)) (a *ℤ pos d) (b *ℤ pos d) (positive-whole d h) (sym (whole-mul a (pos d))) (sym (whole-mul b (pos d))) k)

≤ℤ_or_<ℤ : (a b : ℤ) → (a ≤ℤ b) ⊎ (b <ℤ a)
≤ℤ_or_<ℤ a b = elim (Order.≼_or_≺ fractions (whole a) (whole b)) [ inl h ↦ inl (whole-≼_out a b h) | inr s ↦ inr (whole-≺_out b a s) ]

-- ---- the floor is the greatest, the ceiling the least
≤ℤ-<ℤ : {a b c : ℤ} → a ≤ℤ b → b <ℤ c → a <ℤ c
≤ℤ-<ℤ h k = omega (arith, ints)

<ℤ-≤ℤ : {a b c : ℤ} → a <ℤ b → b ≤ℤ c → a <ℤ c
<ℤ-≤ℤ h k = omega (arith, ints)

up_to : {a b : ℤ} → a <ℤ (b +ℤ pos 1) → a ≤ℤ b
up_to h = omega (arith, ints)

from_up : {a b : ℤ} → (a -ℤ pos 1) <ℤ b → a ≤ℤ b
from_up h = omega (arith, ints)

not_next : (z : ℤ) → (z +ℤ pos 1) ≤ℤ z → ⊥
not_next z h = omega (arith, ints)

not_before : (z : ℤ) → z ≤ℤ (z -ℤ pos 1) → ⊥
not_before z h = omega (arith, ints)

pub floor_is_greatest : FloorIsGreatest
floor_is_greatest n z d h = (
  λ f. (f.below, λ w k. up_to (<ℤ_cancel w (z +ℤ pos 1) d h (≤ℤ-<ℤ k f.next))),
  λ g. record { below = g.0; next = elim (≤ℤ_or_<ℤ ((z +ℤ pos 1) *ℤ pos d) n) [ inl k ↦ absurd (not_next z (g.1 (z +ℤ pos 1) k)) | inr k ↦ k ] },
)

pub ceiling_is_least : CeilingIsLeast
ceiling_is_least n z d h = (
  λ c. (c.above, λ w k. from_up (<ℤ_cancel (z -ℤ pos 1) w d h (<ℤ-≤ℤ c.before k))),
  λ g. record { above = g.0; before = elim (≤ℤ_or_<ℤ n ((z -ℤ pos 1) *ℤ pos d)) [ inl k ↦ absurd (not_before z (g.1 (z -ℤ pos 1) k)) | inr k ↦ k ] },
)

-- ---- division with a remainder
parts : (a : ℤ) (d : ℕ) → 0 < d → (up (int_div_euclid a (pos d)) * d + down a ≤ down (int_div_euclid a (pos d)) * d + up a) × (down (int_div_euclid a (pos d)) * d + up a < up (int_div_euclid a (pos d)) * d + down a + d)
parts (pos a) d h = omega arith
parts (negsuc a) d h = omega arith

pub floor_of-floor : (n : ℤ) (d : ℕ) → 0 < d → IsFloor n d (floor_of n d)
floor_of-floor n d h = record { below = at_most (int_div_euclid n (pos d)) (parts n d h); next = less (int_div_euclid n (pos d)) (parts n d h) }
  where
    at_most : (q : ℤ) → (up q * d + down n ≤ down q * d + up n) × (down q * d + up n < up q * d + down n + d) → (q *ℤ pos d) ≤ℤ n
    at_most q p = omega (arith, ints, p, product_is q (pos d))

    following : (q : ℤ) → up (q +ℤ pos 1) + down q ≡ up q + 1 + down (q +ℤ pos 1)
    following q = omega (arith, ints)

    less : (q : ℤ) → (up q * d + down n ≤ down q * d + up n) × (down q * d + up n < up q * d + down n + d) → n <ℤ ((q +ℤ pos 1) *ℤ pos d)
    less q p = omega (arith, ints, p, product_is (q +ℤ pos 1) (pos d), ap (λ t. t * d) (following q))

-- an order holds where another with the same difference does
moved : (a b c d : ℤ) → b +ℤ neg_ℤ a ≡ d +ℤ neg_ℤ c → c ≤ℤ d → a ≤ℤ b
moved a b c d e h = omega (arith, ints)

moved_less : (a b c d : ℤ) → b +ℤ neg_ℤ a ≡ d +ℤ neg_ℤ c → c <ℤ d → a <ℤ b
moved_less a b c d e h = omega (arith, ints)

-- the opposite of a floor of the opposite is the ceiling
pub ceiling_by_floor : (n z : ℤ) (d : ℕ) → IsFloor (neg_ℤ n) d z → IsCeiling n d (neg_ℤ z)
ceiling_by_floor n z d f = record {
  above = moved n (neg_ℤ z *ℤ pos d) (z *ℤ pos d) (neg_ℤ n) (ring integers (n ∷ z ∷ pos d ∷ []) (opposite (var 1) :* var 2 :- var 0) (opposite (var 0) :- var 1 :* var 2) refl) f.below;
  before = moved_less ((neg_ℤ z -ℤ pos 1) *ℤ pos d) n (neg_ℤ n) ((z +ℤ pos 1) *ℤ pos d) (ring integers (n ∷ z ∷ pos d ∷ []) (var 0 :- (opposite (var 1) :- unit) :* var 2) ((var 1 :+ unit) :* var 2 :- opposite (var 0)) refl) f.next;
}

pub ceiling_of-ceiling : (n : ℤ) (d : ℕ) → 0 < d → IsCeiling n d (ceiling_of n d)
ceiling_of-ceiling n d h = ceiling_by_floor n (int_div_euclid (neg_ℤ n) (pos d)) d (floor_of-floor (neg_ℤ n) d h)
