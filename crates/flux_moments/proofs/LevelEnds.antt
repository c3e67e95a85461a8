-- The ends of depths at upright level planes, exactly.
use Rattle.std.proofs.Common.{◌≡◌, ◌∙◌, refl, sym, ap, ℕ, ◌^◌, ◌<◌, ℤ, pos, ◌+ℤ◌, ◌-ℤ◌, ◌*ℤ◌, ◌≤ℤ◌, [], ◌∷◌, arith}
use Rattle.std.proofs.lemmas.Int.{ints, clamps}
use Rattle.std.specs.Int.{int_min, int_max}
use Rattle.exact_algebra.specs.Expression.{var, number, ◌:+◌, ◌:*◌}
use Rattle.exact_algebra.specs.Span.{IsFloor, IsCeiling}
use Rattle.exact_algebra.proofs.Division.{floor_is_greatest, ceiling_is_least}
use Rattle.exact_algebra.proofs.Ring.{ring}
use Rattle.exact_algebra.proofs.WholeNumbers.{integers}
use Rattle.outward_interval.specs.Ends.{AreEnds, AreLeastEnds}
use Rattle.flux_moments.proofs.Levels.{floor_exact, ceiling_exact}

-- a multiple of a span of one number
pub multiple_same : (a b n k lo hi : ℤ) → AreEnds (int_min (a *ℤ n) (b *ℤ n)) (int_max (a *ℤ n) (b *ℤ n)) lo hi → a ≡ k → b ≡ k → (lo ≡ k *ℤ n) × (hi ≡ k *ℤ n)
multiple_same a b n k lo hi ends e f = (
  go lo (a *ℤ n) (b *ℤ n) (k *ℤ n) (ap (λ x. x *ℤ n) e) (ap (λ x. x *ℤ n) f) ends.low,
  over hi (a *ℤ n) (b *ℤ n)
      (k *ℤ n) (ap (λ x. x *ℤ n) e) (ap (λ x. x *ℤ n) f) ends.high,
)
  where
    go : (lo p q m : ℤ) → p ≡ m → q ≡ m → lo ≡ int_min p q → lo ≡ m
    go lo p q m e f h = omega (arith, ints, clamps)

    over : (hi p q m : ℤ) → p ≡ m → q ≡ m → hi ≡ int_max p q → hi ≡ m
    over hi p q m e f h = omega (arith, ints, clamps)

-- the floor and the ceiling of a whole number
antisym : {a b : ℤ} → a ≤ℤ b → b ≤ℤ a → a ≡ b
antisym h k = omega (arith, ints)

at_most : {a b : ℤ} → a ≡ b → a ≤ℤ b
at_most e = omega (arith, ints)

pub same_floor : (m n z : ℤ) (d : ℕ) → 0 < d → n ≡ m *ℤ pos d → IsFloor n d z → z ≡ m
same_floor m n z d some e f = antisym (((floor_is_greatest n m d some).0 (floor_exact n m d some e)).1 z f.below)
    (((floor_is_greatest n z d some).0 f).1 m (at_most (sym e)))

pub same_ceiling : (m n z : ℤ) (d : ℕ) → 0 < d → n ≡ m *ℤ pos d → IsCeiling n d z → z ≡ m
same_ceiling m n z d some e f = antisym (((ceiling_is_least n z d some).0 f).1 m (at_most e))
    (((ceiling_is_least n m d some).0 (ceiling_exact n m d some e)).1 z f.above)

-- the height of a node where the cosine is one and the sine nought
module _ (z y : ℤ) {a b c d low high lo hi : ℤ} (first : (a ≡ pos (2 ^ 40) *ℤ z) × (b ≡ pos (2 ^ 40) *ℤ z))
    (second : (c ≡ pos 0 *ℤ y) × (d ≡ pos 0 *ℤ y)) (sum : AreEnds (a +ℤ c) (b +ℤ d) low high)
    (ends : AreLeastEnds (low *ℤ pos (2 ^ 20)) (high *ℤ pos (2 ^ 20)) (2 ^ 40) lo hi) where
  whole_height : (p q r : ℤ) → p ≡ pos (2 ^ 40) *ℤ z → q ≡ pos 0 *ℤ y → r ≡ p +ℤ q → r *ℤ pos (2 ^ 20) ≡ (z *ℤ pos (2 ^ 20)) *ℤ pos (2 ^ 40)
  whole_height p q r e f g = ap (λ x. x *ℤ pos (2 ^ 20)) (g ∙ ap (λ x. x +ℤ q) e ∙ ap (λ x. pos (2 ^ 40) *ℤ z +ℤ x) f)
      ∙ ring integers (z ∷ y ∷ pos (2 ^ 40) ∷ pos (2 ^ 20) ∷ []) ((var 2 :* var 0 :+ number 0 :* var 1) :* var 3) ((var 0 :* var 3) :* var 2) refl

  pub height_same : (lo ≡ z *ℤ pos (2 ^ 20)) × (hi ≡ z *ℤ pos (2 ^ 20))
  height_same = (
    same_floor (z *ℤ pos (2 ^ 20)) (low *ℤ pos (2 ^ 20)) lo (2 ^ 40) (omega arith) (whole_height a c low first.0 second.0 sum.low) ends.low,
    same_ceiling (z *ℤ pos (2 ^ 20)) (high *ℤ pos (2 ^ 20)) hi (2 ^ 40) (omega arith) (whole_height b d high first.1 second.1 sum.high) ends.high,
  )

pub depth_same : {a b c d lo hi l m h : ℤ} → (a ≡ l) × (b ≡ m) → (c ≡ h) × (d ≡ h) → AreEnds (a -ℤ d) (b -ℤ c) lo hi → (lo ≡ l -ℤ h) × (hi ≡ m -ℤ h)
depth_same e f are = (rw (e.0, f.1) at are.low, rw (e.1, f.0) at are.high)
