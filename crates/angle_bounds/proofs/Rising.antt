-- The remainder rises with the direction.
use Rattle.std.proofs.Common.{◌≡◌, ℕ, zero, suc, ◌+◌, ◌-◌, ◌*◌, ◌<◌, ◌≤◌, ◌⊎◌, refl, ap, arith, Bool, true, false}
use mathlib.Core.Logic.{inl, inr}
use Rattle.std.proofs.Math.Nat.{mul-le-mul_left, eq-or-lt_of_le}
use Rattle.std.proofs.lemmas.Bool.{leb-true, leb-false}
use Rattle.angle_bounds.proofs.Remainders.{Remainder, next, is_past, remainder, positive}

-- fewer turns, or as many and a lesser remainder
abbrev pub IsBefore : Remainder → Remainder → Type 0
IsBefore w v = (w.turns < v.turns) ⊎ ((w.turns ≡ v.turns) × (w.im * v.re ≤ v.im * w.re))

-- neither is taken back
both_within : (x y a b c s d t X A : ℕ) → X + y * s ≡ x * c → A + b * t ≡ a * d → y * a ≤ b * x → s * d ≤ t * c → (x * s + y * c) * A ≤ (a * t + b * d) * X
both_within x y a b c s d t X A e f h k = omega (arith, ap (λ z. (a * t + b * d) * z) e, ap (λ z. (x * s + y * c) * z) f, mul-le-mul_left (c * d + s * t) h, mul-le-mul_left (x * a + y * b) k)

-- both are
both_past : (x y a b c s d t Y B : ℕ) → Y + x * c ≡ y * s → B + a * d ≡ b * t → y * a ≤ b * x → s * d ≤ t * c → Y * (a * t + b * d) ≤ B * (x * s + y * c)
both_past x y a b c s d t Y B e f h k = omega (arith, ap (λ z. (a * t + b * d) * z) e, ap (λ z. (x * s + y * c) * z) f, mul-le-mul_left (c * d + s * t) h, mul-le-mul_left (x * a + y * b) k)

-- the first, whose remainder is the lesser, is taken back, and the second isn't: this can't be
only_first_past : (x y a b c s d t : ℕ) → 0 < x → 0 < c + s → x * c ≤ y * s → b * t < a * d → y * a ≤ b * x → s * d ≤ t * c → ⊥
only_first_past x y a b (suc c) s d t some direction e f h k = omega (arith, mul-le-mul_left (a * d) e, mul-le-mul_left (s * d) h, mul-le-mul_left (b * x) k, mul-le-mul_left (suc c * x) f, mul-le-mul_left (suc c * a * d) some)
only_first_past x y a b zero s zero t some direction e f h k = omega (arith, f)
only_first_past x y a b zero zero (suc d) t some direction e f h k = omega (arith, direction)
only_first_past x y a b zero (suc s) (suc d) t some direction e f h k = omega (arith, k)

-- the first is taken back to where the second has been
catches_up : (x y a b c s d t Y A : ℕ) → Y + x * c ≡ y * s → A + b * t ≡ a * d → s * d ≤ t * c → Y * A ≤ (a * t + b * d) * (x * s + y * c)
catches_up x y a b c s d t Y A e f k = omega (arith, ap (λ z. z * A) e, ap (λ z. y * s * z) f, mul-le-mul_left (y * a) k)

module _ (c s d t : ℕ) (first : 0 < c + s) (second : 0 < d + t) (order : s * d ≤ t * c) where
  rises_next : (w v : Remainder) → 0 < w.re → 0 < v.re → (p q : Bool) → is_past c s w ≡ p → is_past d t v ≡ q → IsBefore w v → IsBefore (next p c s w) (next q d t v)
  rises_next w v some more false false e f (inl h) = inl h
  rises_next w v some more false false e f (inr h) = inr (h.0, both_within w.re w.im v.re v.im c s d t (w.re * c - w.im * s) (v.re * d - v.im * t) (omega (arith, leb-false (w.re * c) (w.im * s) e)) (omega (arith, leb-false (v.re * d) (v.im * t) f)) h.1 order)
  rises_next w v some more true true e f (inl h) = inl (omega (arith, h))
  rises_next w v some more true true e f (inr h) = inr (ap (λ n. n + 1) h.0, both_past w.re w.im v.re v.im c s d t (w.im * s - w.re * c) (v.im * t - v.re * d) (omega (arith, leb-true (w.re * c) (w.im * s) e)) (omega (arith, leb-true (v.re * d) (v.im * t) f)) h.1 order)
  rises_next w v some more false true e f (inl h) = inl (omega (arith, h))
  rises_next w v some more false true e f (inr h) = inl (omega (arith, h.0))
  rises_next w v some more true false e f (inr h) = absurd (only_first_past w.re w.im v.re v.im c s d t some first (leb-true (w.re * c) (w.im * s) e) (leb-false (v.re * d) (v.im * t) f) h.1 order)
  rises_next w v some more true false e f (inl h) = elim (eq-or-lt_of_le {n = w.turns + 1} {m = v.turns} (omega (arith, h))) [
    | inl same ↦ inr (same, catches_up w.re w.im v.re v.im c s d t (w.im * s - w.re * c) (v.re * d - v.im * t) (omega (arith, leb-true (w.re * c) (w.im * s) e)) (omega (arith, leb-false (v.re * d) (v.im * t) f)) order)
    | inr less ↦ inl less
  ]

  pub remainder_rises : (n : ℕ) → IsBefore (remainder n c s) (remainder n d t)
  unfolding remainder
  remainder_rises zero = inr (refl, omega arith)
  remainder_rises (suc n) = rises_next (remainder n c s) (remainder n d t) (positive n c s first) (positive n d t second) (is_past c s (remainder n c s)) (is_past d t (remainder n d t)) refl refl (remainder_rises n)
