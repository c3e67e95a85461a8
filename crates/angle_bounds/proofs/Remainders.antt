-- The powers of a direction in whole numbers from 0 on: after each multiplication what is left lies in the first quarter.
use Rattle.std.proofs.Common.{◌≡◌, ℕ, zero, suc, ◌+◌, ◌-◌, ◌*◌, ◌<◌, ◌≤◌, ℤ, pos, ◌-ℤ◌, neg_ℤ, refl, ◌∙◌, ap, arith, Bool, true, false, leb, int_le}
use Rattle.std.proofs.Math.IntN.{neg_ℤ-neg_ℤ}
use Rattle.std.proofs.Math.Nat.{mul-le-mul_left}
use Rattle.std.proofs.Math.Dec.{leb-suc-zero}
use Rattle.std.proofs.lemmas.Bool.{leb-true, leb-false}
use Rattle.std.proofs.lemmas.Int.{ints}
use Rattle.angle_bounds.specs.Degrees.{Counted, multiplied, turned_back, counted_power}

-- the quarter turns taken back, and the real and the imaginary part that are left
pub record Remainder : Type 0 where
  pub turns : ℕ
  pub re : ℕ
  pub im : ℕ

-- times c + i·s, taken back or not
abbrev pub next : Bool → ℕ → ℕ → Remainder → Remainder
next true c s w = record { turns = w.turns + 1; re = w.re * s + w.im * c; im = w.im * s - w.re * c }
next false c s w = record { turns = w.turns; re = w.re * c - w.im * s; im = w.re * s + w.im * c }

-- whether it is taken back
abbrev pub is_past : ℕ → ℕ → Remainder → Bool
is_past c s w = leb (w.re * c) (w.im * s)

unfoldable pub remainder : ℕ → ℕ → ℕ → Remainder
remainder zero c s = record { turns = 0; re = 1; im = 0 }
remainder (suc n) c s = next (is_past c s (remainder n c s)) c s (remainder n c s)

abbrev pub in_whole : Remainder → Counted
in_whole w = record { turns = w.turns; re = pos w.re; im = pos w.im }

past : (a b : ℕ) → a ≤ b → pos a -ℤ pos b ≡ neg_ℤ (pos (b - a))
past a b h = omega (arith, ints)

within : (a b : ℕ) → b < a → pos a -ℤ pos b ≡ pos (a - b)
within a b h = omega (arith, ints)

at_most_nought : (k : ℕ) → int_le (neg_ℤ (pos k)) (pos 0) ≡ true
at_most_nought zero = refl
at_most_nought (suc k) = refl

above_nought : (k : ℕ) → 0 < k → int_le (pos k) (pos 0) ≡ false
above_nought zero h = absurd (omega arith)
above_nought (suc k) h = leb-suc-zero k

taken : (t k : ℕ) (re im : ℤ) → re ≡ neg_ℤ (pos k) → turned_back (record { turns = t; re = re; im = im }) ≡ record { turns = t + 1; re = im; im = pos k }
taken t k re im e = ap (λ r. turned_back (record { turns = t; re = r; im = im })) e ∙ rw (at_most_nought k, neg_ℤ-neg_ℤ (pos k)) refl

left_as_is : (t k : ℕ) (re im : ℤ) → 0 < k → re ≡ pos k → turned_back (record { turns = t; re = re; im = im }) ≡ record { turns = t; re = pos k; im = im }
left_as_is t k re im h e = ap (λ r. turned_back (record { turns = t; re = r; im = im })) e ∙ rw (above_nought k h) refl

-- one multiplication
multiplied_is : (c s : ℕ) (w : Remainder) (p : Bool) → is_past c s w ≡ p → turned_back (multiplied (pos c) (pos s) (in_whole w)) ≡ in_whole (next p c s w)
multiplied_is c s w true e = taken w.turns (w.im * s - w.re * c) _ _ (past (w.re * c) (w.im * s) (leb-true (w.re * c) (w.im * s) e))
multiplied_is c s w false e =
    let less = leb-false (w.re * c) (w.im * s) e in
    left_as_is w.turns (w.re * c - w.im * s) _ _ (omega (arith, less)) (within (w.re * c) (w.im * s) less)

-- the power by its remainder
pub power_is : (n c s : ℕ) → counted_power n c s ≡ in_whole (remainder n c s)
unfolding counted_power remainder
power_is zero c s = refl
power_is (suc n) c s = ap (λ w. turned_back (multiplied (pos c) (pos s) w)) (power_is n c s) ∙ multiplied_is c s (remainder n c s) (is_past c s (remainder n c s)) refl

-- some real part is left
positive_next : (c s : ℕ) (w : Remainder) → 0 < c + s → 0 < w.re → (p : Bool) → is_past c s w ≡ p → 0 < (next p c s w).re
positive_next c s w some h false e = omega (arith, leb-false (w.re * c) (w.im * s) e)
positive_next c s w some h true e = later w.re w.im c s some h (leb-true (w.re * c) (w.im * s) e)
  where
    later : (x y c s : ℕ) → 0 < c + s → 0 < x → x * c ≤ y * s → 0 < x * s + y * c
    later x y c zero some h k = absurd (omega (arith, mul-le-mul_left c h))
    later x y c (suc s) some h k = omega (arith, mul-le-mul_left (suc s) h)

pub positive : (n c s : ℕ) → 0 < c + s → 0 < (remainder n c s).re
unfolding remainder
positive zero c s some = omega arith
positive (suc n) c s some = positive_next c s (remainder n c s) some (positive n c s some) (is_past c s (remainder n c s)) refl
