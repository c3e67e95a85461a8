-- An end is small beside a number, in parts of a power of two.
use Rattle.std.proofs.Common.{ℕ, Bool, true, false, ◌≡◌, refl, sym, subst, ◌*◌, ◌/◌, ◌^◌, ◌<◌, ◌≤◌, ℤ, pos, negsuc, ◌*ℤ◌, ◌<ℤ◌, ◌↔◌, inl, inr, unsigned_abs, arith}
use Rattle.std.proofs.Math.Nat.{le-div_iff_mul-le, div-mul-le_self, one-le-pow, mul-le-mul_left}
use Rattle.std.proofs.lemmas.Bool.{cases_lt}
use Rattle.std.proofs.lemmas.Int.{ints}
use Rattle.std.specs.Int.{w128}
use Rattle.std.specs.Int.RustNames.{int_lt}
use mir.Val.{to_z}
use mir.Facts.{to_z_pos}

pub parts_below : (u c p : ℕ) → 0 < p → u / p < c → u < c * p
parts_below u c p some h = elim (cases_lt u (c * p)) [
  | inl k ↦ k
  | inr k ↦ absurd (no (u / p) h ((le-div_iff_mul-le some).1 k))
]
  where
    no : (n : ℕ) → n < c → c ≤ n → ⊥
    no n h k = omega arith

pub below_parts : (u c p : ℕ) → 0 < p → u < c * p → u / p < c
below_parts u c p some h = elim (cases_lt (u / p) c) [
  | inl k ↦ k
  | inr k ↦ absurd (no (c * p) h ((le-div_iff_mul-le some).0 k))
]
  where
    no : (n : ℕ) → u < n → n ≤ u → ⊥
    no n h k = omega arith

small_parts : (u p : ℕ) (least : ℤ) → 0 < p → (pos (u / p) <ℤ least) ↔ (pos u <ℤ (least *ℤ pos p))
small_parts u p (pos c) some = (λ h. up (c * p) (parts_below u c p some (down (u / p) c h)), λ h. up' (u / p) (below_parts u c p some (down u (c * p) h)))
  where
    down : (n c : ℕ) → pos n <ℤ pos c → n < c
    down n c h = omega (arith, ints)

    up : (n : ℕ) → u < n → pos u <ℤ pos n
    up n h = omega (arith, ints)

    up' : (n : ℕ) → n < c → pos n <ℤ pos c
    up' n h = omega (arith, ints)
small_parts u p (negsuc c) some = (λ h. absurd (no (u / p) h), λ h. absurd (none h))
  where
    no : (n : ℕ) → pos n <ℤ negsuc c → ⊥
    no n h = omega (arith, ints)

    none : pos u <ℤ (negsuc c *ℤ pos p) → ⊥
    none h = omega (arith, ints)

is_less : (a b : ℤ) → (int_lt a b ≡ true) ↔ (a <ℤ b)
is_less a b = (yes, λ h. go (int_lt a b) refl h)
  where
    yes : int_lt a b ≡ true → a <ℤ b
    yes e = omega (arith, ints)

    no : int_lt a b ≡ false → a <ℤ b → ⊥
    no e h = omega (arith, ints)

    go : (t : Bool) → int_lt a b ≡ t → a <ℤ b → int_lt a b ≡ true
    go true e h = e
    go false e h = absurd (no e h)

through : {A B C : Type 0} → A ↔ B → B ↔ C → A ↔ C
through e f = (λ a. f.0 (e.0 a), λ c. e.1 (f.1 c))

pub small_end : (u : ℕ) (end least : ℤ) (reach : ℕ) → u ≡ unsigned_abs end → unsigned_abs end < 2 ^ 126
    → (int_lt (to_z w128 (u / 2 ^ reach)) least ≡ true) ↔ (pos (unsigned_abs end) <ℤ (least *ℤ pos (2 ^ reach)))
small_end u end least reach e small = subst (λ (n : ℕ). (int_lt (to_z w128 (n / 2 ^ reach)) least ≡ true) ↔ (pos (unsigned_abs end) <ℤ (least *ℤ pos (2 ^ reach)))) (sym e)
    (subst (λ (z : ℤ). (int_lt z least ≡ true) ↔ (pos (unsigned_abs end) <ℤ (least *ℤ pos (2 ^ reach)))) (sym (to_z_pos w128 (less (unsigned_abs end) (unsigned_abs end / 2 ^ reach) (2 ^ reach) (div-mul-le_self (unsigned_abs end) (2 ^ reach)) (one-le-pow reach 2 (omega arith)) small)))
    (through (is_less (pos (unsigned_abs end / 2 ^ reach)) least) (small_parts (unsigned_abs end) (2 ^ reach) least (one-le-pow reach 2 (omega arith)))))
  where
    less : (m n p : ℕ) → n * p ≤ m → 1 ≤ p → m < 2 ^ 126 → n < 2 ^ 127
    less m n p h k l = omega (arith, h, k, l, mul-le-mul_left n k)
