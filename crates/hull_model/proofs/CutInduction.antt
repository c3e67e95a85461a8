-- Induction on the cut of a triangle: what holds of triangles without an edge to split, and of a whole where it holds of both its parts,
-- holds of every triangle.
use Prim.Native.Nat.{ℕ, zero, suc, ◌+◌, ◌≤◌}
use native.Mathlib.Omega.{arith}
use mathlib.Core.Path.{◌≡◌, refl, ap}
use mathlib.Core.List.{[], ◌∷◌}
use mathlib.Core.Logic.{◌≢◌, ◌⊎◌, inl, inr}
use mathlib.Core.Bool.{Bool, true, false}
use Rattle.exact_algebra.specs.Expression.{var, unit, number, ◌:-◌, ◌:*◌, opposite}
use Rattle.exact_algebra.specs.OrderedField.{Sign, below, level, above}
use Rattle.exact_algebra.proofs.Ring.{ring, ring_from, none, given}
use Rattle.exact_algebra.proofs.Fraction.{Fraction, one, ◌⊗◌, ◌⊖◌, negative, inverse, sign, fractions, fraction_ring}
use Rattle.exact_algebra.proofs.Order as Order
use Rattle.exact_algebra.proofs.Bounds as Bounds
use Rattle.hull_model.specs.TriangleCut.{Corners, are_opposite, side, crossing}
use Rattle.hull_model.proofs.TriangleCut.{IsLinear, crossing_level, positive-difference}

-- strictly between 0 and 1
abbrev pub IsInside : Fraction → Type 0
IsInside t = (sign t ≡ above) × (sign (one ⊖ t) ≡ above)

false-ne-true : false ≡ true → ⊥
false-ne-true h = cc

inside_by : (x y : Fraction) (s r : Sign) → sign x ≡ s → sign y ≡ r → are_opposite s r ≡ true → IsInside (x ⊗ inverse (x ⊖ y))
inside_by x y above below e f o = (
  Order.positive-mul fractions e up,
  Order.positive_same fractions (ring_from fraction_ring (x ∷ y ∷ g ∷ []) ((opposite unit, (var 0 :- var 1) :* var 2, unit) ∷ []) (given whole none) (unit :- var 0 :* var 2) (opposite (var 1) :* var 2) refl)
      (Order.positive-mul fractions (Order.negative_below fractions f) up),
)
  where
    g : Fraction
    g = inverse (x ⊖ y)

    whole : (x ⊖ y) ⊗ g ≡ one
    whole = Bounds.mul-inverse_positive fractions (positive-difference x y e f)

    up : sign g ≡ above
    up = Bounds.positive-inverse fractions (positive-difference x y e f)
inside_by x y below above e f o = (
  Order.positive_same fractions (ring fraction_ring (x ∷ g ∷ []) (var 0 :* var 1) (opposite (var 0) :* opposite (var 1)) refl) (Order.positive-mul fractions (Order.negative_below fractions e) up),
  Order.positive_same fractions (ring_from fraction_ring (x ∷ y ∷ g ∷ []) ((opposite unit, (var 0 :- var 1) :* var 2, unit) ∷ []) (given whole none) (unit :- var 0 :* var 2) (var 1 :* opposite (var 2)) refl)
      (Order.positive-mul fractions f up),
)
  where
    g : Fraction
    g = inverse (x ⊖ y)

    whole : (x ⊖ y) ⊗ g ≡ one
    whole = fractions.laws.mul-inverse (x ⊖ y) (λ z. Order.not_nought fractions (positive-difference y x f e) (ring_from fraction_ring (x ∷ y ∷ []) ((opposite unit, var 0 :- var 1, number 0) ∷ []) (given z none) (var 1 :- var 0) (number 0) refl))

    up : sign (negative g) ≡ above
    up = Order.positive_factor fractions (positive-difference y x f e)
        (Order.positive_same fractions (ring_from fraction_ring (x ∷ y ∷ g ∷ []) ((unit, (var 0 :- var 1) :* var 2, unit) ∷ []) (given whole none) (opposite (var 2) :* (var 1 :- var 0)) unit refl) fractions.laws.sign-one)
inside_by x y above above e f o = absurd (false-ne-true o)
inside_by x y above level e f o = absurd (false-ne-true o)
inside_by x y below below e f o = absurd (false-ne-true o)
inside_by x y below level e f o = absurd (false-ne-true o)
inside_by x y level r e f o = absurd (never r o)
  where
    never : (r : Sign) → are_opposite level r ≡ true → ⊥
    never r h = grind arith

-- 0 for a corner on the line, and 1 for one off it
abbrev off : Sign → ℕ
off level = 0
off below = 1
off above = 1

off_opposite : (p q : Sign) → are_opposite p q ≡ true → (off p ≡ 1) × (off q ≡ 1)
off_opposite p q e = (grind arith, grind arith)

off_most : (p q r : Sign) → off p + off q + off r ≤ 3
off_most p q r = grind arith

none_opposite : (p q : Sign) → off p + off q ≤ 0 → are_opposite p q ≡ false
none_opposite p q h = grind arith

-- ---- where no edge has its ends on opposite sides, one side is empty
abbrev pub NoneBelow : Sign → Sign → Sign → Type 0
NoneBelow p q r = (p ≢ below) × (q ≢ below) × (r ≢ below)

abbrev pub NoneAbove : Sign → Sign → Sign → Type 0
NoneAbove p q r = (p ≢ above) × (q ≢ above) × (r ≢ above)

pub one_side : (p q r : Sign) → are_opposite p q ≡ false → are_opposite p r ≡ false → are_opposite q r ≡ false → NoneBelow p q r ⊎ NoneAbove p q r
one_side above q r e f g = inl (none_below q r e f)
  where
    none_below : (q r : Sign) → are_opposite above q ≡ false → are_opposite above r ≡ false → NoneBelow above q r
    none_below q r e f = (grind arith, grind arith, grind arith)
one_side below q r e f g = inr (none_above q r e f)
  where
    none_above : (q r : Sign) → are_opposite below q ≡ false → are_opposite below r ≡ false → NoneAbove below q r
    none_above q r e f = (grind arith, grind arith, grind arith)
one_side level above r e f g = inl (grind arith, grind arith, grind arith)
one_side level below r e f g = inr (grind arith, grind arith, grind arith)
one_side level level above e f g = inl (grind arith, grind arith, grind arith)
one_side level level below e f g = inr (grind arith, grind arith, grind arith)
one_side level level level e f g = inl (grind arith, grind arith, grind arith)

module _ {C : Type 0} (corners : Corners C) (linear : IsLinear corners) where
  open corners use {depth}

  abbrev opposite_sides : C → C → Bool
  opposite_sides p q = are_opposite (side corners p) (side corners q)

  abbrev pub crossing_parameter : C → C → Fraction
  crossing_parameter p q = depth p ⊗ inverse (depth p ⊖ depth q)

  pub inside : (p q : C) → opposite_sides p q ≡ true → IsInside (crossing_parameter p q)
  inside p q e = inside_by (depth p) (depth q) (side corners p) (side corners q) refl refl e

  module _ (P : ℕ → C → C → C → Type 0)
      (settled : (k : ℕ) (a b c : C) → opposite_sides a b ≡ false → opposite_sides a c ≡ false → opposite_sides b c ≡ false → P k a b c)
      (first : (k : ℕ) (a b c : C) → opposite_sides a b ≡ true → P k (crossing corners a b) b c → P k a (crossing corners a b) c → P (suc k) a b c)
      (middle : (k : ℕ) (a b c : C) → opposite_sides a b ≡ false → opposite_sides a c ≡ true → P k (crossing corners a c) b c → P k a b (crossing corners a c) → P (suc k) a b c)
      (last : (k : ℕ) (a b c : C) → opposite_sides a b ≡ false → opposite_sides a c ≡ false → opposite_sides b c ≡ true → P k a (crossing corners b c) c → P k a b (crossing corners b c) → P (suc k) a b c) where
    abbrev off_corners : C → C → C → ℕ
    off_corners a b c = off (side corners a) + off (side corners b) + off (side corners c)

    on_line : (p q : C) → opposite_sides p q ≡ true → off (side corners (crossing corners p q)) ≡ 0
    on_line p q e = ap off (crossing_level corners linear p q e)

    by_edges : (k : ℕ) → ((a b c : C) → off_corners a b c ≤ k → P k a b c) → (a b c : C) → off_corners a b c ≤ suc k → (u v w : Bool)
        → opposite_sides a b ≡ u → opposite_sides a c ≡ v → opposite_sides b c ≡ w → P (suc k) a b c
    by_edges k hypothesis a b c few true v w e _ _ = first k a b c e (hypothesis _ _ _ (omega (arith, few, on_line a b e, off_opposite (side corners a) (side corners b) e))) (hypothesis _ _ _ (omega (arith, few, on_line a b e, off_opposite (side corners a) (side corners b) e)))
    by_edges k hypothesis a b c few false true w e f _ = middle k a b c e f (hypothesis _ _ _ (omega (arith, few, on_line a c f, off_opposite (side corners a) (side corners c) f))) (hypothesis _ _ _ (omega (arith, few, on_line a c f, off_opposite (side corners a) (side corners c) f)))
    by_edges k hypothesis a b c few false false true e f g = last k a b c e f g (hypothesis _ _ _ (omega (arith, few, on_line b c g, off_opposite (side corners b) (side corners c) g))) (hypothesis _ _ _ (omega (arith, few, on_line b c g, off_opposite (side corners b) (side corners c) g)))
    by_edges k hypothesis a b c few false false false e f g = settled (suc k) a b c e f g

    by_count : (k : ℕ) (a b c : C) → off_corners a b c ≤ k → P k a b c
    by_count zero a b c few = settled zero a b c (none_opposite (side corners a) (side corners b) (omega (arith, few))) (none_opposite (side corners a) (side corners c) (omega (arith, few))) (none_opposite (side corners b) (side corners c) (omega (arith, few)))
    by_count (suc k) a b c few = by_edges k (by_count k) a b c few _ _ _ refl refl refl

    pub cut_induction : (a b c : C) → P 3 a b c
    cut_induction a b c = by_count 3 a b c (off_most (side corners a) (side corners b) (side corners c))
