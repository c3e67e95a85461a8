-- Three rounds of splits leave nothing to split: each part has one corner fewer off the line than the whole.
use Prim.Native.Nat.{ℕ, zero, suc, ◌+◌, ◌≤◌}
use native.Mathlib.Omega.{arith}
use mathlib.Core.Path.{◌≡◌, refl, sym, ◌∙◌, ap, ap₂, subst}
use mathlib.Core.List.{List, [], ◌∷◌, ◌++◌}
use mathlib.Core.Bool.{Bool, true, false}
use Rattle.std.specs.List.{AllByRecursion}
use Rattle.exact_algebra.specs.OrderedField.{Sign, below, level, above}
use Rattle.hull_model.specs.TriangleCut.{Triangle, triangle, Corners, Split, uncut, parts, are_opposite, side, crossing, split_by, split, pieces}
use Rattle.hull_model.proofs.TriangleCut as Cut

-- 0 for a corner on the line, and 1 for one off it
abbrev pub off : Sign → ℕ
off level = 0
off below = 1
off above = 1

pub off_opposite : (p q : Sign) → are_opposite p q ≡ true → (off p ≡ 1) × (off q ≡ 1)
off_opposite p q e = (grind arith, grind arith)

off_most : (p q r : Sign) → off p + off q + off r ≤ 3
off_most p q r = grind arith

pub none_opposite : (p q : Sign) → off p + off q ≤ 0 → are_opposite p q ≡ false
none_opposite p q h = grind arith

pub append : {A : Type 0} (P : A → Type 0) (xs ys : List A) → AllByRecursion P xs → AllByRecursion P ys → AllByRecursion P (xs ++ ys)
append P [] ys h k = k
append P (x ∷ xs) ys h k = (h.0, append P xs ys h.1 k)

module _ {C : Type 0} (corners : Corners C) (linear : Cut.IsLinear corners) where
  on_line : (p q : C) → are_opposite (side corners p) (side corners q) ≡ true → off (side corners (crossing corners p q)) ≡ 0
  on_line p q e = ap off (Cut.crossing_level corners linear p q e)

  abbrev AreSettled : List (Triangle C) → Type 0
  AreSettled ts = AllByRecursion (λ t. split corners t ≡ uncut) ts

  abbrev off_corners : Triangle C → ℕ
  off_corners t = off (side corners t.a) + off (side corners t.b) + off (side corners t.c)

  settled_parts : (k : ℕ) (t p q : Triangle C) → split corners t ≡ parts p q → AreSettled (pieces corners k p) → AreSettled (pieces corners k q) → AreSettled (pieces corners (suc k) t)
  unfolding pieces
  settled_parts k t p q e h i = subst (λ (u : Split C). AreSettled (elim u [ uncut ↦ t ∷ [] | parts p q ↦ pieces corners k p ++ pieces corners k q ])) (sym e) (append _ (pieces corners k p) (pieces corners k q) h i)

  settled_uncut : (k : ℕ) (t : Triangle C) → split corners t ≡ uncut → AreSettled (pieces corners k t)
  settled_uncut k t e = subst AreSettled (sym (Cut.pieces_uncut corners k t e)) (e, tt)

  by_edges : (k : ℕ) → ((t : Triangle C) → off_corners t ≤ k → AreSettled (pieces corners k t)) → (a b c : C) → off_corners (triangle a b c) ≤ suc k → (u v w : Bool)
      → are_opposite (side corners a) (side corners b) ≡ u → are_opposite (side corners a) (side corners c) ≡ v → are_opposite (side corners b) (side corners c) ≡ w → AreSettled (pieces corners (suc k) (triangle a b c))
  by_edges k settled a b c few true v w ab ac bc =
      let x : off (side corners (crossing corners a b)) ≡ 0 = on_line a b ab in
      let off_line = off_opposite (side corners a) (side corners b) ab in
      settled_parts k (triangle a b c) _ _ (ap (λ (u : Bool). split_by corners u (are_opposite (side corners a) (side corners c)) (are_opposite (side corners b) (side corners c)) a b c) ab)
      (settled _ (omega arith)) (settled _ (omega arith))
  by_edges k settled a b c few false true w ab ac bc =
      let x : off (side corners (crossing corners a c)) ≡ 0 = on_line a c ac in
      let off_line = off_opposite (side corners a) (side corners c) ac in
      settled_parts k (triangle a b c) _ _ (ap₂ (λ (u v : Bool). split_by corners u v (are_opposite (side corners b) (side corners c)) a b c) ab ac)
      (settled _ (omega arith)) (settled _ (omega arith))
  by_edges k settled a b c few false false true ab ac bc =
      let x : off (side corners (crossing corners b c)) ≡ 0 = on_line b c bc in
      let off_line = off_opposite (side corners b) (side corners c) bc in
      settled_parts k (triangle a b c) _ _ (ap₂ (λ (u v : Bool). split_by corners u v (are_opposite (side corners b) (side corners c)) a b c) ab ac ∙ ap (λ (w : Bool). split_by corners false false w a b c) bc)
      (settled _ (omega arith)) (settled _ (omega arith))
  by_edges k settled a b c few false false false ab ac bc =
      settled_uncut (suc k) (triangle a b c) (ap₂ (λ (u v : Bool). split_by corners u v (are_opposite (side corners b) (side corners c)) a b c) ab ac ∙ ap (λ (w : Bool). split_by corners false false w a b c) bc)

  by_count : (k : ℕ) (t : Triangle C) → off_corners t ≤ k → AreSettled (pieces corners k t)
  by_count zero t few = settled_uncut zero t (
      ap₂ (λ (u v : Bool). split_by corners u v (are_opposite (side corners t.b) (side corners t.c)) t.a t.b t.c)
      (none_opposite (side corners t.a) (side corners t.b) (omega arith)) (none_opposite (side corners t.a) (side corners t.c) (omega arith))
      ∙ ap (λ (w : Bool). split_by corners false false w t.a t.b t.c) (none_opposite (side corners t.b) (side corners t.c) (omega arith)))
  by_count (suc k) t few = by_edges k (by_count k) t.a t.b t.c few _ _ _ refl refl refl

  -- no edge of a piece has ends on opposite sides
  pub three_rounds_settle : (t : Triangle C) → AllByRecursion (λ p. split corners p ≡ uncut) (pieces corners 3 t)
  three_rounds_settle t = by_count 3 t (off_most (side corners t.a) (side corners t.b) (side corners t.c))
