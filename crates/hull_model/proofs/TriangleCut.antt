-- The kept pieces of a triangle by the sides on which its corners lie, where depths are linear between corners.
use Prim.Native.Nat.{ℕ, zero, suc}
use mathlib.Core.Path.{◌≡◌, refl, sym, ◌∙◌, ap, ap₂}
use mathlib.Core.Logic.{◌≢◌}
use native.Mathlib.Omega.{arith}
use mathlib.Core.List.{List, [], ◌∷◌, ◌++◌}
use mathlib.Core.Bool.{Bool, true, false}
use Rattle.std.specs.Prelude.{filter, cond}
use Rattle.std.proofs.lemmas.List.Elements.{filter-append}
use Rattle.exact_algebra.specs.Expression.{var, unit, number, ◌:+◌, ◌:-◌, ◌:*◌, opposite}
use Rattle.exact_algebra.specs.OrderedField.{Sign, below, level, above}
use Rattle.exact_algebra.proofs.Ring.{ring_from, none, given}
use Rattle.exact_algebra.proofs.Fraction.{Fraction, nought, ◌⊗◌, ◌⊖◌, inverse, sign, fractions, fraction_ring}
use Rattle.exact_algebra.proofs.Order as Order
use Rattle.hull_model.specs.Fractions.{interpolated}
use Rattle.hull_model.specs.TriangleCut.{Triangle, Corners, Split, uncut, parts, are_opposite, is_kept_by, side, triangle, crossing, split_by, split, pieces, is_kept, kept_pieces}

-- the difference of two depths on opposite sides
pub positive-difference : (x y : Fraction) → sign x ≡ above → sign y ≡ below → sign (x ⊖ y) ≡ above
positive-difference x y h k = Order.positive-add fractions h (Order.nonnegative_positive fractions (Order.negative_below fractions k))

same_not_opposite : (s : Sign) → are_opposite s s ≡ true → ⊥
same_not_opposite s e = grind arith

opposite-differ : (x y : Fraction) → are_opposite (sign x) (sign y) ≡ true → x ⊖ y ≢ nought
opposite-differ x y e z = same_not_opposite (sign y) (ap (λ (t : Fraction). are_opposite (sign t) (sign y)) (sym same) ∙ e)
  where
    same : x ≡ y
    same = ring_from fraction_ring (x ∷ y ∷ []) ((unit, var 0 :- var 1, number 0) ∷ []) (given z none) (var 0) (var 1) refl

-- a line from x to y is nought at x / (x - y)
nought_at_crossing : (x y : Fraction) → x ⊖ y ≢ nought → interpolated (x ⊗ inverse (x ⊖ y)) x y ≡ nought
nought_at_crossing x y n = ring_from fraction_ring (x ∷ y ∷ inverse (x ⊖ y) ∷ []) ((opposite (var 0), (var 0 :- var 1) :* var 2, unit) ∷ [])
    (given (fractions.laws.mul-inverse (x ⊖ y) n) none)
    ((unit :- var 0 :* var 2) :* var 0 :+ (var 0 :* var 2) :* var 1) (number 0) refl

module _ {C : Type 0} (corners : Corners C) where
  open corners use {depth, between}

  -- depths are linear between corners
  abbrev pub IsLinear : Type 0
  IsLinear = (t : Fraction) (p q : C) → depth (between t p q) ≡ interpolated t (depth p) (depth q)

  -- the crossing point lies on the line
  pub crossing_level : IsLinear → (p q : C) → are_opposite (side corners p) (side corners q) ≡ true → side corners (crossing corners p q) ≡ level
  unfolding crossing
  crossing_level linear p q e = ap sign (linear (depth p ⊗ inverse (depth p ⊖ depth q)) p q ∙ nought_at_crossing (depth p) (depth q) (opposite-differ (depth p) (depth q) e)) ∙ fractions.laws.sign-nought

  -- ---- by the sides of the corners
  module _ (a b c : C) (x y z : Sign) (ax : side corners a ≡ x) (by : side corners b ≡ y) (cz : side corners c ≡ z) where
    split_at : split corners (triangle a b c) ≡ split_by corners (are_opposite x y) (are_opposite x z) (are_opposite y z) a b c
    split_at =
        ap₂ (λ (p q : Sign). split_by corners (are_opposite p q) (are_opposite p (side corners c)) (are_opposite q (side corners c)) a b c) ax by
        ∙ ap (λ (r : Sign). split_by corners (are_opposite x y) (are_opposite x r) (are_opposite y r) a b c) cz

    is_kept_at : is_kept corners (triangle a b c) ≡ is_kept_by x y z
    is_kept_at = ap₂ (λ (p q : Sign). is_kept_by p q (side corners c)) ax by ∙ ap (λ (r : Sign). is_kept_by x y r) cz

  abbrev kept_after : ℕ → Triangle C → List (Triangle C)
  kept_after k t = filter (is_kept corners) (pieces corners k t)

  kept_parts : (k : ℕ) (t p q : Triangle C) → split corners t ≡ parts p q → kept_after (suc k) t ≡ kept_after k p ++ kept_after k q
  unfolding pieces
  kept_parts k t p q e = ap (λ (u : Split C). filter (is_kept corners) (elim u [ uncut ↦ t ∷ [] | parts p q ↦ pieces corners k p ++ pieces corners k q ])) e
      ∙ filter-append (is_kept corners) (pieces corners k p) (pieces corners k q)

  pub pieces_uncut : (k : ℕ) (t : Triangle C) → split corners t ≡ uncut → pieces corners k t ≡ t ∷ []
  unfolding pieces
  pieces_uncut zero t e = refl
  pieces_uncut (suc k) t e = ap (λ (u : Split C). elim u [ uncut ↦ t ∷ [] | parts p q ↦ pieces corners k p ++ pieces corners k q ]) e

  abbrev only_if : Bool → Triangle C → List (Triangle C)
  only_if true t = t ∷ []
  only_if false t = []

  kept_uncut : (k : ℕ) (t : Triangle C) (b : Bool) → split corners t ≡ uncut → is_kept corners t ≡ b → kept_after k t ≡ only_if b t
  kept_uncut k t b e h = ap (filter (is_kept corners)) (pieces_uncut k t e) ∙ go b h
    where
      go : (b : Bool) → is_kept corners t ≡ b → filter (is_kept corners) (t ∷ []) ≡ only_if b t
      go true h = ap (λ (v : Bool). cond v (t ∷ []) []) h
      go false h = ap (λ (v : Bool). cond v (t ∷ []) []) h

  -- no edge has ends on opposite sides: the triangle is kept, or nothing of it
  pub kept_one_side : (k : ℕ) (a b c : C) (x y z : Sign) → side corners a ≡ x → side corners b ≡ y → side corners c ≡ z
      → are_opposite x y ≡ false → are_opposite x z ≡ false → are_opposite y z ≡ false → kept_after k (triangle a b c) ≡ only_if (is_kept_by x y z) (triangle a b c)
  kept_one_side k a b c x y z ax by cz xy xz yz = kept_uncut k (triangle a b c) (is_kept_by x y z)
      (split_at a b c x y z ax by cz ∙ ap₂ (λ (u v : Bool). split_by corners u v (are_opposite y z) a b c) xy xz ∙ ap (λ (u : Bool). split_by corners false false u a b c) yz)
      (is_kept_at a b c x y z ax by cz)

  pub kept_pieces_one_side : (a b c : C) (x y z : Sign) → side corners a ≡ x → side corners b ≡ y → side corners c ≡ z
      → are_opposite x y ≡ false → are_opposite x z ≡ false → are_opposite y z ≡ false → kept_pieces corners (triangle a b c) ≡ only_if (is_kept_by x y z) (triangle a b c)
  unfolding kept_pieces
  kept_pieces_one_side a b c x y z = kept_one_side 3 a b c x y z

  -- one corner above and two below: the piece at that corner
  pub kept_pieces_one_above : IsLinear → (a b c : C) → side corners a ≡ above → side corners b ≡ below → side corners c ≡ below
      → kept_pieces corners (triangle a b c) ≡ triangle a (crossing corners a b) (crossing corners a c) ∷ []
  unfolding kept_pieces
  kept_pieces_one_above linear a b c ax by cz =
      kept_parts 2 _ _ _ (split_at a b c above below below ax by cz)
      ∙ ap₂ ◌++◌ (kept_one_side 2 p b c level below below on_ab by cz refl refl refl)
      (kept_parts 1 _ _ _ (split_at a p c above level below ax on_ab cz)
      ∙ ap₂ ◌++◌ (kept_one_side 1 q p c level level below on_ac on_ab cz refl refl refl) (kept_one_side 1 a p q above level level ax on_ab on_ac refl refl refl))
    where
      p : C
      p = crossing corners a b

      q : C
      q = crossing corners a c

      on_ab : side corners p ≡ level
      on_ab = crossing_level linear a b (ap₂ are_opposite ax by)

      on_ac : side corners q ≡ level
      on_ac = crossing_level linear a c (ap₂ are_opposite ax cz)

  -- two corners above and one below: the two pieces at those corners
  pub kept_pieces_two_above : IsLinear → (a b c : C) → side corners a ≡ above → side corners b ≡ above → side corners c ≡ below
      → kept_pieces corners (triangle a b c) ≡ triangle (crossing corners a c) b (crossing corners b c) ∷ triangle a b (crossing corners a c) ∷ []
  unfolding kept_pieces
  kept_pieces_two_above linear a b c ax by cz =
      kept_parts 2 _ _ _ (split_at a b c above above below ax by cz)
      ∙ ap₂ ◌++◌ (kept_parts 1 _ _ _ (split_at p b c level above below on_ac by cz)
      ∙ ap₂ ◌++◌ (kept_one_side 1 p q c level level below on_ac on_bc cz refl refl refl) (kept_one_side 1 p b q level above level on_ac by on_bc refl refl refl))
      (kept_one_side 2 a b p above above level ax by on_ac refl refl refl)
    where
      p : C
      p = crossing corners a c

      q : C
      q = crossing corners b c

      on_ac : side corners p ≡ level
      on_ac = crossing_level linear a c (ap₂ are_opposite ax cz)

      on_bc : side corners q ≡ level
      on_bc = crossing_level linear b c (ap₂ are_opposite by cz)
