-- Four rounds of splits leave nothing to split: each part of a tetrahedron has one corner fewer off the plane than the whole.
use Prim.Native.Nat.{ℕ, zero, suc, ◌+◌, ◌≤◌}
use native.Mathlib.Omega.{arith}
use mathlib.Core.Path.{◌≡◌, refl, sym, ◌∙◌, ap, ap₂, subst}
use mathlib.Core.List.{List, [], ◌∷◌, ◌++◌}
use mathlib.Core.Bool.{Bool, true, false}
use lib.IntN.{ℤ, pos}
use Rattle.std.specs.List.{AllByRecursion}
use Rattle.exact_algebra.specs.Expression.{Expression, var, unit, ◌:+◌, ◌:-◌, ◌:*◌}
use Rattle.exact_algebra.specs.OrderedField.{Sign}
use Rattle.exact_algebra.proofs.Ring.{ring}
use Rattle.exact_algebra.proofs.Fraction.{Fraction, ◌⊖◌, inverse, fraction_ring}
use Rattle.exact_algebra.proofs.Whole.{whole}
use Rattle.hull_model.specs.TriangleCut.{Corners, side, crossing}
use Rattle.hull_model.specs.TetrahedronCut.{Tetrahedron, tetrahedron, Split, uncut, parts, split_by, split, pieces, are_parted}
use Rattle.hull_model.specs.Waterplane.{Waterplane, under, level_at, height}
use Rattle.hull_model.proofs.TriangleCut as Cut
use Rattle.hull_model.proofs.Rounds.{off, off_opposite, none_opposite, append}

off_most : (p q r s : Sign) → off p + off q + off r + off s ≤ 4
off_most p q r s = grind arith

module _ {C : Type 0} (corners : Corners C) (linear : Cut.IsLinear corners) where
  on_plane : (p q : C) → are_parted corners p q ≡ true → off (side corners (crossing corners p q)) ≡ 0
  on_plane p q e = ap off (Cut.crossing_level corners linear p q e)

  abbrev AreSettled : List (Tetrahedron C) → Type 0
  AreSettled ts = AllByRecursion (λ t. split corners t ≡ uncut) ts

  abbrev off_corners : Tetrahedron C → ℕ
  off_corners t = off (side corners t.a) + off (side corners t.b) + off (side corners t.c) + off (side corners t.d)

  -- the pieces of a tetrahedron, given what its first round makes of it
  abbrev after : ℕ → Tetrahedron C → Split C → List (Tetrahedron C)
  after k t s = elim s [ uncut ↦ t ∷ [] | parts p q ↦ pieces corners k p ++ pieces corners k q ]

  settled_parts : (k : ℕ) (t p q : Tetrahedron C) → split corners t ≡ parts p q → AreSettled (pieces corners k p) → AreSettled (pieces corners k q) → AreSettled (pieces corners (suc k) t)
  unfolding pieces
  settled_parts k t p q e h i = subst (λ (s : Split C). AreSettled (after k t s)) (sym e) (append _ (pieces corners k p) (pieces corners k q) h i)

  settled_uncut : (k : ℕ) (t : Tetrahedron C) → split corners t ≡ uncut → AreSettled (pieces corners k t)
  unfolding pieces
  settled_uncut zero t e = (e, tt)
  settled_uncut (suc k) t e = subst (λ (s : Split C). AreSettled (after k t s)) (sym e) (e, tt)

  module _ (k : ℕ) (settled : (t : Tetrahedron C) → off_corners t ≤ k → AreSettled (pieces corners k t)) (a b c d : C) (few : off_corners (tetrahedron a b c d) ≤ suc k) where
    by_edges : (ab ac ad bc bd cd : Bool)
        → are_parted corners a b ≡ ab → are_parted corners a c ≡ ac → are_parted corners a d ≡ ad → are_parted corners b c ≡ bc → are_parted corners b d ≡ bd → are_parted corners c d ≡ cd
        → split corners (tetrahedron a b c d) ≡ split_by corners ab ac ad bc bd cd a b c d → AreSettled (pieces corners (suc k) (tetrahedron a b c d))
    by_edges true _ _ _ _ _ e _ _ _ _ _ s =
        let x = on_plane a b e in
        let off_ends = off_opposite (side corners a) (side corners b) e in
        settled_parts k (tetrahedron a b c d) _ _ s (settled _ (omega arith)) (settled _ (omega arith))
    by_edges false true _ _ _ _ _ e _ _ _ _ s =
        let x = on_plane a c e in
        let off_ends = off_opposite (side corners a) (side corners c) e in
        settled_parts k (tetrahedron a b c d) _ _ s (settled _ (omega arith)) (settled _ (omega arith))
    by_edges false false true _ _ _ _ _ e _ _ _ s =
        let x = on_plane a d e in
        let off_ends = off_opposite (side corners a) (side corners d) e in
        settled_parts k (tetrahedron a b c d) _ _ s (settled _ (omega arith)) (settled _ (omega arith))
    by_edges false false false true _ _ _ _ _ e _ _ s =
        let x = on_plane b c e in
        let off_ends = off_opposite (side corners b) (side corners c) e in
        settled_parts k (tetrahedron a b c d) _ _ s (settled _ (omega arith)) (settled _ (omega arith))
    by_edges false false false false true _ _ _ _ _ e _ s =
        let x = on_plane b d e in
        let off_ends = off_opposite (side corners b) (side corners d) e in
        settled_parts k (tetrahedron a b c d) _ _ s (settled _ (omega arith)) (settled _ (omega arith))
    by_edges false false false false false true _ _ _ _ _ e s =
        let x = on_plane c d e in
        let off_ends = off_opposite (side corners c) (side corners d) e in
        settled_parts k (tetrahedron a b c d) _ _ s (settled _ (omega arith)) (settled _ (omega arith))
    by_edges false false false false false false _ _ _ _ _ _ s = settled_uncut (suc k) (tetrahedron a b c d) s

  -- no corner is off the plane, so no edge is parted
  none_off : (t : Tetrahedron C) → off_corners t ≤ 0 → split corners t ≡ uncut
  none_off t few =
      ap₂ (λ (u v : Bool). split_by corners u v (are_parted corners t.a t.d) (are_parted corners t.b t.c) (are_parted corners t.b t.d) (are_parted corners t.c t.d) t.a t.b t.c t.d)
      (none_opposite (side corners t.a) (side corners t.b) (omega arith)) (none_opposite (side corners t.a) (side corners t.c) (omega arith))
      ∙ ap₂ (λ (u v : Bool). split_by corners false false u v (are_parted corners t.b t.d) (are_parted corners t.c t.d) t.a t.b t.c t.d)
      (none_opposite (side corners t.a) (side corners t.d) (omega arith)) (none_opposite (side corners t.b) (side corners t.c) (omega arith))
      ∙ ap₂ (λ (u v : Bool). split_by corners false false false false u v t.a t.b t.c t.d)
      (none_opposite (side corners t.b) (side corners t.d) (omega arith)) (none_opposite (side corners t.c) (side corners t.d) (omega arith))

  by_count : (k : ℕ) (t : Tetrahedron C) → off_corners t ≤ k → AreSettled (pieces corners k t)
  by_count zero t few = settled_uncut zero t (none_off t few)
  by_count (suc k) t few = by_edges k (by_count k) t.a t.b t.c t.d few _ _ _ _ _ _ refl refl refl refl refl refl refl

  -- no edge of a piece has ends on opposite sides
  pub four_rounds_settle : (t : Tetrahedron C) → AllByRecursion (λ p. split corners p ≡ uncut) (pieces corners 4 t)
  four_rounds_settle t = by_count 4 t (off_most (side corners t.a) (side corners t.b) (side corners t.c) (side corners t.d))

-- the depth below a waterplane is linear on a straight line
pub depth_linear : (plane : Waterplane) (first last : ℤ) → Cut.IsLinear (under plane first last)
unfolding level_at height
depth_linear plane first last t p q = ring fraction_ring
    (t ∷ p.x ∷ p.y ∷ p.z ∷ q.x ∷ q.y ∷ q.z ∷ whole first ∷ inverse (whole last ⊖ whole first) ∷ plane.a ∷ plane.f ∷ c ∷ s ∷ inverse r ∷ [])
    (depth (between (var 1) (var 4)) (between (var 2) (var 5)) (between (var 3) (var 6))) (between (depth (var 1) (var 2) (var 3)) (depth (var 4) (var 5) (var 6))) refl
  where
    c : Fraction
    c = whole (pos plane.c)

    s : Fraction
    s = whole (pos plane.s)

    r : Fraction
    r = whole (pos plane.r)

    between : Expression → Expression → Expression
    between x y = (unit :- var 0) :* x :+ var 0 :* y

    depth : Expression → Expression → Expression → Expression
    depth x y z = (let part = (x :- var 7) :* var 8 in (unit :- part) :* var 9 :+ part :* var 10) :- (var 11 :* z :+ var 12 :* y) :* var 13
