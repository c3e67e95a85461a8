-- The determinant of a tetrahedron: by x, the distance to the side and the depth it is the same as by x, y and z, and at a split each part
-- has that of the whole times its part of the edge.
use Prim.Native.Nat.{ℕ}
use mathlib.Core.Path.{◌≡◌, refl, sym, ◌∙◌, ap, ap₂}
use mathlib.Core.List.{List, [], ◌∷◌}
use mathlib.Core.Logic.{◌≢◌}
use mathlib.Core.Bool.{Bool, true, false}
use lib.IntN.{ℤ, pos}
use Rattle.std.specs.Prelude.{◌*◌}
use Rattle.exact_algebra.specs.Expression.{Expression, var, unit, number, ◌:+◌, ◌:-◌, ◌:*◌, opposite}
use Rattle.exact_algebra.specs.OrderedField.{Sign, below, level, above, turned}
use Rattle.exact_algebra.proofs.Ring.{ring, ring_from, none, given}
use Rattle.exact_algebra.proofs.Fraction.{Fraction, one, ◌⊕◌, ◌⊗◌, ◌⊖◌, negative, inverse, sign, fractions, fraction_ring}
use Rattle.exact_algebra.proofs.Whole.{whole, whole-add, whole-mul, positive-whole}
use Rattle.exact_algebra.proofs.Order as Order
use Rattle.exact_algebra.proofs.Bounds as Bounds
use Rattle.hull_model.specs.Fractions.{interpolated, magnitude, magnitude_by}
use Rattle.hull_model.specs.Flooded.{cut_by}
use Rattle.hull_model.specs.TriangleCut.{crossing}
use Rattle.hull_model.specs.TetrahedronCut.{Tetrahedron, tetrahedron, are_parted}
use Rattle.hull_model.specs.Waterplane.{Waterplane, Position, height, side_distance, level_at}
use Rattle.hull_model.specs.Submerged.{determinant}
use Rattle.hull_model.proofs.TriangleCut as Cut
use Rattle.hull_model.proofs.CutInduction.{IsInside, inside, crossing_parameter}
use Rattle.hull_polyhedron.specs.Columns.{depth}
use Rattle.hull_polyhedron.specs.CentralLaw.{PointOutwards}
use Rattle.hull_polyhedron.proofs.Pieces.{AtEdges}
use Rattle.hull_polyhedron.proofs.Placed.{six_by}

-- ---- coordinates
abbrev Point : Type 0
Point = Expression × Expression × Expression

-- the determinant of four points, as the definition has it
determinant_of : Point → Point → Point → Point → Expression
determinant_of a b c d =
    (b.0 :- a.0) :* ((c.1 :- a.1) :* (d.2 :- a.2) :- (c.2 :- a.2) :* (d.1 :- a.1))
    :+ (b.1 :- a.1) :* ((c.2 :- a.2) :* (d.0 :- a.0) :- (c.0 :- a.0) :* (d.2 :- a.2))
    :+ (b.2 :- a.2) :* ((c.0 :- a.0) :* (d.1 :- a.1) :- (c.1 :- a.1) :* (d.0 :- a.0))

A : Point
A = (var 1, var 2, var 3)

B : Point
B = (var 4, var 5, var 6)

C : Point
C = (var 7, var 8, var 9)

D : Point
D = (var 10, var 11, var 12)

-- c² + s² = r², over r
module _ (plane : Waterplane) where
  abbrev c : Fraction
  c = whole (pos plane.c)

  abbrev s : Fraction
  s = whole (pos plane.s)

  abbrev r : Fraction
  r = whole (pos plane.r)

  squares : c ⊗ c ⊕ s ⊗ s ≡ r ⊗ r
  squares = sym (ap₂ ◌⊕◌ (whole-mul (pos plane.c) (pos plane.c)) (whole-mul (pos plane.s) (pos plane.s))) ∙ sym (whole-add (pos (plane.c * plane.c)) (pos (plane.s * plane.s)))
      ∙ ap (λ (n : ℕ). whole (pos n)) plane.round ∙ whole-mul (pos plane.r) (pos plane.r)

  r_inverse : r ⊗ inverse r ≡ one
  r_inverse = Bounds.mul-inverse_positive fractions (positive-whole plane.r plane.positive)

  unit_squares : (c ⊗ c ⊕ s ⊗ s) ⊗ (inverse r ⊗ inverse r) ≡ one
  unit_squares = ring_from fraction_ring (c ∷ s ∷ r ∷ inverse r ∷ [])
      ((var 3 :* var 3, var 0 :* var 0 :+ var 1 :* var 1, var 2 :* var 2) ∷ (var 2 :* var 3 :+ unit, var 2 :* var 3, unit) ∷ [])
      (given squares (given r_inverse none)) ((var 0 :* var 0 :+ var 1 :* var 1) :* (var 3 :* var 3)) unit refl

  module _ (first last : ℤ) where
    abbrev h : Position → Fraction
    h = depth plane first last

    -- the level is linear in x, so that it leaves the determinant as it is
    unfoldable start : Fraction
    start = plane.a ⊖ (whole first ⊗ inverse (whole last ⊖ whole first)) ⊗ (plane.f ⊖ plane.a)

    unfoldable slope : Fraction
    slope = inverse (whole last ⊖ whole first) ⊗ (plane.f ⊖ plane.a)

    level-at : (x : Fraction) → level_at plane first last x ≡ start ⊕ slope ⊗ x
    unfolding level_at start slope
    level-at x = ring fraction_ring (x ∷ whole first ∷ inverse (whole last ⊖ whole first) ∷ plane.a ∷ plane.f ∷ [])
        ((unit :- (var 0 :- var 1) :* var 2) :* var 3 :+ ((var 0 :- var 1) :* var 2) :* var 4)
        ((var 3 :- (var 1 :* var 2) :* (var 4 :- var 3)) :+ (var 2 :* (var 4 :- var 3)) :* var 0) refl

    ar : Expression × Expression → Expression × Expression → Expression × Expression → Expression
    ar p q r = (q.0 :- p.0) :* (r.1 :- p.1) :- (r.0 :- p.0) :* (q.1 :- p.1)

    -- the determinant by the depth is the opposite of that by the height
    pub six_depth : (t : Tetrahedron Position) → six_by plane first last h t ≡ negative (six_by plane first last (height plane) t)
    unfolding six_by ar
    six_depth t = (λ i. six_by plane first last (λ p. level-at p.x i ⊖ height plane p) t)
        ∙ ring fraction_ring (one ∷ t.a.x ∷ v t.a ∷ t.b.x ∷ v t.b ∷ t.c.x ∷ v t.c ∷ t.d.x ∷ v t.d ∷ u t.a ∷ u t.b ∷ u t.c ∷ u t.d ∷ start ∷ slope ∷ [])
        (six (deep (var 1) (var 9)) (deep (var 3) (var 10)) (deep (var 5) (var 11)) (deep (var 7) (var 12)))
        (opposite (six (var 9) (var 10) (var 11) (var 12))) refl
      where
        v : Position → Fraction
        v = side_distance plane

        u : Position → Fraction
        u = height plane

        deep : Expression → Expression → Expression
        deep x u = (var 13 :+ var 14 :* x) :- u

        six : Expression → Expression → Expression → Expression → Expression
        six a b c d = (d :- a) :* ar (var 1, var 2) (var 3, var 4) (var 5, var 6) :- (c :- a) :* ar (var 1, var 2) (var 3, var 4) (var 7, var 8) :+ (b :- a) :* ar (var 1, var 2) (var 5, var 6) (var 7, var 8)

    six_height : (t : Tetrahedron Position) → six_by plane first last (height plane) t ≡ negative (determinant t)
    unfolding six_by height side_distance determinant determinant_of A B C D ar
    six_height t = ring_from fraction_ring (one ∷ t.a.x ∷ t.a.y ∷ t.a.z ∷ t.b.x ∷ t.b.y ∷ t.b.z ∷ t.c.x ∷ t.c.y ∷ t.c.z ∷ t.d.x ∷ t.d.y ∷ t.d.z ∷ c ∷ s ∷ inverse r ∷ [])
        ((opposite (determinant_of A B C D), (var 13 :* var 13 :+ var 14 :* var 14) :* (var 15 :* var 15), unit) ∷ []) (given unit_squares none)
        ((u D :- u A) :* ar (xv A) (xv B) (xv C) :- (u C :- u A) :* ar (xv A) (xv B) (xv D) :+ (u B :- u A) :* ar (xv A) (xv C) (xv D))
        (opposite (determinant_of A B C D)) refl
      where
        u : Point → Expression
        u p = (var 13 :* p.2 :+ var 14 :* p.1) :* var 15

        xv : Point → Expression × Expression
        xv p = (p.0, (var 14 :* p.2 :- var 13 :* p.1) :* var 15)

    pub six_determinant : (t : Tetrahedron Position) → six_by plane first last h t ≡ determinant t
    six_determinant t = ring_from fraction_ring (six_by plane first last h t ∷ six_by plane first last (height plane) t ∷ determinant t ∷ [])
        ((unit, var 0, opposite (var 1)) ∷ (opposite unit, var 1, opposite (var 2)) ∷ []) (given (six_depth t) (given (six_height t) none)) (var 0) (var 2) refl

-- ---- parts of a split
abbrev between : Fraction → Position → Position → Position
between t p q = record { x = interpolated t p.x q.x; y = interpolated t p.y q.y; z = interpolated t p.z q.z }

X : Point → Point → Point
X p q = ((unit :- var 0) :* p.0 :+ var 0 :* q.0, (unit :- var 0) :* p.1 :+ var 0 :* q.1, (unit :- var 0) :* p.2 :+ var 0 :* q.2)

-- the part behind the point, and that before it
abbrev AreParts : Fraction → Tetrahedron Position → Tetrahedron Position → Tetrahedron Position → Type 0
AreParts t w p q = (determinant p ≡ (one ⊖ t) ⊗ determinant w) × (determinant q ≡ t ⊗ determinant w)

module _ (t : Fraction) (a b c d : Position) where
  abbrev values : List Fraction
  values = t ∷ a.x ∷ a.y ∷ a.z ∷ b.x ∷ b.y ∷ b.z ∷ c.x ∷ c.y ∷ c.z ∷ d.x ∷ d.y ∷ d.z ∷ []

  parts_ab : AreParts t (tetrahedron a b c d) (tetrahedron (between t a b) b c d) (tetrahedron a (between t a b) c d)
  unfolding determinant determinant_of A B C D X
  parts_ab = (
    ring fraction_ring values (determinant_of (X A B) B C D) ((unit :- var 0) :* determinant_of A B C D) refl,
    ring fraction_ring values (determinant_of A (X A B) C D) (var 0 :* determinant_of A B C D) refl,
  )

  parts_ac : AreParts t (tetrahedron a b c d) (tetrahedron (between t a c) b c d) (tetrahedron a b (between t a c) d)
  unfolding determinant determinant_of A B C D X
  parts_ac = (
    ring fraction_ring values (determinant_of (X A C) B C D) ((unit :- var 0) :* determinant_of A B C D) refl,
    ring fraction_ring values (determinant_of A B (X A C) D) (var 0 :* determinant_of A B C D) refl,
  )

  parts_ad : AreParts t (tetrahedron a b c d) (tetrahedron (between t a d) b c d) (tetrahedron a b c (between t a d))
  unfolding determinant determinant_of A B C D X
  parts_ad = (
    ring fraction_ring values (determinant_of (X A D) B C D) ((unit :- var 0) :* determinant_of A B C D) refl,
    ring fraction_ring values (determinant_of A B C (X A D)) (var 0 :* determinant_of A B C D) refl,
  )

  parts_bc : AreParts t (tetrahedron a b c d) (tetrahedron a (between t b c) c d) (tetrahedron a b (between t b c) d)
  unfolding determinant determinant_of A B C D X
  parts_bc = (
    ring fraction_ring values (determinant_of A (X B C) C D) ((unit :- var 0) :* determinant_of A B C D) refl,
    ring fraction_ring values (determinant_of A B (X B C) D) (var 0 :* determinant_of A B C D) refl,
  )

  parts_bd : AreParts t (tetrahedron a b c d) (tetrahedron a (between t b d) c d) (tetrahedron a b c (between t b d))
  unfolding determinant determinant_of A B C D X
  parts_bd = (
    ring fraction_ring values (determinant_of A (X B D) C D) ((unit :- var 0) :* determinant_of A B C D) refl,
    ring fraction_ring values (determinant_of A B C (X B D)) (var 0 :* determinant_of A B C D) refl,
  )

  parts_cd : AreParts t (tetrahedron a b c d) (tetrahedron a b (between t c d) d) (tetrahedron a b c (between t c d))
  unfolding determinant determinant_of A B C D X
  parts_cd = (
    ring fraction_ring values (determinant_of A B (X C D) D) ((unit :- var 0) :* determinant_of A B C D) refl,
    ring fraction_ring values (determinant_of A B C (X C D)) (var 0 :* determinant_of A B C D) refl,
  )

-- ---- signs of the parts
-- a number, or its opposite
abbrev pub with_sign : Bool → Fraction → Fraction
with_sign true x = x
with_sign false x = negative x

pub sign-mul : (b : Bool) (x y : Fraction) → with_sign b (x ⊗ y) ≡ x ⊗ with_sign b y
sign-mul true x y = refl
sign-mul false x y = ring fraction_ring (x ∷ y ∷ []) (opposite (var 0 :* var 1)) (var 0 :* opposite (var 1)) refl

pub with_sign-mul : (b : Bool) (x y : Fraction) → with_sign b x ⊗ y ≡ with_sign b (x ⊗ y)
with_sign-mul true x y = refl
with_sign-mul false x y = ring fraction_ring (x ∷ y ∷ []) (opposite (var 0) :* var 1) (opposite (var 0 :* var 1)) refl

abbrev pub IsRight : Bool → Tetrahedron Position → Type 0
IsRight b t = sign (with_sign b (determinant t)) ≢ below

pub right_outwards : (b : Bool) (t : Tetrahedron Position) → PointOutwards b t → IsRight b t
right_outwards true t h = Order.nonnegative_from fractions h
right_outwards false t h = Order.nonnegative_same fractions (ring fraction_ring (determinant t ∷ []) (opposite (var 0)) (number 0 :- var 0) refl) h

pub outwards_right : (b : Bool) (t : Tetrahedron Position) → IsRight b t → PointOutwards b t
outwards_right true t n = Order.nought-≼ fractions n
outwards_right false t n = Order.nonnegative_same fractions (ring fraction_ring (determinant t ∷ []) (number 0 :- var 0) (opposite (var 0)) refl) n

pub magnitude_signed : (b : Bool) (x : Fraction) → sign (with_sign b x) ≢ below → magnitude x ≡ with_sign b x
unfolding magnitude
magnitude_signed true x n = by_sign (sign x) refl
  where
    by_sign : (s : Sign) → sign x ≡ s → magnitude_by s x ≡ x
    by_sign above e = refl
    by_sign level e = refl
    by_sign below e = absurd (n e)
magnitude_signed false x n = by_sign (sign x) refl
  where
    by_sign : (s : Sign) → sign x ≡ s → magnitude_by s x ≡ negative x
    by_sign below e = refl
    by_sign level e = ring_from fraction_ring (x ∷ []) ((number 2, var 0, number 0) ∷ []) (given (fractions.laws.nought_from_sign x e) none) (var 0) (opposite (var 0)) refl
    by_sign above e = absurd (n (fractions.laws.sign-negative x ∙ ap turned e))

pub magnitude_right : (b : Bool) (t : Tetrahedron Position) → IsRight b t → magnitude (determinant t) ≡ with_sign b (determinant t)
magnitude_right b t n = magnitude_signed b (determinant t) n

part_right : (b : Bool) (t : Fraction) (w p : Tetrahedron Position) → sign t ≡ above → determinant p ≡ t ⊗ determinant w → IsRight b w → IsRight b p
part_right b t w p up e n = Order.nonnegative_same fractions (ap (with_sign b) e ∙ sign-mul b t (determinant w)) (Order.nonnegative-mul fractions (Order.nonnegative_positive fractions up) n)

both_right : (b : Bool) (t : Fraction) (w p q : Tetrahedron Position) → IsInside t → AreParts t w p q → IsRight b w → IsRight b p × IsRight b q
both_right b t w p q i e n = (part_right b (one ⊖ t) w p i.1 e.0 n, part_right b t w q i.0 e.1 n)

-- cut by a function that is linear
module _ (d : Position → Fraction) (d_linear : Cut.IsLinear (cut_by d)) (outwards : Bool) where
  abbrev at : Position → Position → Fraction
  at p q = crossing_parameter (cut_by d) d_linear p q

  within : (p q : Position) → are_parted (cut_by d) p q ≡ true → IsInside (at p q)
  within p q e = inside (cut_by d) d_linear p q e

  pub right_parts : AtEdges (cut_by d) (λ t p q. IsRight outwards t → IsRight outwards p × IsRight outwards q)
  unfolding crossing
  right_parts = record {
    ab = λ a b c e h. both_right outwards (at a b) _ _ _ (within a b h) (parts_ab (at a b) a b c e);
    ac = λ a b c e h. both_right outwards (at a c) _ _ _ (within a c h) (parts_ac (at a c) a b c e);
    ad = λ a b c e h. both_right outwards (at a e) _ _ _ (within a e h) (parts_ad (at a e) a b c e);
    bc = λ a b c e h. both_right outwards (at b c) _ _ _ (within b c h) (parts_bc (at b c) a b c e);
    bd = λ a b c e h. both_right outwards (at b e) _ _ _ (within b e h) (parts_bd (at b e) a b c e);
    cd = λ a b c e h. both_right outwards (at c e) _ _ _ (within c e h) (parts_cd (at c e) a b c e);
  }
