-- Areas of the triangles that a triangle is clipped to, as they are seen along y and z: parts of the area of the whole.
use mathlib.Core.Path.{◌≡◌, refl}
use mathlib.Core.List.{List, [], ◌∷◌}
use Rattle.exact_algebra.specs.Expression.{Expression, var, unit, ◌:+◌, ◌:-◌, ◌:*◌}
use Rattle.exact_algebra.proofs.Ring.{ring}
use Rattle.exact_algebra.proofs.Fraction.{Fraction, one, ◌⊗◌, ◌⊖◌, fraction_ring}
use Rattle.hull_model.specs.FaceParts.{area_y, area_z}
use Rattle.hull_model.specs.TriangleCut.{Triangle, triangle}
use Rattle.hull_model.specs.TriangleSums.{on}
use Rattle.hull_model.specs.Waterplane.{Position}

abbrev Point : Type 0
Point = Expression × Expression

-- twice the area by two coordinates
area_of : Point → Point → Point → Expression
area_of a b c = (b.0 :- a.0) :* (c.1 :- a.1) :- (b.1 :- a.1) :* (c.0 :- a.0)

A : Point
A = (var 2, var 3)

B : Point
B = (var 4, var 5)

C : Point
C = (var 6, var 7)

-- a point of an edge, at the part that a variable gives
along : Expression → Point → Point → Point
along t p q = ((unit :- t) :* p.0 :+ t :* q.0, (unit :- t) :* p.1 :+ t :* q.1)

X : Point
unfolding A B along
X = along (var 0) A B

Z : Point
unfolding A C along
Z = along (var 1) A C

-- both areas of a triangle are such parts of those of another
pub record ArePortions (share : Fraction) (part whole : Triangle Position) : Type 0 where
  pub y : area_y part ≡ area_y whole ⊗ share
  pub z : area_z part ≡ area_z whole ⊗ share

module _ (s t : Fraction) (a b c : Position) where
  zx : List Fraction
  zx = s ∷ t ∷ a.z ∷ a.x ∷ b.z ∷ b.x ∷ c.z ∷ c.x ∷ []

  xy : List Fraction
  xy = s ∷ t ∷ a.x ∷ a.y ∷ b.x ∷ b.y ∷ c.x ∷ c.y ∷ []

  -- the tip at a, and the two triangles without it
  pub tip_areas : ArePortions (s ⊗ t) (triangle a (on s a b) (on t a c)) (triangle a b c)
  unfolding area_of A B C X Z along zx xy
  tip_areas = record {
    y = ring fraction_ring zx (area_of A X Z) (area_of A B C :* (var 0 :* var 1)) refl;
    z = ring fraction_ring xy (area_of A X Z) (area_of A B C :* (var 0 :* var 1)) refl;
  }

  pub first_areas : ArePortions (one ⊖ s) (triangle (on s a b) b c) (triangle a b c)
  unfolding area_of A B C X Z along zx xy
  first_areas = record {
    y = ring fraction_ring zx (area_of X B C) (area_of A B C :* (unit :- var 0)) refl;
    z = ring fraction_ring xy (area_of X B C) (area_of A B C :* (unit :- var 0)) refl;
  }

  pub second_areas : ArePortions (s ⊗ (one ⊖ t)) (triangle (on s a b) c (on t a c)) (triangle a b c)
  unfolding area_of A B C X Z along zx xy
  second_areas = record {
    y = ring fraction_ring zx (area_of X C Z) (area_of A B C :* (var 0 :* (unit :- var 1))) refl;
    z = ring fraction_ring xy (area_of X C Z) (area_of A B C :* (var 0 :* (unit :- var 1))) refl;
  }

-- the area is the same whichever corner comes first
pub rolled_y : (a b c : Position) → area_y (triangle a b c) ≡ area_y (triangle b c a)
unfolding area_of A B C
rolled_y a b c = ring fraction_ring (one ∷ one ∷ a.z ∷ a.x ∷ b.z ∷ b.x ∷ c.z ∷ c.x ∷ []) (area_of A B C) (area_of B C A) refl

pub rolled_z : (a b c : Position) → area_z (triangle a b c) ≡ area_z (triangle b c a)
unfolding area_of A B C
rolled_z a b c = ring fraction_ring (one ∷ one ∷ a.x ∷ a.y ∷ b.x ∷ b.y ∷ c.x ∷ c.y ∷ []) (area_of A B C) (area_of B C A) refl
