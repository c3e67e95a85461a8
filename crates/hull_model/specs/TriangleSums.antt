-- Functions of triangles in space that add up over the parts of a triangle, and what triangles make up.
use Rattle.std.specs.Prelude.{◌≡◌, List}
use Rattle.exact_algebra.proofs.Fraction.{Fraction, ◌⊕◌, negative}
use Rattle.hull_model.specs.Fractions.{interpolated, sum_over}
use Rattle.hull_model.specs.TriangleCut.{Triangle}
use Rattle.hull_model.specs.Waterplane.{Position}

-- the point between p at 0 and q at 1
abbrev pub on : Fraction → Position → Position → Position
on t p q = record { x = interpolated t p.x q.x; y = interpolated t p.y q.y; z = interpolated t p.z q.z }

-- a function of the corners of a triangle, in their order
abbrev pub Function : Type 0
Function = Position → Position → Position → Fraction

-- it changes its sign where two corners change places, and is the same whichever corner comes first
pub record IsAlternating (k : Function) : Type 0 where
  pub swap : (a b c : Position) → k b a c ≡ negative (k a b c)
  pub roll : (a b c : Position) → k b c a ≡ k a b c

-- at the point m, the edge from a to b of a triangle is split into two that add up
abbrev pub Splits : Function → Position → Position → Position → Type 0
Splits k m a b = (c : Position) → k a b c ≡ k a m c ⊕ k m b c

-- so at each point of the line through an edge
abbrev pub AddsUp : Function → Type 0
AddsUp k = (t : Fraction) (a b : Position) → Splits k (on t a b) a b

abbrev pub value : Function → Triangle Position → Fraction
value k t = k t.a t.b t.c

-- two lists of triangles make up the same: each function that is alternating and adds up has the same sum over both
abbrev pub MakeUpTheSame : List (Triangle Position) → List (Triangle Position) → Type 0
MakeUpTheSame ts others = (k : Function) → IsAlternating k → AddsUp k → sum_over (value k) ts ≡ sum_over (value k) others
