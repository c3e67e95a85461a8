-- What span faces hold, and how wide their spans are.
use Rattle.std.specs.Prelude.{ℕ, List, [], ◌∷◌, ⊤, ◌≡◌}
use Rattle.std.specs.List.{AllByRecursion}
use Rattle.exact_algebra.proofs.Fraction.{Fraction}
use Rattle.exact_algebra.proofs.Span.{ContainsFraction}
use Rattle.hull_model.specs.FaceParts.{area_y, area_z}
use Rattle.hull_model.specs.TriangleCut.{Triangle}
use Rattle.hull_model.specs.Waterplane.{Position}
use Rattle.outward_interval.specs.declared.span.Span.{Span}
use Rattle.plane_clip.specs.declared.span_face.SpanFace.{SpanFace}
use Rattle.plane_clip.specs.Enclosure.{Each}
use Rattle.plane_clip.specs.Limits.{IsThin}

-- three spans hold three numbers
abbrev pub HoldThree : List (Span 20) → Fraction → Fraction → Fraction → Type 0
HoldThree (s ∷ t ∷ u ∷ []) p q r = ContainsFraction 20 s.lo s.hi p × ContainsFraction 20 t.lo t.hi q × ContainsFraction 20 u.lo u.hi r
HoldThree _ p q r = ⊥

abbrev pub AreExact : List (Span 20) → Type 0
AreExact [] = ⊤
AreExact (s ∷ spans) = (s.lo ≡ s.hi) × AreExact spans

-- the corners and the areas of a triangle, the places of the corners exactly
pub record HoldsFace (f : SpanFace) (t : Triangle Position) : Type 0 where
  pub x : HoldThree f.x t.a.x t.b.x t.c.x
  pub exact : AreExact f.x
  pub y : HoldThree f.y t.a.y t.b.y t.c.y
  pub z : HoldThree f.z t.a.z t.b.z t.c.z
  pub ay : ContainsFraction 20 f.ay.lo f.ay.hi (area_y t)
  pub az : ContainsFraction 20 f.az.lo f.az.hi (area_z t)

-- each holds its triangle
abbrev pub HoldFaces : List SpanFace → List (Triangle Position) → Type 0
HoldFaces = Each HoldsFace

-- every span is at most so many units wide
abbrev pub AreThin : ℕ → List (Span 20) → Type 0
AreThin units = AllByRecursion (λ s. IsThin units s.lo s.hi)

pub record IsThinFace (units : ℕ) (f : SpanFace) : Type 0 where
  pub x : AreThin units f.x
  pub y : AreThin units f.y
  pub z : AreThin units f.z
  pub ay : IsThin units f.ay.lo f.ay.hi
  pub az : IsThin units f.az.lo f.az.hi

abbrev pub AreThinFaces : ℕ → List SpanFace → Type 0
AreThinFaces units = AllByRecursion (IsThinFace units)
