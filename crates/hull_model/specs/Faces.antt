-- Triangles of nodes as faces.
use Rattle.std.specs.Prelude.{◌≡◌, ℤ, pos, List, [], ◌∷◌, get_or}
use Rattle.std.specs.List.{AllByRecursion}
use Rattle.hull_model.specs.declared.node.Node.{Node}
use Rattle.hull_model.specs.declared.face.Face.{Face}
use Rattle.hull_model.specs.declared.vector.Vector.{Vector}
use Rattle.hull_model.specs.Nodes.{IsNode}
use Rattle.hull_model.specs.Vectors.{way, cross, dot}
use Rattle.hull_model.specs.TriangleCut.{Triangle, triangle}

abbrev pub corner_list : Triangle Node → List Node
corner_list t = t.a ∷ t.b ∷ t.c ∷ []

-- twice the area, square to the triangle; the other way round where two corners change places
abbrev pub doubled_area : Triangle Node → Vector
doubled_area t = cross (way t.a t.b) (way t.a t.c)

-- a triangle as the code has it
abbrev pub face_of : Triangle Node → Face
face_of t = record { p = corner_list t; ax = (doubled_area t).x; ay = (doubled_area t).y; az = (doubled_area t).z }

abbrev pub origin : Node
origin = record { x = pos 0; y = pos 0; z = pos 0 }

-- the triangle of a face's corners
abbrev pub triangle_of : Face → Triangle Node
triangle_of f = triangle (get_or f.p 0 origin) (get_or f.p 1 origin) (get_or f.p 2 origin)

-- six times the volume between a triangle and the origin, with a sign
abbrev pub determinant : Triangle Node → ℤ
determinant t = dot (doubled_area t) (way origin t.a)

-- corners within limits, and the area vector that their order gives
pub record IsFace (f : Face) : Type 0 where
  pub corners : AllByRecursion IsNode f.p
  pub area : f ≡ face_of (triangle_of f)
