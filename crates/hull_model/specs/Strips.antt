-- The strip triangles as the code has them.
use Rattle.std.specs.Prelude.{Bool, true, false, List, [], ◌∷◌, int_le}
use Rattle.hull_model.specs.declared.node.Node.{Node}
use Rattle.hull_model.specs.declared.point.Point.{Point}
use Rattle.hull_model.specs.declared.strip_triangle.StripTriangle.{StripTriangle}
use Rattle.hull_model.specs.TriangleCut.{Triangle, triangle}

abbrev pub corners_of : StripTriangle → Triangle Node
corners_of t = triangle t.a t.b t.c

-- whether the zipper advances on the aft chain, given the points that are left of both
abbrev pub takes_aft : List Point → List Point → Bool
takes_aft [] fore = false
takes_aft (next ∷ aft) [] = true
takes_aft (next ∷ aft) (fore_next ∷ fore) = int_le next.z fore_next.z
