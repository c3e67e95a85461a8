-- The signed faces of the hull's tetrahedra: each points out of its tetrahedron.
use Rattle.std.specs.Prelude.{Bool, true, false, not, ℤ, pos, ◌-ℤ◌, ◌*ℤ◌, int_lt, List, [], ◌∷◌, ◌++◌, map}
use Rattle.std.specs.List.{flat_map}
use Rattle.hull_model.specs.declared.node.Node.{Node}
use Rattle.hull_model.specs.declared.station.Station.{Station}
use Rattle.hull_model.specs.Nodes.{foot, mirrored}
use Rattle.hull_model.specs.TriangleCut.{Triangle, triangle}
use Rattle.hull_model.specs.TetrahedronCut.{Tetrahedron, tetrahedron, with_corners}
use Rattle.hull_model.specs.Zipper.{strip_triangles}

-- the other way round
abbrev pub turned : {C : Type 0} → Triangle C → Triangle C
turned t = triangle t.b t.a t.c

-- the four faces of a tetrahedron. They point outwards where its determinant is above 0, and inwards where it is below
abbrev pub faces_in_order : {C : Type 0} → Tetrahedron C → List (Triangle C)
faces_in_order t = triangle t.b t.c t.d ∷ triangle t.a t.d t.c ∷ triangle t.a t.b t.d ∷ triangle t.a t.c t.b ∷ []

-- a tetrahedron, and whether its faces in order point outwards
pub record Signed : Type 0 where
  pub outwards : Bool
  pub solid : Tetrahedron Node

abbrev pub signed : Bool → Tetrahedron Node → Signed
signed outwards solid = record { outwards = outwards; solid = solid }

abbrev pub faces_by : Bool → Tetrahedron Node → List (Triangle Node)
faces_by true t = faces_in_order t
faces_by false t = map turned (faces_in_order t)

abbrev pub outward_faces : Signed → List (Triangle Node)
outward_faces s = faces_by s.outwards s.solid

-- twice the area of a triangle seen along y: above 0 where its corners turn from x to z
abbrev pub turn : Triangle Node → ℤ
turn t = ((t.b.x -ℤ t.a.x) *ℤ (t.c.z -ℤ t.a.z)) -ℤ ((t.b.z -ℤ t.a.z) *ℤ (t.c.x -ℤ t.a.x))

abbrev pub turns_back : Triangle Node → Bool
turns_back t = int_lt (turn t) (pos 0)

-- the three tetrahedra of a strip triangle, with the sign that their determinants have where all half-breadths are above 0: that of
-- the first is the opposite of the turn's, that of the second the turn's, that of the third again the opposite. So one of volume 0 has
-- a sign too
abbrev pub signed_solids : Triangle Node → List Signed
signed_solids t =
    signed (turns_back t) (tetrahedron (foot t.a) (foot t.b) (foot t.c) t.c)
    ∷ signed (not (turns_back t)) (tetrahedron (foot t.a) (foot t.b) t.b t.c)
    ∷ signed (turns_back t) (tetrahedron (foot t.a) t.a t.b t.c)
    ∷ []

-- a mirror image has the other sign
abbrev pub mirror_image : Signed → Signed
mirror_image s = signed (not s.outwards) (with_corners mirrored s.solid)

abbrev pub signed_half : List Station → List Signed
signed_half stations = flat_map signed_solids (strip_triangles stations)

-- the hull's tetrahedra with their signs, in their order
abbrev pub signed_tetrahedra : List Station → List Signed
signed_tetrahedra stations = signed_half stations ++ map mirror_image (signed_half stations)

abbrev pub signed_faces : List Station → List (Triangle Node)
signed_faces stations = flat_map outward_faces (signed_tetrahedra stations)
