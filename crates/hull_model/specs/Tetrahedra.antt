-- The body as tetrahedra: three to each strip triangle, and their mirror images.
use Rattle.std.specs.Prelude.{ℕ, ℤ, List, [], ◌∷◌, ◌++◌, map, unsigned_abs}
use Rattle.std.specs.List.{flat_map, AllByRecursion}
use Rattle.hull_model.specs.declared.node.Node.{Node}
use Rattle.hull_model.specs.declared.tet.Tet.{Tet}
use Rattle.hull_model.specs.declared.station.Station.{Station}
use Rattle.hull_model.specs.Nodes.{IsNode, foot, mirrored}
use Rattle.hull_model.specs.Vectors.{way, cross, dot}
use Rattle.hull_model.specs.TriangleCut.{Triangle}
use Rattle.hull_model.specs.TetrahedronCut.{Tetrahedron, tetrahedron, with_corners}
use Rattle.hull_model.specs.Zipper.{strip_triangles}

-- the three tetrahedra between a strip triangle and its feet
abbrev pub to_centreplane : Triangle Node → List (Tetrahedron Node)
to_centreplane t =
    tetrahedron (foot t.a) (foot t.b) (foot t.c) t.c
    ∷ tetrahedron (foot t.a) (foot t.b) t.b t.c
    ∷ tetrahedron (foot t.a) t.a t.b t.c
    ∷ []

abbrev pub starboard_half : List Station → List (Tetrahedron Node)
starboard_half stations = flat_map to_centreplane (strip_triangles stations)

-- strip by strip and triangle by triangle, and then all mirror images in the same order
abbrev pub hull_tetrahedra : List Station → List (Tetrahedron Node)
hull_tetrahedra stations = starboard_half stations ++ map (with_corners mirrored) (starboard_half stations)

-- six times the volume of a tetrahedron, above or below 0 by the turn of its corners
abbrev pub turned_six : Tetrahedron Node → ℤ
turned_six t = dot (cross (way t.a t.b) (way t.a t.c)) (way t.a t.d)

abbrev pub six_times : Tetrahedron Node → ℕ
six_times t = unsigned_abs (turned_six t)

-- a tetrahedron as the code has it
abbrev pub tet_of : Tetrahedron Node → Tet
tet_of t = record { n = t.a ∷ t.b ∷ t.c ∷ t.d ∷ [] }

-- the corners lie within the limits of a node
abbrev pub IsWithinLimits : Tet → Type 0
IsWithinLimits t = AllByRecursion IsNode t.n
