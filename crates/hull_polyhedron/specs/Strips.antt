-- The strips of a hull: the body between each two neighbouring stations, numbered from 0.
use Rattle.std.specs.Prelude.{ℕ, Bool, not, ◌&&◌, int_le, List, [], ◌∷◌, filter, get_or}
use Rattle.std.specs.Ordering.{int_eq}
use Rattle.std.specs.List.{flat_map, slice_range}
use Rattle.hull_model.specs.declared.face.Face.{Face}
use Rattle.hull_model.specs.declared.node.Node.{Node}
use Rattle.hull_model.specs.declared.station.Station.{Station}
use Rattle.hull_model.specs.Faces.{triangle_of}
use Rattle.hull_model.specs.Submerged.{first_x, last_x}
use Rattle.hull_model.specs.Tetrahedra.{hull_tetrahedra}
use Rattle.hull_model.specs.TetrahedronCut.{Tetrahedron}
use Rattle.hull_model.specs.TriangleCut.{Triangle}
use Rattle.hull_model.specs.Zipper.{chain}

-- the two stations of each strip, from aft to fore
abbrev pub strips_of : List Station → List (List Station)
strips_of [] = []
strips_of (s ∷ []) = []
strips_of (s ∷ next ∷ rest) = (s ∷ next ∷ []) ∷ strips_of (next ∷ rest)

-- those of the strip of a number
abbrev pub strip_at : List Station → ℕ → List Station
strip_at stations n = get_or (strips_of stations) n []

-- the points of the two stations, those of the aft one first
abbrev pub station_nodes : List Station → List Node
station_nodes strip = flat_map chain strip

-- the tetrahedra of the strips of a hull from a number to just below another
abbrev pub tetrahedra_between : List Station → ℕ → ℕ → List (Tetrahedron Node)
tetrahedra_between stations from to = flat_map hull_tetrahedra (slice_range (strips_of stations) from to)

-- in a plane of constant x, as the walls of the ends are
abbrev pub is_transverse : Triangle Node → Bool
is_transverse t = int_eq t.a.x t.b.x && (int_eq t.b.x t.c.x && int_eq t.c.x t.a.x)

-- from the aft station of a strip to the fore one
abbrev pub is_along : List Station → Node → Bool
is_along strip n = int_le (first_x strip) n.x && int_le n.x (last_x strip)

-- in a strip, and in no plane of constant x
unfoldable pub is_in_strip : List Station → Triangle Node → Bool
is_in_strip strip t = (is_along strip t.a && (is_along strip t.b && is_along strip t.c)) && not (is_transverse t)

-- the faces of a list that are, in its order
abbrev pub faces_in : List Station → List Face → List Face
faces_in strip faces = filter (λ f. is_in_strip strip (triangle_of f)) faces

abbrev pub triangles_in : List Station → List (Triangle Node) → List (Triangle Node)
triangles_in strip faces = filter (is_in_strip strip) faces
