-- A model of the private functions of `boundary`: the triangles that the boundary is listed from, before those of no area are left out.
use Rattle.std.specs.Prelude.{Bool, true, false, not, ◌&&◌, ◌||◌, if◌then◌else◌, pos, List, [], ◌∷◌, ◌++◌, map, filter}
use Rattle.std.specs.Ordering.{int_eq}
use Rattle.std.specs.List.{flat_map}
use Rattle.hull_model.specs.declared.face.Face.{Face}
use Rattle.hull_model.specs.declared.node.Node.{Node}
use Rattle.hull_model.specs.declared.station.Station.{Station}
use Rattle.hull_model.specs.Nodes.{foot, mirrored}
use Rattle.hull_model.specs.TriangleCut.{Triangle, triangle}
use Rattle.hull_model.specs.Faces.{doubled_area, face_of}
use Rattle.hull_model.specs.SignedFaces.{turned, turns_back}
use Rattle.hull_model.specs.Zipper.{chain, between_stations}

abbrev pub has_area : Triangle Node → Bool
has_area t = not (int_eq (doubled_area t).x (pos 0)) || not (int_eq (doubled_area t).y (pos 0)) || not (int_eq (doubled_area t).z (pos 0))

-- the faces of the triangles that have an area
abbrev pub kept : List (Triangle Node) → List Face
kept ts = map face_of (filter has_area ts)

abbrev pub turned_unless : Bool → Triangle Node → Triangle Node
turned_unless outwards t = if outwards then t else turned t

abbrev pub mirrored_triangle : Triangle Node → Triangle Node
mirrored_triangle t = triangle (mirrored t.a) (mirrored t.b) (mirrored t.c)

-- all half-breadths are 0
abbrev pub is_on_centreplane : Triangle Node → Bool
is_on_centreplane t = int_eq t.a.y (pos 0) && (int_eq t.b.y (pos 0) && int_eq t.c.y (pos 0))

-- a strip triangle and its mirror image as faces of the sides. One on the centreplane is its own mirror image and cancels
abbrev pub sides : Triangle Node → List (Triangle Node)
sides t =
    if is_on_centreplane t
    then []
    else turned_unless (turns_back t) t ∷ turned_unless (not (turns_back t)) (mirrored_triangle t) ∷ []

-- the wall from port to starboard along the edge from p to q: two triangles and their mirror images
unfoldable pub wall : Bool → Node → Node → List (Triangle Node)
wall outwards p q =
    turned_unless outwards (triangle (foot p) (foot q) q)
    ∷ turned_unless (not outwards) (triangle (foot p) p q)
    ∷ turned_unless (not outwards) (triangle (foot p) (foot q) (mirrored q))
    ∷ turned_unless outwards (triangle (foot p) (mirrored p) (mirrored q))
    ∷ []

-- the walls along a chain: of the first station outwards, of the last the other way round
abbrev pub end_wall : Bool → List Node → List (Triangle Node)
end_wall outwards [] = []
end_wall outwards (p ∷ []) = []
end_wall outwards (p ∷ q ∷ rest) = wall outwards p q ++ end_wall outwards (q ∷ rest)

-- the wall along the edge between the lowest nodes of two chains, and along that between the highest
abbrev pub bottom : List Node → List Node → List (Triangle Node)
bottom [] fore = []
bottom (p ∷ aft) [] = []
bottom (p ∷ aft) (q ∷ fore) = wall false p q

abbrev pub highest : Node → List Node → Node
highest p [] = p
highest p (q ∷ rest) = highest q rest

abbrev pub top : List Node → List Node → List (Triangle Node)
top [] fore = []
top (p ∷ aft) [] = []
top (p ∷ aft) (q ∷ fore) = wall true (highest p aft) (highest q fore)

-- the sides, the bottom and the top of a strip
abbrev pub strip : Station → Station → List (Triangle Node)
strip aft fore = flat_map sides (between_stations aft fore) ++ bottom (chain aft) (chain fore) ++ top (chain aft) (chain fore)

abbrev pub strips : List Station → List (Triangle Node)
strips [] = []
strips (s ∷ []) = []
strips (s ∷ next ∷ rest) = strip s next ++ strips (next ∷ rest)

abbrev pub first_end : List Station → List (Triangle Node)
first_end [] = []
first_end (s ∷ rest) = end_wall true (chain s)

abbrev pub last_end : List Station → List (Triangle Node)
last_end [] = []
last_end (s ∷ []) = end_wall false (chain s)
last_end (s ∷ next ∷ rest) = last_end (next ∷ rest)

-- the aft end, strip by strip, and the fore end
abbrev pub listed : List Station → List (Triangle Node)
listed stations = first_end stations ++ strips stations ++ last_end stations
