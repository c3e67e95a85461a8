-- The strip triangles: the zipper that joins two neighbouring stations.
use Rattle.std.specs.Prelude.{List, [], ◌∷◌, ◌++◌, map, if◌then◌else◌, int_le}
use Rattle.hull_model.specs.declared.node.Node.{Node}
use Rattle.hull_model.specs.declared.station.Station.{Station}
use Rattle.hull_model.specs.Nodes.{node_at}
use Rattle.hull_model.specs.TriangleCut.{Triangle, triangle}

-- the zipper stands on the node q of the fore chain, and the aft chain is at its end: each next node of the fore chain gives a triangle
abbrev pub fore_triangles : Node → Node → List Node → List (Triangle Node)
fore_triangles p q [] = []
fore_triangles p q (next ∷ fore) = triangle p q next ∷ fore_triangles p next fore

-- the zipper stands on p and q, and the next node of the aft chain is at hand: the fore chain advances while its next node is lower
-- than that; then, and at the fore chain's end, the aft chain advances
abbrev pub advance : Node → Node → (Node → List Node → List (Triangle Node)) → Node → List Node → List (Triangle Node)
advance p aft_next after q [] = triangle p aft_next q ∷ after q []
advance p aft_next after q (fore_next ∷ fore) =
    if int_le aft_next.z fore_next.z
    then triangle p aft_next q ∷ after q (fore_next ∷ fore)
    else triangle p q fore_next ∷ advance p aft_next after fore_next fore

-- the triangles from p and the nodes above it in the aft chain, and q and those above it in the fore chain. Each has the two nodes on
-- which the zipper stood and the new one, in order of station, then point
abbrev pub zipper : Node → List Node → Node → List Node → List (Triangle Node)
zipper p [] q fore = fore_triangles p q fore
zipper p (next ∷ aft) q fore = advance p next (zipper next aft) q fore

-- from the lowest nodes of two chains on
abbrev pub between_chains : List Node → List Node → List (Triangle Node)
between_chains [] fore = []
between_chains (p ∷ aft) [] = []
between_chains (p ∷ aft) (q ∷ fore) = zipper p aft q fore

-- the nodes of a station's points
abbrev pub chain : Station → List Node
chain s = map (node_at s.x) s.points

abbrev pub between_stations : Station → Station → List (Triangle Node)
between_stations aft fore = between_chains (chain aft) (chain fore)

-- strip by strip, from aft to fore
abbrev pub strip_triangles : List Station → List (Triangle Node)
strip_triangles [] = []
strip_triangles (s ∷ []) = []
strip_triangles (s ∷ next ∷ rest) = between_stations s next ++ strip_triangles (next ∷ rest)
