-- A model of the loops over the strips of a hull: what each strip adds to the lists that are laid end to end.
use Rattle.std.specs.Prelude.{List, [], ◌∷◌, map}
use Rattle.std.specs.List.{flat_map}
use Rattle.hull_model.specs.declared.face.Face.{Face}
use Rattle.hull_model.specs.declared.node.Node.{Node}
use Rattle.hull_model.specs.declared.station.Station.{Station}
use Rattle.hull_polyhedron.specs.Listed.{kept, strip}
use Rattle.hull_polyhedron.specs.Strips.{station_nodes, strips_of}

abbrev pub joined : {A : Type 0} → List (List A) → List A
joined lists = flat_map (λ xs. xs) lists

abbrev pub node_lists : List Station → List (List Node)
node_lists stations = map station_nodes (strips_of stations)

abbrev pub face_lists : List Station → List (List Face)
face_lists [] = []
face_lists (s ∷ []) = []
face_lists (s ∷ next ∷ rest) = kept (strip s next) ∷ face_lists (next ∷ rest)
