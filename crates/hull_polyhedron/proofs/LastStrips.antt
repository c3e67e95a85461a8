-- Where the loops over the strips of stations end: of fewer than two stations there is no strip left.
use Rattle.std.proofs.Common.{ℕ, ◌<◌, ◌≡◌, refl, sym, ◌∙◌, ap, List, [], ◌∷◌, ◌++◌, map, length, arith}
use Rattle.std.proofs.lemmas.List.{append-nil}
use Rattle.hull_model.specs.declared.node.Node.{Node}
use Rattle.hull_model.specs.declared.station.Station.{Station}
use Rattle.hull_polyhedron.specs.declared.part.Part.{Part}
use Rattle.hull_polyhedron.specs.declared.totals.Totals.{Totals}
use Rattle.hull_polyhedron.specs.Parts.{parts_from}
use Rattle.hull_polyhedron.specs.StripLists.{joined, node_lists, face_lists}
use Rattle.hull_polyhedron.specs.Strips.{strips_of, station_nodes}
use Rattle.hull_polyhedron.specs.TotalsModel.{running_from}

-- what was laid end to end is all there is
all_laid : {A : Type 0} (all none : List A) {total : List A} → none ≡ [] → all ++ none ≡ total → all ≡ total
all_laid all none e f = sym (append-nil all) ∙ sym (ap (λ xs. all ++ xs) e) ∙ f

no_more : (rest : List Station) → length rest < 2 → strips_of rest ≡ []
no_more [] less = refl
no_more (s ∷ []) less = refl
no_more (s ∷ t ∷ rest) less = absurd (omega arith)

no_more_faces : (rest : List Station) → length rest < 2 → face_lists rest ≡ []
no_more_faces [] less = refl
no_more_faces (s ∷ []) less = refl
no_more_faces (s ∷ t ∷ rest) less = absurd (omega arith)

pub all_totals : (all : List Totals) (sum : Totals) (rest : List Station) {total : List Totals} → length rest < 2 → all ++ running_from sum (strips_of rest) ≡ total → all ≡ total
all_totals all sum rest less e = all_laid all (running_from sum (strips_of rest)) (ap (running_from sum) (no_more rest less)) e

pub all_nodes : (all : List Node) (rest : List Station) {total : List Node} → length rest < 2 → all ++ joined (node_lists rest) ≡ total → all ≡ total
all_nodes all rest less e = all_laid all (joined (node_lists rest)) (ap (λ strips. joined (map station_nodes strips)) (no_more rest less)) e

pub all_node_parts : (all : List Part) (place : ℕ) (rest : List Station) {total : List Part} → length rest < 2 → all ++ parts_from place (node_lists rest) ≡ total → all ≡ total
all_node_parts all place rest less e = all_laid all (parts_from place (node_lists rest)) (ap (λ strips. parts_from place (map station_nodes strips)) (no_more rest less)) e

pub all_face_parts : (all : List Part) (place : ℕ) (rest : List Station) {total : List Part} → length rest < 2 → all ++ parts_from place (face_lists rest) ≡ total → all ≡ total
all_face_parts all place rest less e = all_laid all (parts_from place (face_lists rest)) (ap (parts_from place) (no_more_faces rest less)) e
