-- What a boundary keeps of the strips of its hull.
use Rattle.std.specs.Prelude.{ℕ, zero, suc, ◌+◌, ◌≤◌, List, length}
use Rattle.std.specs.List.{slice_range}
use Rattle.exact_algebra.proofs.Fraction.{Fraction, nought, ◌⊕◌, ◌≼◌}
use Rattle.hull_model.specs.declared.face.Face.{Face}
use Rattle.hull_model.specs.declared.node.Node.{Node}
use Rattle.hull_model.specs.Fractions.{sum_over}
use Rattle.hull_polyhedron.specs.declared.faces.Faces.{Faces}
use Rattle.hull_polyhedron.specs.declared.totals.Totals.{Totals}
use Rattle.hull_polyhedron.specs.Parts.{part_at}
use Rattle.hull_polyhedron.specs.SideAreas.{seen_from_side}
use Rattle.hull_polyhedron.specs.TotalsModel.{totals_at, minus}

-- how many strips there are
abbrev pub strip_count : Faces → ℕ
strip_count faces = length faces.strips.face_parts.items

-- the faces and the points of the strip of a number, counted from 0
abbrev pub strip_faces : Faces → ℕ → List Face
strip_faces faces n = slice_range faces.list (part_at faces.strips.face_parts.items n).from (part_at faces.strips.face_parts.items n).to

abbrev pub strip_nodes : Faces → ℕ → List Node
strip_nodes faces n = slice_range faces.strips.nodes.items (part_at faces.strips.node_parts.items n).from (part_at faces.strips.node_parts.items n).to

-- the totals of the strips from one number to just below another
abbrev pub total : Faces → ℕ → ℕ → Totals
total faces from to = minus (totals_at faces.strips.totals.items to) (totals_at faces.strips.totals.items from)

-- how many faces the first strips have, and the sum of what each face of them has
abbrev pub faces_to : Faces → ℕ → ℕ
faces_to faces zero = 0
faces_to faces (suc n) = faces_to faces n + length (strip_faces faces n)

abbrev pub sum_to : Faces → (Face → Fraction) → ℕ → Fraction
sum_to faces g zero = nought
sum_to faces g (suc n) = sum_to faces g n ⊕ sum_over g (strip_faces faces n)

-- no face is in two strips: together they have no more faces, and no more of what is nowhere below 0, than the boundary
pub record AreApart (faces : Faces) : Type 0 where
  pub few : faces_to faces (strip_count faces) ≤ length faces.list
  pub sums : (g : Face → Fraction) → ((f : Face) → nought ≼ g f) → sum_to faces g (strip_count faces) ≼ sum_over g faces.list

-- twice the area of a strip's faces as seen from the side
abbrev pub side_area : Faces → ℕ → ℕ
side_area faces n = seen_from_side (strip_faces faces n)
