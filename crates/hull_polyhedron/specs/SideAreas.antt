-- How much of a strip's faces is seen from the side, which bounds its moment of height.
use Rattle.std.specs.Prelude.{ℕ, suc, ◌+◌, ◌*◌, ◌≤◌, ◌<◌, ℤ, unsigned_abs, List, [], ◌∷◌, length}
use Rattle.std.specs.List.{slice_range}
use Rattle.hull_model.specs.declared.face.Face.{Face}
use Rattle.hull_polyhedron.specs.declared.strips.Strips.{Strips}
use Rattle.hull_polyhedron.specs.Parts.{part_at}
use Rattle.hull_polyhedron.specs.TotalsModel.{totals_at, minus}

-- twice the area of faces as seen along y
abbrev pub seen_from_side : List Face → ℕ
seen_from_side [] = 0
seen_from_side (f ∷ rest) = unsigned_abs f.ay + seen_from_side rest

-- each strip's integral of z is at most half of that area times the half-breadth and the height
abbrev pub LieLow : ℤ → ℤ → List Face → Strips → Type 0
LieLow half_breadth height list strips = (n : ℕ) → n < length strips.face_parts.items
    → unsigned_abs (minus (totals_at strips.totals.items (suc n)) (totals_at strips.totals.items n)).mz24
    ≤ 12 * (seen_from_side (slice_range list (part_at strips.face_parts.items n).from (part_at strips.face_parts.items n).to) * (unsigned_abs half_breadth * unsigned_abs height))
