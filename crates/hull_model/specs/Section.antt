-- The exact section of a station below a draft: the area and the first moment about the base of its full breadth.
use Rattle.std.specs.Prelude.{◌≡◌, ℕ, pos, List, [], ◌∷◌, ◌++◌}
use Rattle.exact_algebra.proofs.Fraction.{Fraction, nought, ◌⊕◌, ◌⊗◌, ◌⊖◌, inverse}
use Rattle.exact_algebra.proofs.Whole.{whole}
use Rattle.hull_model.specs.declared.point.Point.{Point}
use Rattle.hull_model.specs.Fractions.{magnitude, interpolated, sum_over}
use Rattle.std.specs.List.{AllByRecursion}
use Rattle.hull_model.specs.TriangleCut.{Triangle, triangle, Corners, uncut, split, pieces, kept_pieces}

-- a half-breadth and a height
pub record Offset : Type 0 where
  pub y : Fraction
  pub z : Fraction

-- the depth below a draft, and points on a straight line
abbrev pub under : Fraction → Corners Offset
under draft = record {
  depth = λ p. draft ⊖ p.z;
  between = λ t p q. record { y = interpolated t p.y q.y; z = interpolated t p.z q.z };
}

-- a point, and its foot on the centreplane
abbrev pub offset_of : Point → Offset
offset_of p = record { y = whole p.y; z = whole p.z }

abbrev pub foot_of : Point → Offset
foot_of p = record { y = nought; z = whole p.z }

-- the two triangles that two neighbouring points form with their feet: they share the edge from the lower foot to the higher point
abbrev pub inner_triangle : Point → Point → Triangle Offset
inner_triangle low high = triangle (foot_of low) (foot_of high) (offset_of high)

abbrev pub outer_triangle : Point → Point → Triangle Offset
outer_triangle low high = triangle (foot_of low) (offset_of low) (offset_of high)

-- the parts below the draft of the triangles between all neighbouring points, lowest first
unfoldable pub wet_triangles : Fraction → List Point → List (Triangle Offset)
wet_triangles draft [] = []
wet_triangles draft (p ∷ []) = []
wet_triangles draft (p ∷ q ∷ rest) = kept_pieces (under draft) (inner_triangle p q) ++ kept_pieces (under draft) (outer_triangle p q) ++ wet_triangles draft (q ∷ rest)

-- twice the area, above or below 0 by the turn of the corners
abbrev pub determinant : Triangle Offset → Fraction
determinant t = (t.b.y ⊖ t.a.y) ⊗ (t.c.z ⊖ t.a.z) ⊖ (t.c.y ⊖ t.a.y) ⊗ (t.b.z ⊖ t.a.z)

abbrev pub area_of : Triangle Offset → Fraction
area_of t = magnitude (determinant t) ⊗ inverse (whole (pos 2))

abbrev pub mean_height : Triangle Offset → Fraction
mean_height t = (t.a.z ⊕ t.b.z ⊕ t.c.z) ⊗ inverse (whole (pos 3))

abbrev pub moment_of : Triangle Offset → Fraction
moment_of t = area_of t ⊗ mean_height t

-- twice the half that the points describe
unfoldable pub section_area : List Point → ℕ → Fraction
section_area points draft = whole (pos 2) ⊗ sum_over area_of (wet_triangles (whole (pos draft)) points)

unfoldable pub section_moment : List Point → ℕ → Fraction
section_moment points draft = whole (pos 2) ⊗ sum_over moment_of (wet_triangles (whole (pos draft)) points)

-- the pieces that a triangle is cut into have no edge left to split, at any draft
abbrev pub NothingIsLeftToSplit : Type 0
NothingIsLeftToSplit = (draft : Fraction) (t : Triangle Offset) → AllByRecursion (λ p. split (under draft) p ≡ uncut) (pieces (under draft) 3 t)
