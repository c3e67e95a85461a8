-- What a column is by the means over the wet part of a face, and by the face's area vector.
use Rattle.std.specs.Prelude.{◌≡◌, ℤ, pos}
use Rattle.exact_algebra.proofs.Fraction.{Fraction, one, ◌⊕◌, ◌⊗◌, negative, inverse}
use Rattle.exact_algebra.proofs.Whole.{whole}
use Rattle.hull_model.specs.declared.node.Node.{Node}
use Rattle.hull_model.specs.Faces.{doubled_area}
use Rattle.hull_model.specs.TriangleCut.{Triangle}
use Rattle.hull_model.specs.Waterplane.{Waterplane, Position}
use Rattle.hull_model.specs.WetMean.{wet_share, wet_corner, wet_pair, wet_depth, weighted_depth}
use Rattle.hull_polyhedron.specs.Columns.{triangle_at, depth, seen_area, column, seen_part}

-- a face's column by the means over its wet part of the depth, and of the depth times the coordinate of each corner
pub record IsColumnByMeans (plane : Waterplane) (first last : ℤ) (t : Triangle Position) (h k l : Fraction) : Type 0 where
  pub constant : column plane first last (λ p. one) t ≡ seen_area plane t ⊗ inverse (whole (pos 2)) ⊗ wet_depth h k l
  pub linear : (f : Position → Fraction) → column plane first last f t
      ≡ seen_area plane t ⊗ inverse (whole (pos 2)) ⊗ (f t.a ⊗ weighted_depth 0 h k l ⊕ f t.b ⊗ weighted_depth 1 h k l ⊕ f t.c ⊗ weighted_depth 2 h k l)

abbrev pub ColumnsAreKnownByMeans : Type 0
ColumnsAreKnownByMeans = (plane : Waterplane) (first last : ℤ) (t : Triangle Position) → IsColumnByMeans plane first last t (depth plane first last t.a) (depth plane first last t.b) (depth plane first last t.c)

-- the same for what is seen of a face's wet part, by the means of 1, of the coordinate of each corner and of the product of two
pub record IsSeenPartByMeans (plane : Waterplane) (first last : ℤ) (t : Triangle Position) (h k l : Fraction) : Type 0 where
  pub constant : seen_part plane first last (λ p. one) (λ p. one) t ≡ seen_area plane t ⊗ inverse (whole (pos 2)) ⊗ wet_share h k l
  pub linear : (f : Position → Fraction) → seen_part plane first last f (λ p. one) t
      ≡ seen_area plane t ⊗ inverse (whole (pos 2)) ⊗ (f t.a ⊗ wet_corner 0 h k l ⊕ f t.b ⊗ wet_corner 1 h k l ⊕ f t.c ⊗ wet_corner 2 h k l)
  pub square : (f : Position → Fraction) → seen_part plane first last f f t
      ≡ seen_area plane t ⊗ inverse (whole (pos 2)) ⊗ ((f t.a ⊗ f t.a) ⊗ wet_pair 0 0 h k l ⊕ (f t.a ⊗ f t.b ⊗ whole (pos 2)) ⊗ wet_pair 0 1 h k l ⊕ (f t.a ⊗ f t.c ⊗ whole (pos 2)) ⊗ wet_pair 0 2 h k l
      ⊕ (f t.b ⊗ f t.b) ⊗ wet_pair 1 1 h k l ⊕ (f t.b ⊗ f t.c ⊗ whole (pos 2)) ⊗ wet_pair 1 2 h k l ⊕ (f t.c ⊗ f t.c) ⊗ wet_pair 2 2 h k l)

abbrev pub SeenPartsAreKnownByMeans : Type 0
SeenPartsAreKnownByMeans = (plane : Waterplane) (first last : ℤ) (t : Triangle Position) → IsSeenPartByMeans plane first last t (depth plane first last t.a) (depth plane first last t.b) (depth plane first last t.c)

-- the area of a face of nodes that is seen along the height, by the area vector that the face has
abbrev pub AreasAreKnownByVectors : Type 0
AreasAreKnownByVectors = (plane : Waterplane) (t : Triangle Node) → seen_area plane (triangle_at t)
    ≡ negative (whole (pos plane.s) ⊗ whole (doubled_area t).y ⊕ whole (pos plane.c) ⊗ whole (doubled_area t).z) ⊗ inverse (whole (pos plane.r))
