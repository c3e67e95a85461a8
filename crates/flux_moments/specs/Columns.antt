-- The columns of a boundary's faces, and their sums.
use Rattle.std.specs.Prelude.{ℤ, pos, List}
use Rattle.exact_algebra.proofs.Fraction.{Fraction, one, ◌⊕◌, ◌⊗◌}
use Rattle.exact_algebra.proofs.Whole.{whole}
use Rattle.hull_model.specs.declared.face.Face.{Face}
use Rattle.hull_model.specs.declared.node.Node.{Node}
use Rattle.hull_model.specs.Fractions.{sum_over}
use Rattle.hull_model.specs.Waterplane.{Waterplane, Position, position_of, side_distance, upright}
use Rattle.hull_model.specs.WetMean.{wet_corner, wet_pair, weighted_depth}
use Rattle.hull_polyhedron.specs.Columns.{depth, middle, column, seen_part}
use Rattle.plane_clip.specs.Enclosure.{CornerDepths, mean_at}
pub use Rattle.plane_clip.specs.Parts.{face_at}

-- an area times the mean of the depth, where it is above 0, times a function that is linear over the triangle, by the depths and
-- the function's values at the corners
abbrev pub moment_at : CornerDepths → Fraction → Fraction → Fraction → Fraction → Fraction
moment_at d a u v w = ((mean_at (weighted_depth 0) d ⊗ a) ⊗ u ⊕ (mean_at (weighted_depth 1) d ⊗ a) ⊗ v) ⊕ (mean_at (weighted_depth 2) d ⊗ a) ⊗ w

-- the mean over the wet part of a function that is linear over the triangle, by the depths and its values at the corners, and that of its
-- square
abbrev pub linear_at : CornerDepths → Fraction → Fraction → Fraction → Fraction
linear_at d u v w = (mean_at (wet_corner 0) d ⊗ u ⊕ mean_at (wet_corner 1) d ⊗ v) ⊕ mean_at (wet_corner 2) d ⊗ w

abbrev pub square_at : CornerDepths → Fraction → Fraction → Fraction → Fraction
square_at d u v w =
    ((mean_at (wet_pair 0 0) d ⊗ (u ⊗ u) ⊕ mean_at (wet_pair 1 1) d ⊗ (v ⊗ v)) ⊕ mean_at (wet_pair 2 2) d ⊗ (w ⊗ w))
    ⊕ ((mean_at (wet_pair 0 1) d ⊗ (u ⊗ v) ⊕ mean_at (wet_pair 0 2) d ⊗ (u ⊗ w)) ⊕ mean_at (wet_pair 1 2) d ⊗ (v ⊗ w)) ⊗ whole (pos 2)

module _ (plane : Waterplane) (first last : ℤ) where
  abbrev pub depth_of : Node → Fraction
  depth_of n = depth plane first last (position_of n)

  -- the volume of a face's column, and the integral over it of a function, by its mean along the column
  abbrev pub column_volume : Face → Fraction
  column_volume f = column plane first last (λ p. one) (face_at f)

  abbrev pub column_integral : (Position → Fraction) → Face → Fraction
  column_integral g f = column plane first last g (face_at f)

  -- sums over faces
  abbrev pub columns_volume : List Face → Fraction
  columns_volume faces = sum_over column_volume faces

  abbrev pub columns_integral : (Position → Fraction) → List Face → Fraction
  columns_integral g faces = sum_over (column_integral g) faces

  abbrev pub columns_mx : List Face → Fraction
  columns_mx = columns_integral (λ p. p.x)

  abbrev pub columns_mv : List Face → Fraction
  columns_mv = columns_integral (side_distance plane)

  abbrev pub columns_mu : List Face → Fraction
  columns_mu = columns_integral (middle plane first last)

-- what is seen from above of the part of a face below a level, and the sum over faces
module _ (at : Fraction) (first last : ℤ) where
  abbrev pub lid_part : (Position → Fraction) → (Position → Fraction) → Face → Fraction
  lid_part f g face = seen_part (upright at) first last f g (face_at face)

  abbrev pub lid_parts : (Position → Fraction) → (Position → Fraction) → List Face → Fraction
  lid_parts f g faces = sum_over (lid_part f g) faces
