-- Column sums: integrals over the submerged body by the faces around it, each with the column of water between it and the waterplane.
use Rattle.std.specs.Prelude.{ℤ, pos, List}
use Rattle.exact_algebra.proofs.Fraction.{Fraction, ◌⊕◌, ◌⊗◌, ◌⊖◌, negative, inverse}
use Rattle.exact_algebra.proofs.Whole.{whole}
use Rattle.hull_model.specs.declared.node.Node.{Node}
use Rattle.hull_model.specs.Fractions.{sum_over}
use Rattle.hull_model.specs.FaceParts.{area_y, area_z}
use Rattle.hull_model.specs.TriangleCut.{Triangle, triangle}
use Rattle.hull_model.specs.Waterplane.{Waterplane, Position, position_of, height, level_at}
use Rattle.hull_model.specs.WetMean.{Place, product_mean, wet_mean}

-- a triangle of nodes among the positions
abbrev pub triangle_at : Triangle Node → Triangle Position
triangle_at t = triangle (position_of t.a) (position_of t.b) (position_of t.c)

-- the linear function over a triangle with these values at its corners
abbrev pub by_corners : Fraction → Fraction → Fraction → Place → Fraction
by_corners u v w p = p.first ⊗ u ⊕ p.second ⊗ v ⊕ p.third ⊗ w

module _ (plane : Waterplane) where
  open plane use {c, s, r}

  -- twice the area of a face seen along the height: above 0 where it points down
  unfoldable pub seen_area : Triangle Position → Fraction
  seen_area t = negative (whole (pos s) ⊗ area_y t ⊕ whole (pos c) ⊗ area_z t) ⊗ inverse (whole (pos r))

  module _ (first last : ℤ) where
    abbrev pub depth : Position → Fraction
    depth p = level_at plane first last p.x ⊖ height plane p

    -- the height of the middle of the column over a position
    abbrev pub middle : Position → Fraction
    middle p = height plane p ⊕ depth p ⊗ inverse (whole (pos 2))

    -- the integral over the column of a face, where f is the mean along the column over each position: the area seen, times the mean over
    -- the face of f times the depth, where the depth is above 0
    unfoldable pub column : (Position → Fraction) → Triangle Position → Fraction
    column f t =
        seen_area t ⊗ inverse (whole (pos 2))
        ⊗ wet_mean (product_mean (by_corners (f t.a) (f t.b) (f t.c)) (λ p. p.depth)) (depth t.a) (depth t.b) (depth t.c)

    abbrev pub column_sum : (Position → Fraction) → List (Triangle Position) → Fraction
    column_sum f faces = sum_over (column f) faces

    -- the integral over the wet part of a face, as it is seen along the height, of the product of two functions that are linear over it
    unfoldable pub seen_part : (Position → Fraction) → (Position → Fraction) → Triangle Position → Fraction
    seen_part f g t =
        seen_area t ⊗ inverse (whole (pos 2))
        ⊗ wet_mean (product_mean (by_corners (f t.a) (f t.b) (f t.c)) (by_corners (g t.a) (g t.b) (g t.c))) (depth t.a) (depth t.b) (depth t.c)

    abbrev pub seen_sum : (Position → Fraction) → (Position → Fraction) → List (Triangle Position) → Fraction
    seen_sum f g faces = sum_over (seen_part f g) faces
