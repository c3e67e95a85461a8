-- The submerged body at a waterplane, and its volume and integrals.
use Rattle.std.specs.Prelude.{◌≡◌, ℤ, pos, List, [], ◌∷◌}
use Rattle.std.specs.List.{flat_map, AllByRecursion}
use Rattle.exact_algebra.proofs.Fraction.{Fraction, ◌⊕◌, ◌⊗◌, ◌⊖◌, inverse}
use Rattle.exact_algebra.proofs.Whole.{whole}
use Rattle.hull_model.specs.declared.node.Node.{Node}
use Rattle.hull_model.specs.declared.station.Station.{Station}
use Rattle.hull_model.specs.Fractions.{magnitude, sum_over}
use Rattle.hull_model.specs.TetrahedronCut.{Tetrahedron, with_corners, uncut, split, pieces, kept_pieces}
use Rattle.hull_model.specs.Tetrahedra.{hull_tetrahedra}
use Rattle.hull_model.specs.Waterplane.{Waterplane, Position, position_of, height, side_distance, under}

-- x of the first and of the last station
abbrev pub first_x : List Station → ℤ
first_x [] = pos 0
first_x (s ∷ rest) = s.x

abbrev pub last_x : List Station → ℤ
last_x [] = pos 0
last_x (s ∷ []) = s.x
last_x (s ∷ next ∷ rest) = last_x (next ∷ rest)

-- the kept pieces of tetrahedra, one after another
abbrev pub submerged : Waterplane → ℤ → ℤ → List (Tetrahedron Position) → List (Tetrahedron Position)
submerged plane first last tets = flat_map (kept_pieces (under plane first last)) tets

-- the same of tetrahedra with nodes as corners
unfoldable pub submerged_pieces : Waterplane → ℤ → ℤ → List (Tetrahedron Node) → List (Tetrahedron Position)
submerged_pieces plane first last tets = flat_map (λ t. kept_pieces (under plane first last) (with_corners position_of t)) tets

-- those of a hull
abbrev pub submerged_body : Waterplane → List Station → List (Tetrahedron Position)
submerged_body plane stations = submerged_pieces plane (first_x stations) (last_x stations) (hull_tetrahedra stations)

-- six times the volume, above or below 0 by the turn of the corners
unfoldable pub determinant : Tetrahedron Position → Fraction
determinant t =
    (t.b.x ⊖ t.a.x) ⊗ ((t.c.y ⊖ t.a.y) ⊗ (t.d.z ⊖ t.a.z) ⊖ (t.c.z ⊖ t.a.z) ⊗ (t.d.y ⊖ t.a.y))
    ⊕ (t.b.y ⊖ t.a.y) ⊗ ((t.c.z ⊖ t.a.z) ⊗ (t.d.x ⊖ t.a.x) ⊖ (t.c.x ⊖ t.a.x) ⊗ (t.d.z ⊖ t.a.z))
    ⊕ (t.b.z ⊖ t.a.z) ⊗ ((t.c.x ⊖ t.a.x) ⊗ (t.d.y ⊖ t.a.y) ⊖ (t.c.y ⊖ t.a.y) ⊗ (t.d.x ⊖ t.a.x))

abbrev pub volume_of : Tetrahedron Position → Fraction
volume_of t = magnitude (determinant t) ⊗ inverse (whole (pos 6))

-- the mean over a tetrahedron of a function that is linear
abbrev pub mean_of : (Position → Fraction) → Tetrahedron Position → Fraction
mean_of f t = (f t.a ⊕ f t.b ⊕ f t.c ⊕ f t.d) ⊗ inverse (whole (pos 4))

abbrev pub integral : (Position → Fraction) → List (Tetrahedron Position) → Fraction
integral f pieces = sum_over (λ t. volume_of t ⊗ mean_of f t) pieces

module _ (plane : Waterplane) (stations : List Station) where
  -- the volume in mm³
  unfoldable pub submerged_volume : Fraction
  submerged_volume = sum_over volume_of (submerged_body plane stations)

  -- the integrals in mm⁴: of x, of the distance towards the low side, and of the height square to the direction
  unfoldable pub mx : Fraction
  mx = integral (λ p. p.x) (submerged_body plane stations)

  unfoldable pub mv : Fraction
  mv = integral (side_distance plane) (submerged_body plane stations)

  unfoldable pub mu : Fraction
  mu = integral (height plane) (submerged_body plane stations)

-- the pieces that a tetrahedron is cut into have no edge left to split, at any waterplane
abbrev pub NoEdgeIsLeftToSplit : Type 0
NoEdgeIsLeftToSplit = (plane : Waterplane) (first last : ℤ) (t : Tetrahedron Position) → AllByRecursion (λ p. split (under plane first last) p ≡ uncut) (pieces (under plane first last) 4 t)
