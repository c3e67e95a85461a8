-- The central law: volumes and integrals under a waterplane are column sums over the faces around what is submerged.
use Rattle.std.specs.Prelude.{◌≡◌, Bool, true, false, ℤ, List, map}
use Rattle.std.specs.List.{flat_map, AllByRecursion}
use Rattle.exact_algebra.proofs.Fraction.{nought, one, ◌≼◌}
use Rattle.hull_model.specs.declared.node.Node.{Node}
use Rattle.hull_model.specs.declared.station.Station.{Station}
use Rattle.hull_model.specs.Body.{IsHull}
use Rattle.hull_model.specs.Boundary.{AreBalanced}
use Rattle.hull_model.specs.Fractions.{sum_over}
use Rattle.hull_model.specs.TriangleCut.{Triangle}
use Rattle.hull_model.specs.TetrahedronCut.{Tetrahedron, with_corners, kept_pieces}
use Rattle.hull_model.specs.SignedFaces.{Signed, turned, faces_in_order, outward_faces, signed_faces}
use Rattle.hull_model.specs.Waterplane.{Waterplane, Position, position_of, height, side_distance, under}
use Rattle.hull_model.specs.Submerged.{determinant, volume_of, integral, first_x, last_x, submerged_pieces, submerged_volume, mx, mv, mu}
use Rattle.hull_polyhedron.specs.Columns.{triangle_at, middle, column_sum}

-- volume and integrals over pieces are column sums over faces
pub record AreColumnSums (plane : Waterplane) (first last : ℤ) (pieces : List (Tetrahedron Position)) (faces : List (Triangle Position)) : Type 0 where
  pub volume : sum_over volume_of pieces ≡ column_sum plane first last (λ p. one) faces
  pub mx : integral (λ p. p.x) pieces ≡ column_sum plane first last (λ p. p.x) faces
  pub mv : integral (side_distance plane) pieces ≡ column_sum plane first last (side_distance plane) faces
  pub mu : integral (height plane) pieces ≡ column_sum plane first last (middle plane first last) faces

-- the faces of a tetrahedron in order, or each the other way round
abbrev pub faces_turned : Bool → Tetrahedron Position → List (Triangle Position)
faces_turned true t = faces_in_order t
faces_turned false t = map turned (faces_in_order t)

-- so they point outwards, or the volume is 0
abbrev pub PointOutwards : Bool → Tetrahedron Position → Type 0
PointOutwards true t = nought ≼ determinant t
PointOutwards false t = determinant t ≼ nought

-- the faces of a signed tetrahedron point out of it, or its volume is 0
abbrev pub PointsOutwards : Signed → Type 0
PointsOutwards s = PointOutwards s.outwards (with_corners position_of s.solid)

-- signed tetrahedra without their signs, and their outward faces
abbrev pub solids : List Signed → List (Tetrahedron Node)
solids ss = map (λ s. s.solid) ss

abbrev pub all_outward_faces : List Signed → List (Triangle Node)
all_outward_faces ss = flat_map outward_faces ss

-- at every waterplane, the integrals over the kept pieces of a tetrahedron are column sums over its outward faces
abbrev pub CentralLawOfTetrahedra : Type 0
CentralLawOfTetrahedra = (plane : Waterplane) (first last : ℤ) (outwards : Bool) (t : Tetrahedron Position) → PointOutwards outwards t
    → AreColumnSums plane first last (kept_pieces (under plane first last) t) (faces_turned outwards t)

-- the same of any signed tetrahedra, over all faces that are balanced against their outward faces
abbrev pub CentralLawOfSolids : Type 0
CentralLawOfSolids = (plane : Waterplane) (first last : ℤ) (ss : List Signed) → AllByRecursion PointsOutwards ss → (faces : List (Triangle Node)) → AreBalanced faces (all_outward_faces ss)
    → AreColumnSums plane first last (submerged_pieces plane first last (solids ss)) (map triangle_at faces)

-- the submerged volume of a hull and its integrals are column sums over these faces
pub record IsSummedByColumns (plane : Waterplane) (stations : List Station) (faces : List (Triangle Node)) : Type 0 where
  pub volume : submerged_volume plane stations ≡ column_sum plane (first_x stations) (last_x stations) (λ p. one) (map triangle_at faces)
  pub mx : mx plane stations ≡ column_sum plane (first_x stations) (last_x stations) (λ p. p.x) (map triangle_at faces)
  pub mv : mv plane stations ≡ column_sum plane (first_x stations) (last_x stations) (side_distance plane) (map triangle_at faces)
  pub mu : mu plane stations ≡ column_sum plane (first_x stations) (last_x stations) (middle plane (first_x stations) (last_x stations)) (map triangle_at faces)

-- at every waterplane, over all faces that are balanced against the signed faces of the hull's tetrahedra
abbrev pub CentralLaw : Type 0
CentralLaw = (plane : Waterplane) (stations : List Station) → IsHull stations → (faces : List (Triangle Node)) → AreBalanced faces (signed_faces stations) → IsSummedByColumns plane stations faces
