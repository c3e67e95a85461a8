-- The law of the lid: the integrals over it are sums over the wet parts of the faces around what is submerged.
use Rattle.std.specs.Prelude.{◌≡◌, ℤ, List, map}
use Rattle.std.specs.List.{AllByRecursion}
use Rattle.exact_algebra.proofs.Fraction.{Fraction, one}
use Rattle.hull_model.specs.declared.node.Node.{Node}
use Rattle.hull_model.specs.declared.station.Station.{Station}
use Rattle.hull_model.specs.Body.{IsHull}
use Rattle.hull_model.specs.Boundary.{AreBalanced}
use Rattle.hull_model.specs.Fractions.{sum_over}
use Rattle.hull_model.specs.Lid.{lids, level_area, first_moment, second_moment, lid_area, lid_x, lid_yy, lid_xx}
use Rattle.hull_model.specs.SignedFaces.{Signed, signed_faces}
use Rattle.hull_model.specs.Submerged.{first_x, last_x, submerged_pieces}
use Rattle.hull_model.specs.TetrahedronCut.{Tetrahedron}
use Rattle.hull_model.specs.TriangleCut.{Triangle}
use Rattle.hull_model.specs.Waterplane.{Position, upright, under}
use Rattle.hull_polyhedron.specs.CentralLaw.{PointsOutwards, solids, all_outward_faces}
use Rattle.hull_polyhedron.specs.Columns.{triangle_at, seen_sum}

-- the integrals over the lids of pieces are sums over the wet parts of faces, as they are seen from above
pub record AreLidSums (at : Fraction) (first last : ℤ) (pieces : List (Tetrahedron Position)) (faces : List (Triangle Position)) : Type 0 where
  pub area : sum_over level_area (lids (under (upright at) first last) pieces) ≡ seen_sum (upright at) first last (λ p. one) (λ p. one) faces
  pub x : sum_over (first_moment (λ p. p.x)) (lids (under (upright at) first last) pieces) ≡ seen_sum (upright at) first last (λ p. p.x) (λ p. one) faces
  pub yy : sum_over (second_moment (λ p. p.y)) (lids (under (upright at) first last) pieces) ≡ seen_sum (upright at) first last (λ p. p.y) (λ p. p.y) faces
  pub xx : sum_over (second_moment (λ p. p.x)) (lids (under (upright at) first last) pieces) ≡ seen_sum (upright at) first last (λ p. p.x) (λ p. p.x) faces

-- at every level, of any signed tetrahedra, over all faces that are balanced against their outward faces
abbrev pub LidLawOfSolids : Type 0
LidLawOfSolids = (at : Fraction) (first last : ℤ) (ss : List Signed) → AllByRecursion PointsOutwards ss → (faces : List (Triangle Node)) → AreBalanced faces (all_outward_faces ss)
    → AreLidSums at first last (submerged_pieces (upright at) first last (solids ss)) (map triangle_at faces)

-- a sum over the wet parts of faces of a hull, as they are seen from above
abbrev pub seen_from_above : Fraction → List Station → (Position → Fraction) → (Position → Fraction) → List (Triangle Node) → Fraction
seen_from_above at stations f g faces = seen_sum (upright at) (first_x stations) (last_x stations) f g (map triangle_at faces)

-- the integrals over the lid of a hull are sums over the wet parts of these faces
pub record LidIsSummedByFaces (at : Fraction) (stations : List Station) (faces : List (Triangle Node)) : Type 0 where
  pub area : lid_area at stations ≡ seen_from_above at stations (λ p. one) (λ p. one) faces
  pub x : lid_x at stations ≡ seen_from_above at stations (λ p. p.x) (λ p. one) faces
  pub yy : lid_yy at stations ≡ seen_from_above at stations (λ p. p.y) (λ p. p.y) faces
  pub xx : lid_xx at stations ≡ seen_from_above at stations (λ p. p.x) (λ p. p.x) faces

-- at every level, over all faces that are balanced against the signed faces of the hull's tetrahedra
abbrev pub LidLaw : Type 0
LidLaw = (at : Fraction) (stations : List Station) → IsHull stations → (faces : List (Triangle Node)) → AreBalanced faces (signed_faces stations) → LidIsSummedByFaces at stations faces
