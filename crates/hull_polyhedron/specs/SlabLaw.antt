-- The law of slabs: the integrals over the submerged part of a hull between two places, and so what is left of them where slabs flood, are
-- column sums over the parts of the faces between those places.
use Rattle.std.specs.Prelude.{◌≡◌, ℤ, List, map}
use Rattle.std.specs.List.{flat_map}
use Rattle.exact_algebra.proofs.Fraction.{Fraction, one, ◌⊗◌, ◌⊖◌}
use Rattle.hull_model.specs.declared.node.Node.{Node}
use Rattle.hull_model.specs.declared.slab.Slab.{Slab}
use Rattle.hull_model.specs.declared.station.Station.{Station}
use Rattle.hull_model.specs.Body.{IsHull}
use Rattle.hull_model.specs.Boundary.{AreBalanced}
use Rattle.hull_model.specs.FaceParts.{parts_between}
use Rattle.hull_model.specs.Flooded.{submerged_between, flooded_share, volume_left, mx_left, mv_left, mu_left}
use Rattle.hull_model.specs.Fractions.{sum_over}
use Rattle.hull_model.specs.TriangleCut.{Triangle}
use Rattle.hull_model.specs.SignedFaces.{signed_faces}
use Rattle.hull_model.specs.Waterplane.{Waterplane, Position, height, side_distance}
use Rattle.hull_model.specs.Submerged.{volume_of, integral, first_x, last_x}
use Rattle.hull_polyhedron.specs.Columns.{triangle_at, middle, column_sum}

-- the column sum over faces, and over their parts from one place to another
abbrev pub face_columns : Waterplane → List Station → List (Triangle Node) → (Position → Fraction) → Fraction
face_columns plane stations faces f = column_sum plane (first_x stations) (last_x stations) f (map triangle_at faces)

abbrev pub columns_between : Waterplane → List Station → List (Triangle Node) → ℤ → ℤ → (Position → Fraction) → Fraction
columns_between plane stations faces aft fore f = column_sum plane (first_x stations) (last_x stations) f (flat_map (parts_between aft fore) (map triangle_at faces))

-- volume and integrals of the submerged part of a hull from one place to another are column sums over parts of these faces
pub record IsSummedBetween (plane : Waterplane) (stations : List Station) (aft fore : ℤ) (faces : List (Triangle Node)) : Type 0 where
  pub volume : sum_over volume_of (submerged_between plane stations aft fore) ≡ columns_between plane stations faces aft fore (λ p. one)
  pub mx : integral (λ p. p.x) (submerged_between plane stations aft fore) ≡ columns_between plane stations faces aft fore (λ p. p.x)
  pub mv : integral (side_distance plane) (submerged_between plane stations aft fore) ≡ columns_between plane stations faces aft fore (side_distance plane)
  pub mu : integral (height plane) (submerged_between plane stations aft fore) ≡ columns_between plane stations faces aft fore (middle plane (first_x stations) (last_x stations))

-- at every waterplane and between any two places, over all faces that are balanced against the signed faces of the hull's tetrahedra
abbrev pub SlabLaw : Type 0
SlabLaw = (plane : Waterplane) (stations : List Station) → IsHull stations → (faces : List (Triangle Node)) → AreBalanced faces (signed_faces stations) → (aft fore : ℤ) → IsSummedBetween plane stations aft fore faces

-- what is left of a column sum: that over the faces, less the flooded share of that over their parts in each slab
abbrev pub columns_left : Waterplane → List Station → List Slab → List (Triangle Node) → (Position → Fraction) → Fraction
columns_left plane stations slabs faces f = face_columns plane stations faces f ⊖ sum_over (λ s. flooded_share s ⊗ columns_between plane stations faces s.aft s.fore f) slabs

-- what is left of the volume and the integrals where slabs flood
pub record IsLeftByColumns (plane : Waterplane) (stations : List Station) (slabs : List Slab) (faces : List (Triangle Node)) : Type 0 where
  pub volume : volume_left plane stations slabs ≡ columns_left plane stations slabs faces (λ p. one)
  pub mx : mx_left plane stations slabs ≡ columns_left plane stations slabs faces (λ p. p.x)
  pub mv : mv_left plane stations slabs ≡ columns_left plane stations slabs faces (side_distance plane)
  pub mu : mu_left plane stations slabs ≡ columns_left plane stations slabs faces (middle plane (first_x stations) (last_x stations))

abbrev pub FloodedLaw : Type 0
FloodedLaw = (plane : Waterplane) (stations : List Station) → IsHull stations → (faces : List (Triangle Node)) → AreBalanced faces (signed_faces stations) → (slabs : List Slab) → IsLeftByColumns plane stations slabs faces
