-- Flooded integrals: what is left of the volume and the integrals under a waterplane where slabs of the ship are flooded.
use Rattle.std.specs.Prelude.{ℤ, pos, List}
use Rattle.std.specs.List.{flat_map}
use Rattle.exact_algebra.proofs.Fraction.{Fraction, ◌⊗◌, ◌⊖◌, inverse}
use Rattle.exact_algebra.proofs.Whole.{whole}
use Rattle.hull_model.specs.declared.node.Node.{Node}
use Rattle.hull_model.specs.declared.slab.Slab.{Slab}
use Rattle.hull_model.specs.declared.station.Station.{Station}
use Rattle.hull_model.specs.Fractions.{interpolated, sum_over}
use Rattle.hull_model.specs.TriangleCut.{Corners}
use Rattle.hull_model.specs.TetrahedronCut.{Tetrahedron, with_corners, kept_pieces}
use Rattle.hull_model.specs.Tetrahedra.{hull_tetrahedra}
use Rattle.hull_model.specs.Waterplane.{Waterplane, Position, position_of, height, side_distance}
use Rattle.hull_model.specs.Submerged.{first_x, last_x, submerged, submerged_body, volume_of, mean_of}

-- ---- the parts between two places along the ship
-- corners for a cut by a function of positions that is linear: kept is where it isn't below 0
abbrev pub cut_by : (Position → Fraction) → Corners Position
cut_by f = record {
  depth = f;
  between = λ t p q. record { x = interpolated t p.x q.x; y = interpolated t p.y q.y; z = interpolated t p.z q.z };
}

-- how far a position lies forward of a place, and how far aft of it
abbrev pub forward_of : ℤ → Position → Fraction
forward_of place p = p.x ⊖ whole place

abbrev pub aft_of : ℤ → Position → Fraction
aft_of place p = whole place ⊖ p.x

-- the pieces of a tetrahedron from one place to another: cut first at the aft plane and then at the fore plane
unfoldable pub pieces_between : ℤ → ℤ → Tetrahedron Position → List (Tetrahedron Position)
pieces_between aft fore t = flat_map (kept_pieces (cut_by (aft_of fore))) (kept_pieces (cut_by (forward_of aft)) t)

-- those of tetrahedra, one after another
unfoldable pub all_between : ℤ → ℤ → List (Tetrahedron Node) → List (Tetrahedron Position)
all_between aft fore tets = flat_map (λ t. pieces_between aft fore (with_corners position_of t)) tets

-- the submerged pieces of the part of a hull from one place to another
unfoldable pub submerged_between : Waterplane → List Station → ℤ → ℤ → List (Tetrahedron Position)
submerged_between plane stations aft fore = submerged plane (first_x stations) (last_x stations) (all_between aft fore (hull_tetrahedra stations))

-- how much of a slab floods
abbrev pub flooded_share : Slab → Fraction
flooded_share s = whole (pos s.permeability) ⊗ inverse (whole (pos 1000))

module _ (plane : Waterplane) (stations : List Station) (slabs : List Slab) where
  -- what is left of a sum over the submerged pieces: that of the whole hull, less the flooded share of that of each slab
  abbrev pub what_is_left : (Tetrahedron Position → Fraction) → Fraction
  what_is_left term = sum_over term (submerged_body plane stations) ⊖ sum_over (λ s. flooded_share s ⊗ sum_over term (submerged_between plane stations s.aft s.fore)) slabs

  -- what is left of the integral of a function that is linear
  abbrev pub integral_left : (Position → Fraction) → Fraction
  integral_left f = what_is_left (λ t. volume_of t ⊗ mean_of f t)

  -- the volume in mm³
  unfoldable pub volume_left : Fraction
  volume_left = what_is_left volume_of

  -- the integrals in mm⁴: of x, of the distance towards the low side, and of the height square to the direction
  unfoldable pub mx_left : Fraction
  mx_left = integral_left (λ p. p.x)

  unfoldable pub mv_left : Fraction
  mv_left = integral_left (side_distance plane)

  unfoldable pub mu_left : Fraction
  mu_left = integral_left (height plane)
