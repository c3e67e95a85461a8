-- The moments of what is left of a flooded hull against those of its load, and how wide what is read of them may be.
use Rattle.std.specs.Prelude.{◌≡◌, true, ℤ, List}
use Rattle.exact_algebra.proofs.Fraction.{Fraction, one, ◌⊕◌, ◌⊗◌, ◌⊖◌}
use Rattle.exact_algebra.proofs.Whole.{whole}
use Rattle.hull_model.specs.declared.station.Station.{Station}
use Rattle.hull_model.specs.declared.slab.Slab.{Slab}
use Rattle.hull_model.specs.declared.water.Water.{Water}
use Rattle.hull_model.specs.Body.{IsHull}
use Rattle.hull_model.specs.Flooded.{volume_left}
use Rattle.hull_model.specs.Slabs.{are_apart}
use Rattle.hull_model.specs.Submerged.{first_x, last_x}
use Rattle.hull_polyhedron.specs.FacesOf.{AreFacesOf}
use Rattle.hull_polyhedron.specs.DamageBox.{residual_last, residual_first}
use Rattle.flux_moments.specs.declared.plane_box.PlaneBox.{PlaneBox}
use Rattle.compartment_loss.specs.declared.flooded_hull.FloodedHull.{FloodedHull}
use Rattle.compartment_loss.specs.LeftWidths.{left_bound}
use Rattle.loading_sheet.specs.declared.loading.Loading.{Loading}
use Rattle.loading_sheet.specs.Centre.{displaced, x_g}
use Rattle.damage_box.specs.Planes.{plane_at}

-- the flooded hull is made of these stations, and no two of its slabs share more than a plane
pub record IsHullOf (flood : FloodedHull) (stations : List Station) : Type 0 where
  pub hull : IsHull stations
  pub faces : AreFacesOf stations flood.faces.now
  pub apart : are_apart flood.slabs.items ≡ true

-- the volume that is left at an upright plane by its levels
abbrev pub volume_at : List Station → List Slab → (a f : ℤ) → Fraction
volume_at stations slabs a f = volume_left (plane_at a f) stations slabs

module _ (loading : Loading) (water : Water) (stations : List Station) where
  -- the moment in mm⁴ that the load owes: of the volume that it displaces, at its centre, about the last station and about the first
  abbrev pub owed_last : Fraction
  owed_last = displaced loading water ⊗ (whole (last_x stations) ⊖ x_g loading)

  abbrev pub owed_first : Fraction
  owed_first = displaced loading water ⊗ (x_g loading ⊖ whole (first_x stations))

  module _ (slabs : List Slab) (a f : ℤ) where
    -- by how much the moments of what is left at a plane are above those that are owed
    abbrev pub last_at : Fraction
    last_at = residual_last stations slabs owed_last owed_first (plane_at a f)

    abbrev pub first_at : Fraction
    first_at = residual_first stations slabs owed_last owed_first (plane_at a f)

-- how wide the enclosure of the volume may be, and that of either residual
abbrev pub volume_width : FloodedHull → PlaneBox → Fraction
volume_width flood planes = left_bound flood planes

abbrev pub residual_width : FloodedHull → PlaneBox → Fraction
residual_width flood planes = (whole flood.faces.now.last_x ⊗ volume_width flood planes ⊕ whole flood.faces.now.last_x ⊗ volume_width flood planes) ⊕ one
