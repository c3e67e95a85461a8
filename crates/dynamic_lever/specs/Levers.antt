-- Levers of a loading against heel, and what makes the ship stand upright: the figures at a plane, and how wide their spans may be.
use Rattle.std.specs.Prelude.{◌≡◌, pos, neg_ℤ, List}
use Rattle.std.specs.Int.RustNames.{unsigned_abs}
use Rattle.exact_algebra.proofs.Fraction.{Fraction, ◌⊕◌, ◌⊗◌, ◌⊖◌, inverse}
use Rattle.exact_algebra.proofs.Whole.{whole}
use Rattle.hull_model.specs.declared.station.Station.{Station}
use Rattle.hull_model.specs.declared.water.Water.{Water}
use Rattle.hull_model.specs.Lid.{lid_yy}
use Rattle.hull_model.specs.Submerged as submerged
use Rattle.hull_model.specs.Waterplane.{Waterplane, upright}
use Rattle.loading_sheet.specs.Centre.{displaced, y_g, z_g}
use Rattle.loading_sheet.specs.declared.loading.Loading.{Loading}
use Rattle.outward_interval.specs.Widths.{unit_of}
use Rattle.dynamic_lever.specs.Sides.{port, starboard}

module _ (loading : Loading) (water : Water) where
  -- an integral over the displaced volume
  abbrev pub over_volume : Fraction → Fraction
  over_volume m = m ⊗ inverse (displaced loading water)

-- where the centre lies at a plane that heels the ship to port, with the centre's y turned over for starboard: how far towards the low
-- side, and how high
module _ (loading : Loading) (plane : Waterplane) (side : Fraction) where
  open plane use {c, s, r}

  abbrev pub centre_side : Fraction
  centre_side = (whole (pos s) ⊗ z_g loading ⊖ side ⊗ (whole (pos c) ⊗ y_g loading)) ⊗ inverse (whole (pos r))

  abbrev pub centre_height : Fraction
  centre_height = (whole (pos c) ⊗ z_g loading ⊕ side ⊗ (whole (pos s) ⊗ y_g loading)) ⊗ inverse (whole (pos r))

module _ (loading : Loading) (water : Water) (plane : Waterplane) where
  -- the lever and the separation of a side, by the integrals of the distance towards the low side and of the height
  abbrev pub gz_by : (mv side : Fraction) → Fraction
  gz_by mv side = over_volume loading water mv ⊖ centre_side loading plane side

  abbrev pub separation_by : (mu side : Fraction) → Fraction
  separation_by mu side = centre_height loading plane side ⊖ over_volume loading water mu

  module _ (stations : List Station) where
    -- how far towards the low side the centre of buoyancy would lie, if the body below the plane were the displaced volume
    abbrev pub kn : Fraction
    kn = over_volume loading water (submerged.mv plane stations)

    abbrev pub gz : Fraction → Fraction
    gz side = gz_by (submerged.mv plane stations) side

    abbrev pub separation : Fraction → Fraction
    separation side = separation_by (submerged.mu plane stations) side

-- upright: by the integrals of the height and of the lid's y²
module _ (loading : Loading) (water : Water) where
  abbrev pub gm_by : (mu syy : Fraction) → Fraction
  gm_by mu syy = (over_volume loading water mu ⊕ over_volume loading water syy) ⊖ z_g loading

  module _ (at : Fraction) (stations : List Station) where
    abbrev pub kb : Fraction
    kb = over_volume loading water (submerged.mu (upright at) stations)

    abbrev pub bm : Fraction
    bm = over_volume loading water (lid_yy at stations)

    abbrev pub gm : Fraction
    gm = gm_by (submerged.mu (upright at) stations) (lid_yy at stations)

-- ---- how wide spans may be
-- the height of the centre and its distance from the centreplane, together
abbrev pub distance_of_centre : Loading → Fraction
distance_of_centre loading = z_g loading ⊕ whole (pos (unsigned_abs loading.my)) ⊗ inverse (whole (pos loading.mass))

module _ (loading : Loading) (water : Water) where
  -- of an integral that is no wider than w, over the displaced volume
  abbrev pub quotient_bound : Fraction → Fraction
  quotient_bound w = over_volume loading water w ⊕ unit_of 16

  -- of a lever, where cosine and sine are no wider than e
  abbrev pub lever_bound : (w e : Fraction) → Fraction
  lever_bound w e = (over_volume loading water w ⊕ distance_of_centre loading ⊗ e) ⊕ unit_of 16

-- ---- laws
-- with the centre on the centreplane both sides are alike
pub record SidesAreEqual : Type 0 where
  pub gz : (loading : Loading) (water : Water) (plane : Waterplane) (stations : List Station) → loading.my ≡ pos 0 → gz loading water plane stations port ≡ gz loading water plane stations starboard
  pub separation : (loading : Loading) (water : Water) (plane : Waterplane) (stations : List Station) → loading.my ≡ pos 0 → separation loading water plane stations port ≡ separation loading water plane stations starboard

-- the same loading on the other side
pub record AreMirrored (one other : Loading) : Type 0 where
  pub mass : one.mass ≡ other.mass
  pub my : one.my ≡ neg_ℤ other.my
  pub mz : one.mz ≡ other.mz

pub record SidesAreMirrorImages : Type 0 where
  pub gz : (one other : Loading) (water : Water) (plane : Waterplane) (stations : List Station) → AreMirrored one other → gz one water plane stations starboard ≡ gz other water plane stations port
  pub separation : (one other : Loading) (water : Water) (plane : Waterplane) (stations : List Station) → AreMirrored one other → separation one water plane stations starboard ≡ separation other water plane stations port
