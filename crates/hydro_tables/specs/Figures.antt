-- The figures of the hydrostatic table, by the integrals over what is submerged and over the lid.
use Rattle.std.specs.Prelude.{ℕ, ◌^◌, pos, List}
use Rattle.exact_algebra.proofs.Fraction.{Fraction, ◌⊕◌, ◌⊗◌, ◌⊖◌, inverse}
use Rattle.exact_algebra.proofs.Whole.{whole}
use Rattle.hull_model.specs.declared.station.Station.{Station}
use Rattle.hull_model.specs.declared.water.Water.{Water}
use Rattle.hull_model.specs.Lid.{lid_area, lid_x, lid_yy, lid_xx}
use Rattle.hull_model.specs.Submerged as submerged
use Rattle.hull_model.specs.Waterplane.{upright}

-- at an upright level plane: the volume in mm³ and the integrals of x and of the height over it in mm⁴; the lid's area in mm², and the
-- integrals over it of x in mm³ and of y² and x² in mm⁴
pub record Integrals : Type 0 where
  pub volume : Fraction
  pub mx : Fraction
  pub mu : Fraction
  pub area : Fraction
  pub sx : Fraction
  pub syy : Fraction
  pub sxx : Fraction

-- of a hull at a draft in mm
abbrev pub integrals_of : List Station → ℕ → Integrals
integrals_of stations draft = record {
  volume = submerged.submerged_volume (upright (whole (pos draft))) stations;
  mx = submerged.mx (upright (whole (pos draft))) stations;
  mu = submerged.mu (upright (whole (pos draft))) stations;
  area = lid_area (whole (pos draft)) stations;
  sx = lid_x (whole (pos draft)) stations;
  syy = lid_yy (whole (pos draft)) stations;
  sxx = lid_xx (whole (pos draft)) stations;
}

-- over a number that isn't 0
infixl 7 ◌over◌
abbrev pub ◌over◌ : Fraction → Fraction → Fraction
a over b = a ⊗ inverse b

module _ (i : Integrals) where
  -- the centre of the volume, in mm: from x = 0, and above the base
  abbrev pub lcb : Fraction
  lcb = i.mx over i.volume

  abbrev pub kb : Fraction
  kb = i.mu over i.volume

  -- the centre of the waterplane, in mm from x = 0
  abbrev pub lcf : Fraction
  lcf = i.sx over i.area

  -- the metacentres above the centre of the volume, in mm
  abbrev pub bmt : Fraction
  bmt = i.syy over i.volume

  abbrev pub bml : Fraction
  bml = (i.sxx ⊖ i.area ⊗ (lcf ⊗ lcf)) over i.volume

  -- the transverse metacentre above the base, in mm
  abbrev pub kmt : Fraction
  kmt = kb ⊕ bmt

  module _ (water : Water) where
    open water use {density, length_bp}

    -- in t: 10^9 mm³ in a m³, 10^3 kg in a t
    abbrev pub displacement : Fraction
    displacement = (i.volume over whole (pos (10 ^ 9))) ⊗ (whole (pos density) over whole (pos 1000))

    -- in t/cm: 10^6 mm² in a m²
    abbrev pub tpc : Fraction
    tpc = ((i.area over whole (pos (10 ^ 6))) ⊗ (whole (pos density) over whole (pos 1000))) over whole (pos 100)

    -- in t·m/cm
    abbrev pub mct : Fraction
    mct = (displacement ⊗ (bml over whole (pos 1000))) over (whole (pos 100) ⊗ (whole (pos length_bp) over whole (pos 1000)))
