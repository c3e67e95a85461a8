-- What the limits of a hull say of its integrals, and of how wide their spans may be.
use Rattle.std.specs.Prelude.{◌≡◌, ◌^◌, pos}
use Rattle.exact_algebra.specs.OrderedField.{above}
use Rattle.exact_algebra.proofs.Fraction.{Fraction, nought, ◌⊕◌, ◌⊗◌, inverse, sign, ◌≼◌}
use Rattle.exact_algebra.proofs.Whole.{whole}
use Rattle.flux_moments.specs.declared.lid_sums.LidSums.{LidSums}
use Rattle.flux_moments.specs.declared.wet.Wet.{Wet}
use Rattle.outward_interval.specs.Widths.{unit_of, units, IsNarrow}
use Rattle.hydro_tables.specs.Figures.{Integrals}

-- no place of a hull lies so far from its origin, in mm
abbrev pub far : Fraction
far = whole (pos (2 ^ 20))

-- from 0 to m times y
abbrev pub IsPart : Fraction → Fraction → Fraction → Type 0
IsPart m y x = (nought ≼ x) × (x ≼ m ⊗ y)

-- the centre of the waterplane lies within that distance
abbrev pub HasCentre : (sx area : Fraction) → Type 0
HasCentre sx area = IsPart far area sx

-- a hull's integrals i, and how wide their spans may be
pub record AreLimited (w i : Integrals) : Type 0 where
  pub mx : IsPart far i.volume i.mx
  pub mu : IsPart far i.volume i.mu
  pub area : IsPart (whole (pos (2 ^ 13))) w.volume i.area
  pub sx : HasCentre i.sx i.area
  pub syy : IsPart (far ⊗ far) i.area i.syy
  pub sxx : IsPart (far ⊗ far) i.area i.sxx
  pub volume_width : whole (pos 2) ≼ w.volume
  pub mx_width : IsPart far w.volume w.mx
  pub mu_width : IsPart far w.volume w.mu
  pub area_width : IsPart (whole (pos (2 ^ 13))) w.volume w.area
  pub sx_width : IsPart far w.area w.sx
  pub syy_width : IsPart (far ⊗ far) w.area w.syy
  pub sxx_width : IsPart (far ⊗ far) w.area w.sxx
  pub some_width : sign i.area ≡ above → units 20 4 ≼ w.sxx

-- the spans of measured integrals are as narrow, that of the volume twice as narrow
pub record AreMeasured (w : Integrals) (below : Wet) (lid : LidSums) : Type 0 where
  pub volume : IsNarrow 20 (w.volume ⊗ inverse (whole (pos 2))) below.volume.lo below.volume.hi
  pub mx : IsNarrow 20 w.mx below.mx.lo below.mx.hi
  pub mu : IsNarrow 20 w.mu below.mu.lo below.mu.hi
  pub area : IsNarrow 20 w.area lid.area.lo lid.area.hi
  pub sx : IsNarrow 20 w.sx lid.sx.lo lid.sx.hi
  pub syy : IsNarrow 20 w.syy lid.syy.lo lid.syy.hi
  pub sxx : IsNarrow 20 w.sxx lid.sxx.lo lid.sxx.hi

-- of a product of a length and an integral: with m and n for how far these lie from 0, w and v for how wide they are
abbrev pub product_width : (m n w v : Fraction) → Fraction
product_width m n w v = ((m ⊗ v ⊕ n ⊗ w) ⊕ ((m ⊕ w) ⊗ n) ⊗ unit_of 60) ⊕ units 20 2
