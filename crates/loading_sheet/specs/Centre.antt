-- The centre of a loading, and the volume of water that it displaces.
use Rattle.std.specs.Prelude.{ℕ, ◌*◌, ◌^◌, pos}
use Rattle.exact_algebra.proofs.Fraction.{Fraction, ◌⊗◌, inverse}
use Rattle.exact_algebra.proofs.Whole.{whole}
use Rattle.hull_model.specs.declared.water.Water.{Water}
use Rattle.loading_sheet.specs.declared.loading.Loading.{Loading}

-- in mm: from x = 0, from the centreplane and above the base
abbrev pub x_g : Loading → Fraction
x_g loading = whole (pos loading.mx) ⊗ inverse (whole (pos loading.mass))

abbrev pub y_g : Loading → Fraction
y_g loading = whole loading.my ⊗ inverse (whole (pos loading.mass))

abbrev pub z_g : Loading → Fraction
z_g loading = whole (pos loading.mz) ⊗ inverse (whole (pos loading.mass))

-- in mm³: a mass in kg, over the density in kg per m³, of 10^9 mm³
abbrev pub displaced_by : ℕ → Water → Fraction
displaced_by mass water = whole (pos (mass * 10 ^ 9)) ⊗ inverse (whole (pos water.density))

abbrev pub displaced : Loading → Water → Fraction
displaced loading water = displaced_by loading.mass water
