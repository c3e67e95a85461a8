-- A row of the hydrostatic table: what its spans contain, and which are absent.
use Rattle.std.specs.Prelude.{◌↔◌, ◌⊎◌, ◌≤ℤ◌, pos, Option, IfSome, IsNone}
use Rattle.exact_algebra.proofs.Fraction.{Fraction}
use Rattle.exact_algebra.proofs.Span.{ContainsFraction}
use Rattle.hull_model.specs.declared.water.Water.{Water}
use Rattle.outward_interval.specs.Ends.{EndsBelow}
use Rattle.outward_interval.specs.declared.span.Span.{Span}
use Rattle.flux_moments.specs.declared.lid_sums.LidSums.{LidSums}
use Rattle.flux_moments.specs.declared.wet.Wet.{Wet}
use Rattle.hydro_tables.specs.Figures as figure
use Rattle.hydro_tables.specs.Figures.{Integrals}
use Rattle.hydro_tables.specs.declared.row.HydroRow.{HydroRow}

abbrev pub Holds : Span 20 → Fraction → Type 0
Holds s q = ContainsFraction 20 s.lo s.hi q

abbrev pub HoldsIfThere : Option (Span 20) → Fraction → Type 0
HoldsIfThere s q = IfSome s (λ s. Holds s q)

-- the integrals lie in what was measured
pub record AreEnclosed (below : Wet) (lid : LidSums) (i : Integrals) : Type 0 where
  pub volume : Holds below.volume i.volume
  pub mx : Holds below.mx i.mx
  pub mu : Holds below.mu i.mu
  pub area : Holds lid.area i.area
  pub sx : Holds lid.sx i.sx
  pub syy : Holds lid.syy i.syy
  pub sxx : Holds lid.sxx i.sxx

-- each span contains its figure
pub record HoldsFigures (i : Integrals) (water : Water) (row : HydroRow) : Type 0 where
  pub volume : Holds row.volume i.volume
  pub displacement : Holds row.displacement (figure.displacement i water)
  pub lcb : HoldsIfThere row.lcb (figure.lcb i)
  pub kb : HoldsIfThere row.kb (figure.kb i)
  pub area : Holds row.area i.area
  pub lcf : HoldsIfThere row.lcf (figure.lcf i)
  pub bmt : HoldsIfThere row.bmt (figure.bmt i)
  pub bml : HoldsIfThere row.bml (figure.bml i)
  pub kmt : HoldsIfThere row.kmt (figure.kmt i)
  pub tpc : Holds row.tpc (figure.tpc i water)
  pub mct : HoldsIfThere row.mct (figure.mct i water)

-- the span may hold nothing above 0
abbrev pub IsNoDivisor : Span 20 → Type 0
IsNoDivisor s = s.lo ≤ℤ pos 0

-- quotients are absent exactly where what they divide by may be nothing
pub record IsAbsentExactly (row : HydroRow) : Type 0 where
  pub lcb : IsNone row.lcb ↔ IsNoDivisor row.volume
  pub kb : IsNone row.kb ↔ IsNoDivisor row.volume
  pub lcf : IsNone row.lcf ↔ IsNoDivisor row.area
  pub bmt : IsNone row.bmt ↔ IsNoDivisor row.volume
  pub bml : IsNone row.bml ↔ (IsNoDivisor row.volume ⊎ IsNoDivisor row.area)
  pub kmt : IsNone row.kmt ↔ IsNoDivisor row.volume
  pub mct : IsNone row.mct ↔ (IsNoDivisor row.volume ⊎ IsNoDivisor row.area)

abbrev pub IsBounded : Span 20 → Type 0
IsBounded s = EndsBelow 96 s.lo s.hi

abbrev pub IsBoundedIfThere : Option (Span 20) → Type 0
IsBoundedIfThere s = IfSome s IsBounded

pub record AreBounded (row : HydroRow) : Type 0 where
  pub volume : IsBounded row.volume
  pub displacement : IsBounded row.displacement
  pub lcb : IsBoundedIfThere row.lcb
  pub kb : IsBoundedIfThere row.kb
  pub area : IsBounded row.area
  pub lcf : IsBoundedIfThere row.lcf
  pub bmt : IsBoundedIfThere row.bmt
  pub bml : IsBoundedIfThere row.bml
  pub kmt : IsBoundedIfThere row.kmt
  pub tpc : IsBounded row.tpc
  pub mct : IsBoundedIfThere row.mct
