-- How large the parts of quotients are.
use Rattle.std.specs.Prelude.{◌≡◌, ℕ, ◌^◌, pos, ◌*ℤ◌, ◌≤ℤ◌, ◌<ℤ◌}
use Rattle.std.specs.Int.{int_min}
use Rattle.std.specs.Int.RustNames.{unsigned_abs}
use Rattle.outward_interval.specs.Ends.{EndsBelow}
use Rattle.outward_interval.specs.declared.span.Span.{Span}
use Rattle.flux_moments.specs.declared.lid_sums.LidSums.{LidSums}
use Rattle.flux_moments.specs.declared.wet.Wet.{Wet}

-- both ends of the moment over the divisor stay below 2^reach in magnitude
pub record IsSmallBeside (reach : ℕ) (divisor moment : Span 20) : Type 0 where
  pub low : pos (unsigned_abs moment.lo) <ℤ (divisor.lo *ℤ pos (2 ^ reach))
  pub high : pos (unsigned_abs moment.hi) <ℤ (divisor.lo *ℤ pos (2 ^ reach))

-- the same span, or one whose lower end is moved outwards to 0
pub record IsMoved (from to : Span 20) : Type 0 where
  pub low : int_min from.lo (pos 0) ≤ℤ to.lo
  pub high : to.hi ≡ from.hi

-- from 0 to 2^20 mm
pub record IsAboard (x : Span 20) : Type 0 where
  pub from : pos 0 ≤ℤ x.lo
  pub to : x.hi ≤ℤ pos (2 ^ 40)

-- the ends that measured integrals have
pub record AreWetEnds (below : Wet) : Type 0 where
  pub volume : EndsBelow 96 below.volume.lo below.volume.hi
  pub mx : EndsBelow 123 below.mx.lo below.mx.hi
  pub mu : EndsBelow 123 below.mu.lo below.mu.hi

pub record AreLidEnds (lid : LidSums) : Type 0 where
  pub area : EndsBelow 72 lid.area.lo lid.area.hi
  pub sx : EndsBelow 93 lid.sx.lo lid.sx.hi
  pub syy : EndsBelow 114 lid.syy.lo lid.syy.hi
  pub sxx : EndsBelow 114 lid.sxx.lo lid.sxx.hi
