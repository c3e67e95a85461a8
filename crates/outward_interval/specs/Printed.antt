-- Figures of spans.
use Rattle.std.specs.Prelude.{ℕ, ◌*◌, ◌^◌, ℤ, pos, ◌*ℤ◌}
use Rattle.exact_algebra.specs.Span.{IsFloor, IsCeiling}

-- low and high are the ends lo and hi of a span of scale F, divided by 10^shift, in units of 10^-places, rounded outwards
pub record IsPrinted (F shift places : ℕ) (lo hi low high : ℤ) : Type 0 where
  pub down : IsFloor (lo *ℤ pos (10 ^ places)) (2 ^ F * 10 ^ shift) low
  pub up : IsCeiling (hi *ℤ pos (10 ^ places)) (2 ^ F * 10 ^ shift) high
