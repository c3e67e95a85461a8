-- Figures that are printed of intervals.
use Rattle.std.specs.Prelude.{ℕ}
use Rattle.exact_algebra.proofs.Fraction.{Fraction}
use Rattle.exact_algebra.proofs.Span.{IsLeastSpanOf}
use Rattle.outward_interval.specs.Printed.{IsPrinted}
use Rattle.outward_interval.specs.declared.figure.Figure.{Figure}
use Rattle.outward_interval.specs.declared.span.Span.{Span}
use Rattle.intact_criteria.specs.Readings.{Ends, ends_of}

-- the figure of an enclosure, whose unit is this power of ten smaller than the figure's
pub record Shows (shift places : ℕ) (Encloses : Span 20 → Type 0) (f : Figure) : Type 0 where
  pub span : Span 20
  pub encloses : Encloses span
  pub printed : IsPrinted 20 shift places span.lo span.hi f.lo f.hi

-- the least span of a quantity, of which no end can be moved inwards
abbrev pub IsLeast : Fraction → Span 20 → Type 0
IsLeast q s = IsLeastSpanOf 20 s.lo s.hi q

-- a figure in m, or in m·rad, of the ends of an interval in mm or mm·rad
abbrev pub AreInMetres : Ends → Figure → Type 0
AreInMetres ends f = IsPrinted 20 3 6 ends.lo ends.hi f.lo f.hi

abbrev pub IsInMetres : Span 20 → Figure → Type 0
IsInMetres s f = AreInMetres (ends_of s) f
