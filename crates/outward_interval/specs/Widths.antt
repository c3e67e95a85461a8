-- How wide a span is and how far from 0 it lies, in the unit of the quantity.
use Rattle.std.specs.Prelude.{ℕ, suc, ◌^◌, ℤ, pos, negsuc}
use Rattle.exact_algebra.specs.Ring.{number_value}
use Rattle.exact_algebra.proofs.Fraction.{Fraction, ◌⊗◌, ◌⊖◌, negative, inverse, fraction_ring, ◌≼◌}
use Rattle.exact_algebra.proofs.Whole.{whole}
use Rattle.exact_algebra.proofs.Span.{in_units}

-- 2^-F
unfoldable pub unit_of : ℕ → Fraction
unit_of F = inverse (whole (pos (2 ^ F)))

-- so many units of 2^-F
abbrev pub units : ℕ → ℕ → Fraction
units F k = number_value fraction_ring.operations k ⊗ unit_of F

-- the span from lo to hi, in units of 2^-F, is no wider than w
pub record IsNarrow (F : ℕ) (w : Fraction) (lo hi : ℤ) : Type 0 where
  pub width : whole hi ⊖ whole lo ≼ in_units F w

-- it lies no farther than m from 0
pub record IsNear (F : ℕ) (m : Fraction) (lo hi : ℤ) : Type 0 where
  pub from : negative (in_units F m) ≼ whole lo
  pub to : whole hi ≼ in_units F m

-- the magnitude of the end that lies nearer to 0, which is 0 where 0 lies between the ends
abbrev pub nearer : ℤ → ℤ → ℕ
nearer (pos a) b = a
nearer (negsuc a) (pos b) = 0
nearer (negsuc a) (negsuc b) = suc b
