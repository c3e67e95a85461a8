-- Whole numbers that are small in magnitude: their products, sums and differences fit their types.
use Rattle.std.proofs.Common.{ℕ, ◌+◌, ◌^◌, ◌<◌, ◌≤◌, ℤ, ◌+ℤ◌, ◌-ℤ◌, ◌*ℤ◌, unsigned_abs, arith}
use Rattle.std.proofs.lemmas.Int.{ints, fits_signed_from_abs, unsigned_abs-mul}
use Rattle.std.proofs.Math.Nat.{mul-le-mul}
use Rattle.std.specs.Int.{w64, w128}
use mir.Val.{SFits, hbits}
use Rattle.exact_fraction.specs.Bounds.{MagnitudeBelow}

pub fits_64 : (z : ℤ) → unsigned_abs z < 2 ^ 63 → SFits w64 z
fits_64 z h = fits_signed_from_abs w64 z (omega arith)

pub fits_128 : (z : ℤ) → unsigned_abs z < 2 ^ 127 → SFits w128 z
fits_128 z h = fits_signed_from_abs w128 z (below h)
  where
    below : {n : ℕ} → n < 2 ^ 127 → n < 2 ^ hbits w128
    below h = omega arith

pub short_product : (a b : ℤ) → MagnitudeBelow 20 a → MagnitudeBelow 20 b → MagnitudeBelow 40 (a *ℤ b)
short_product a b h i = omega (arith, unsigned_abs-mul a b, mul-le-mul (least h) (least i))
  where
    least : {k : ℕ} → k < 2 ^ 20 → k ≤ 1048575
    least h = omega arith

pub sum_below : (bound : ℕ) (a b : ℤ) → unsigned_abs a < bound → unsigned_abs b < bound → unsigned_abs (a +ℤ b) < bound + bound
sum_below bound a b h i = omega (arith, ints)

pub difference_below : (bound : ℕ) (a b : ℤ) → unsigned_abs a < bound → unsigned_abs b < bound → unsigned_abs (a -ℤ b) < bound + bound
difference_below bound a b h i = omega (arith, ints)
