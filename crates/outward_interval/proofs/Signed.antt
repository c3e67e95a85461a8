-- What the code of spans passes on: numbers that fit 128 bits, and the order of ends.
use Rattle.std.proofs.Common.{ℤ, ◌≤ℤ◌, ◌-ℤ◌, ◌^◌, ◌<◌, ℕ, arith}
use Rattle.std.proofs.lemmas.Int.{ints, fits_signed_from_abs}
use Rattle.std.specs.Int.{w128}
use mir.Val.{SFits, hbits}
use Rattle.exact_fraction.specs.Bounds.{MagnitudeBelow}

-- what is below 2^126 in magnitude fits
pub fits : {z : ℤ} → MagnitudeBelow 126 z → SFits w128 z
fits {z} small = fits_signed_from_abs w128 z (below small)
  where
    below : {n : ℕ} → n < 2 ^ 126 → n < 2 ^ hbits w128
    below h = omega arith

pub ≤ℤ_trans : {a b c : ℤ} → a ≤ℤ b → b ≤ℤ c → a ≤ℤ c
≤ℤ_trans h k = omega (arith, ints)

pub difference_order : {a b c d : ℤ} → a ≤ℤ b → c ≤ℤ d → (a -ℤ d) ≤ℤ (b -ℤ c)
difference_order h k = omega (arith, ints)
