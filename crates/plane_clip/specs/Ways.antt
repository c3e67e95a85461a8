-- Parts of an edge between two x, as quotients of whole numbers.
use Rattle.std.specs.Prelude.{Bool, true, false, ℤ, ◌≤ℤ◌, ◌<ℤ◌, ◌⊎◌}
use Rattle.exact_algebra.proofs.Fraction.{Fraction, ◌⊗◌, ◌⊖◌, inverse}
use Rattle.exact_algebra.proofs.Whole.{whole}

-- a place from one x to another, which differ
abbrev pub IsOnWay : ℤ → ℤ → ℤ → Type 0
IsOnWay at x y = ((x ≤ℤ at) × (at ≤ℤ y) × (x <ℤ y)) ⊎ ((y ≤ℤ at) × (at ≤ℤ x) × (y <ℤ x))

-- the part at c of the way from a to b
abbrev pub part_to : Fraction → Fraction → Fraction → Fraction
part_to a b c = (a ⊖ c) ⊗ inverse ((a ⊖ c) ⊖ (b ⊖ c))

abbrev pub quotient_of : ℤ → ℤ → Fraction
quotient_of n d = whole n ⊗ inverse (whole d)

-- on opposite sides of a place, whichever side is kept
abbrev pub AreSides : ℤ → ℤ → ℤ → Bool → Bool → Type 0
AreSides at x y true false = IsOnWay at x y
AreSides at x y false true = IsOnWay at x y
AreSides at x y true true = Unit {0}
AreSides at x y false false = Unit {0}
