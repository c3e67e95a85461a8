-- The fraction that a ratio is, and the order of two fractions.
use Rattle.std.specs.Prelude.{◌≡◌, ◌↔◌, ℕ, ◌<◌, ℤ, pos, negsuc, ◌≤ℤ◌}
use lib.Dec.{leb→le}
use Rattle.std.specs.Int.RustNames.{unsigned_abs}
use Rattle.std.specs.declared.cmp.Ordering.{Ordering}
use Rattle.std.specs.declared.cmp.Ordering.TheVariants.{Less, Equal, Greater}
use Rattle.exact_algebra.proofs.Fraction.{Fraction, over, ◌≺◌}
use Rattle.exact_fraction.specs.declared.ratio.Ratio.{Ratio}

-- a whole number that is at least 1 is above 0 in magnitude
above_zero : (z : ℤ) → pos 1 ≤ℤ z → 0 < unsigned_abs z
above_zero (pos n) h = leb→le 1 n h.le
above_zero (negsuc n) h = absurd h.le

-- the denominator as a natural number
abbrev pub denominator : Ratio → ℕ
denominator r = unsigned_abs r.den

pub denominator-positive : (r : Ratio) → 0 < denominator r
denominator-positive r = above_zero r.den r.bounds.positive

-- the fraction num / den
abbrev pub fraction_of : Ratio → Fraction
fraction_of r = over r.num (denominator r) (denominator-positive r)

-- the answer says which of two fractions is the lesser, or that they are equal
pub record IsOrderOf (x y : Fraction) (answer : Ordering) : Type 0 where
  pub less : (answer ≡ Less) ↔ (x ≺ y)
  pub equal : (answer ≡ Equal) ↔ (x ≡ y)
  pub greater : (answer ≡ Greater) ↔ (y ≺ x)

-- a ratio is the fraction of its numerator over its denominator
abbrev pub RatioIsNumeratorOverDenominator : Type 0
RatioIsNumeratorOverDenominator = (r : Ratio) (d : ℕ) (h : 0 < d) → r.den ≡ pos d → fraction_of r ≡ over r.num d h
