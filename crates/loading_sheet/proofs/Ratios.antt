-- The fraction that a ratio is, by its numerator and denominator.
use Rattle.std.proofs.Common.{◌≡◌, ◌∙◌, ap, ℕ, ℤ, pos, unsigned_abs}
use Rattle.exact_algebra.proofs.Fraction.{◌⊗◌, inverse}
use Rattle.exact_algebra.proofs.Whole.{whole, over_is}
use Rattle.exact_fraction.specs.Fraction.{fraction_of, denominator, denominator-positive}
use Rattle.exact_fraction.specs.declared.ratio.Ratio.{Ratio}

pub ratio_is : (r : Ratio) (n : ℤ) (d : ℕ) → r.num ≡ n → r.den ≡ pos d → fraction_of r ≡ whole n ⊗ inverse (whole (pos d))
ratio_is r n d num den = over_is r.num (denominator r) (denominator-positive r)
    ∙ (ap (λ (z : ℤ). whole z ⊗ inverse (whole (pos (denominator r)))) num
    ∙ ap (λ (z : ℤ). whole n ⊗ inverse (whole (pos (unsigned_abs z)))) den)
