-- The inverse of a product, of a whole number and of an inverse.
use mathlib.Core.Path.{◌≡◌, refl, ◌∙◌, ap}
use mathlib.Core.List.{[], ◌∷◌}
use Prim.Native.Nat.{ℕ, ◌*◌, ◌<◌}
use lib.IntN.{pos}
use Rattle.exact_algebra.specs.Expression.{var, unit, ◌:*◌, opposite}
use Rattle.exact_algebra.specs.OrderedField.{above}
use Rattle.exact_algebra.proofs.Ring.{ring_from, none, given}
use Rattle.exact_algebra.proofs.Fraction.{Fraction, ◌⊗◌, inverse, sign, fractions, fraction_ring}
use Rattle.exact_algebra.proofs.Whole.{whole, whole-mul, positive-whole}
use Rattle.exact_algebra.proofs.Bounds as Bounds
use Rattle.exact_algebra.proofs.Order as Order

-- with p and q for the inverses: w = w x p y q = p q
pub inverse-mul : (x y : Fraction) → sign x ≡ above → sign y ≡ above → inverse (x ⊗ y) ≡ inverse x ⊗ inverse y
inverse-mul x y o n = ring_from fraction_ring (x ∷ y ∷ inverse x ∷ inverse y ∷ inverse (x ⊗ y) ∷ [])
    ((opposite (var 4), var 0 :* var 2, unit) ∷ (opposite (var 4 :* (var 0 :* var 2)), var 1 :* var 3, unit) ∷ (var 2 :* var 3, (var 0 :* var 1) :* var 4, unit) ∷ [])
    (given (Bounds.mul-inverse_positive fractions o) (given (Bounds.mul-inverse_positive fractions n) (given (Bounds.mul-inverse_positive fractions (Order.positive-mul fractions o n)) none)))
    (var 4) (var 2 :* var 3) refl

pub inverse-whole : (m n : ℕ) → 0 < m → 0 < n → inverse (whole (pos (m * n))) ≡ inverse (whole (pos m)) ⊗ inverse (whole (pos n))
inverse-whole m n h k = ap inverse (whole-mul (pos m) (pos n)) ∙ inverse-mul (whole (pos m)) (whole (pos n)) (positive-whole m h) (positive-whole n k)

pub inverse-inverse : (x : Fraction) → sign x ≡ above → inverse (inverse x) ≡ x
inverse-inverse x o = ring_from fraction_ring (x ∷ inverse x ∷ inverse (inverse x) ∷ [])
    ((opposite (var 2), var 0 :* var 1, unit) ∷ (var 0, var 1 :* var 2, unit) ∷ [])
    (given (Bounds.mul-inverse_positive fractions o) (given (Bounds.mul-inverse_positive fractions (Bounds.positive-inverse fractions o)) none)) (var 2) (var 0) refl
