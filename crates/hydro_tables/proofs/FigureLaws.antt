-- Each figure by the quotient that the code takes.
use Rattle.std.proofs.Common.{ℕ, ◌≡◌, refl, ◌∙◌, ap, ◌*◌, ◌^◌, ◌<◌, ◌≤◌, pos, [], ◌∷◌, arith}
use Rattle.exact_algebra.specs.Expression.{var, unit, ◌:*◌, ◌:-◌, opposite}
use Rattle.exact_algebra.specs.OrderedField.{above}
use Rattle.exact_algebra.proofs.Ring.{ring_from, none, given}
use Rattle.exact_algebra.proofs.Fraction.{Fraction, ◌⊗◌, ◌⊖◌, inverse, sign, fractions, fraction_ring}
use Rattle.exact_algebra.proofs.Whole.{whole, positive-whole}
use Rattle.exact_algebra.proofs.Bounds as Bounds
use Rattle.exact_algebra.proofs.Order as Order
use Rattle.hull_model.specs.declared.water.Water.{Water}
use Rattle.hydro_tables.specs.Figures as figure
use Rattle.hydro_tables.specs.Figures.{Integrals}
use Rattle.hydro_tables.proofs.Inverses.{inverse-mul, inverse-whole, inverse-inverse}

-- a number over m times one over n
together : (m n : ℕ) (x y : Fraction) → 0 < m → 0 < n → (x ⊗ y) ⊗ inverse (whole (pos (m * n))) ≡ (x ⊗ inverse (whole (pos m))) ⊗ (y ⊗ inverse (whole (pos n)))
together m n x y h k = ring_from fraction_ring (x ∷ y ∷ inverse (whole (pos m)) ∷ inverse (whole (pos n)) ∷ inverse (whole (pos (m * n))) ∷ []) ((var 0 :* var 1, var 4, var 2 :* var 3) ∷ [])
    (given (inverse-whole m n h k) none) ((var 0 :* var 1) :* var 4) ((var 0 :* var 2) :* (var 1 :* var 3)) refl

module _ (i : Integrals) (water : Water) where
  open water use {density, length_bp}

  pub displacement_is : i.volume ⊗ whole (pos density) ⊗ inverse (whole (pos (10 ^ 12))) ≡ figure.displacement i water
  displacement_is = together (10 ^ 9) 1000 i.volume (whole (pos density)) (omega arith) (omega arith)

  pub tpc_is : i.area ⊗ whole (pos density) ⊗ inverse (whole (pos (10 ^ 11))) ≡ figure.tpc i water
  tpc_is = ring_from fraction_ring (i.area ∷ whole (pos density) ∷ inverse (whole (pos (10 ^ 11))) ∷ inverse (whole (pos (10 ^ 6))) ∷ inverse (whole (pos 1000)) ∷ inverse (whole (pos 100)) ∷ inverse (whole (pos (10 ^ 9))) ∷ [])
      ((var 0 :* var 1, var 2, var 6 :* var 5) ∷ ((var 0 :* var 1) :* var 5, var 6, var 3 :* var 4) ∷ [])
      (given (inverse-whole (10 ^ 9) 100 (omega arith) (omega arith)) (given (inverse-whole (10 ^ 6) 1000 (omega arith) (omega arith)) none))
      ((var 0 :* var 1) :* var 2) (((var 0 :* var 3) :* (var 1 :* var 4)) :* var 5) refl

  -- the volume cancels
  pub mct_is : sign i.volume ≡ above → 1 ≤ length_bp
      → (i.sxx ⊖ i.area ⊗ (figure.lcf i ⊗ figure.lcf i)) ⊗ whole (pos density) ⊗ inverse (whole (pos (10 ^ 14 * length_bp))) ≡ figure.mct i water
  mct_is o some = ring_from fraction_ring (inertia ∷ whole (pos density) ∷ i.volume ∷ inverse i.volume ∷ inverse (whole (pos (10 ^ 9))) ∷ whole (pos 1000) ∷ inverse (whole (pos 1000)) ∷ inverse (whole (pos 100))
      ∷ inverse (whole (pos length_bp)) ∷ inverse (whole (pos (10 ^ 14 * length_bp))) ∷ inverse divisor ∷ [])
      ((var 0 :* var 1, var 9, ((var 4 :* var 6) :* var 7) :* var 8)
      ∷ (opposite ((((var 2 :* var 4) :* (var 1 :* var 6)) :* ((var 0 :* var 3) :* var 6))), var 10, var 7 :* (var 8 :* var 5))
      ∷ (opposite ((((var 0 :* var 1) :* var 4) :* (var 6 :* var 7)) :* (var 8 :* (var 5 :* var 6))), var 2 :* var 3, unit)
      ∷ (opposite (((var 0 :* var 1) :* var 4) :* ((var 6 :* var 7) :* var 8)), var 5 :* var 6, unit) ∷ [])
      (given (constant) (given (divisor_inverse) (given (Bounds.mul-inverse_positive fractions o) (given (Bounds.mul-inverse_positive fractions (positive-whole 1000 (omega arith))) none))))
      ((var 0 :* var 1) :* var 9) ((((var 2 :* var 4) :* (var 1 :* var 6)) :* ((var 0 :* var 3) :* var 6)) :* var 10) refl
    where
      inertia : Fraction
      inertia = i.sxx ⊖ i.area ⊗ (figure.lcf i ⊗ figure.lcf i)

      divisor : Fraction
      divisor = whole (pos 100) ⊗ (whole (pos length_bp) ⊗ inverse (whole (pos 1000)))

      length : sign (whole (pos length_bp)) ≡ above
      length = positive-whole length_bp (omega (arith, some))

      thousand : sign (whole (pos 1000)) ≡ above
      thousand = positive-whole 1000 (omega arith)

      divisor_inverse : inverse divisor ≡ inverse (whole (pos 100)) ⊗ (inverse (whole (pos length_bp)) ⊗ whole (pos 1000))
      divisor_inverse = inverse-mul (whole (pos 100)) _ (positive-whole 100 (omega arith)) (Order.positive-mul fractions length (Bounds.positive-inverse fractions thousand))
          ∙ ap (λ x. inverse (whole (pos 100)) ⊗ x) (inverse-mul (whole (pos length_bp)) (inverse (whole (pos 1000))) length (Bounds.positive-inverse fractions thousand)
          ∙ ap (λ x. inverse (whole (pos length_bp)) ⊗ x) (inverse-inverse (whole (pos 1000)) thousand))

      constant : inverse (whole (pos (10 ^ 14 * length_bp))) ≡ ((inverse (whole (pos (10 ^ 9))) ⊗ inverse (whole (pos 1000))) ⊗ inverse (whole (pos 100))) ⊗ inverse (whole (pos length_bp))
      constant = inverse-whole (10 ^ 14) length_bp (omega arith) (omega (arith, some))
          ∙ ap (λ x. x ⊗ inverse (whole (pos length_bp))) (inverse-whole (10 ^ 12) 100 (omega arith) (omega arith)
          ∙ ap (λ x. x ⊗ inverse (whole (pos 100))) (inverse-whole (10 ^ 9) 1000 (omega arith) (omega arith)))

-- the inertia about the centre: the centre times the area is the integral of x
pub about_centre : (i : Integrals) → sign i.area ≡ above → i.sxx ⊖ figure.lcf i ⊗ i.sx ≡ i.sxx ⊖ i.area ⊗ (figure.lcf i ⊗ figure.lcf i)
about_centre i o = ring_from fraction_ring (i.sxx ∷ i.sx ∷ i.area ∷ inverse i.area ∷ []) (((var 1 :* var 3) :* var 1, var 2 :* var 3, unit) ∷ [])
    (given (Bounds.mul-inverse_positive fractions o) none) (var 0 :- (var 1 :* var 3) :* var 1) (var 0 :- var 2 :* ((var 1 :* var 3) :* (var 1 :* var 3))) refl
