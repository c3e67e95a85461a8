-- Words on fractions that integrals are described with.
use Rattle.std.specs.Prelude.{List, [], ◌∷◌}
use Rattle.exact_algebra.specs.OrderedField.{Sign, below, level, above}
use Rattle.exact_algebra.proofs.Fraction.{Fraction, nought, one, ◌⊕◌, ◌⊗◌, ◌⊖◌, negative, sign}

-- x without its sign
abbrev pub magnitude_by : Sign → Fraction → Fraction
magnitude_by below x = negative x
magnitude_by level x = x
magnitude_by above x = x

unfoldable pub magnitude : Fraction → Fraction
magnitude x = magnitude_by (sign x) x

-- the number between x at 0 and y at 1, at the parameter t
abbrev pub interpolated : Fraction → Fraction → Fraction → Fraction
interpolated t x y = (one ⊖ t) ⊗ x ⊕ t ⊗ y

-- the sum of f over a list
unfoldable pub sum_over : {A : Type 0} → (A → Fraction) → List A → Fraction
sum_over f [] = nought
sum_over f (x ∷ xs) = f x ⊕ sum_over f xs
