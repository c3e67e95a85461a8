-- The kinds of mean over the wet part, each the mean of the product of a weight and a factor that doesn't fall with the depth.
use Prim.Native.Nat.{ℕ}
use mathlib.Core.Path.{◌≡◌, refl, sym, ◌∙◌, ap}
use mathlib.Core.List.{[], ◌∷◌}
use mathlib.Core.Logic.{◌≢◌}
use Rattle.exact_algebra.specs.Expression.{var, ◌:+◌, ◌:*◌}
use Rattle.exact_algebra.proofs.Ring.{ring}
use Rattle.exact_algebra.proofs.Fraction.{Fraction, nought, one, ◌⊗◌, inverse, sign, fractions, fraction_ring, ◌≼◌}
use Rattle.exact_algebra.specs.OrderedField.{below}
use Rattle.exact_algebra.proofs.WetForm as Form
use Rattle.hull_model.specs.TriangleCut.{Triangle}
use Rattle.hull_model.specs.WetMean.{Place, linear_mean, product_mean, coordinate, wet_mean}
use Rattle.hull_model.proofs.WetSum.{N12, valued, twelve_at, wet_mean-form}
use Rattle.hull_model.proofs.TriangleLaws.{by_twelve, constant, depth_at, share-twelfth, linear-twelfth, product-twelfth}
use Rattle.hull_model.proofs.Rising.{IsWeight, IsRising, constant_weight, coordinate_weight, rising_weight, depth_rising, mean_rises, mean_nonnegative}

pub record Kind : Type 0 where
  pub mean : Triangle Place → Fraction
  pub f : Place → Fraction
  pub g : Place → Fraction
  pub weight : IsWeight f
  pub rising : IsRising g
  pub is_twelfth : (t : Triangle Place) → mean t ⊗ N12 ≡ twelve_at f g t

abbrev pub share_kind : Kind
share_kind = record { mean = λ t. one; f = constant; g = constant; weight = constant_weight; rising = rising_weight constant constant_weight; is_twelfth = share-twelfth }

abbrev pub corner_kind : ℕ → Kind
corner_kind n = record { mean = linear_mean (coordinate n); f = constant; g = coordinate n; weight = constant_weight; rising = rising_weight (coordinate n) (coordinate_weight n); is_twelfth = linear-twelfth (coordinate n) }

abbrev pub pair_kind : ℕ → ℕ → Kind
pair_kind n m = record { mean = product_mean (coordinate n) (coordinate m); f = coordinate n; g = coordinate m; weight = coordinate_weight n; rising = rising_weight (coordinate m) (coordinate_weight m); is_twelfth = product-twelfth (coordinate n) (coordinate m) }

abbrev pub depth_kind : Kind
depth_kind = record { mean = linear_mean (λ p. p.depth); f = constant; g = depth_at; weight = constant_weight; rising = depth_rising; is_twelfth = linear-twelfth depth_at }

abbrev pub weighted_kind : ℕ → Kind
weighted_kind n = record { mean = product_mean (coordinate n) (λ p. p.depth); f = coordinate n; g = depth_at; weight = coordinate_weight n; rising = depth_rising; is_twelfth = product-twelfth (coordinate n) depth_at }

-- the corners of the whole triangle
abbrev pub first_place : Fraction → Place
first_place x = record { first = one; second = nought; third = nought; depth = x }

abbrev pub second_place : Fraction → Place
second_place x = record { first = nought; second = one; third = nought; depth = x }

abbrev pub third_place : Fraction → Place
third_place x = record { first = nought; second = nought; third = one; depth = x }

abbrev pub value : Kind → Place → Form.Corner fractions
value κ p = valued κ.f κ.g p

abbrev pub mean_at : Kind → Fraction → Fraction → Fraction → Fraction
mean_at κ x y z = wet_mean κ.mean x y z

pub kind_form : (κ : Kind) (x y z : Fraction) → mean_at κ x y z ⊗ N12 ≡ Form.wet_form fractions (value κ (first_place x)) (value κ (second_place y)) (value κ (third_place z))
kind_form κ x y z = wet_mean-form κ.mean κ.f κ.g κ.weight.linear κ.rising.linear κ.is_twelfth x y z

pub kind_rises : (κ : Kind) (x y z x' y' z' : Fraction) → x ≼ x' → y ≼ y' → z ≼ z' → mean_at κ x y z ≼ mean_at κ x' y' z'
kind_rises κ = mean_rises κ.f κ.g κ.weight κ.rising κ.mean κ.is_twelfth

pub kind_nonnegative : (κ : Kind) (x y z : Fraction) → sign (mean_at κ x y z) ≢ below
kind_nonnegative κ = mean_nonnegative κ.f κ.g κ.weight κ.rising κ.mean κ.is_twelfth

pub product-swap : (f g : Place → Fraction) (t : Triangle Place) → product_mean f g t ≡ product_mean g f t
product-swap f g t = ap (λ x. x ⊗ inverse N12) (ring fraction_ring (f t.a ∷ f t.b ∷ f t.c ∷ g t.a ∷ g t.b ∷ g t.c ∷ [])
    ((var 0 :* var 3 :+ var 1 :* var 4 :+ var 2 :* var 5) :+ (var 0 :+ var 1 :+ var 2) :* (var 3 :+ var 4 :+ var 5))
    ((var 3 :* var 0 :+ var 4 :* var 1 :+ var 5 :* var 2) :+ (var 3 :+ var 4 :+ var 5) :* (var 0 :+ var 1 :+ var 2)) refl)

-- a kind at the corners in turn is another kind
pub record IsTurnOf (κ μ : Kind) : Type 0 where
  pub first : (x : Fraction) → value κ (first_place x) ≡ value μ (third_place x)
  pub second : (x : Fraction) → value κ (second_place x) ≡ value μ (first_place x)
  pub third : (x : Fraction) → value κ (third_place x) ≡ value μ (second_place x)

pub kind_turn : (κ μ : Kind) → IsTurnOf κ μ → (x y z : Fraction) → mean_at κ x y z ≡ mean_at μ y z x
kind_turn κ μ i x y z = by_twelve (mean_at κ x y z) (mean_at μ y z x) (kind_form κ x y z
    ∙ Form.roll fractions (value κ (first_place x)) (value κ (second_place y)) (value κ (third_place z))
    ∙ (λ j. Form.wet_form fractions (i.second y j) (i.third z j) (i.first x j))
    ∙ sym (kind_form μ y z x))

pub share_turn : IsTurnOf share_kind share_kind
share_turn = record { first = λ x. refl; second = λ x. refl; third = λ x. refl }

pub corner_turn0 : IsTurnOf (corner_kind 0) (corner_kind 2)
corner_turn0 = record { first = λ x. refl; second = λ x. refl; third = λ x. refl }

pub corner_turn1 : IsTurnOf (corner_kind 1) (corner_kind 0)
corner_turn1 = record { first = λ x. refl; second = λ x. refl; third = λ x. refl }

pub corner_turn2 : IsTurnOf (corner_kind 2) (corner_kind 1)
corner_turn2 = record { first = λ x. refl; second = λ x. refl; third = λ x. refl }

pub pair_turn00 : IsTurnOf (pair_kind 0 0) (pair_kind 2 2)
pair_turn00 = record { first = λ x. refl; second = λ x. refl; third = λ x. refl }

pub pair_turn01 : IsTurnOf (pair_kind 0 1) (pair_kind 2 0)
pair_turn01 = record { first = λ x. refl; second = λ x. refl; third = λ x. refl }

pub pair_turn02 : IsTurnOf (pair_kind 0 2) (pair_kind 2 1)
pair_turn02 = record { first = λ x. refl; second = λ x. refl; third = λ x. refl }

pub pair_turn11 : IsTurnOf (pair_kind 1 1) (pair_kind 0 0)
pair_turn11 = record { first = λ x. refl; second = λ x. refl; third = λ x. refl }

pub pair_turn12 : IsTurnOf (pair_kind 1 2) (pair_kind 0 1)
pair_turn12 = record { first = λ x. refl; second = λ x. refl; third = λ x. refl }

pub pair_turn22 : IsTurnOf (pair_kind 2 2) (pair_kind 1 1)
pair_turn22 = record { first = λ x. refl; second = λ x. refl; third = λ x. refl }

-- the order of the two factors does not matter
pub pair_swap : (n m : ℕ) (x y z : Fraction) → mean_at (pair_kind n m) x y z ≡ mean_at (pair_kind m n) x y z
pair_swap n m x y z = ap (λ (f : Triangle Place → Fraction). wet_mean f x y z) same
  where
    same : (pair_kind n m).mean ≡ (pair_kind m n).mean
    same = λ i t. product-swap (coordinate n) (coordinate m) t i

pub depth_turn : IsTurnOf depth_kind depth_kind
depth_turn = record { first = λ x. refl; second = λ x. refl; third = λ x. refl }

pub weighted_turn0 : IsTurnOf (weighted_kind 0) (weighted_kind 2)
weighted_turn0 = record { first = λ x. refl; second = λ x. refl; third = λ x. refl }

pub weighted_turn1 : IsTurnOf (weighted_kind 1) (weighted_kind 0)
weighted_turn1 = record { first = λ x. refl; second = λ x. refl; third = λ x. refl }

pub weighted_turn2 : IsTurnOf (weighted_kind 2) (weighted_kind 1)
weighted_turn2 = record { first = λ x. refl; second = λ x. refl; third = λ x. refl }
