-- The part of an edge up to a place, by whole numbers, and the point there.
use mathlib.Core.Path.{◌≡◌, refl, sym, ◌∙◌, ap}
use mathlib.Core.List.{[], ◌∷◌}
use mathlib.Core.Logic.{◌≢◌, inl, inr}
use mir.Val.{SFits}
use Rattle.std.specs.Int.{w128}
use Rattle.hull_model.specs.Body.{IsWithin}
use Rattle.hull_model.proofs.Magnitudes.{fits_128}
use Rattle.plane_clip.specs.Ways.{IsOnWay, part_to}
use Rattle.std.proofs.Common.{ℤ, pos, ◌-ℤ◌, ◌<ℤ◌, arith}
use Rattle.std.proofs.lemmas.Int.{ints}
use Rattle.exact_algebra.specs.Expression.{var, unit, number, opposite, ◌:+◌, ◌:-◌, ◌:*◌}
use Rattle.exact_algebra.proofs.Ring.{ring_from, none, given}
use Rattle.exact_algebra.proofs.Fraction.{Fraction, nought, one, ◌⊗◌, ◌⊖◌, inverse, fractions, fraction_ring}
use Rattle.exact_algebra.proofs.Order as Order
use Rattle.exact_algebra.proofs.Whole.{whole, whole-sub}
use Rattle.hull_model.specs.Fractions.{interpolated}
use Rattle.plane_clip.proofs.Portions.{whole_positive}

-- where the ends differ
module _ (a b c r : Fraction) (whole_way : (a ⊖ b) ⊗ r ≡ one) where
  differs : (a ⊖ c) ⊖ (b ⊖ c) ≢ nought
  differs e = Order.not_nought fractions fractions.laws.sign-one (ring_from fraction_ring (a ∷ b ∷ c ∷ r ∷ [])
      ((opposite unit, (var 0 :- var 1) :* var 3, unit) ∷ (var 3, (var 0 :- var 2) :- (var 1 :- var 2), number 0) ∷ []) (given whole_way (given e none)) unit (number 0) refl)

  inverted : ((a ⊖ c) ⊖ (b ⊖ c)) ⊗ inverse ((a ⊖ c) ⊖ (b ⊖ c)) ≡ one
  inverted = fractions.laws.mul-inverse ((a ⊖ c) ⊖ (b ⊖ c)) differs

  pub part-is : (a ⊖ c) ⊗ r ≡ part_to a b c
  part-is = ring_from fraction_ring (a ∷ b ∷ c ∷ r ∷ inverse ((a ⊖ c) ⊖ (b ⊖ c)) ∷ [])
      ((opposite ((var 0 :- var 2) :* var 3), ((var 0 :- var 2) :- (var 1 :- var 2)) :* var 4, unit) ∷ ((var 0 :- var 2) :* var 4, (var 0 :- var 1) :* var 3, unit) ∷ [])
      (given inverted (given whole_way none)) ((var 0 :- var 2) :* var 3) ((var 0 :- var 2) :* var 4) refl

  pub point-is : interpolated (part_to a b c) a b ≡ c
  point-is = ring_from fraction_ring (a ∷ b ∷ c ∷ inverse ((a ⊖ c) ⊖ (b ⊖ c)) ∷ [])
      ((opposite (var 0 :- var 2), ((var 0 :- var 2) :- (var 1 :- var 2)) :* var 3, unit) ∷ []) (given inverted none)
      ((unit :- (var 0 :- var 2) :* var 3) :* var 0 :+ ((var 0 :- var 2) :* var 3) :* var 1) (var 2) refl

-- of whole numbers, from a down to b and from a up to b
module _ (a b c : ℤ) where
  pub down_way : b <ℤ a → (whole a ⊖ whole b) ⊗ inverse (whole (a -ℤ b)) ≡ one
  down_way h = ap (λ x. x ⊗ inverse (whole (a -ℤ b))) (sym (whole-sub a b)) ∙ whole_positive (a -ℤ b) (omega (arith, ints, h))

  pub down-part : b <ℤ a → whole (a -ℤ c) ⊗ inverse (whole (a -ℤ b)) ≡ part_to (whole a) (whole b) (whole c)
  down-part h = ap (λ x. x ⊗ inverse (whole (a -ℤ b))) (whole-sub a c) ∙ part-is (whole a) (whole b) (whole c) (inverse (whole (a -ℤ b))) (down_way h)

  up_r : Fraction
  up_r = nought ⊖ inverse (whole (b -ℤ a))

  up_way : a <ℤ b → (whole a ⊖ whole b) ⊗ (nought ⊖ inverse (whole (b -ℤ a))) ≡ one
  up_way h = ring_from fraction_ring (whole a ∷ whole b ∷ whole (b -ℤ a) ∷ inverse (whole (b -ℤ a)) ∷ []) ((unit, var 2 :* var 3, unit) ∷ (opposite (var 3), var 2, var 1 :- var 0) ∷ [])
      (given (whole_positive (b -ℤ a) (omega (arith, ints, h))) (given (whole-sub b a) none)) ((var 0 :- var 1) :* (number 0 :- var 3)) unit refl

  pub up-part : a <ℤ b → whole (c -ℤ a) ⊗ inverse (whole (b -ℤ a)) ≡ part_to (whole a) (whole b) (whole c)
  up-part h = ring_from fraction_ring (whole a ∷ whole c ∷ whole (c -ℤ a) ∷ inverse (whole (b -ℤ a)) ∷ []) ((var 3, var 2, var 1 :- var 0) ∷ []) (given (whole-sub c a) none)
      (var 2 :* var 3) ((var 0 :- var 1) :* (number 0 :- var 3)) refl ∙ part-is (whole a) (whole b) (whole c) (nought ⊖ inverse (whole (b -ℤ a))) (up_way h)

  pub down-point : b <ℤ a → interpolated (part_to (whole a) (whole b) (whole c)) (whole a) (whole b) ≡ whole c
  down-point h = point-is (whole a) (whole b) (whole c) _ (down_way h)

  pub up-point : a <ℤ b → interpolated (part_to (whole a) (whole b) (whole c)) (whole a) (whole b) ≡ whole c
  up-point h = point-is (whole a) (whole b) (whole c) _ (up_way h)

pub before_unless : (at a b : ℤ) → IsOnWay at a b → (b <ℤ a → ⊥) → a <ℤ b
before_unless at a b (inl h) n = h.2
before_unless at a b (inr h) n = absurd (n h.2)

pub place_fits : (n : ℤ) → IsWithin (pos 524287) n → SFits w128 n
place_fits n h = fits_128 n (omega (arith, ints, h.0, h.1))

pub way_fits : (a b : ℤ) → IsWithin (pos 524287) a → IsWithin (pos 524287) b → SFits w128 (a -ℤ b)
way_fits a b h k = fits_128 (a -ℤ b) (omega (arith, ints, h.0, h.1, k.0, k.1))

pub way_within : (at a b : ℤ) → IsWithin (pos 524287) a → IsWithin (pos 524287) b → IsOnWay at a b → IsWithin (pos 524287) at
way_within at a b h k (inl m) = (omega (arith, ints, h.0, m.0), omega (arith, ints, k.1, m.1))
way_within at a b h k (inr m) = (omega (arith, ints, k.0, m.0), omega (arith, ints, h.1, m.1))
