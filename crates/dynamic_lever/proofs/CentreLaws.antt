-- Where the centre lies, by the moments.
use Rattle.std.proofs.Common.{◌≡◌, refl, sym, ◌∙◌, ap, ℕ, ◌<◌, ◌≤◌, ℤ, pos, neg_ℤ, unsigned_abs, ◌-ℤ◌, ◌+ℤ◌, ◌*ℤ◌, ◌≤ℤ◌, ◌*◌, ◌^◌, [], ◌∷◌, arith}
use Rattle.std.proofs.lemmas.Int.{ints}
use Rattle.exact_algebra.specs.Expression.{var, unit, number, opposite, ◌:+◌, ◌:-◌, ◌:*◌}
use Rattle.exact_algebra.proofs.Ring.{ring, ring_from, given, none}
use Rattle.exact_algebra.proofs.Fraction.{Fraction, one, ◌⊕◌, ◌⊗◌, inverse, negative, fractions, fraction_ring, ◌≼◌}
use Rattle.exact_algebra.proofs.Order as Order
use Rattle.exact_algebra.proofs.Order.{order_from, no_more, at_most, scaled, equal}
use Rattle.exact_algebra.proofs.Bounds as Bounds
use Rattle.exact_algebra.proofs.Whole.{whole, whole-one, whole-negative, whole-≼, positive-whole}
use Rattle.hull_model.specs.Waterplane.{Waterplane}
use Rattle.loading_sheet.specs.declared.loading.Loading.{Loading}
use Rattle.outward_interval.specs.Widths.{unit_of, units, IsNarrow}
use Rattle.outward_interval.proofs.Narrow.{nonnegative-unit_of, narrow-wider, narrow-rescaled, narrow-over}
use Rattle.flux_moments.specs.Planes.{cosine, sine}
use Rattle.dynamic_lever.specs.Levers.{centre_side, centre_height, distance_of_centre}

module _ (loading : Loading) (plane : Waterplane) (side : Fraction) (n : ℤ) where
  -- S, 1/R, the moment in height, C, n, 1/mass, the side, the moment across
  pub side_is : whole n ≡ negative (side ⊗ whole loading.my) → (sine plane ⊗ whole (pos loading.mz) ⊕ cosine plane ⊗ whole n) ⊗ inverse (whole (pos loading.mass)) ≡ centre_side loading plane side
  side_is e = ring_from fraction_ring (whole (pos plane.s) ∷ inverse (whole (pos plane.r)) ∷ whole (pos loading.mz) ∷ whole (pos plane.c) ∷ whole n ∷ inverse (whole (pos loading.mass)) ∷ side ∷ whole loading.my ∷ [])
      ((((var 3 :* var 1) :* var 5), var 4, opposite (var 6 :* var 7)) ∷ []) (given e none)
      (((var 0 :* var 1) :* var 2 :+ (var 3 :* var 1) :* var 4) :* var 5) ((var 0 :* (var 2 :* var 5) :- var 6 :* (var 3 :* (var 7 :* var 5))) :* var 1) refl

  pub height_is : whole n ≡ side ⊗ whole loading.my → (cosine plane ⊗ whole (pos loading.mz) ⊕ sine plane ⊗ whole n) ⊗ inverse (whole (pos loading.mass)) ≡ centre_height loading plane side
  height_is e = ring_from fraction_ring (whole (pos plane.s) ∷ inverse (whole (pos plane.r)) ∷ whole (pos loading.mz) ∷ whole (pos plane.c) ∷ whole n ∷ inverse (whole (pos loading.mass)) ∷ side ∷ whole loading.my ∷ [])
      ((((var 0 :* var 1) :* var 5), var 4, var 6 :* var 7) ∷ []) (given e none)
      (((var 3 :* var 1) :* var 2 :+ (var 0 :* var 1) :* var 4) :* var 5) ((var 3 :* (var 2 :* var 5) :+ var 6 :* (var 0 :* (var 7 :* var 5))) :* var 1) refl

turned : (n : ℤ) → pos 0 -ℤ n ≡ neg_ℤ n
turned n = omega (arith, ints)

pub opposite_is : (n : ℤ) (x : Fraction) → whole n ≡ x → whole (pos 0 -ℤ n) ≡ negative x
opposite_is n x e = ap whole (turned n) ∙ (whole-negative n ∙ ap negative e)

-- the moments towards port and towards starboard
pub towards_port : (n : ℤ) → whole n ≡ one ⊗ whole n
towards_port n = ring fraction_ring (whole n ∷ []) (var 0) (unit :* var 0) refl

pub towards_starboard : (n : ℤ) → whole (pos 0 -ℤ n) ≡ negative one ⊗ whole n
towards_starboard n = opposite_is n (whole n) refl ∙ ring fraction_ring (whole n ∷ []) (opposite (var 0)) (opposite unit :* var 0) refl

-- ---- how wide
pub over_mass_narrow : (n : ℕ) (w : Fraction) (a b low high lo hi : ℤ) → 1 ≤ n → ((high -ℤ low) *ℤ pos (2 ^ 40)) ≤ℤ (((b -ℤ a) *ℤ pos (2 ^ 20)) +ℤ pos (2 * 2 ^ 40))
    → ((hi -ℤ lo) *ℤ pos n) ≤ℤ ((high -ℤ low) +ℤ pos (2 * n)) → IsNarrow 40 w a b → IsNarrow 20 (w ⊗ inverse (whole (pos n)) ⊕ units 20 4) lo hi
over_mass_narrow n w a b low high lo hi some coarse quotient h =
    let rescaled : IsNarrow 20 (w ⊕ units 20 2) low high = narrow-rescaled {F = 40} {G = 20} coarse (omega arith) h in
    let divided : IsNarrow 20 ((w ⊗ inverse N ⊕ units 20 2) ⊕ units 20 2) lo hi = narrow-over (w ⊗ inverse N ⊕ units 20 2) n above quotient rescaled enough in
    narrow-wider (Order.≼_same fractions (ring fraction_ring ((w ⊗ inverse N) ∷ unit_of 20 ∷ []) ((var 0 :+ number 2 :* var 1) :+ number 2 :* var 1) (var 0 :+ number 4 :* var 1) refl)) divided
  where
    N : Fraction
    N = whole (pos n)

    above : 0 < n
    above = omega (arith, some)

    first : pos 1 ≤ℤ pos n
    first = omega (arith, ints, some)

    at_least_one : one ≼ N
    at_least_one = Order.≼_trans fractions (Order.≼_same fractions (sym whole-one)) (whole-≼ first)

    enough : w ⊕ units 20 2 ≼ (w ⊗ inverse N ⊕ units 20 2) ⊗ N
    enough = order_from fractions (w ∷ N ∷ inverse N ∷ unit_of 20 ∷ []) ((var 0, unit, var 1 :* var 2) ∷ (number 2 :* var 3, unit, var 1) ∷ [])
        (equal (sym (Bounds.mul-inverse_positive fractions (positive-whole n above))) (scaled (Order.nonnegative-mul fractions (Order.nonnegative-number fractions 2) (nonnegative-unit_of 20)) at_least_one no_more))
        (var 0 :+ number 2 :* var 3) ((var 0 :* var 2 :+ number 2 :* var 3) :* var 1) refl

pub centre_narrow : (loading : Loading) (e : Fraction) (n : ℤ) {lo hi : ℤ} → unsigned_abs n ≡ unsigned_abs loading.my
    → IsNarrow 20 ((e ⊗ whole (pos loading.mz) ⊕ e ⊗ whole (pos (unsigned_abs n))) ⊗ inverse (whole (pos loading.mass)) ⊕ units 20 4) lo hi → IsNarrow 20 (distance_of_centre loading ⊗ e ⊕ units 20 4) lo hi
centre_narrow loading e n same h = narrow-wider (order_from fractions (e ∷ whole (pos loading.mz) ∷ whole (pos (unsigned_abs n)) ∷ whole (pos (unsigned_abs loading.my)) ∷ inverse (whole (pos loading.mass)) ∷ units 20 4 ∷ [])
    ((var 0 :* var 4, var 2, var 3) ∷ []) (equal (ap (λ (k : ℕ). whole (pos k)) same) no_more)
    ((var 0 :* var 1 :+ var 0 :* var 2) :* var 4 :+ var 5) ((var 1 :* var 4 :+ var 3 :* var 4) :* var 0 :+ var 5) refl) h
