-- The bounds of the measured integrals at the upright level plane of a draft.
use Rattle.std.proofs.Common.{◌≡◌, refl, ◌∙◌, ap, ℕ, ◌*◌, ◌^◌, max, [], ◌∷◌, length, ℤ, pos, ◌+ℤ◌, ◌-ℤ◌, unsigned_abs, arith}
use Rattle.std.proofs.lemmas.Int.{ints, clamps}
use Rattle.std.specs.Int.{int_max}
use Rattle.exact_algebra.specs.Expression.{var, unit, number, ◌:+◌, ◌:-◌, ◌:*◌}
use Rattle.exact_algebra.proofs.Fraction.{Fraction, nought, ◌⊕◌, ◌⊗◌, ◌⊖◌, inverse, fractions, fraction_ring}
use Rattle.exact_algebra.proofs.Order as Order
use Rattle.exact_algebra.proofs.Ring.{ring, ring_from, none, given}
use Rattle.exact_algebra.proofs.Span.{positive-unit}
use Rattle.exact_algebra.proofs.Whole.{whole, whole-nought, whole-mul}
use Rattle.hull_model.specs.Fractions.{sum_over}
use Rattle.hull_polyhedron.specs.declared.faces.Faces.{Faces}
use Rattle.outward_interval.specs.Widths.{unit_of}
use Rattle.flux_moments.specs.Sizes.{IsLevelBox}
use Rattle.flux_moments.specs.Widths.{size_of, reach_of, volume_bound, lid_bound, half_areas, area_above, share_at}
use Rattle.flux_moments.specs.declared.plane_box.PlaneBox.{PlaneBox}
use Rattle.flux_moments.proofs.MeanWidths.{in_unit-in}
use Rattle.hydro_tables.specs.Widths.{reach, volume_width, area_width}

-- what times a power of two is 0 or a whole number times it
unscaled : (F : ℕ) (x : Fraction) (n : ℤ) → x ⊗ whole (pos (2 ^ F)) ≡ whole n ⊗ whole (pos (2 ^ F)) → x ≡ whole n
unscaled F x n e = Order.mul_cancel fractions (Order.not_nought fractions (positive-unit F)) e

module _ (planes : PlaneBox) (draft : ℕ) (is : IsLevelBox planes (pos (draft * 1024)) (pos (draft * 1024))) where
  no_rise : (size_of planes).rise ≡ nought
  no_rise = unscaled 10 (size_of planes).rise (pos 0) (in_unit-in 10 _ ∙ ap whole (apart planes.a1 planes.a2 planes.f1 planes.f2 (pos (draft * 1024)) is.aft.0 is.aft.1 is.fore.0 is.fore.1)
      ∙ ring_from fraction_ring (whole (pos 0) ∷ whole (pos (2 ^ 10)) ∷ []) ((unit :- var 1, var 0, number 0) ∷ []) (given whole-nought none) (var 0) (var 0 :* var 1) refl) ∙ whole-nought
    where
      apart : (a b c d z : ℤ) → a ≡ z → b ≡ z → c ≡ z → d ≡ z → int_max (b -ℤ a) (d -ℤ c) ≡ pos 0
      apart a b c d z e f g h = omega (arith, ints, clamps)

  no_turn : (size_of planes).turn ≡ nought
  no_turn = unscaled 40 (size_of planes).turn (pos 0) (in_unit-in 40 _ ∙ ap whole (apart planes.bracket.c.lo planes.bracket.c.hi planes.bracket.s.lo planes.bracket.s.hi (pos (2 ^ 40)) (pos 0) is.cosine.0 is.cosine.1 is.sine.0 is.sine.1)
      ∙ ring_from fraction_ring (whole (pos 0) ∷ whole (pos (2 ^ 40)) ∷ []) ((unit :- var 1, var 0, number 0) ∷ []) (given whole-nought none) (var 0) (var 0 :* var 1) refl) ∙ whole-nought
    where
      apart : (a b c d y z : ℤ) → a ≡ y → b ≡ y → c ≡ z → d ≡ z → int_max (b -ℤ a) (d -ℤ c) ≡ pos 0
      apart a b c d y z e f g h = omega (arith, ints, clamps)

  level_is : (size_of planes).level ≡ whole (pos draft)
  level_is = unscaled 10 (size_of planes).level (pos draft) (in_unit-in 10 _ ∙ ap (λ n. whole (pos n)) (greatest planes.a1 planes.a2 planes.f1 planes.f2 (draft * 1024) is.aft.0 is.aft.1 is.fore.0 is.fore.1)
      ∙ whole-mul (pos draft) (pos (2 ^ 10)))
    where
      greatest : (a b c d : ℤ) (n : ℕ) → a ≡ pos n → b ≡ pos n → c ≡ pos n → d ≡ pos n → max (max (unsigned_abs a) (unsigned_abs b)) (max (unsigned_abs c) (unsigned_abs d)) ≡ n
      greatest a b c d n e f g h = omega (arith, ints, e, f, g, h)

  module _ (faces : Faces) where
    pub reach_is : reach_of faces planes ≡ reach faces draft
    reach_is = ap (λ x. x ⊕ whole (faces.high_z +ℤ faces.half_breadth)) level_is

    pub volume_bound_is : volume_bound faces planes ≡ volume_width faces draft
    unfolding volume_bound volume_width
    volume_bound_is = ap (λ x. (whole (pos 8) ⊗ (half_areas faces.list ⊕ whole (pos (2 ^ 17)))) ⊗ x) (ring_from fraction_ring ((size_of planes).rise ∷ (size_of planes).turn ∷ reach_of faces planes ∷ unit_of 16 ∷ [])
        ((unit, var 0, number 0) ∷ (var 2, var 1, number 0) ∷ []) (given no_rise (given no_turn none)) ((var 0 :+ var 1 :* var 2) :+ var 3) (var 3) refl)

-- the level of a plane, of which the units are known
abbrev first_of : (x : Fraction) {y : Fraction} → x ⊗ whole (pos (2 ^ 10)) ≡ y → Fraction
first_of x e = x

pub lid_bound_is : (faces : Faces) (draft : ℕ) (d : ℤ) → lid_bound faces d d ≡ area_width faces draft
unfolding lid_bound area_width
lid_bound_is faces draft d = λ i. sum_over (λ f. (area_above f ⊗ inverse (whole (pos 2))) ⊗ nothing (share_at faces.first_x faces.last_x (first_of _ (in_unit-in 10 d)) f) (unit_of 32) i) faces.list ⊕ whole (pos (length faces.list)) ⊗ unit_of 18
  where
    nothing : (x u : Fraction) → (x ⊖ x) ⊕ u ≡ u
    nothing x u = ring fraction_ring (x ∷ u ∷ []) ((var 0 :- var 0) :+ var 1) (var 1) refl
