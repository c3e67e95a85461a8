-- The spans of heights at upright planes, and the levels that are known.
use Rattle.std.proofs.Common.{◌≡◌, ◌∙◌, refl, sym, ap, ap₂, subst, [], ◌∷◌, suc, ◌+◌, ◌*◌, ◌^◌, ◌<◌, ℤ, pos, ◌*ℤ◌, unsigned_abs, arith}
use Rattle.std.proofs.lemmas.Int.{ints}
use Rattle.exact_algebra.specs.Expression.{var, unit, number, ◌:+◌, ◌:-◌, ◌:*◌}
use Rattle.exact_algebra.proofs.Fraction.{Fraction, nought, one, ◌⊕◌, ◌⊗◌, fractions, fraction_ring}
use Rattle.exact_algebra.proofs.Order as Order
use Rattle.exact_algebra.proofs.Order.{order_from, no_more, at_most}
use Rattle.exact_algebra.proofs.Ring.{ring}
use Rattle.exact_algebra.proofs.Span.{ContainsFraction, in_units, positive-unit, contains_whole}
use Rattle.exact_algebra.proofs.Whole.{whole, whole-nought, whole-mul, nonnegative-whole}
use Rattle.hull_model.specs.declared.node.Node.{Node}
use Rattle.hull_model.specs.Waterplane.{Waterplane, position_of, height}
use Rattle.outward_interval.specs.Widths.{units, IsNarrow, IsNear}
use Rattle.outward_interval.proofs.Narrow.{nonnegative-units, near-from}
use Rattle.flux_moments.specs.Planes.{IsIn, AreLevelEnds, cosine, sine}
use Rattle.flux_moments.specs.Sizes.{BoxSize, HasSize, distance}
use Rattle.flux_moments.specs.declared.box_levels.ShipLength.{ShipLength}
use Rattle.flux_moments.specs.declared.plane_box.PlaneBox.{PlaneBox}
use Rattle.flux_moments.proofs.BoxWidths.{nonnegative_turn}
use Rattle.flux_moments.proofs.Heights.{cosine_contained, sine_contained, height_is}
use Rattle.compartment_loss.specs.declared.upright.Known.{Known}
use Rattle.compartment_loss.specs.Upright.{IsUpright}

-- ---- the direction
alone : (lo hi n : ℤ) (x y : Fraction) → lo ≡ n → hi ≡ n → in_units 40 y ≡ whole n → ContainsFraction 40 lo hi x → x ≡ y
alone lo hi n x y e f g h = Order.≼_antisym fractions
    (Order.≼_cancel fractions (positive-unit 40) (Order.≼_trans fractions h.to (Order.≼_same fractions (ap whole f ∙ sym g))))
    (Order.≼_cancel fractions (positive-unit 40) (Order.≼_trans fractions (Order.≼_same fractions (g ∙ sym (ap whole e))) h.from))

module _ (planes : PlaneBox) (upright : IsUpright planes) (plane : Waterplane) (is : IsIn planes plane) where
  pub cosine_is : cosine plane ≡ one
  cosine_is = alone planes.bracket.c.lo planes.bracket.c.hi (pos (2 ^ 40)) (cosine plane) one upright.cosine.0 upright.cosine.1
      (ring fraction_ring (whole (pos (2 ^ 40)) ∷ []) (unit :* var 0) (var 0) refl) (cosine_contained planes.bracket plane is.direction)

  pub sine_is : sine plane ≡ nought
  sine_is = alone planes.bracket.s.lo planes.bracket.s.hi (pos 0) (sine plane) nought upright.sine.0 upright.sine.1
      (ring fraction_ring (whole (pos (2 ^ 40)) ∷ []) (number 0 :* var 0) (number 0) refl ∙ sym whole-nought) (sine_contained planes.bracket plane is.direction)

  upright_height : (n : Node) → whole n.z ≡ height plane (position_of n)
  upright_height n = ring fraction_ring (whole n.z ∷ whole n.y ∷ []) (var 0) (unit :* var 0 :+ number 0 :* var 1) refl
      ∙ ap₂ (λ c s. c ⊗ whole n.z ⊕ s ⊗ whole n.y) (sym cosine_is) (sym sine_is) ∙ height_is plane (position_of n)

  pub height_contained : (n : Node) {lo hi : ℤ} → (lo ≡ n.z *ℤ pos (2 ^ 20)) × (hi ≡ n.z *ℤ pos (2 ^ 20)) → ContainsFraction 20 lo hi (height plane (position_of n))
  height_contained n {lo} {hi} e = subst (λ (x : Fraction). ContainsFraction 20 lo hi x) (upright_height n) (rw (e.0, e.1) (contains_whole 20 n.z))

-- ---- heights
pub height_narrow : (planes : PlaneBox) (b : BoxSize) → HasSize planes b → (n : Node) (z : ℤ) {lo hi : ℤ} → (lo ≡ z) × (hi ≡ z) → IsNarrow 20 (b.turn ⊗ distance n ⊕ units 20 2) lo hi
height_narrow planes b is n z {lo} {hi} e = rw (e.0, e.1) (record {
  width = order_from fractions (whole z ∷ in_units 20 (b.turn ⊗ distance n ⊕ units 20 2) ∷ []) ((unit, number 0, var 1) ∷ [])
      (at_most (Order.nought-≼ fractions (Order.nonnegative-mul fractions (Order.nonnegative-add fractions
      (Order.nonnegative-mul fractions (nonnegative_turn planes b is) (nonnegative-whole (unsigned_abs n.z + unsigned_abs n.y))) (nonnegative-units 20 2))
      (Order.nonnegative_positive fractions (positive-unit 20)))) no_more) (var 0 :- var 0) (var 1) refl;
})

pub height_near : (n : Node) {lo hi : ℤ} → (lo ≡ n.z *ℤ pos (2 ^ 20)) × (hi ≡ n.z *ℤ pos (2 ^ 20)) → IsNear 20 (distance n ⊕ units 20 1) lo hi
height_near n {lo} {hi} e = near-from lo hi ((unsigned_abs n.z + unsigned_abs n.y) * 2 ^ 20) (less n.z n.y lo e.0) (less n.z n.y hi e.1)
    (Order.≼_trans fractions (Order.≼_same fractions (whole-mul (pos (unsigned_abs n.z + unsigned_abs n.y)) (pos (2 ^ 20))))
    (order_from fractions (distance n ∷ units 20 1 ∷ whole (pos (2 ^ 20)) ∷ []) ((unit, number 0, var 1 :* var 2) ∷ [])
    (at_most (Order.nought-≼ fractions (Order.nonnegative-mul fractions (nonnegative-units 20 1) (Order.nonnegative_positive fractions (positive-unit 20)))) no_more)
    (var 0 :* var 2) ((var 0 :+ var 1) :* var 2) refl))
  where
    less : (z y lo : ℤ) → lo ≡ z *ℤ pos (2 ^ 20) → unsigned_abs lo < suc ((unsigned_abs z + unsigned_abs y) * 2 ^ 20)
    less z y lo e = omega (arith, ints, e)

-- ---- places that are known
pub record AreKnown (planes : PlaneBox) (way : ShipLength) (k : Known) : Type 0 where
  pub near : AreLevelEnds planes way.first way.last k.near.x k.near.level.lo k.near.level.hi
  pub far : AreLevelEnds planes way.first way.last k.far.x k.far.level.lo k.far.level.hi
