-- How far the ends of the mean depth and of a column's volume may lie, by those of the depths of the corners.
use Rattle.std.proofs.Common.{◌≡◌, refl, ◌∙◌, sym, ap₂, ℕ, suc, ◌+◌, ◌*◌, ◌^◌, ◌<◌, ◌≤◌, ℤ, pos, ◌-ℤ◌, ◌≤ℤ◌, unsigned_abs, [], ◌∷◌, arith}
use Rattle.std.proofs.lemmas.Int.{ints}
use Rattle.exact_algebra.specs.Expression.{var, ◌:+◌, ◌:*◌}
use Rattle.exact_algebra.proofs.Fraction.{nought, ◌⊕◌, fractions, fraction_ring, ◌≼◌}
use Rattle.exact_algebra.proofs.Order as Order
use Rattle.exact_algebra.proofs.Products.{magnitude}
use Rattle.exact_algebra.proofs.Ring.{ring}
use Rattle.exact_algebra.proofs.Span.{in_units, positive-unit}
use Rattle.exact_algebra.proofs.Whole.{whole, whole-add, whole-≼_out, nonnegative-whole}
use Rattle.hull_model.specs.WetMean.{wet_depth}
use Rattle.outward_interval.specs.declared.span.Span.{Span}
use Rattle.outward_interval.specs.Ends.{AreLeastEnds, least_product, greatest_product}
use Rattle.outward_interval.specs.Widths.{units, IsNarrow, IsNear}
use Rattle.outward_interval.proofs.Narrow.{units-in, magnitude-within}
use Rattle.plane_clip.specs.Enclosure.{in_unit, EnclosesMean, IsNoWider}
use Rattle.flux_moments.specs.Limits.{EndsAtMost, EndsLess}
use Rattle.flux_moments.proofs.MeanWidths.{in_unit-in, narrow_by, near_by, depths_of, depth-near}
use Rattle.flux_moments.proofs.ProductEnds.{at_most_less, product_ends}

-- a whole number of units isn't below 0
nonnegative_unit : (k : ℕ) → nought ≼ in_unit 20 (pos k)
nonnegative_unit k = Order.nought-≼ fractions (Order.nonnegative_factor fractions (positive-unit 20)
    (Order.nonnegative_same fractions (in_unit-in 20 (pos k)) (nonnegative-whole k)))

narrow_within : (k : ℕ) (x : Span 20) → EndsAtMost k x.lo x.hi → IsNarrow 20 (in_unit 20 (pos (k + k))) x.lo x.hi
narrow_within k x e = narrow_by 20 x.lo x.hi (pos (k + k)) (apart x.lo x.hi e.low e.high)
  where
    apart : (lo hi : ℤ) → unsigned_abs lo ≤ k → unsigned_abs hi ≤ k → (hi -ℤ lo) ≤ℤ pos (k + k)
    apart lo hi h i = omega (arith, ints, h, i)

near_within : (k : ℕ) (x : Span 20) → EndsAtMost k x.lo x.hi → IsNear 20 (in_unit 20 (pos k)) x.lo x.hi
near_within k x e = near_by 20 x.lo x.hi k (under e.low) (under e.high)
  where
    under : {n : ℕ} → n ≤ k → n < suc k
    under h = omega (arith, h)

module _ (x y z mean : Span 20) where
  -- the mean depth lies no farther than the depths, but for the rounding
  pub depth_at_most : (k : ℕ) → EndsAtMost k x.lo x.hi → EndsAtMost k y.lo y.hi → EndsAtMost k z.lo z.hi
      → EnclosesMean 20 (depths_of x y z) mean wet_depth → IsNoWider 20 8 (depths_of x y z) mean wet_depth → EndsAtMost (k + 8) mean.lo mean.hi
  depth_at_most k at_x at_y at_z holds no_wider = within mean.lo mean.hi (whole-≼_out (pos (magnitude mean.lo mean.hi)) (pos (k + 8))
      (Order.≼_trans fractions (magnitude-within mean.ordered near) (Order.≼_same fractions joined)))
    where
      near : IsNear 20 (in_unit 20 (pos k) ⊕ units 20 8) mean.lo mean.hi
      near = depth-near x y z (in_unit 20 (pos (k + k))) (in_unit 20 (pos k)) (narrow_within k x at_x, narrow_within k y at_y, narrow_within k z at_z)
          (near_within k x at_x, near_within k y at_y, near_within k z at_z) (nonnegative_unit (k + k)) (nonnegative_unit k) mean holds no_wider

      joined : in_units 20 (in_unit 20 (pos k) ⊕ units 20 8) ≡ whole (pos (k + 8))
      joined = ring fraction_ring (in_unit 20 (pos k) ∷ units 20 8 ∷ whole (pos (2 ^ 20)) ∷ []) ((var 0 :+ var 1) :* var 2)
          (var 0 :* var 2 :+ var 1 :* var 2) refl
          ∙ ap₂ ◌⊕◌ (in_unit-in 20 (pos k)) (units-in 20 8) ∙ sym (whole-add (pos k) (pos 8))

      within : (lo hi : ℤ) → pos (magnitude lo hi) ≤ℤ pos (k + 8) → EndsAtMost (k + 8) lo hi
      within lo hi h = record { low = omega (arith, ints, h); high = omega (arith, ints, h) }

  -- twice the volume of a column, where the factor for its area is that of a face
  pub volume_ends : EndsAtMost (9 * 2 ^ 37 + 1) x.lo x.hi → EndsAtMost (9 * 2 ^ 37 + 1) y.lo y.hi → EndsAtMost (9 * 2 ^ 37 + 1) z.lo z.hi
      → EnclosesMean 20 (depths_of x y z) mean wet_depth → IsNoWider 20 8 (depths_of x y z) mean wet_depth → {c d lo hi : ℤ} → EndsLess (3 * 2 ^ 76) c d
      → AreLeastEnds (least_product mean.lo mean.hi c d) (greatest_product mean.lo mean.hi c d) (2 ^ 40) lo hi → EndsAtMost (7 * 2 ^ 75) lo hi
  volume_ends at_x at_y at_z holds no_wider factor ends = product_ends (suc (9 * 2 ^ 37 + 9)) (3 * 2 ^ 76) (7 * 2 ^ 75) (2 ^ 40) (omega arith)
      (at_most_less (9 * 2 ^ 37 + 9) (depth_at_most (9 * 2 ^ 37 + 1) at_x at_y at_z holds no_wider)) factor ends
