-- The columns between parts of faces and an upright plane: their values, and how wide they are.
use Rattle.std.proofs.Common.{◌≡◌, ◌≢◌, ◌∙◌, refl, sym, ap, ap₂, subst, [], ◌∷◌, ℕ, ◌+◌, ◌*◌, ◌^◌, ◌<◌, ◌≤◌, ℤ, pos, neg_ℤ, ◌+ℤ◌, ◌-ℤ◌, ◌*ℤ◌, ◌≤ℤ◌, ◌-◌, unsigned_abs, arith}
use mir.Val.{SFits, hbits}
use Rattle.std.proofs.lemmas.Int.{ints, fits_signed_from_abs}
use Rattle.std.specs.Int.{w128}
use Rattle.exact_algebra.specs.Expression.{var, unit, number, ◌:+◌, ◌:*◌, opposite}
use Rattle.exact_algebra.specs.OrderedField.{below}
use Rattle.exact_algebra.proofs.Bounds as Bounds
use Rattle.exact_algebra.proofs.Fraction.{Fraction, nought, one, ◌⊕◌, ◌⊗◌, ◌⊖◌, negative, sign, fractions, fraction_ring, ◌≼◌}
use Rattle.exact_algebra.proofs.Order as Order
use Rattle.exact_algebra.proofs.Order.{order_from, no_more, at_most, scaled}
use Rattle.exact_algebra.proofs.Products.{magnitude}
use Rattle.exact_algebra.proofs.Ring.{ring}
use Rattle.exact_algebra.proofs.Span.{ContainsFraction, positive-unit}
use Rattle.exact_algebra.proofs.Whole.{whole, whole-≼, nonnegative-whole}
use Rattle.hull_model.specs.FaceParts.{area_z}
use Rattle.hull_model.specs.TriangleCut.{Triangle}
use Rattle.hull_model.specs.Waterplane.{Waterplane, Position, height, level_at}
use Rattle.hull_model.specs.WetMean.{wet_depth}
use Rattle.hull_polyhedron.specs.Columns.{column, depth}
use Rattle.outward_interval.specs.declared.span.Span.{Span}
use Rattle.outward_interval.specs.Ends.{AreEnds}
use Rattle.outward_interval.specs.Laws.{difference_contains}
use Rattle.outward_interval.specs.Widths.{units, unit_of, IsNarrow, IsNear}
use Rattle.outward_interval.proofs.Narrow.{nonnegative-unit_of, nonnegative-units, units-at_most, narrow-wider, near-wider, narrow-sum, narrow-difference, near-difference, narrow-negative, near-negative, narrow-scaled}
use Rattle.plane_clip.specs.declared.corner.PartCorner.{PartCorner}
use Rattle.plane_clip.specs.declared.part.Part.{Part}
use Rattle.plane_clip.specs.Enclosure.{in_unit, mean_at, EnclosesMean, IsNoWider}
use Rattle.plane_clip.specs.Extents.{IsCornerExtent}
use Rattle.plane_clip.specs.Limits.{IsThin}
use Rattle.plane_clip.specs.Parts.{HoldsCorner, HoldsShare}
use Rattle.flux_moments.specs.Columns.{moment_at}
use Rattle.flux_moments.specs.Limits.{EndsLess}
use Rattle.flux_moments.specs.PartSizes.{part_area, side_area, top_area, part_volume, part_length}
use Rattle.flux_moments.specs.Planes.{IsIn, AreLevelEnds}
use Rattle.flux_moments.specs.Sizes.{BoxSize, HasSize, AreSizes, spread}
use Rattle.flux_moments.specs.declared.box_levels.ShipLength.{ShipLength}
use Rattle.flux_moments.specs.declared.plane_box.PlaneBox.{PlaneBox}
use Rattle.flux_moments.proofs.BoxWidths.{nonnegative_rise, nonnegative_turn}
use Rattle.flux_moments.proofs.FaceWidths.{width_at, reach_at, some, far}
use Rattle.flux_moments.proofs.Heights.{height_is}
use Rattle.flux_moments.proofs.MeanWidths.{depths_of, depth-narrow, depth-near, weighted_widths, weighted_reaches, nonnegative_weighted_width, nonnegative_weighted_reach}
use Rattle.flux_moments.proofs.PartWidths.{thin-narrow, mm-near, greatest-near, nonnegative_area}
use Rattle.flux_moments.proofs.PlaceLevels.{level_contained, level_narrow, level_near}
use Rattle.flux_moments.proofs.TriangleColumns.{depths_at, doubled_share, volume_shared, moment_shared}
use Rattle.compartment_loss.specs.Upright.{IsUpright}
use Rattle.compartment_loss.proofs.UprightDepths.{cosine_is, sine_is}

-- ---- depths of corners
module _ (planes : PlaneBox) (way : ShipLength) (corner : PartCorner) (level result : Span 20) (ends : AreLevelEnds planes way.first way.last corner.x level.lo level.hi)
    (between : (way.first ≤ℤ corner.x) × (corner.x ≤ℤ way.last)) (is : AreEnds (level.lo -ℤ corner.z.hi) (level.hi -ℤ corner.z.lo) result.lo result.hi) where
  pub corner_contained : IsUpright planes → (plane : Waterplane) (p : Position) → IsIn planes plane → HoldsCorner corner p → ContainsFraction 20 result.lo result.hi (depth plane way.first way.last p)
  corner_contained upright plane p within h = difference_contains 20 level.lo level.hi corner.z.lo corner.z.hi result.lo result.hi (level_at plane way.first way.last p.x) (height plane p) is
      (subst (λ (x : Fraction). ContainsFraction 20 level.lo level.hi (level_at plane way.first way.last x)) (sym h.x) (level_contained planes way corner.x level.lo level.hi between.0 between.1 ends plane within))
      (subst (λ (x : Fraction). ContainsFraction 20 corner.z.lo corner.z.hi x) upright_height h.z)
    where
      upright_height : p.z ≡ height plane p
      upright_height = ring fraction_ring (p.z ∷ p.y ∷ []) (var 0) (unit :* var 0 :+ number 0 :* var 1) refl
          ∙ ap₂ (λ c s. c ⊗ p.z ⊕ s ⊗ p.y) (sym (cosine_is planes upright plane within)) (sym (sine_is planes upright plane within)) ∙ height_is plane p

  module _ (b : BoxSize) (h : Fraction) (y z : ℕ) (size : HasSize planes b) (extent : IsCornerExtent y z 3 corner) where
    pub corner_narrow : one ≼ h → IsNarrow 20 ((spread b h ⊕ units 20 8) ⊕ units 20 4) result.lo result.hi
    corner_narrow some = narrow-wider (order_from fractions (b.rise ∷ (b.turn ⊗ h) ∷ unit_of 20 ∷ []) ((unit, number 0, var 1) ∷ (number 7, number 0, var 2) ∷ [])
        (at_most (Order.nought-≼ fractions (Order.nonnegative-mul fractions (nonnegative_turn planes b size)
        (Order.nonnegative_from fractions (Order.≼_trans fractions (Order.nought-≼ fractions (Order.nonnegative-one fractions)) some))))
        (scaled (Order.nonnegative-number fractions 7) (Order.nought-≼ fractions (nonnegative-unit_of 20)) no_more))
        ((var 0 :+ number 2 :* var 2) :+ number 3 :* var 2) (((var 0 :+ var 1) :+ number 8 :* var 2) :+ number 4 :* var 2) refl)
        (narrow-difference is (level_narrow planes way corner.x level.lo level.hi between.0 between.1 ends b.rise size.aft size.fore) (thin-narrow 3 corner.z.lo corner.z.hi extent.z_thin))

    pub corner_near : b.level ⊕ whole (pos (z + y)) ≼ h → IsNear 20 (h ⊕ units 20 2) result.lo result.hi
    corner_near reached = near-wider (order_from fractions (b.level ∷ whole (pos z) ∷ whole (pos (z + y)) ∷ h ∷ unit_of 20 ∷ [])
        ((unit, var 0 :+ var 2, var 3) ∷ (unit, var 1, var 2) ∷ (unit, number 0, var 4) ∷ [])
        (at_most reached (at_most (whole-≼ (more z y)) (at_most (Order.nought-≼ fractions (nonnegative-unit_of 20)) no_more)))
        ((var 0 :+ number 1 :* var 4) :+ var 1) (var 3 :+ number 2 :* var 4) refl)
        (near-difference is (level_near planes way corner.x level.lo level.hi between.0 between.1 ends b.level size.aft_level size.fore_level) (mm-near z extent.z_ends))
      where
        more : (z y : ℕ) → pos z ≤ℤ pos (z + y)
        more z y = omega (arith, ints)

-- ---- values
module _ (planes : PlaneBox) (upright : IsUpright planes) (plane : Waterplane) (is : IsIn planes plane) (first last : ℤ) (t : Triangle Position) (share : Fraction) where
  seen_is : negative (area_z t ⊗ share) ≡ doubled_share plane t share
  seen_is = ring fraction_ring (other ∷ (area_z t ⊗ share) ∷ []) (opposite (var 1)) (opposite (number 0 :* var 0 :+ unit :* var 1)) refl
      ∙ ap₂ (λ c s. negative (s ⊗ other ⊕ c ⊗ (area_z t ⊗ share))) (sym (cosine_is planes upright plane is)) (sym (sine_is planes upright plane is))
    where
      other : Fraction
      other = ((t.b.z ⊖ t.a.z) ⊗ (t.c.x ⊖ t.a.x) ⊖ (t.b.x ⊖ t.a.x) ⊗ (t.c.z ⊖ t.a.z)) ⊗ share

  pub part_volume_is : mean_at wet_depth (depths_at plane first last t) ⊗ negative (area_z t ⊗ share) ≡ (column plane first last (λ p. one) t ⊗ share) ⊗ whole (pos 2)
  part_volume_is = ap (λ a. mean_at wet_depth (depths_at plane first last t) ⊗ a) seen_is ∙ volume_shared plane first last t share

  pub part_mx_is : (part : Part) → HoldsShare part share t → moment_at (depths_at plane first last t) (negative (area_z t ⊗ share)) (whole part.a.x) (whole part.b.x) (whole part.c.x)
      ≡ (column plane first last (λ p. p.x) t ⊗ share) ⊗ whole (pos 2)
  part_mx_is part h = (λ i. moment_at (depths_at plane first last t) (seen_is i) (sym h.a.x i) (sym h.b.x i) (sym h.c.x i)) ∙ moment_shared plane first last t share (λ p. p.x)

-- ---- the factor
pub factor_narrow : (p : Part) {lo hi : ℤ} → AreEnds (neg_ℤ p.az.hi) (neg_ℤ p.az.lo) lo hi → IsThin 3 p.az.lo p.az.hi → IsNarrow 20 (units 20 3) lo hi
factor_narrow p is thin = narrow-negative is (thin-narrow 3 p.az.lo p.az.hi thin)

pub factor_near : (p : Part) {lo hi : ℤ} → AreEnds (neg_ℤ p.az.hi) (neg_ℤ p.az.lo) lo hi → IsNear 20 (part_area p) lo hi
unfolding in_unit
factor_near p is = near-negative is (near-wider (order_from fractions (side_area p ∷ top_area p ∷ []) ((unit, number 0, var 0) ∷ [])
    (at_most (Order.nought-≼ fractions (Order.nonnegative-mul fractions (nonnegative-whole (magnitude p.ay.lo p.ay.hi))
    (Order.nonnegative_positive fractions (Bounds.positive-inverse fractions (positive-unit 20))))) no_more) (var 1) (var 0 :+ var 1) refl) (greatest-near p.az.lo p.az.hi))

-- ---- widths
pub part_spread : (planes : PlaneBox) (b : BoxSize) → HasSize planes b → (h : Fraction) → one ≼ h → sign (spread b h) ≢ below
part_spread planes b is h some = Order.nonnegative-add fractions (nonnegative_rise planes b is) (Order.nonnegative-mul fractions (nonnegative_turn planes b is)
    (Order.nonnegative_from fractions (Order.≼_trans fractions (Order.nought-≼ fractions (Order.nonnegative-one fractions)) some)))

pub part_sizes : (planes : PlaneBox) (b : BoxSize) → HasSize planes b → (h : Fraction) → one ≼ h → (p : Part) → AreSizes (spread b h ⊕ units 20 8) h (part_area p) nought
part_sizes planes b is h some p = record {
  spread = above;
  some = some;
  area = nonnegative_area p;
  turn = Order.nonnegative-nought fractions;
  at_most_one = order_from fractions [] ((unit, number 0, unit) ∷ []) (at_most (Order.nought-≼ fractions (Order.nonnegative-one fractions)) no_more) (number 0) unit refl;
  turned = order_from fractions (h ∷ (spread b h ⊕ units 20 8) ∷ []) ((unit, number 0, var 1) ∷ []) (at_most (Order.nought-≼ fractions above) no_more) (number 0 :* var 0) (var 1) refl;
}
  where
    above : sign (spread b h ⊕ units 20 8) ≢ below
    above = Order.nonnegative-add fractions (part_spread planes b is h some) (nonnegative-units 20 8)

module _ (s h a : Fraction) (spread_above : sign s ≢ below) (is : AreSizes (s ⊕ units 20 8) h a nought) (x y z : Span 20)
    (wide : IsNarrow 20 ((s ⊕ units 20 8) ⊕ units 20 4) x.lo x.hi × IsNarrow 20 ((s ⊕ units 20 8) ⊕ units 20 4) y.lo y.hi × IsNarrow 20 ((s ⊕ units 20 8) ⊕ units 20 4) z.lo z.hi)
    (near : IsNear 20 (h ⊕ units 20 2) x.lo x.hi × IsNear 20 (h ⊕ units 20 2) y.lo y.hi × IsNear 20 (h ⊕ units 20 2) z.lo z.hi) where
  abbrev w : ℕ → Fraction
  w j = width_at (s ⊕ units 20 8) h a nought is x y z wide near j

  abbrev m : ℕ → Fraction
  m j = reach_at (s ⊕ units 20 8) h a nought is x y z wide near j

  wide_some : nought ≼ (s ⊕ units 20 8) ⊕ units 20 4
  wide_some = some (s ⊕ units 20 8) h a nought is x y z wide near

  far_some : nought ≼ h ⊕ units 20 2
  far_some = far (s ⊕ units 20 8) h a nought is x y z wide near

  above_h : sign h ≢ below
  above_h = Order.nonnegative_from fractions (Order.≼_trans fractions (Order.nought-≼ fractions (Order.nonnegative-one fractions)) is.some)

  above_u : sign (unit_of 20) ≢ below
  above_u = nonnegative-unit_of 20

  n : (k : ℕ) → sign (units 20 k) ≢ below
  n k = nonnegative-units 20 k

  small : units 20 1 ≼ one
  small = units-at_most 20 1 less
    where
      less : pos 1 ≤ℤ pos (2 ^ 20)
      less = omega (arith, ints)

  pub part_volume_narrow : (mean factor r : Span 20) → EnclosesMean 20 (depths_of x y z) mean wet_depth → IsNoWider 20 8 (depths_of x y z) mean wet_depth
      → IsNarrow 20 (units 20 3) factor.lo factor.hi → IsNear 20 a factor.lo factor.hi
      → ((r.hi -ℤ r.lo) *ℤ pos (2 ^ 20)) ≤ℤ ((pos (magnitude mean.lo mean.hi) *ℤ (factor.hi -ℤ factor.lo) +ℤ pos (magnitude factor.lo factor.hi) *ℤ (mean.hi -ℤ mean.lo)) +ℤ pos (2 * 2 ^ 20))
      → IsNarrow 20 (part_volume h s a) r.lo r.hi
  part_volume_narrow mean factor r holds no_wider factor_width factor_reach product = narrow-wider
      (order_from fractions (s ∷ h ∷ a ∷ unit_of 20 ∷ []) ((var 2 :+ number 2, number 0, var 0) ∷ (number 20 :* var 2 :+ number 13 :* var 1 :+ number 10, number 0, var 3) ∷ (number 30 :* var 3, number 1 :* var 3, unit) ∷ [])
      (scaled (Order.nonnegative-add fractions is.area (Order.nonnegative-number fractions 2)) (Order.nought-≼ fractions spread_above)
      (scaled (Order.nonnegative-add fractions (Order.nonnegative-add fractions (Order.nonnegative-mul fractions (Order.nonnegative-number fractions 20) is.area)
      (Order.nonnegative-mul fractions (Order.nonnegative-number fractions 13) above_h)) (Order.nonnegative-number fractions 10)) (Order.nought-≼ fractions above_u) (scaled (n 30) small no_more)))
      ((((var 1 :+ number 2 :* var 3) :+ number 8 :* var 3) :* (number 3 :* var 3) :+ var 2 :* (((var 0 :+ number 8 :* var 3) :+ number 4 :* var 3) :+ number 8 :* var 3)) :+ number 2 :* var 3)
      (((var 2 :+ unit) :* ((var 0 :+ var 0) :+ number 40 :* var 3) :+ (number 16 :* var 3) :* var 1) :+ number 2 :* var 3) refl)
      (narrow-scaled {F = 20} {G = 20} mean.ordered factor.ordered (omega arith) product
      (depth-narrow x y z ((s ⊕ units 20 8) ⊕ units 20 4) (h ⊕ units 20 2) wide near wide_some far_some mean no_wider)
      (depth-near x y z ((s ⊕ units 20 8) ⊕ units 20 4) (h ⊕ units 20 2) wide near wide_some far_some mean holds no_wider) factor_width factor_reach)

  abbrev scaled_width : ℕ → Fraction
  scaled_width j = (m j ⊗ units 20 3 ⊕ a ⊗ w j) ⊕ units 20 2

  above_scaled : (j : ℕ) → sign (scaled_width j) ≢ below
  above_scaled j = Order.nonnegative-add fractions (Order.nonnegative-add fractions
      (Order.nonnegative-mul fractions (nonnegative_weighted_reach x y z ((s ⊕ units 20 8) ⊕ units 20 4) (h ⊕ units 20 2) wide near wide_some far_some j) (n 3))
      (Order.nonnegative-mul fractions is.area (nonnegative_weighted_width x y z ((s ⊕ units 20 8) ⊕ units 20 4) (h ⊕ units 20 2) wide near wide_some far_some j))) (n 2)

  pub part_length_narrow : (l : Fraction) (i j k : ℕ) → whole (pos i) ≼ l → whole (pos j) ≼ l → whole (pos k) ≼ l → {a0 b0 a1 b1 a2 b2 a3 b3 lo hi : ℤ}
      → AreEnds (a0 +ℤ a1) (b0 +ℤ b1) a3 b3 → AreEnds (a3 +ℤ a2) (b3 +ℤ b2) lo hi
      → IsNarrow 20 (scaled_width 0 ⊗ whole (pos i)) a0 b0 → IsNarrow 20 (scaled_width 1 ⊗ whole (pos j)) a1 b1 → IsNarrow 20 (scaled_width 2 ⊗ whole (pos k)) a2 b2 → IsNarrow 20 (part_length l h s a) lo hi
  part_length_narrow l i j k hi hj hk two three n0 n1 n2 = narrow-wider
      (order_from fractions (s ∷ h ∷ a ∷ unit_of 20 ∷ w 0 ∷ w 1 ∷ w 2 ∷ m 0 ∷ m 1 ∷ m 2 ∷ whole (pos i) ∷ whole (pos j) ∷ whole (pos k) ∷ l ∷ [])
      (((var 7 :* (number 3 :* var 3) :+ var 2 :* var 4) :+ number 2 :* var 3, var 10, var 13)
      ∷ ((var 8 :* (number 3 :* var 3) :+ var 2 :* var 5) :+ number 2 :* var 3, var 11, var 13)
      ∷ ((var 9 :* (number 3 :* var 3) :+ var 2 :* var 6) :+ number 2 :* var 3, var 12, var 13)
      ∷ (var 13 :* (number 3 :* var 3), (var 7 :+ var 8) :+ var 9, (var 1 :+ number 2 :* var 3) :+ number 24 :* var 3)
      ∷ (var 13 :* var 2, (var 4 :+ var 5) :+ var 6, ((var 0 :+ number 8 :* var 3) :+ number 4 :* var 3) :+ number 24 :* var 3)
      ∷ (var 13 :* (var 2 :+ number 2), number 0, var 0) ∷ (var 13 :* ((number 44 :* var 2 :+ number 13 :* var 1) :+ number 2), number 0, var 3) ∷ (var 13 :* (number 78 :* var 3), number 1 :* var 3, unit) ∷ [])
      (scaled (above_scaled 0) hi (scaled (above_scaled 1) hj (scaled (above_scaled 2) hk
      (scaled (Order.nonnegative-mul fractions long (n 3)) (weighted_reaches x y z ((s ⊕ units 20 8) ⊕ units 20 4) (h ⊕ units 20 2) wide near wide_some far_some)
      (scaled (Order.nonnegative-mul fractions long is.area) (weighted_widths x y z ((s ⊕ units 20 8) ⊕ units 20 4) (h ⊕ units 20 2) wide near wide_some far_some)
      (scaled (Order.nonnegative-mul fractions long (Order.nonnegative-add fractions is.area (Order.nonnegative-number fractions 2))) (Order.nought-≼ fractions spread_above)
      (scaled (Order.nonnegative-mul fractions long (Order.nonnegative-add fractions (Order.nonnegative-add fractions (Order.nonnegative-mul fractions (Order.nonnegative-number fractions 44) is.area)
      (Order.nonnegative-mul fractions (Order.nonnegative-number fractions 13) above_h)) (Order.nonnegative-number fractions 2))) (Order.nought-≼ fractions above_u)
      (scaled (Order.nonnegative-mul fractions long (n 78)) small no_more))))))))
      ((((var 7 :* (number 3 :* var 3) :+ var 2 :* var 4) :+ number 2 :* var 3) :* var 10 :+ ((var 8 :* (number 3 :* var 3) :+ var 2 :* var 5) :+ number 2 :* var 3) :* var 11)
      :+ ((var 9 :* (number 3 :* var 3) :+ var 2 :* var 6) :+ number 2 :* var 3) :* var 12)
      (var 13 :* (((var 2 :+ unit) :* ((var 0 :+ var 0) :+ number 80 :* var 3) :+ (number 16 :* var 3) :* var 1) :+ number 6 :* var 3)) refl)
      (narrow-sum three (narrow-sum two n0 n1) n2)
    where
      long : sign l ≢ below
      long = Order.nonnegative_from fractions (Order.≼_trans fractions (Order.nought-≼ fractions (nonnegative-whole i)) hi)

-- ---- ends
pub factor_less : (p : Part) {lo hi : ℤ} → AreEnds (neg_ℤ p.az.hi) (neg_ℤ p.az.lo) lo hi → EndsLess (2 ^ 57) lo hi
factor_less p is = record { low = turned p.az.hi _ p.az_ends.high is.low; high = turned p.az.lo _ p.az_ends.low is.high }
  where
    turned : (a n : ℤ) → unsigned_abs a ≤ (2 ^ 37 - 1) * 2 ^ 20 → n ≡ neg_ℤ a → unsigned_abs n < 2 ^ 57
    turned a n h e = omega (arith, ints, h, e)

pub along-fits : (n : ℤ) → pos 0 ≤ℤ n → n ≤ℤ pos 524287 → SFits w128 n
along-fits n h k = fits_signed_from_abs w128 n (below n h k)
  where
    below : (n : ℤ) → pos 0 ≤ℤ n → n ≤ℤ pos 524287 → unsigned_abs n < 2 ^ hbits w128
    below n h k = omega (arith, ints, h, k)
