-- How wide the columns of a face are, from the clauses of the operators that they are made by.
use Rattle.std.proofs.Common.{◌≢◌, ℕ, ◌*◌, ◌^◌, pos, ◌+ℤ◌, ◌-ℤ◌, ◌*ℤ◌, ◌≤ℤ◌, arith}
use Rattle.exact_algebra.specs.OrderedField.{below}
use Rattle.exact_algebra.proofs.Fraction.{Fraction, nought, ◌⊕◌, ◌⊗◌, sign, fractions, ◌≼◌}
use Rattle.exact_algebra.proofs.Order as Order
use Rattle.exact_algebra.proofs.Order.{order_from, no_more, at_most}
use Rattle.exact_algebra.proofs.Products.{magnitude}
use Rattle.exact_algebra.proofs.Whole.{whole, nonnegative-whole}
use Rattle.hull_model.specs.WetMean.{wet_depth, weighted_depth}
use Rattle.outward_interval.specs.declared.span.Span.{Span}
use Rattle.outward_interval.specs.Ends.{AreEnds}
use Rattle.outward_interval.specs.Widths.{units, IsNarrow, IsNear}
use Rattle.outward_interval.proofs.Narrow.{nonnegative-units, narrow-wider, narrow-sum, narrow-scaled}
use Rattle.plane_clip.specs.Enclosure.{EnclosesMean, IsNoWider}
use Rattle.flux_moments.specs.Sizes.{AreSizes, column_width, product_width, volume_part, length_part, height_part}
use Rattle.flux_moments.proofs.ColumnWidths.{volume-narrow, length-narrow, height-narrow}
use Rattle.flux_moments.proofs.MeanWidths.{depths_of, depth-narrow, depth-near, weighted_width, weighted_reach, weighted-narrow, weighted-near, weighted_widths, weighted_reaches, nonnegative_weighted_width, nonnegative_weighted_reach}

module _ (s h a e : Fraction) (is : AreSizes s h a e) (x y z : Span 20)
    (wide : IsNarrow 20 (s ⊕ units 20 4) x.lo x.hi × IsNarrow 20 (s ⊕ units 20 4) y.lo y.hi × IsNarrow 20 (s ⊕ units 20 4) z.lo z.hi)
    (near : IsNear 20 (h ⊕ units 20 2) x.lo x.hi × IsNear 20 (h ⊕ units 20 2) y.lo y.hi × IsNear 20 (h ⊕ units 20 2) z.lo z.hi) where
  reach : sign h ≢ below
  reach = Order.nonnegative_from fractions (Order.≼_trans fractions (Order.nought-≼ fractions (Order.nonnegative-one fractions)) is.some)

  pub some : nought ≼ s ⊕ units 20 4
  some = Order.nought-≼ fractions (Order.nonnegative-add fractions is.spread (nonnegative-units 20 4))

  pub far : nought ≼ h ⊕ units 20 2
  far = Order.nought-≼ fractions (Order.nonnegative-add fractions reach (nonnegative-units 20 2))

  -- twice the volume
  pub volume_narrow : (factor : Span 40) (mean r : Span 20) → IsNarrow 40 (e ⊗ a) factor.lo factor.hi → IsNear 40 a factor.lo factor.hi → EnclosesMean 20
      (depths_of x y z) mean wet_depth → IsNoWider 20 8 (depths_of x y z) mean wet_depth
      → ((r.hi -ℤ r.lo) *ℤ pos (2 ^ 40)) ≤ℤ ((pos (magnitude mean.lo mean.hi) *ℤ (factor.hi -ℤ factor.lo) +ℤ pos (magnitude factor.lo factor.hi) *ℤ
      (mean.hi -ℤ mean.lo)) +ℤ pos (2 * 2 ^ 40))
      → IsNarrow 20 (volume_part s a) r.lo r.hi
  volume_narrow factor mean r factor_width factor_reach holds no_wider product = narrow-wider (volume-narrow is)
      (narrow-scaled {F = 20} {G = 40} mean.ordered factor.ordered (omega arith) product
      (depth-narrow x y z (s ⊕ units 20 4) (h ⊕ units 20 2) wide near some far mean no_wider)
      (depth-near x y z (s ⊕ units 20 4) (h ⊕ units 20 2) wide near some far mean holds no_wider) factor_width factor_reach)

  -- ---- the moments
  abbrev pub width_at : ℕ → Fraction
  width_at k = weighted_width x y z (s ⊕ units 20 4) (h ⊕ units 20 2) wide near some far k

  abbrev pub reach_at : ℕ → Fraction
  reach_at k = weighted_reach x y z (s ⊕ units 20 4) (h ⊕ units 20 2) wide near some far k

  pub width_narrow : (k : ℕ) (mean : Span 20) → IsNoWider 20 8 (depths_of x y z) mean (weighted_depth k) → IsNarrow 20 (width_at k) mean.lo mean.hi
  width_narrow k mean no_wider = weighted-narrow x y z (s ⊕ units 20 4) (h ⊕ units 20 2) wide near some far k mean no_wider

  pub reach_near : (k : ℕ) (mean : Span 20) → EnclosesMean 20 (depths_of x y z) mean (weighted_depth k) → IsNoWider 20 8 (depths_of x y z) mean
      (weighted_depth k) → IsNear 20 (reach_at k) mean.lo mean.hi
  reach_near k mean holds no_wider = weighted-near x y z (s ⊕ units 20 4) (h ⊕ units 20 2) wide near some far k mean holds no_wider

  widths : (width_at 0 ⊕ width_at 1) ⊕ width_at 2 ≼ (s ⊕ units 20 4) ⊕ units 20 24
  widths = weighted_widths x y z (s ⊕ units 20 4) (h ⊕ units 20 2) wide near some far

  reaches : (reach_at 0 ⊕ reach_at 1) ⊕ reach_at 2 ≼ (h ⊕ units 20 2) ⊕ units 20 24
  reaches = weighted_reaches x y z (s ⊕ units 20 4) (h ⊕ units 20 2) wide near some far

  wide_enough : (k : ℕ) → sign (width_at k) ≢ below
  wide_enough k = nonnegative_weighted_width x y z (s ⊕ units 20 4) (h ⊕ units 20 2) wide near some far k

  far_enough : (k : ℕ) → sign (reach_at k) ≢ below
  far_enough k = nonnegative_weighted_reach x y z (s ⊕ units 20 4) (h ⊕ units 20 2) wide near some far k

  -- three columns times places
  pub length_narrow : (l : Fraction) (k1 k2 k3 : ℕ) → whole (pos k1) ≼ l → whole (pos k2) ≼ l → whole (pos k3) ≼ l → (p q r t result : Span 20)
      → AreEnds (p.lo +ℤ q.lo) (p.hi +ℤ q.hi) t.lo t.hi → AreEnds (t.lo +ℤ r.lo) (t.hi +ℤ r.hi) result.lo result.hi
      → IsNarrow 20 (column_width (width_at 0) (reach_at 0) e a ⊗ whole (pos k1)) p.lo p.hi → IsNarrow 20
      (column_width (width_at 1) (reach_at 1) e a ⊗ whole (pos k2)) q.lo q.hi → IsNarrow 20
      (column_width (width_at 2) (reach_at 2) e a ⊗ whole (pos k3)) r.lo r.hi
      → IsNarrow 20 (length_part l s a) result.lo result.hi
  length_narrow l k1 k2 k3 h1 h2 h3 p q r t result two three n1 n2 n3 = narrow-wider
      (length-narrow is (width_at 0) (width_at 1) (width_at 2) (reach_at 0) (reach_at 1) (reach_at 2) widths reaches l (whole (pos k1))
      (whole (pos k2)) (whole (pos k3)) h1 h2 h3
      (Order.nonnegative_from fractions (Order.≼_trans fractions (Order.nought-≼ fractions (nonnegative-whole k1)) h1))
      (wide_enough 0) (wide_enough 1) (wide_enough 2) (far_enough 0) (far_enough 1) (far_enough 2))
      (narrow-sum three (narrow-sum two n1 n2) n3)

  -- and times heights or sides
  abbrev pub product_at : ℕ → Fraction
  product_at k = product_width (width_at k) (reach_at k) e a (s ⊕ units 20 4) (h ⊕ units 20 2)

  pub height_narrow : (p q r t result : Span 20) → AreEnds (p.lo +ℤ q.lo) (p.hi +ℤ q.hi) t.lo t.hi → AreEnds (t.lo +ℤ r.lo) (t.hi +ℤ r.hi) result.lo result.hi
      → IsNarrow 20 (product_at 0) p.lo p.hi → IsNarrow 20 (product_at 1) q.lo q.hi → IsNarrow 20 (product_at 2) r.lo r.hi → IsNarrow 20
      (height_part h s a) result.lo result.hi
  height_narrow p q r t result two three n1 n2 n3 = narrow-wider
      (height-narrow is (width_at 0) (width_at 1) (width_at 2) (reach_at 0) (reach_at 1) (reach_at 2) widths reaches)
      (narrow-sum three (narrow-sum two n1 n2) n3)
