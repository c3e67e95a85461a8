-- How wide the sums over the parts that are lost are, and what is left by them.
use Rattle.std.proofs.Common.{◌≡◌, ◌≢◌, ◌∙◌, refl, sym, ap, List, [], ◌∷◌, length, ℕ, zero, suc, ◌+◌, ◌*◌, ◌^◌, ◌<◌, ◌≤◌, ℤ, pos, unsigned_abs, ◌+ℤ◌, ◌-ℤ◌, ◌≤ℤ◌, ◌<ℤ◌, arith}
use Rattle.std.proofs.lemmas.Int.{ints}
use Rattle.std.specs.List.{AllByRecursion}
use Rattle.exact_algebra.specs.Expression.{var, unit, number, ◌:+◌, ◌:-◌, ◌:*◌, opposite}
use Rattle.exact_algebra.specs.OrderedField.{below}
use Rattle.exact_algebra.specs.Ring.{number_value}
use Rattle.exact_algebra.proofs.Bounds as Bounds
use Rattle.exact_algebra.proofs.Fraction.{Fraction, one, ◌⊕◌, ◌⊗◌, ◌⊖◌, inverse, sign, fractions, fraction_ring, ◌≼◌}
use Rattle.exact_algebra.proofs.Order as Order
use Rattle.exact_algebra.proofs.Order.{order_from, no_more, at_most, scaled, equal}
use Rattle.exact_algebra.proofs.Ring.{ring, ring_from, given, none}
use Rattle.exact_algebra.proofs.Span.{positive-unit}
use Rattle.exact_algebra.proofs.Whole.{whole, whole-nought, whole-one, whole-add, whole-mul, whole-≼, positive-whole, nonnegative-whole}
use Rattle.hull_model.specs.declared.face.Face.{Face}
use Rattle.hull_model.specs.declared.slab.Slab.{Slab}
use Rattle.hull_model.specs.Faces.{IsFace}
use Rattle.hull_model.specs.Fractions.{sum_over}
use Rattle.hull_polyhedron.specs.declared.faces.Faces.{Faces}
use Rattle.outward_interval.specs.Ends.{AreEnds}
use Rattle.outward_interval.specs.Widths.{unit_of, units, IsNarrow}
use Rattle.outward_interval.proofs.Narrow.{whole-number, unit-in, nonnegative-unit_of, narrow-wider, narrow-difference}
use Rattle.plane_clip.specs.declared.part.Part.{Part}
use Rattle.plane_clip.specs.Extents.{ArePartExtents}
use Rattle.plane_clip.specs.Parts.{HoldsShare}
use Rattle.plane_clip.proofs.EachLists.{each-length}
use Rattle.flux_moments.specs.PartSizes.{part_area, part_volume, part_length, part_height, ArePartsReached}
use Rattle.flux_moments.specs.Shared.{HoldShares}
use Rattle.flux_moments.specs.Sizes.{spread, doubled_area}
use Rattle.flux_moments.specs.Widths.{half_areas, size_of, reach_of, volume_bound}
use Rattle.flux_moments.specs.declared.plane_box.PlaneBox.{PlaneBox}
use Rattle.flux_moments.proofs.BoxWidths.{nonnegative_rise, nonnegative_turn}
use Rattle.flux_moments.proofs.PartWidths.{nonnegative_area}
use Rattle.flux_moments.proofs.TotalWidths.{sixteen, size_is, some_reach, nonnegative_bound}
use Rattle.compartment_loss.specs.Flooding.{flooded_parts}
use Rattle.compartment_loss.specs.LeftWidths.{slabs_bound}
use Rattle.compartment_loss.proofs.LostAreas.{slab_most, one_more, parts-counted, slabs-counted, few-slabs}

-- ---- sums
sum_affine : (ps : List Part) (f : Part → Fraction) (c k : Fraction) → ((p : Part) → f p ≡ (part_area p ⊕ one) ⊗ c ⊕ k)
    → sum_over f ps ≡ sum_over (λ p. part_area p ⊕ one) ps ⊗ c ⊕ whole (pos (length ps)) ⊗ k
unfolding sum_over
sum_affine [] f c k each = ring_from fraction_ring (c ∷ k ∷ whole (pos 0) ∷ []) ((opposite (var 1), var 2, number 0) ∷ []) (given whole-nought none)
    (number 0) (number 0 :* var 0 :+ var 2 :* var 1) refl
sum_affine (p ∷ ps) f c k each = ring_from fraction_ring (f p ∷ sum_over f ps ∷ (part_area p ⊕ one) ∷ sum_over (λ p. part_area p ⊕ one) ps ∷ c ∷ k ∷ whole (pos (length ps)) ∷ whole (pos (suc (length ps))) ∷ [])
    ((unit, var 0, var 2 :* var 4 :+ var 5) ∷ (unit, var 1, var 3 :* var 4 :+ var 6 :* var 5) ∷ (opposite (var 5), var 7, var 6 :+ unit) ∷ [])
    (given (each p) (given (sum_affine ps f c k each) (given (one_more (length ps)) none))) (var 0 :+ var 1) ((var 2 :+ var 3) :* var 4 :+ var 7 :* var 5) refl

twice_halves : (faces : List Face) → half_areas faces ⊗ number_value fraction_ring.operations 2 ≡ sum_over doubled_area faces
unfolding sum_over
twice_halves [] = ring fraction_ring [] (number 0 :* number 2) (number 0) refl
twice_halves (f ∷ faces) = ring_from fraction_ring (doubled_area f ∷ half_areas faces ∷ sum_over doubled_area faces ∷ inverse (whole (pos 2)) ∷ whole (pos 2) ∷ [])
    ((unit, var 1 :* number 2, var 2) ∷ (var 0, var 4 :* var 3, unit) ∷ (opposite (var 0 :* var 3), var 4, number 2) ∷ [])
    (given (twice_halves faces) (given (Bounds.mul-inverse_positive fractions (positive-whole 2 (omega arith))) (given (whole-number 2) none)))
    ((var 0 :* var 3 :+ var 1) :* number 2) (var 0 :+ var 2) refl

nonnegative_areas : (faces : List Face) → sign (sum_over doubled_area faces) ≢ below
unfolding sum_over
nonnegative_areas [] = Order.nonnegative-nought fractions
nonnegative_areas (f ∷ faces) = Order.nonnegative-add fractions (nonnegative-whole (unsigned_abs f.ay + unsigned_abs f.az)) (nonnegative_areas faces)

-- 2^-12 is 256 units of 2^-20
twelve : unit_of 12 ≡ units 20 256
twelve = Order.mul_cancel fractions (Order.not_nought fractions (positive-unit 20))
    (ring_from fraction_ring (unit_of 12 ∷ unit_of 20 ∷ whole (pos (2 ^ 12)) ∷ whole (pos (2 ^ 20)) ∷ whole (pos 256) ∷ [])
    ((var 0, var 3, var 2 :* var 4) ∷ (var 4, var 0 :* var 2, unit) ∷ (unit, var 4, number 256) ∷ (opposite (number 256), var 1 :* var 3, unit) ∷ [])
    (given (whole-mul (pos (2 ^ 12)) (pos 256)) (given (unit-in 12) (given (whole-number 256) (given (unit-in 20) none)))) (var 0 :* var 3)
    ((number 256 :* var 1) :* var 3) refl)

nonnegative_counts : (ps : List Part) → sign (sum_over (λ p. part_area p ⊕ one) ps) ≢ below
unfolding sum_over
nonnegative_counts [] = Order.nonnegative-nought fractions
nonnegative_counts (p ∷ ps) = Order.nonnegative-add fractions (Order.nonnegative-add fractions (nonnegative_area p) (Order.nonnegative-one fractions)) (nonnegative_counts ps)

product-some : (x y : Fraction) → one ≼ x → one ≼ y → one ≼ x ⊗ y
product-some x y h k = order_from fractions (x ∷ y ∷ []) ((unit, unit, var 0) ∷ (var 0, unit, var 1) ∷ []) (at_most h (scaled above k no_more)) unit (var 0 :* var 1) refl
  where
    above : sign x ≢ below
    above = Order.nonnegative_from fractions (Order.≼_trans fractions (Order.nought-≼ fractions (Order.nonnegative-one fractions)) h)

module _ (faces : Faces) (b : PlaneBox) where
  abbrev S : Fraction
  S = sum_over doubled_area faces.list

  abbrev N : Fraction
  N = whole (pos (length faces.list))

  abbrev pub h : Fraction
  h = reach_of faces b

  abbrev pub s : Fraction
  s = spread (size_of b) h

  abbrev W : Fraction
  W = volume_bound faces b

  abbrev K : Fraction
  K = whole (pos (2 ^ 17))

  abbrev u : Fraction
  u = unit_of 20

  n : (k : ℕ) → sign (number_value fraction_ring.operations k) ≢ below
  n k = Order.nonnegative-number fractions k

  reach : sign h ≢ below
  reach = Order.nonnegative_from fractions (Order.≼_trans fractions (Order.nought-≼ fractions (Order.nonnegative-one fractions)) (some_reach faces b))

  spread_is : sign s ≢ below
  spread_is = Order.nonnegative-add fractions (nonnegative_rise b (size_of b) (size_is b)) (Order.nonnegative-mul fractions (nonnegative_turn b (size_of b) (size_is b)) reach)

  u_above : sign u ≢ below
  u_above = nonnegative-unit_of 20

  bound_is : W ≡ (number_value fraction_ring.operations 4 ⊗ S ⊕ number_value fraction_ring.operations 8 ⊗ K) ⊗ (s ⊕ units 20 16)
  unfolding volume_bound
  bound_is = ring_from fraction_ring (whole (pos 8) ∷ half_areas faces.list ∷ K ∷ s ∷ unit_of 16 ∷ S ∷ u ∷ [])
      (((var 1 :+ var 2) :* (var 3 :+ var 4), var 0, number 8) ∷ (number 4 :* (var 3 :+ var 4), var 1 :* number 2, var 5) ∷ (number 4 :* var 5 :+ number 8 :* var 2, var 4, number 16 :* var 6) ∷ [])
      (given (whole-number 8) (given (twice_halves faces.list) (given sixteen none)))
      ((var 0 :* (var 1 :+ var 2)) :* (var 3 :+ var 4)) ((number 4 :* var 5 :+ number 8 :* var 2) :* (var 3 :+ number 16 :* var 6)) refl

  eight_faces : number_value fraction_ring.operations 8 ⊗ N ≼ K
  eight_faces = Order.≼_trans fractions (Order.≼_same fractions (ap (λ x. x ⊗ N) (sym (whole-number 8)) ∙ sym (whole-mul (pos 8) (pos (length faces.list))))) (whole-≼ (much (length faces.list) faces.few))
    where
      much : (n : ℕ) → n < 2 ^ 14 → pos (8 * n) ≤ℤ pos (2 ^ 17)
      much n h = omega (arith, ints, h)

  some_area : one ≼ K
  some_area = Order.≼_trans fractions (Order.≼_same fractions (sym whole-one)) (whole-≼ one_at_most)
    where
      one_at_most : pos 1 ≤ℤ pos (2 ^ 17)
      one_at_most = omega (arith, ints)

  module _ (slabs : ℕ) where
    abbrev M : Fraction
    M = whole (pos slabs)

    abbrev pub L : Fraction
    L = slabs_bound slabs faces b

    slabs_more : whole (pos (slabs + 1)) ≡ M ⊕ one
    slabs_more = whole-add (pos slabs) (pos 1) ∙ ap (λ x. M ⊕ x) whole-one

    m_above : sign M ≢ below
    m_above = nonnegative-whole slabs

    far : (g : Fraction) → one ≼ g → sign g ≢ below
    far g some = Order.nonnegative_from fractions (Order.≼_trans fractions (Order.nought-≼ fractions (Order.nonnegative-one fractions)) some)

    -- it is no less than that of the whole hull
    pub bound-more : (g : Fraction) → one ≼ g → g ⊗ W ≼ g ⊗ L
    bound-more g some = order_from fractions (g ∷ W ∷ N ∷ h ∷ unit_of 12 ∷ M ∷ whole (pos (slabs + 1)) ∷ [])
        ((opposite (var 0 :* (var 1 :+ (var 2 :* var 3) :* var 4)), var 6, var 5 :+ unit) ∷ (var 0 :* var 5, number 0, var 1) ∷ (var 0 :* (var 5 :+ unit) :* var 2 :* var 3, number 0, var 4) ∷ [])
        (equal slabs_more
        (scaled (Order.nonnegative-mul fractions (far g some) m_above) (Order.nought-≼ fractions (nonnegative_bound faces b))
        (scaled (Order.nonnegative-mul fractions (Order.nonnegative-mul fractions (Order.nonnegative-mul fractions (far g some) (Order.nonnegative-add fractions m_above (Order.nonnegative-one fractions)))
        (nonnegative-whole (length faces.list))) reach) (Order.nought-≼ fractions (nonnegative-unit_of 12)) no_more)))
        (var 0 :* var 1) (var 0 :* (var 6 :* (var 1 :+ (var 2 :* var 3) :* var 4))) refl

    -- what is left for the parts that are lost, with the factor g
    abbrev pub lost_bound : Fraction → Fraction
    lost_bound g = (g ⊗ L ⊖ g ⊗ W) ⊖ units 20 2

    pub left-narrow : (g : Fraction) {p q c d lo hi : ℤ} → AreEnds (p -ℤ d) (q -ℤ c) lo hi → IsNarrow 20 (g ⊗ W) p q → IsNarrow 20 (lost_bound g ⊕ units 20 2) c d → IsNarrow 20 (g ⊗ L) lo hi
    left-narrow g e whole_hull lost = narrow-wider (Order.≼_same fractions (ring fraction_ring ((g ⊗ W) ∷ (g ⊗ L) ∷ units 20 2 ∷ []) (var 0 :+ (((var 1 :- var 0) :- var 2) :+ var 2)) (var 1) refl))
        (narrow-difference e whole_hull lost)

    -- the volume has no factor
    pub volume-wider : W ≼ L
    volume-wider = Order.≼_trans fractions (Order.≼_same fractions (ring fraction_ring (W ∷ []) (var 0) (unit :* var 0) refl))
        (Order.≼_trans fractions (bound-more one (Order.≼_refl fractions one)) (Order.≼_same fractions (ring fraction_ring (L ∷ []) (unit :* var 0) (var 0) refl)))

    pub volume-narrow : {p q c d lo hi : ℤ} → AreEnds (p -ℤ d) (q -ℤ c) lo hi → IsNarrow 20 W p q → IsNarrow 20 (lost_bound one ⊕ units 20 2) c d → IsNarrow 20 L lo hi
    volume-narrow e whole_hull lost = narrow-wider (Order.≼_same fractions (ring fraction_ring (W ∷ L ∷ units 20 2 ∷ []) (var 0 :+ (((unit :* var 1 :- unit :* var 0) :- var 2) :+ var 2)) (var 1) refl))
        (narrow-difference e whole_hull lost)

    module _ (parts : List Part) (most : sum_over (λ p. part_area p ⊕ one) parts ≼ M ⊗ slab_most faces.list) (few : length parts ≤ slabs * (4 * length faces.list)) (some_slab : 1 ≤ slabs) where
      abbrev Q : Fraction
      Q = sum_over (λ p. part_area p ⊕ one) parts

      abbrev P : Fraction
      P = whole (pos (length parts))

      -- what any of the four integrals comes to, with the factor g, before it is divided
      abbrev total : Fraction → Fraction
      total g = g ⊗ (Q ⊗ (number_value fraction_ring.operations 4 ⊗ s ⊕ units 20 96) ⊕ P ⊗ ((units 20 40 ⊗ h ⊕ s) ⊕ units 20 24))

      few_parts : P ≼ M ⊗ (number_value fraction_ring.operations 4 ⊗ N)
      few_parts = Order.≼_trans fractions (whole-≼ (raised few)) (Order.≼_same fractions
          (whole-mul (pos slabs) (pos (4 * length faces.list)) ∙ ap (λ x. M ⊗ x) (whole-mul (pos 4) (pos (length faces.list)) ∙ ap (λ x. x ⊗ N) (whole-number 4))))
        where
          raised : {m n : ℕ} → m ≤ n → pos m ≤ℤ pos n
          raised h = omega (arith, ints, h)

      some_m : one ≼ M
      some_m = Order.≼_trans fractions (Order.≼_same fractions (sym whole-one)) (whole-≼ (raised some_slab))
        where
          raised : {m n : ℕ} → m ≤ n → pos m ≤ℤ pos n
          raised h = omega (arith, ints, h)

      enough : (g : Fraction) → one ≼ g → total g ≼ lost_bound g ⊗ whole (pos 2)
      enough g some = order_from fractions (g ∷ M ∷ S ∷ N ∷ s ∷ u ∷ K ∷ h ∷ Q ∷ P ∷ W ∷ whole (pos (slabs + 1)) ∷ unit_of 12 ∷ whole (pos 2) ∷ whole (pos 5) ∷ [])
          ((opposite ((var 0 :* (var 11 :* (var 10 :+ (var 3 :* var 7) :* var 12)) :- var 0 :* var 10) :- number 2 :* var 5), var 13, number 2)
          ∷ (opposite (number 2 :* var 0 :* (var 10 :+ (var 3 :* var 7) :* var 12)), var 11, var 1 :+ unit)
          ∷ (opposite (number 2 :* var 0 :* (var 1 :+ unit) :* var 3 :* var 7), var 12, number 256 :* var 5)
          ∷ (opposite (number 2 :* var 0 :* var 1), var 10, (number 4 :* var 2 :+ number 8 :* var 6) :* (var 4 :+ number 16 :* var 5))
          ∷ (var 0 :* var 1 :* var 3 :* (number 4 :* var 4 :+ number 96 :* var 5), var 14, number 5)
          ∷ (var 0 :* (number 4 :* var 4 :+ number 96 :* var 5), var 8, var 1 :* (var 2 :+ var 3 :* var 14))
          ∷ (var 0 :* ((number 40 :* var 5 :* var 7 :+ var 4) :+ number 24 :* var 5), var 9, var 1 :* (number 4 :* var 3))
          ∷ (var 0 :* var 1 :* (number 3 :* var 4 :+ number 72 :* var 5), number 8 :* var 3, var 6)
          ∷ (number 4 :* var 5, unit, (var 0 :* var 1) :* var 6)
          ∷ (var 0 :* var 1 :* (number 4 :* var 2 :+ number 13 :* var 6), number 0, var 4)
          ∷ (var 0 :* var 1 :* ((number 32 :* var 2 :+ number 180 :* var 6) :+ number 352 :* var 3 :* var 7) :+ number 512 :* var 0 :* var 3 :* var 7, number 0, var 5) ∷ [])
          (equal (whole-number 2) (equal slabs_more (equal twelve (equal bound_is (equal (whole-number 5)
          (scaled (Order.nonnegative-mul fractions g_above (Order.nonnegative-add fractions (Order.nonnegative-mul fractions (n 4) spread_is) (Order.nonnegative-mul fractions (n 96) u_above))) most
          (scaled (Order.nonnegative-mul fractions g_above (Order.nonnegative-add fractions (Order.nonnegative-add fractions (Order.nonnegative-mul fractions (Order.nonnegative-mul fractions (n 40) u_above) reach) spread_is) (Order.nonnegative-mul fractions (n 24) u_above))) few_parts
          (scaled (Order.nonnegative-mul fractions gm_above (Order.nonnegative-add fractions (Order.nonnegative-mul fractions (n 3) spread_is) (Order.nonnegative-mul fractions (n 72) u_above))) eight_faces
          (scaled (Order.nonnegative-mul fractions (n 4) u_above) (product-some (g ⊗ M) K (product-some g M some some_m) some_area)
          (scaled (Order.nonnegative-mul fractions gm_above (Order.nonnegative-add fractions (Order.nonnegative-mul fractions (n 4) areas) (Order.nonnegative-mul fractions (n 13) area))) (Order.nought-≼ fractions spread_is)
          (scaled (Order.nonnegative-add fractions (Order.nonnegative-mul fractions gm_above (Order.nonnegative-add fractions (Order.nonnegative-add fractions (Order.nonnegative-mul fractions (n 32) areas) (Order.nonnegative-mul fractions (n 180) area)) (Order.nonnegative-mul fractions (Order.nonnegative-mul fractions (n 352) some_faces) reach))) (Order.nonnegative-mul fractions (Order.nonnegative-mul fractions (Order.nonnegative-mul fractions (n 512) g_above) some_faces) reach))
          (Order.nought-≼ fractions u_above) no_more)))))))))))
          (var 0 :* (var 8 :* (number 4 :* var 4 :+ number 96 :* var 5) :+ var 9 :* ((number 40 :* var 5 :* var 7 :+ var 4) :+ number 24 :* var 5)))
          (((var 0 :* (var 11 :* (var 10 :+ (var 3 :* var 7) :* var 12)) :- var 0 :* var 10) :- number 2 :* var 5) :* var 13) refl
        where
          g_above : sign g ≢ below
          g_above = far g some

          gm_above : sign (g ⊗ M) ≢ below
          gm_above = Order.nonnegative-mul fractions g_above m_above

          areas : sign S ≢ below
          areas = nonnegative_areas faces.list

          area : sign K ≢ below
          area = nonnegative-whole (2 ^ 17)

          some_faces : sign N ≢ below
          some_faces = nonnegative-whole (length faces.list)

      counts : sign Q ≢ below
      counts = nonnegative_counts parts

      some_parts : sign P ≢ below
      some_parts = nonnegative-whole (length parts)

      volumes : sum_over (λ p. part_volume h s (part_area p)) parts ≼ lost_bound one ⊗ whole (pos 2)
      volumes = Order.≼_trans fractions (Order.≼_same fractions (sum_affine parts (λ p. part_volume h s (part_area p)) ((s ⊕ s) ⊕ units 20 40) (units 20 16 ⊗ h ⊕ units 20 2)
          (λ p. ring fraction_ring (part_area p ∷ s ∷ u ∷ h ∷ []) (((var 0 :+ unit) :* ((var 1 :+ var 1) :+ number 40 :* var 2) :+ number 16 :* var 2 :* var 3) :+ number 2 :* var 2)
          ((var 0 :+ unit) :* ((var 1 :+ var 1) :+ number 40 :* var 2) :+ (number 16 :* var 2 :* var 3 :+ number 2 :* var 2)) refl)))
          (Order.≼_trans fractions (order_from fractions (Q ∷ P ∷ s ∷ u ∷ h ∷ [])
          ((number 2 :* var 0 :+ var 1, number 0, var 2) ∷ ((number 56 :* var 0 :+ number 22 :* var 1) :+ number 24 :* var 1 :* var 4, number 0, var 3) ∷ [])
          (scaled (Order.nonnegative-add fractions (Order.nonnegative-mul fractions (n 2) counts) some_parts) (Order.nought-≼ fractions spread_is)
          (scaled (Order.nonnegative-add fractions (Order.nonnegative-add fractions (Order.nonnegative-mul fractions (n 56) counts) (Order.nonnegative-mul fractions (n 22) some_parts))
          (Order.nonnegative-mul fractions (Order.nonnegative-mul fractions (n 24) some_parts) reach)) (Order.nought-≼ fractions u_above) no_more))
          (var 0 :* ((var 2 :+ var 2) :+ number 40 :* var 3) :+ var 1 :* (number 16 :* var 3 :* var 4 :+ number 2 :* var 3))
          (unit :* (var 0 :* (number 4 :* var 2 :+ number 96 :* var 3) :+ var 1 :* ((number 40 :* var 3 :* var 4 :+ var 2) :+ number 24 :* var 3))) refl)
          (enough one (Order.≼_refl fractions one)))

      lengths : (g : Fraction) → one ≼ g → sum_over (λ p. part_length g h s (part_area p)) parts ≼ lost_bound g ⊗ whole (pos 2)
      lengths g some = Order.≼_trans fractions (Order.≼_same fractions (sum_affine parts (λ p. part_length g h s (part_area p)) (g ⊗ ((s ⊕ s) ⊕ units 20 80)) (g ⊗ (units 20 16 ⊗ h ⊕ units 20 6))
          (λ p. ring fraction_ring (part_area p ∷ s ∷ u ∷ h ∷ g ∷ []) (var 4 :* (((var 0 :+ unit) :* ((var 1 :+ var 1) :+ number 80 :* var 2) :+ number 16 :* var 2 :* var 3) :+ number 6 :* var 2))
          ((var 0 :+ unit) :* (var 4 :* ((var 1 :+ var 1) :+ number 80 :* var 2)) :+ var 4 :* (number 16 :* var 2 :* var 3 :+ number 6 :* var 2)) refl)))
          (Order.≼_trans fractions (order_from fractions (Q ∷ P ∷ s ∷ u ∷ h ∷ g ∷ [])
          ((var 5 :* (number 2 :* var 0 :+ var 1), number 0, var 2) ∷ (var 5 :* ((number 16 :* var 0 :+ number 18 :* var 1) :+ number 24 :* var 1 :* var 4), number 0, var 3) ∷ [])
          (scaled (Order.nonnegative-mul fractions (far g some) (Order.nonnegative-add fractions (Order.nonnegative-mul fractions (n 2) counts) some_parts)) (Order.nought-≼ fractions spread_is)
          (scaled (Order.nonnegative-mul fractions (far g some) (Order.nonnegative-add fractions (Order.nonnegative-add fractions (Order.nonnegative-mul fractions (n 16) counts)
          (Order.nonnegative-mul fractions (n 18) some_parts)) (Order.nonnegative-mul fractions (Order.nonnegative-mul fractions (n 24) some_parts) reach))) (Order.nought-≼ fractions u_above) no_more))
          (var 0 :* (var 5 :* ((var 2 :+ var 2) :+ number 80 :* var 3)) :+ var 1 :* (var 5 :* (number 16 :* var 3 :* var 4 :+ number 6 :* var 3)))
          (var 5 :* (var 0 :* (number 4 :* var 2 :+ number 96 :* var 3) :+ var 1 :* ((number 40 :* var 3 :* var 4 :+ var 2) :+ number 24 :* var 3))) refl)
          (enough g some))

      heights-total : sum_over (λ p. part_height h s (part_area p)) parts ≡ total h
      heights-total = sum_affine parts (λ p. part_height h s (part_area p)) (h ⊗ (((s ⊕ s) ⊕ (s ⊕ s)) ⊕ units 20 96)) (h ⊗ ((units 20 40 ⊗ h ⊕ s) ⊕ units 20 24))
          (λ p. ring fraction_ring (part_area p ∷ s ∷ u ∷ h ∷ []) (var 3 :* ((((var 0 :+ unit) :* (((var 1 :+ var 1) :+ (var 1 :+ var 1)) :+ number 96 :* var 2) :+ number 40 :* var 2 :* var 3) :+ var 1) :+ number 24 :* var 2))
          ((var 0 :+ unit) :* (var 3 :* (((var 1 :+ var 1) :+ (var 1 :+ var 1)) :+ number 96 :* var 2)) :+ var 3 :* ((number 40 :* var 2 :* var 3 :+ var 1) :+ number 24 :* var 2)) refl)
          ∙ ring fraction_ring (Q ∷ P ∷ s ∷ u ∷ h ∷ []) (var 0 :* (var 4 :* (((var 2 :+ var 2) :+ (var 2 :+ var 2)) :+ number 96 :* var 3)) :+ var 1 :* (var 4 :* ((number 40 :* var 3 :* var 4 :+ var 2) :+ number 24 :* var 3)))
          (var 4 :* (var 0 :* (number 4 :* var 2 :+ number 96 :* var 3) :+ var 1 :* ((number 40 :* var 3 :* var 4 :+ var 2) :+ number 24 :* var 3))) refl

      heights : sum_over (λ p. part_height h s (part_area p)) parts ≼ lost_bound h ⊗ whole (pos 2)
      heights = Order.≼_trans fractions (Order.≼_same fractions heights-total) (enough h (some_reach faces b))

      -- and so by four
      height_quarters : sum_over (λ p. part_height h s (part_area p)) parts ≼ lost_bound h ⊗ whole (pos 4)
      height_quarters = order_from fractions (sum_over (λ p. part_height h s (part_area p)) parts ∷ lost_bound h ∷ whole (pos 2) ∷ whole (pos 4) ∷ [])
          ((number 2, var 0, var 1 :* var 2) ∷ (unit, number 0, var 0) ∷ (opposite (var 1), var 3, number 4) ∷ (number 2 :* var 1, var 2, number 2) ∷ [])
          (scaled (n 2) heights (at_most (Order.nought-≼ fractions (Order.nonnegative_same fractions heights-total total_above)) (equal (whole-number 4) (equal (whole-number 2) no_more)))) (var 0) (var 1 :* var 3) refl
        where
          total_above : sign (total h) ≢ below
          total_above = Order.nonnegative-mul fractions reach (Order.nonnegative-add fractions
              (Order.nonnegative-mul fractions counts (Order.nonnegative-add fractions (Order.nonnegative-mul fractions (n 4) spread_is) (Order.nonnegative-mul fractions (n 96) u_above)))
              (Order.nonnegative-mul fractions some_parts (Order.nonnegative-add fractions (Order.nonnegative-add fractions (Order.nonnegative-mul fractions (Order.nonnegative-mul fractions (n 40) u_above) reach) spread_is)
              (Order.nonnegative-mul fractions (n 24) u_above))))

-- ---- the parts of a flooded hull
-- what their widths come to over a box
pub record AreLost (faces : Faces) (b : PlaneBox) (slabs : ℕ) (parts : List Part) : Type 0 where
  pub reached : ArePartsReached b parts (size_of b) (h faces b) (unsigned_abs faces.half_breadth) (unsigned_abs faces.high_z)
  pub volumes : sum_over (λ p. part_volume (h faces b) (s faces b) (part_area p)) parts ≼ lost_bound faces b slabs one ⊗ whole (pos 2)
  pub lengths : sum_over (λ p. part_length (whole faces.last_x) (h faces b) (s faces b) (part_area p)) parts ≼ lost_bound faces b slabs (whole faces.last_x) ⊗ whole (pos 2)
  pub heights : sum_over (λ p. part_height (h faces b) (s faces b) (part_area p)) parts ≼ lost_bound faces b slabs (h faces b) ⊗ whole (pos 2)
  pub quarters : sum_over (λ p. part_height (h faces b) (s faces b) (part_area p)) parts ≼ lost_bound faces b slabs (h faces b) ⊗ whole (pos 4)

pub some_last : (faces : Faces) → one ≼ whole faces.last_x
some_last faces = Order.≼_trans fractions (Order.≼_same fractions (sym whole-one)) (whole-≼ (ahead faces.first_x faces.last_x faces.ends.first_within.0 faces.ends.apart))
  where
    ahead : (first last : ℤ) → pos 0 ≤ℤ first → first <ℤ last → pos 1 ≤ℤ last
    ahead first last h k = omega (arith, ints)

pub are-lost : (faces : Faces) (b : PlaneBox) (slabs : List Slab) (parts : List Part) → 1 ≤ length parts → AllByRecursion IsFace faces.list → HoldShares parts (flooded_parts faces.list slabs)
    → ArePartExtents (unsigned_abs faces.half_breadth) (unsigned_abs faces.high_z) 3 parts → AreLost faces b (length slabs) parts
are-lost faces b slabs parts some limits held extents = record {
  reached = record {
    size = size_is b;
    some = some_reach faces b;
    reached = Order.≼-add fractions (Order.≼_refl fractions (size_of b).level) (whole-≼ (natural faces.high_z faces.half_breadth faces.reach.above_base faces.reach.broad));
    extents = extents;
  };
  volumes = volumes faces b (length slabs) parts most few some_slab;
  lengths = lengths faces b (length slabs) parts most few some_slab (whole faces.last_x) (some_last faces);
  heights = heights faces b (length slabs) parts most few some_slab;
  quarters = height_quarters faces b (length slabs) parts most few some_slab;
}
  where
    natural : (z y : ℤ) → pos 0 ≤ℤ z → pos 1 ≤ℤ y → pos (unsigned_abs z + unsigned_abs y) ≤ℤ (z +ℤ y)
    natural z y h k = omega (arith, ints)

    most : sum_over (λ p. part_area p ⊕ one) parts ≼ whole (pos (length slabs)) ⊗ slab_most faces.list
    most = Order.≼_trans fractions (parts-counted (unsigned_abs faces.half_breadth) (unsigned_abs faces.high_z) parts (flooded_parts faces.list slabs) held extents) (slabs-counted faces.list limits slabs)

    as_many : {m n k : ℕ} → m ≡ n → m ≤ k → n ≤ k
    as_many e h = omega (arith, e, h)

    few : length parts ≤ length slabs * (4 * length faces.list)
    few = as_many (each-length (λ p t. HoldsShare p t.share t.at) parts (flooded_parts faces.list slabs) held) (few-slabs faces.list slabs)

    not_none : (m n : ℕ) → 1 ≤ length parts → length parts ≤ m * n → 1 ≤ m
    not_none zero n h k = omega (arith, h, k)
    not_none (suc m) n h k = omega arith

    some_slab : 1 ≤ length slabs
    some_slab = not_none (length slabs) (4 * length faces.list) some few
