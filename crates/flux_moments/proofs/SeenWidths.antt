-- How wide what is seen of a face from above is, by the rise of the share of it that is wet.
use Rattle.std.proofs.Common.{◌≡◌, ◌≢◌, ◌∙◌, refl, sym, ap, [], ◌∷◌, ℕ, ◌+◌, ◌^◌, ℤ, pos, neg_ℤ, unsigned_abs, ◌-ℤ◌, ◌*ℤ◌, ◌≤ℤ◌, arith}
use Rattle.std.proofs.lemmas.Int.{ints, unsigned_abs-mul}
use Rattle.exact_algebra.specs.Expression.{Expression, var, unit, number, ◌:+◌, ◌:-◌, ◌:*◌, opposite}
use Rattle.exact_algebra.specs.OrderedField.{below}
use Rattle.exact_algebra.proofs.Bounds as Bounds
use Rattle.exact_algebra.proofs.Fraction.{Fraction, one, ◌⊕◌, ◌⊗◌, ◌⊖◌, inverse, sign, fractions, fraction_ring, ◌≼◌}
use Rattle.exact_algebra.proofs.Order as Order
use Rattle.exact_algebra.proofs.Order.{order_from, no_more, at_most, scaled, equal}
use Rattle.exact_algebra.proofs.Ring.{ring, ring_from, given, none}
use Rattle.exact_algebra.proofs.Span.{positive-unit}
use Rattle.exact_algebra.proofs.Whole.{whole, whole-nought, whole-sub, whole-mul, whole-≼, nonnegative-whole, positive-whole}
use Rattle.hull_model.specs.declared.face.Face.{Face}
use Rattle.hull_model.specs.declared.node.Node.{Node}
use Rattle.hull_model.specs.Faces.{triangle_of}
use Rattle.hull_model.specs.Waterplane.{upright, height, level_at}
use Rattle.hull_model.specs.WetMean.{wet_share, wet_corner, wet_pair}
use Rattle.hull_model.proofs.MeanKinds.{Kind, mean_at, share_kind, corner_kind, pair_kind, kind_rises}
use Rattle.hull_model.proofs.MeanSums.{share_is_sum, share_is_sum_of_pairs}
use Rattle.hull_polyhedron.specs.Between.{IsInside}
use Rattle.outward_interval.specs.declared.span.Span.{Span}
use Rattle.outward_interval.specs.Widths.{unit_of, units, IsNarrow}
use Rattle.outward_interval.proofs.Narrow.{whole-number, units-in, unit-in, nonnegative-units, narrow-wider, narrow-multiple}
use Rattle.plane_clip.specs.Enclosure.{in_unit, IsNoWider}
use Rattle.flux_moments.specs.Columns.{depth_of}
use Rattle.flux_moments.specs.LidWidths.{seen_part_bound}
use Rattle.flux_moments.specs.Widths.{share_rise, area_above}
use Rattle.flux_moments.proofs.MeanWidths.{in_unit-in, ends_rise, depths_of, greatest, least, mean-narrow}

-- ---- depths at an upright level plane
one_inverse : whole (pos 1) ⊗ inverse (whole (pos 1)) ≡ one
one_inverse = Bounds.mul-inverse_positive fractions (positive-whole 1 (omega arith))

pub level_depth : (at : Fraction) (first last : ℤ) (n : Node) → depth_of (upright at) first last n ≡ at ⊖ whole n.z
unfolding level_at height
level_depth at first last n = ring_from fraction_ring (at ∷ whole n.y ∷ whole n.z ∷ whole n.x ∷ whole first ∷ whole last ∷ inverse
    (whole last ⊖ whole first) ∷ whole (pos 0) ∷ whole (pos 1) ∷ inverse (whole (pos 1)) ∷ [])
    ((opposite (var 2), var 8 :* var 9, unit) ∷ (opposite (var 1 :* var 9), var 7, number 0) ∷ []) (given one_inverse (given whole-nought none))
    (((unit :- part) :* var 0 :+ part :* var 0) :- ((var 8 :* var 2 :+ var 7 :* var 1) :* var 9)) (var 0 :- var 2) refl
  where
    part : Expression
    part = (var 3 :- var 4) :* var 6

-- the end of a span of depths there
pub end_is : (at z lo : ℤ) → lo ≡ (at *ℤ pos 1024) -ℤ (z *ℤ pos (2 ^ 20)) → in_unit 20 lo ≡ in_unit 10 at ⊖ whole z
end_is at z lo e = Order.mul_cancel fractions (Order.not_nought fractions (positive-unit 20))
    (ring_from fraction_ring (in_unit 20 lo ∷ in_unit 10 at ∷ whole z ∷ whole at ∷ whole lo ∷ whole (pos (2 ^ 10)) ∷ whole (pos (2 ^ 20)) ∷ [])
    ((unit, var 0 :* var 6, var 4) ∷ (unit, var 4, var 3 :* var 5 :- var 2 :* var 6) ∷ (opposite (var 5), var 1 :* var 5, var 3)
    ∷ (opposite (var 1), var 6, var 5 :* var 5) ∷ [])
    (given (in_unit-in 20 lo) (given (ap whole e ∙ whole-sub (at *ℤ pos 1024) (z *ℤ pos (2 ^ 20)) ∙ both)
    (given (in_unit-in 10 at) (given (whole-mul (pos (2 ^ 10)) (pos (2 ^ 10))) none)))) (var 0 :* var 6) ((var 1 :- var 2) :* var 6) refl)
  where
    both : whole (at *ℤ pos 1024) ⊖ whole (z *ℤ pos (2 ^ 20)) ≡ whole at ⊗ whole (pos (2 ^ 10)) ⊖ whole z ⊗ whole (pos (2 ^ 20))
    both = λ i. whole-mul at (pos 1024) i ⊖ whole-mul z (pos (2 ^ 20)) i

pub depth_at_end : (at first last : ℤ) (n : Node) (lo : ℤ) → lo ≡ (at *ℤ pos 1024) -ℤ (n.z *ℤ pos (2 ^ 20)) → in_unit 20 lo ≡ depth_of
    (upright (in_unit 10 at)) first last n
depth_at_end at first last n lo e = end_is at n.z lo e ∙ sym (level_depth (in_unit 10 at) first last n)

-- ---- the share of a face from the greatest depths to the least
module _ (x y z : Span 20) where
  abbrev pub rise_of : Fraction
  rise_of = greatest x y z wet_share ⊖ least x y z wet_share

  rises : (κ : Kind) → mean_at κ (in_unit 20 x.lo) (in_unit 20 y.lo) (in_unit 20 z.lo) ≼ mean_at κ (in_unit 20 x.hi) (in_unit 20 y.hi) (in_unit 20 z.hi)
  rises κ = kind_rises κ (in_unit 20 x.lo) (in_unit 20 y.lo) (in_unit 20 z.lo) (in_unit 20 x.hi) (in_unit 20 y.hi) (in_unit 20 z.hi)
      (ends_rise x.lo x.hi x.ordered) (ends_rise y.lo y.hi y.ordered) (ends_rise z.lo z.hi z.ordered)

  pub nonnegative_rise_of : sign rise_of ≢ below
  nonnegative_rise_of = rises share_kind

  pub share_is : (first last d1 d2 : ℤ) (f : Face) → (x.lo ≡ (d1 *ℤ pos 1024) -ℤ ((triangle_of f).a.z *ℤ pos (2 ^ 20)))
      × (x.hi ≡ (d2 *ℤ pos 1024) -ℤ ((triangle_of f).a.z *ℤ pos (2 ^ 20)))
      → (y.lo ≡ (d1 *ℤ pos 1024) -ℤ ((triangle_of f).b.z *ℤ pos (2 ^ 20))) × (y.hi ≡ (d2 *ℤ pos 1024) -ℤ ((triangle_of f).b.z *ℤ pos (2 ^ 20)))
      → (z.lo ≡ (d1 *ℤ pos 1024) -ℤ ((triangle_of f).c.z *ℤ pos (2 ^ 20))) × (z.hi ≡ (d2 *ℤ pos 1024) -ℤ ((triangle_of f).c.z *ℤ pos (2 ^ 20)))
      → rise_of ≡ share_rise first last d1 d2 f
  share_is first last d1 d2 f e g h = λ i.
      wet_share (depth_at_end d2 first last (triangle_of f).a x.hi e.1 i) (depth_at_end d2 first last (triangle_of f).b y.hi g.1 i)
      (depth_at_end d2 first last (triangle_of f).c z.hi h.1 i)
      ⊖ wet_share (depth_at_end d1 first last (triangle_of f).a x.lo e.0 i) (depth_at_end d1 first last (triangle_of f).b y.lo g.0 i)
      (depth_at_end d1 first last (triangle_of f).c z.lo h.0 i)

  abbrev pub corner_width : ℕ → Fraction
  corner_width k = (greatest x y z (wet_corner k) ⊖ least x y z (wet_corner k)) ⊕ units 40 16

  abbrev pub pair_width : ℕ → ℕ → Fraction
  pair_width k l = (greatest x y z (wet_pair k l) ⊖ least x y z (wet_pair k l)) ⊕ units 40 16

  corner_some : (k : ℕ) → sign (corner_width k) ≢ below
  corner_some k = Order.nonnegative-add fractions (rises (corner_kind k)) (nonnegative-units 40 16)

  pair_some : (k l : ℕ) → sign (pair_width k l) ≢ below
  pair_some k l = Order.nonnegative-add fractions (rises (pair_kind k l)) (nonnegative-units 40 16)

  pub corner_narrow : (k : ℕ) (s : Span 40) → IsNoWider 40 16 (depths_of x y z) s (wet_corner k) → IsNarrow 40 (corner_width k) s.lo s.hi
  corner_narrow k s h = mean-narrow x y z 16 s (wet_corner k) h

  pub pair_narrow : (k l : ℕ) (s : Span 40) → IsNoWider 40 16 (depths_of x y z) s (wet_pair k l) → IsNarrow 40 (pair_width k l) s.lo s.hi
  pair_narrow k l s h = mean-narrow x y z 16 s (wet_pair k l) h

  -- the means of a function that is at most l, and of its square
  pub linear-narrow : (l k1 k2 k3 : Fraction) → k1 ≼ l → k2 ≼ l → k3 ≼ l → (corner_width 0 ⊗ k1 ⊕ corner_width 1 ⊗ k2) ⊕ corner_width 2 ⊗ k3 ≼ l
      ⊗ (rise_of ⊕ units 40 48)
  linear-narrow l k1 k2 k3 h1 h2 h3 = order_from fractions (l ∷ k1 ∷ k2 ∷ k3 ∷ unit_of 40 ∷ G wet_share ∷ L wet_share ∷ G (wet_corner 0) ∷ L
      (wet_corner 0) ∷ G (wet_corner 1) ∷ L (wet_corner 1) ∷ G (wet_corner 2) ∷ L (wet_corner 2) ∷ [])
      ((w 7, var 1, var 0) ∷ (w 9, var 2, var 0) ∷ (w 11, var 3, var 0) ∷ (opposite (var 0), var 5, (var 7 :+ var 9) :+ var 11)
      ∷ (var 0, var 6, (var 8 :+ var 10) :+ var 12) ∷ [])
      (scaled (corner_some 0) h1 (scaled (corner_some 1) h2 (scaled (corner_some 2) h3 (equal (share_is_sum _ _ _) (equal (share_is_sum _ _ _) no_more)))))
      ((w 7 :* var 1 :+ w 9 :* var 2) :+ w 11 :* var 3) (var 0 :* ((var 5 :- var 6) :+ number 48 :* var 4)) refl
    where
      G : (Fraction → Fraction → Fraction → Fraction) → Fraction
      G mean = greatest x y z mean

      L : (Fraction → Fraction → Fraction → Fraction) → Fraction
      L mean = least x y z mean

      w : ℕ → Expression
      w i = (var i :- var (i + 1)) :+ number 16 :* var 4

  pub square-narrow : (l k1 k2 k3 k4 k5 k6 : Fraction) → k1 ≼ l → k2 ≼ l → k3 ≼ l → k4 ≼ l → k5 ≼ l → k6 ≼ l
      → ((pair_width 0 0 ⊗ k1 ⊕ pair_width 1 1 ⊗ k2) ⊕ pair_width 2 2 ⊗ k3) ⊕ ((pair_width 0 1 ⊗ k4 ⊕ pair_width 0 2 ⊗ k5) ⊕ pair_width 1 2 ⊗ k6)
      ⊗ (one ⊕ one) ≼ l ⊗ (rise_of ⊕ units 40 144)
  square-narrow l k1 k2 k3 k4 k5 k6 h1 h2 h3 h4 h5 h6 = order_from fractions (l ∷ k1 ∷ k2 ∷ k3 ∷ k4 ∷ k5 ∷ k6 ∷ unit_of 40 ∷ G wet_share ∷ L wet_share
      ∷ G (wet_pair 0 0) ∷ L (wet_pair 0 0) ∷ G (wet_pair 1 1) ∷ L (wet_pair 1 1) ∷ G (wet_pair 2 2) ∷ L (wet_pair 2 2) ∷ G (wet_pair 0 1) ∷ L
      (wet_pair 0 1) ∷ G (wet_pair 0 2) ∷ L (wet_pair 0 2) ∷ G (wet_pair 1 2) ∷ L (wet_pair 1 2) ∷ [])
      ((w 10, var 1, var 0) ∷ (w 12, var 2, var 0) ∷ (w 14, var 3, var 0) ∷ ((unit :+ unit) :* w 16, var 4, var 0)
      ∷ ((unit :+ unit) :* w 18, var 5, var 0) ∷ ((unit :+ unit) :* w 20, var 6, var 0)
      ∷ (opposite (var 0), var 8, all 10) ∷ (var 0, var 9, all 11) ∷ [])
      (scaled (pair_some 0 0) h1 (scaled (pair_some 1 1) h2 (scaled (pair_some 2 2) h3
      (scaled (Order.nonnegative-mul fractions two (pair_some 0 1)) h4 (scaled (Order.nonnegative-mul fractions two (pair_some 0 2)) h5
      (scaled (Order.nonnegative-mul fractions two (pair_some 1 2)) h6
      (equal (share_is_sum_of_pairs _ _ _) (equal (share_is_sum_of_pairs _ _ _) no_more))))))))
      (((w 10 :* var 1 :+ w 12 :* var 2) :+ w 14 :* var 3) :+ ((w 16 :* var 4 :+ w 18 :* var 5) :+ w 20 :* var 6) :* (unit :+ unit))
      (var 0 :* ((var 8 :- var 9) :+ number 144 :* var 7)) refl
    where
      G : (Fraction → Fraction → Fraction → Fraction) → Fraction
      G mean = greatest x y z mean

      L : (Fraction → Fraction → Fraction → Fraction) → Fraction
      L mean = least x y z mean

      w : ℕ → Expression
      w i = (var i :- var (i + 1)) :+ number 16 :* var 7

      all : ℕ → Expression
      all i = ((var i :+ var (i + 2)) :+ var (i + 4)) :+ ((var (i + 6) :+ var (i + 8)) :+ var (i + 10)) :* (unit :+ unit)

      two : sign (one ⊕ one) ≢ below
      two = Order.nonnegative-add fractions (Order.nonnegative-one fractions) (Order.nonnegative-one fractions)

-- the product of two numbers at most l in magnitude
pub product_at_most : (l : Fraction) (u v : ℤ) {w : ℤ} → w ≡ u *ℤ v → whole (pos (unsigned_abs u)) ≼ l → whole (pos (unsigned_abs v)) ≼ l → whole
    (pos (unsigned_abs w)) ≼ l ⊗ l
product_at_most l u v {w} e h k = Order.≼_trans fractions (Order.≼_same fractions
    (ap (λ n. whole (pos n)) (ap unsigned_abs e ∙ unsigned_abs-mul u v) ∙ whole-mul (pos (unsigned_abs u)) (pos (unsigned_abs v))))
    (Order.≼-mul_both fractions (nonnegative-whole (unsigned_abs u)) (Order.nonnegative_from fractions
    (Order.≼_trans fractions (Order.nought-≼ fractions (nonnegative-whole (unsigned_abs u))) h)) h k)

-- twice a span
pub doubled : {a b lo hi : ℤ} {w : Fraction} → hi -ℤ lo ≡ pos 2 *ℤ (b -ℤ a) → IsNarrow 40 w a b → IsNarrow 40 (w ⊗ (one ⊕ one)) lo hi
doubled {w = w} e n = narrow-wider (order_from fractions (w ∷ whole (pos 2) ∷ []) ((var 0, var 1, number 2) ∷ []) (equal (whole-number 2) no_more)
    (var 0 :* var 1) (var 0 :* (unit :+ unit)) refl) (narrow-multiple 2 e n)

-- ---- the part that is seen
-- 2^-32 is more than 144 units of 2^-40
rounding : units 40 144 ≼ unit_of 32
rounding = Order.≼_cancel fractions (positive-unit 40) (order_from fractions (units 40 144 ∷ unit_of 32 ∷ whole (pos (2 ^ 40)) ∷ whole (pos (2 ^ 32))
    ∷ whole (pos (2 ^ 8)) ∷ whole (pos 144) ∷ [])
    ((unit, var 0 :* var 2, var 5) ∷ (unit, var 5, var 4) ∷ (opposite (var 1), var 2, var 3 :* var 4) ∷ (opposite (var 4), var 1 :* var 3, unit) ∷ [])
    (equal (units-in 40 144) (at_most (whole-≼ less) (equal (whole-mul (pos (2 ^ 32)) (pos (2 ^ 8))) (equal (unit-in 32) no_more)))) (var 0 :* var 2)
    (var 1 :* var 2) refl)
  where
    less : pos 144 ≤ℤ pos (2 ^ 8)
    less = omega (arith, ints)

pub seen-bound : (x y z : Span 20) (first last d1 d2 : ℤ) (f : Face) (k : ℕ) (g : Fraction) {lo hi area : ℤ} → rise_of x y z ≡ share_rise first last
    d1 d2 f → sign g ≢ below → area ≡ neg_ℤ f.az → units 40 k ≼ units 40 144
    → IsNarrow 20 ((g ⊗ (rise_of x y z ⊕ units 40 k)) ⊗ whole (pos (unsigned_abs area)) ⊕ units 20 2) lo hi → IsNarrow 20
    (seen_part_bound first last d1 d2 g f) lo hi
seen-bound x y z first last d1 d2 f k g {lo} {hi} {area} e some is few narrow = narrow-wider
    (order_from fractions (g ∷ rise_of x y z ∷ share_rise first last d1 d2 f ∷ units 40 k ∷ unit_of 32 ∷ whole (pos (unsigned_abs area)) ∷ area_above
    f ∷ units 20 2 ∷ [])
    ((var 0 :* (var 1 :+ var 3), var 5, var 6) ∷ (var 0 :* var 6, var 1, var 2) ∷ (var 0 :* var 6, var 3, var 4) ∷ [])
    (equal (ap (λ n. whole (pos n)) (ap unsigned_abs is ∙ turned f.az)) (equal e
    (scaled (Order.nonnegative-mul fractions some (nonnegative-whole (unsigned_abs f.az))) (Order.≼_trans fractions few rounding) no_more)))
    ((var 0 :* (var 1 :+ var 3)) :* var 5 :+ var 7) (var 0 :* (var 6 :* (var 2 :+ var 4)) :+ var 7) refl) narrow
  where
    turned : (z : ℤ) → unsigned_abs (neg_ℤ z) ≡ unsigned_abs z
    turned z = omega (arith, ints)

-- the share itself
pub seen-area : (x y z : Span 20) (s : Span 40) → IsNoWider 40 16 (depths_of x y z) s wet_share → IsNarrow 40 (one ⊗ (rise_of x y z ⊕ units 40 16)) s.lo s.hi
seen-area x y z s h = narrow-wider (Order.≼_same fractions (ring fraction_ring ((rise_of x y z ⊕ units 40 16) ∷ []) (var 0) (unit :* var 0) refl))
    (mean-narrow x y z 16 s wet_share h)

-- how far from the centreplane a corner lies
pub across_at_most : (half_breadth height : ℤ) (n : Node) → IsInside half_breadth height n → whole (pos (unsigned_abs n.y)) ≼ whole half_breadth
across_at_most half_breadth height n is = whole-≼ (go n.y is.port is.starboard)
  where
    go : (y : ℤ) → neg_ℤ half_breadth ≤ℤ y → y ≤ℤ half_breadth → pos (unsigned_abs y) ≤ℤ half_breadth
    go y h k = omega (arith, ints)

pub nonnegative_far : (k : ℕ) (l : Fraction) → whole (pos k) ≼ l → sign l ≢ below
nonnegative_far k l h = Order.nonnegative_from fractions (Order.≼_trans fractions (Order.nought-≼ fractions (nonnegative-whole k)) h)

pub fewer_units : (j k : ℕ) → pos j ≤ℤ pos k → units 40 j ≼ units 40 k
fewer_units j k h = Order.≼_cancel fractions (positive-unit 40) (Order.≼_trans fractions (Order.≼_same fractions (units-in 40 j))
    (Order.≼_trans fractions (whole-≼ h) (Order.≼_same fractions (sym (units-in 40 k)))))
