-- How wide the integrals below the planes of a box are: the sizes of the box and of the faces, and the sums over the faces.
use Rattle.std.proofs.Common.{◌≡◌, ◌≢◌, ◌∙◌, refl, sym, ap, List, [], ◌∷◌, length, ℕ, suc, ◌+◌, ◌*◌, ◌^◌, ◌<◌, max, ℤ, pos, neg_ℤ, unsigned_abs, ◌+ℤ◌, ◌-ℤ◌, ◌*ℤ◌, ◌≤ℤ◌, ◌<ℤ◌, arith}
use Rattle.std.proofs.lemmas.Int.{ints, clamps}
use Rattle.std.specs.Int.{int_max}
use Rattle.std.specs.List.{AllByRecursion}
use Rattle.exact_algebra.specs.Expression.{Expression, var, unit, number, ◌:+◌, ◌:-◌, ◌:*◌, opposite}
use Rattle.exact_algebra.specs.OrderedField.{below}
use Rattle.exact_algebra.specs.Ring.{number_value}
use Rattle.exact_algebra.proofs.Bounds as Bounds
use Rattle.exact_algebra.proofs.Fraction.{Fraction, one, ◌⊕◌, ◌⊗◌, ◌⊖◌, inverse, sign, fractions, fraction_ring, ◌≼◌}
use Rattle.exact_algebra.proofs.Order as Order
use Rattle.exact_algebra.proofs.Order.{order_from, no_more, at_most, scaled, equal}
use Rattle.exact_algebra.proofs.Ring.{ring, ring_from, given, none}
use Rattle.exact_algebra.proofs.Span.{positive-unit}
use Rattle.exact_algebra.proofs.Whole.{whole, whole-one, whole-add, whole-mul, whole-≼, positive-whole, nonnegative-whole}
use Rattle.hull_model.specs.declared.face.Face.{Face}
use Rattle.hull_model.specs.declared.node.Node.{Node}
use Rattle.hull_model.specs.Faces.{IsFace}
use Rattle.hull_model.specs.Fractions.{sum_over}
use Rattle.hull_model.specs.Nodes.{IsNode}
use Rattle.hull_polyhedron.specs.declared.faces.Faces.{Faces}
use Rattle.hull_polyhedron.specs.Between.{IsInside, LieInside}
use Rattle.outward_interval.specs.Widths.{unit_of, units, IsNarrow}
use Rattle.outward_interval.proofs.Narrow.{whole-number, unit-in, nonnegative-unit_of, narrow-wider, narrow-over}
use Rattle.plane_clip.specs.Enclosure.{in_unit}
use Rattle.flux_moments.specs.Sizes.{BoxSize, HasSize, Reaches, AreReached, distance, spread, doubled_area, volume_part, length_part, height_part}
use Rattle.flux_moments.specs.Widths.{half_areas, size_of, reach_of, volume_bound}
use Rattle.flux_moments.specs.declared.plane_box.PlaneBox.{PlaneBox}
use Rattle.flux_moments.proofs.BoxWidths.{nonnegative_rise, nonnegative_turn, nonnegative_level, nonnegative_width}
use Rattle.flux_moments.proofs.Heights.{cosine_range, sine_range}
use Rattle.flux_moments.proofs.MeanWidths.{in_unit-in, narrow_by, near_by}

-- ---- the sizes of a box
unit_at_most_one : (F : ℕ) (m : ℤ) → m ≤ℤ pos (2 ^ F) → in_unit F m ≼ one
unit_at_most_one F m h = Order.≼_cancel fractions (positive-unit F) (Order.≼_trans fractions (Order.≼_same fractions (in_unit-in F m))
    (Order.≼_trans fractions (whole-≼ h)
    (Order.≼_same fractions (ring fraction_ring (whole (pos (2 ^ F)) ∷ []) (var 0) (unit :* var 0) refl))))

greater_left : (x y : ℤ) → x ≤ℤ int_max x y
greater_left x y = omega (arith, ints, clamps)

greater_right : (x y : ℤ) → y ≤ℤ int_max x y
greater_right x y = omega (arith, ints, clamps)

greatest_within : (m x y : ℤ) → x ≤ℤ m → y ≤ℤ m → int_max x y ≤ℤ m
greatest_within m x y h k = omega (arith, ints, clamps)

pub size_is : (b : PlaneBox) → HasSize b (size_of b)
size_is b = record {
  aft = narrow_by 10 b.a1 b.a2 _ (greater_left (b.a2 -ℤ b.a1) (b.f2 -ℤ b.f1));
  fore = narrow_by 10 b.f1 b.f2 _ (greater_right (b.a2 -ℤ b.a1) (b.f2 -ℤ b.f1));
  cosine = narrow_by 40 b.bracket.c.lo b.bracket.c.hi _ (greater_left (b.bracket.c.hi -ℤ b.bracket.c.lo) (b.bracket.s.hi -ℤ b.bracket.s.lo));
  sine = narrow_by 40 b.bracket.s.lo b.bracket.s.hi _ (greater_right (b.bracket.c.hi -ℤ b.bracket.c.lo) (b.bracket.s.hi -ℤ b.bracket.s.lo));
  aft_level = near_by 10 b.a1 b.a2 (max (max (unsigned_abs b.a1) (unsigned_abs b.a2)) (max (unsigned_abs b.f1) (unsigned_abs b.f2)))
      (first (unsigned_abs b.a1) (unsigned_abs b.a2) _) (second (unsigned_abs b.a1) (unsigned_abs b.a2) _);
  fore_level = near_by 10 b.f1 b.f2 (max (max (unsigned_abs b.a1) (unsigned_abs b.a2)) (max (unsigned_abs b.f1) (unsigned_abs b.f2)))
      (third (unsigned_abs b.f1) (unsigned_abs b.f2) _) (fourth (unsigned_abs b.f1) (unsigned_abs b.f2) _);
  at_most_one = unit_at_most_one 40 _ (greatest_within (pos (2 ^ 40)) (b.bracket.c.hi -ℤ b.bracket.c.lo) (b.bracket.s.hi -ℤ b.bracket.s.lo)
      (apart b.bracket.c.lo b.bracket.c.hi (cosine_range b.bracket).0 (cosine_range b.bracket).1)
      (apart b.bracket.s.lo b.bracket.s.hi (sine_range b.bracket).0 (sine_range b.bracket).1));
}
  where
    first : (x y m : ℕ) → x < suc (max (max x y) m)
    first x y m = omega arith

    second : (x y m : ℕ) → y < suc (max (max x y) m)
    second x y m = omega arith

    third : (x y m : ℕ) → x < suc (max m (max x y))
    third x y m = omega arith

    fourth : (x y m : ℕ) → y < suc (max m (max x y))
    fourth x y m = omega arith

    apart : (lo hi : ℤ) → pos 0 ≤ℤ lo → hi ≤ℤ pos (2 ^ 40) → (hi -ℤ lo) ≤ℤ pos (2 ^ 40)
    apart lo hi h k = omega (arith, ints)

-- ---- all corners are reached
module _ (half_breadth height : ℤ) (level h : Fraction) (is : level ⊕ whole (height +ℤ half_breadth) ≼ h) (b : BoxSize) (same : b.level ≼ level) where
  node_reached : (n : Node) → IsNode n → IsInside half_breadth height n → Reaches b h n
  node_reached n node inside = order_from fractions (b.level ∷ level ∷ h ∷ distance n ∷ whole (height +ℤ half_breadth) ∷ [])
      ((unit, var 0, var 1) ∷ (unit, var 3, var 4) ∷ (unit, var 1 :+ var 4, var 2) ∷ [])
      (at_most same (at_most (whole-≼ (near n.y n.z node.height.0 inside.port inside.starboard inside.top)) (at_most is no_more))) (var 0 :+ var 3) (var 2) refl
    where
      near : (y z : ℤ) → pos 0 ≤ℤ z → neg_ℤ half_breadth ≤ℤ y → y ≤ℤ half_breadth → z ≤ℤ height → pos (unsigned_abs z + unsigned_abs y) ≤ℤ
          (height +ℤ half_breadth)
      near y z a b c d = omega (arith, ints)

  nodes_reached : (nodes : List Node) → AllByRecursion IsNode nodes → AllByRecursion (IsInside half_breadth height) nodes → AllByRecursion (Reaches b h) nodes
  nodes_reached [] each inside = tt
  nodes_reached (n ∷ nodes) each inside = (node_reached n each.0 inside.0, nodes_reached nodes each.1 inside.1)

  faces_reached : (faces : List Face) → AllByRecursion IsFace faces → AllByRecursion (λ f. AllByRecursion (IsInside half_breadth height) f.p) faces
      → AllByRecursion (λ f. AllByRecursion (Reaches b h) f.p) faces
  faces_reached [] each inside = tt
  faces_reached (f ∷ faces) each inside = (nodes_reached f.p each.0.corners inside.0, faces_reached faces each.1 inside.1)

pub some_reach : (faces : Faces) (b : PlaneBox) → one ≼ reach_of faces b
some_reach faces b = order_from fractions ((size_of b).level ∷ whole (faces.high_z +ℤ faces.half_breadth) ∷ whole (pos 1) ∷ [])
    ((unit, number 0, var 0) ∷ (unit, var 2, var 1) ∷ (unit, unit, var 2) ∷ [])
    (at_most (Order.nought-≼ fractions (nonnegative_level b (size_of b) (size_is b)))
    (at_most (whole-≼ (above faces.high_z faces.half_breadth faces.reach.above_base faces.reach.broad)) (equal (sym whole-one) no_more))) unit
    (var 0 :+ var 1) refl
  where
    above : (z y : ℤ) → pos 0 ≤ℤ z → pos 1 ≤ℤ y → pos 1 ≤ℤ (z +ℤ y)
    above z y h k = omega (arith, ints)

pub strip_reached : (faces : Faces) (b : PlaneBox) (nodes : List Node) → AllByRecursion IsNode nodes → AllByRecursion (IsInside faces.half_breadth faces.high_z) nodes → AllByRecursion (Reaches (size_of b) (reach_of faces b)) nodes
strip_reached faces b nodes limits inside = nodes_reached faces.half_breadth faces.high_z (size_of b).level (reach_of faces b) (Order.≼_refl fractions (reach_of faces b)) (size_of b)
    (Order.≼_refl fractions (size_of b).level) nodes limits inside

pub list_reached : (faces : Faces) (b : PlaneBox) (list : List Face) → AllByRecursion IsFace list → LieInside faces.half_breadth faces.high_z list → AreReached b list (size_of b) (reach_of faces b)
list_reached faces b list limits inside = record {
  size = size_is b;
  some = some_reach faces b;
  reached = faces_reached faces.half_breadth faces.high_z (size_of b).level (reach_of faces b) (Order.≼_refl fractions (reach_of faces b)) (size_of b)
      (Order.≼_refl fractions (size_of b).level) list limits inside;
}

pub are_reached : (faces : Faces) (b : PlaneBox) → AllByRecursion IsFace faces.list → AreReached b faces.list (size_of b) (reach_of faces b)
are_reached faces b limits = list_reached faces b faces.list limits faces.inside

-- ---- the sums over the faces
pub sum_affine_of : (faces : List Face) (area f : Face → Fraction) (c k : Fraction) → ((g : Face) → f g ≡ area g ⊗ c ⊕ k) → sum_over f faces ≡
    sum_over area faces ⊗ c ⊕ whole (pos (length faces)) ⊗ k
unfolding sum_over
sum_affine_of [] area f c k each = ring_from fraction_ring (c ∷ k ∷ whole (pos 0) ∷ []) ((opposite (var 1), var 2, number 0) ∷ [])
    (given (whole-number 0) none) (number 0) (number 0 :* var 0 :+ var 2 :* var 1) refl
sum_affine_of (g ∷ faces) area f c k each = ring_from fraction_ring (f g ∷ sum_over f faces ∷ area g ∷ sum_over area faces ∷ c ∷ k ∷ whole
    (pos (length faces)) ∷ whole (pos (suc (length faces))) ∷ [])
    ((unit, var 0, var 2 :* var 4 :+ var 5) ∷ (unit, var 1, var 3 :* var 4 :+ var 6 :* var 5) ∷ (opposite (var 5), var 7, var 6 :+ unit) ∷ [])
    (given (each g) (given (sum_affine_of faces area f c k each) (given next none))) (var 0 :+ var 1) ((var 2 :+ var 3) :* var 4 :+ var 7 :* var 5) refl
  where
    next : whole (pos (suc (length faces))) ≡ whole (pos (length faces)) ⊕ one
    next = ap (λ n. whole (pos n)) (after (length faces)) ∙ whole-add (pos (length faces)) (pos 1) ∙ ap (λ x. whole (pos (length faces)) ⊕ x) whole-one
      where
        after : (n : ℕ) → suc n ≡ n + 1
        after n = omega arith

sum_affine : (faces : List Face) (f : Face → Fraction) (c k : Fraction) → ((g : Face) → f g ≡ doubled_area g ⊗ c ⊕ k) → sum_over f faces ≡ sum_over
    doubled_area faces ⊗ c ⊕ whole (pos (length faces)) ⊗ k
sum_affine faces f c k each = sum_affine_of faces doubled_area f c k each

half_sum : (faces : List Face) → half_areas faces ≡ sum_over doubled_area faces ⊗ inverse (whole (pos 2))
unfolding sum_over
half_sum [] = ring fraction_ring (inverse (whole (pos 2)) ∷ []) (number 0) (number 0 :* var 0) refl
half_sum (g ∷ faces) = ring_from fraction_ring (doubled_area g ∷ half_areas faces ∷ sum_over doubled_area faces ∷ inverse (whole (pos 2)) ∷ [])
    ((unit, var 1, var 2 :* var 3) ∷ []) (given (half_sum faces) none)
    (var 0 :* var 3 :+ var 1) ((var 0 :+ var 2) :* var 3) refl

nonnegative_areas : (faces : List Face) → sign (sum_over doubled_area faces) ≢ below
unfolding sum_over
nonnegative_areas [] = Order.nonnegative-nought fractions
nonnegative_areas (g ∷ faces) = Order.nonnegative-add fractions (nonnegative-whole (unsigned_abs g.ay + unsigned_abs g.az)) (nonnegative_areas faces)

nonnegative_halves : (faces : List Face) → sign (half_areas faces) ≢ below
unfolding sum_over
nonnegative_halves [] = Order.nonnegative-nought fractions
nonnegative_halves (g ∷ faces) = Order.nonnegative-add fractions
    (Order.nonnegative-mul fractions (nonnegative-whole (unsigned_abs g.ay + unsigned_abs g.az))
    (Order.nonnegative_positive fractions (Bounds.positive-inverse fractions (positive-whole 2 (omega arith)))))
    (nonnegative_halves faces)

-- 2^-16 is sixteen units of 2^-20
pub sixteen : unit_of 16 ≡ units 20 16
sixteen = Order.mul_cancel fractions (Order.not_nought fractions (positive-unit 20))
    (ring_from fraction_ring (unit_of 16 ∷ unit_of 20 ∷ whole (pos (2 ^ 16)) ∷ whole (pos (2 ^ 20)) ∷ whole (pos 16) ∷ [])
    ((var 0, var 3, var 2 :* var 4) ∷ (var 4, var 0 :* var 2, unit) ∷ (unit, var 4, number 16) ∷ (opposite (number 16), var 1 :* var 3, unit) ∷ [])
    (given (whole-mul (pos (2 ^ 16)) (pos 16)) (given (unit-in 16) (given (whole-number 16) (given (unit-in 20) none)))) (var 0 :* var 3)
    ((number 16 :* var 1) :* var 3) refl)

module _ (faces : Faces) (b : PlaneBox) (few : length faces.list < 2 ^ 14) where
  abbrev S : Fraction
  S = sum_over doubled_area faces.list

  abbrev N : Fraction
  N = whole (pos (length faces.list))

  abbrev s : Fraction
  s = spread (size_of b) (reach_of faces b)

  abbrev W : Fraction
  W = volume_bound faces b

  abbrev K : Fraction
  K = whole (pos (2 ^ 17))

  reach : sign (reach_of faces b) ≢ below
  reach = Order.nonnegative_from fractions (Order.≼_trans fractions (Order.nought-≼ fractions (Order.nonnegative-one fractions)) (some_reach faces b))

  spread_is : sign s ≢ below
  spread_is = Order.nonnegative-add fractions (nonnegative_rise b (size_of b) (size_is b))
      (Order.nonnegative-mul fractions (nonnegative_turn b (size_of b) (size_is b)) reach)

  fewer : N ≼ K
  fewer = whole-≼ (much (length faces.list) few)
    where
      much : (n : ℕ) → n < 2 ^ 14 → pos n ≤ℤ pos (2 ^ 17)
      much n h = omega (arith, ints)

  some_area : number_value fraction_ring.operations 64 ≼ K
  some_area = Order.≼_trans fractions (Order.≼_same fractions (sym (whole-number 64))) (whole-≼ some_at_most)
    where
      some_at_most : pos 64 ≤ℤ pos (2 ^ 17)
      some_at_most = omega (arith, ints)

  half : whole (pos 2) ⊗ inverse (whole (pos 2)) ≡ one
  half = Bounds.mul-inverse_positive fractions (positive-whole 2 (omega arith))

  -- what any of the four integrals comes to, with the factor g, before it is divided
  abbrev total : Fraction → Fraction
  total g = g ⊗ (S ⊗ (((s ⊕ s) ⊕ (s ⊕ s)) ⊕ units 20 64) ⊕ N ⊗ (s ⊕ units 20 16))

  -- with the three units of each strip
  enough : (g : Fraction) → one ≼ g → total g ⊕ units 20 189 ≼ (g ⊗ W ⊖ units 20 2) ⊗ whole (pos 2)
  unfolding volume_bound
  enough g some = order_from fractions (g ∷ S ∷ N ∷ s ∷ unit_of 20 ∷ K ∷ half_areas faces.list ∷ inverse (whole (pos 2)) ∷ whole (pos 2) ∷ whole
      (pos 8) ∷ unit_of 16 ∷ [])
      ((opposite (var 0 :* (var 6 :+ var 5) :* (var 3 :+ var 10) :* var 8), var 9, number 8)
      ∷ (opposite (number 8 :* var 0 :* (var 3 :+ var 10) :* var 8), var 6, var 1 :* var 7)
      ∷ (opposite (number 8 :* var 0 :* var 1 :* (var 3 :+ var 10)), var 8 :* var 7, unit)
      ∷ (opposite (number 8 :* var 0 :* var 5 :* (var 3 :+ var 10) :- number 2 :* var 4), var 8, number 2)
      ∷ (opposite (number 8 :* var 0 :* var 1 :+ number 16 :* var 0 :* var 5), var 10, number 16 :* var 4)
      ∷ (var 0 :* (var 3 :+ number 16 :* var 4), var 2, var 5)
      ∷ (number 4 :* var 4 :* var 5, unit, var 0) ∷ (number 4 :* var 4, number 64, var 5) ∷ (number 63, number 0, var 4)
      ∷ (number 4 :* var 0 :* var 1 :+ number 15 :* var 0 :* var 5, number 0, var 3)
      ∷ (number 64 :* var 0 :* var 1 :+ number 236 :* var 0 :* var 5, number 0, var 4) ∷ [])
      (equal (whole-number 8) (equal (half_sum faces.list) (equal half (equal (whole-number 2) (equal sixteen
      (scaled (Order.nonnegative-mul fractions far (Order.nonnegative-add fractions spread_is (Order.nonnegative-mul fractions (n 16) u))) fewer
      (scaled (Order.nonnegative-mul fractions (Order.nonnegative-mul fractions (n 4) u) area) some (scaled (Order.nonnegative-mul fractions (n 4) u) some_area
      (scaled (n 63) (Order.nought-≼ fractions u)
      (scaled (Order.nonnegative-add fractions (Order.nonnegative-mul fractions (Order.nonnegative-mul fractions (n 4) far)
      (nonnegative_areas faces.list)) (Order.nonnegative-mul fractions (Order.nonnegative-mul fractions (n 15) far) area))
      (Order.nought-≼ fractions spread_is)
      (scaled (Order.nonnegative-add fractions (Order.nonnegative-mul fractions (Order.nonnegative-mul fractions (n 64) far)
      (nonnegative_areas faces.list)) (Order.nonnegative-mul fractions (Order.nonnegative-mul fractions (n 236) far) area))
      (Order.nought-≼ fractions u) no_more)))))))))))
      (var 0 :* (var 1 :* (((var 3 :+ var 3) :+ (var 3 :+ var 3)) :+ number 64 :* var 4) :+ var 2 :* (var 3 :+ number 16 :* var 4)) :+ number 189 :* var 4)
      ((var 0 :* ((var 9 :* (var 6 :+ var 5)) :* (var 3 :+ var 10)) :- number 2 :* var 4) :* var 8) refl
    where
      far : sign g ≢ below
      far = Order.nonnegative_from fractions (Order.≼_trans fractions (Order.nought-≼ fractions (Order.nonnegative-one fractions)) some)

      u : sign (unit_of 20) ≢ below
      u = nonnegative-unit_of 20

      area : sign K ≢ below
      area = nonnegative-whole (2 ^ 17)

      n : (k : ℕ) → sign (number_value fraction_ring.operations k) ≢ below
      n k = Order.nonnegative-number fractions k

  with_units : (w x y : Fraction) → w ≼ x → x ⊕ units 20 189 ≼ y → w ⊕ units 20 189 ≼ y
  with_units w x y h k = Order.≼_trans fractions (Order.≼-add fractions h (Order.≼_refl fractions (units 20 189))) k

  -- the quotient by two, and by four
  over_two : (g w : Fraction) {low high lo hi : ℤ} → one ≼ g → w ≼ total g → IsNarrow 20 (w ⊕ units 20 189) low high → ((hi -ℤ lo) *ℤ pos 2) ≤ℤ
      ((high -ℤ low) +ℤ pos (2 * 2)) → IsNarrow 20 (g ⊗ W) lo hi
  over_two g w some less narrow quotient = narrow-wider (Order.≼_same fractions (ring fraction_ring (g ∷ W ∷ unit_of 20 ∷ [])
      ((var 0 :* var 1 :- number 2 :* var 2) :+ number 2 :* var 2) (var 0 :* var 1) refl))
      (narrow-over (g ⊗ W ⊖ units 20 2) 2 (omega arith) quotient narrow (with_units w (total g) _ less (enough g some)))

  over_four : (g w : Fraction) {low high lo hi : ℤ} → one ≼ g → w ≼ total g → low ≤ℤ high → IsNarrow 20 (w ⊕ units 20 189) low high → ((hi -ℤ lo) *ℤ pos 4) ≤ℤ
      ((high -ℤ low) +ℤ pos (2 * 4)) → IsNarrow 20 (g ⊗ W) lo hi
  over_four g w {low} {high} some less order narrow quotient = narrow-wider (Order.≼_same fractions
      (ring fraction_ring (g ∷ W ∷ unit_of 20 ∷ []) ((var 0 :* var 1 :- number 2 :* var 2) :+ number 2 :* var 2) (var 0 :* var 1) refl))
      (narrow-over (g ⊗ W ⊖ units 20 2) 4 (omega arith) quotient narrow (order_from fractions ((w ⊕ units 20 189) ∷ (g ⊗ W ⊖ units 20 2) ∷ whole (pos 2) ∷ whole (pos 4) ∷ [])
      ((number 2, var 0, var 1 :* var 2) ∷ (unit, number 0, var 0) ∷ (opposite (var 1), var 3, var 2 :* var 2)
      ∷ (opposite (var 1 :* var 2), var 2, number 2) ∷ [])
      (scaled (Order.nonnegative-number fractions 2) (with_units w (total g) _ less (enough g some))
      (at_most (Order.nought-≼ fractions (nonnegative_width low high order narrow))
      (equal (whole-mul (pos 2) (pos 2)) (equal (whole-number 2) no_more)))) (var 0) (var 1 :* var 3) refl))

  -- ---- the four integrals
  abbrev total_of : Expression
  total_of = var 0 :* (var 1 :* (((var 3 :+ var 3) :+ (var 3 :+ var 3)) :+ number 64 :* var 4) :+ var 2 :* (var 3 :+ number 16 :* var 4))

  module _ (g : Fraction) (some : one ≼ g) where
    far : sign g ≢ below
    far = Order.nonnegative_from fractions (Order.≼_trans fractions (Order.nought-≼ fractions (Order.nonnegative-one fractions)) some)

    lengths : sum_over (λ f. length_part g s (doubled_area f)) faces.list ≼ total g
    lengths = Order.≼_trans fractions (Order.≼_same fractions (sum_affine faces.list (λ f. length_part g s (doubled_area f))
        (g ⊗ ((s ⊕ s) ⊕ units 20 64)) (g ⊗ units 20 6)
        (λ f. ring fraction_ring (doubled_area f ∷ g ∷ s ∷ unit_of 20 ∷ []) (var 1 :*
        (var 0 :* ((var 2 :+ var 2) :+ number 64 :* var 3) :+ number 6 :* var 3))
        (var 0 :* (var 1 :* ((var 2 :+ var 2) :+ number 64 :* var 3)) :+ var 1 :* (number 6 :* var 3)) refl)))
        (order_from fractions (g ∷ S ∷ N ∷ s ∷ unit_of 20 ∷ []) ((number 2 :* var 0 :* var 1 :+ var 0 :* var 2, number 0, var 3)
        ∷ (number 10 :* var 0 :* var 2, number 0, var 4) ∷ [])
        (scaled (Order.nonnegative-add fractions (Order.nonnegative-mul fractions
        (Order.nonnegative-mul fractions (Order.nonnegative-number fractions 2) far) (nonnegative_areas faces.list))
        (Order.nonnegative-mul fractions far (nonnegative-whole (length faces.list)))) (Order.nought-≼ fractions spread_is)
        (scaled (Order.nonnegative-mul fractions (Order.nonnegative-mul fractions (Order.nonnegative-number fractions 10) far)
        (nonnegative-whole (length faces.list))) (Order.nought-≼ fractions (nonnegative-unit_of 20)) no_more))
        (var 1 :* (var 0 :* ((var 3 :+ var 3) :+ number 64 :* var 4)) :+ var 2 :* (var 0 :* (number 6 :* var 4))) total_of refl)

    heights : sum_over (λ f. height_part g s (doubled_area f)) faces.list ≼ total g
    heights = Order.≼_same fractions (sum_affine faces.list (λ f. height_part g s (doubled_area f)) (g ⊗ (((s ⊕ s) ⊕ (s ⊕ s)) ⊕ units 20 64))
        (g ⊗ (s ⊕ units 20 16))
        (λ f. ring fraction_ring (doubled_area f ∷ g ∷ s ∷ unit_of 20 ∷ []) (var 1 :*
        ((var 0 :* (((var 2 :+ var 2) :+ (var 2 :+ var 2)) :+ number 64 :* var 3) :+ var 2) :+ number 16 :* var 3))
        (var 0 :* (var 1 :* (((var 2 :+ var 2) :+ (var 2 :+ var 2)) :+ number 64 :* var 3)) :+ var 1 :* (var 2 :+ number 16 :* var 3)) refl)
        ∙ ring fraction_ring (g ∷ S ∷ N ∷ s ∷ unit_of 20 ∷ []) (var 1 :* (var 0 :* (((var 3 :+ var 3) :+ (var 3 :+ var 3)) :+ number 64 :* var 4)) :+
        var 2 :* (var 0 :* (var 3 :+ number 16 :* var 4))) total_of refl)

  -- the bound of the volume isn't below 0
  bound_is : sign W ≢ below
  unfolding volume_bound
  bound_is = Order.nonnegative-mul fractions
      (Order.nonnegative-mul fractions (nonnegative-whole 8) (Order.nonnegative-add fractions (nonnegative_halves faces.list) (nonnegative-whole (2 ^ 17))))
      (Order.nonnegative-add fractions spread_is (nonnegative-unit_of 16))

  -- half of it is enough for the volume
  half_enough : (S ⊗ ((s ⊕ s) ⊕ units 20 24) ⊕ N ⊗ units 20 2) ⊕ units 20 189 ≼ (W ⊗ inverse (whole (pos 2)) ⊖ units 20 2) ⊗ whole (pos 2)
  unfolding volume_bound
  half_enough = order_from fractions (S ∷ N ∷ s ∷ unit_of 20 ∷ K ∷ half_areas faces.list ∷ inverse (whole (pos 2)) ∷ whole (pos 2) ∷ whole (pos 8) ∷ unit_of 16 ∷ [])
      ((opposite ((var 5 :+ var 4) :* (var 2 :+ var 9) :* var 6 :* var 7), var 8, number 8)
      ∷ (opposite (number 8 :* (var 5 :+ var 4) :* (var 2 :+ var 9) :+ number 4 :* var 0 :* (var 2 :+ var 9)), var 7 :* var 6, unit)
      ∷ (opposite (number 8 :* (var 2 :+ var 9)), var 5, var 0 :* var 6)
      ∷ (number 4 :* var 0 :* (var 2 :+ var 9) :* var 6 :+ number 2 :* var 3, var 7, number 2)
      ∷ (opposite (number 4 :* var 0 :+ number 8 :* var 4), var 9, number 16 :* var 3)
      ∷ (number 2 :* var 3, var 1, var 4) ∷ (number 4 :* var 3, number 64, var 4) ∷ (number 63, number 0, var 3)
      ∷ (number 2 :* var 0 :+ number 8 :* var 4, number 0, var 2) ∷ (number 40 :* var 0 :+ number 122 :* var 4, number 0, var 3) ∷ [])
      (equal (whole-number 8) (equal half (equal (half_sum faces.list) (equal (whole-number 2) (equal sixteen
      (scaled (n 2 (unit_of 20) u) fewer (scaled (n 4 (unit_of 20) u) some_area
      (scaled (Order.nonnegative-number fractions 63) (Order.nought-≼ fractions u)
      (scaled (Order.nonnegative-add fractions (n 2 S area) (n 8 K K_is)) (Order.nought-≼ fractions spread_is)
      (scaled (Order.nonnegative-add fractions (n 40 S area) (n 122 K K_is)) (Order.nought-≼ fractions u) no_more))))))))))
      ((var 0 :* ((var 2 :+ var 2) :+ number 24 :* var 3) :+ var 1 :* (number 2 :* var 3)) :+ number 189 :* var 3)
      ((((var 8 :* (var 5 :+ var 4)) :* (var 2 :+ var 9)) :* var 6 :- number 2 :* var 3) :* var 7) refl
    where
      u : sign (unit_of 20) ≢ below
      u = nonnegative-unit_of 20

      area : sign S ≢ below
      area = nonnegative_areas faces.list

      K_is : sign K ≢ below
      K_is = nonnegative-whole (2 ^ 17)

      n : (k : ℕ) (x : Fraction) → sign x ≢ below → sign (number_value fraction_ring.operations k ⊗ x) ≢ below
      n k x h = Order.nonnegative-mul fractions (Order.nonnegative-number fractions k) h

  pub strips-room : {low high lo hi : ℤ} → IsNarrow 20 (sum_over (λ f. volume_part s (doubled_area f)) faces.list ⊕ units 20 189) low high → ((hi -ℤ lo) *ℤ pos 2)
      ≤ℤ ((high -ℤ low) +ℤ pos (2 * 2)) → IsNarrow 20 (W ⊗ inverse (whole (pos 2))) lo hi
  strips-room narrow quotient = narrow-wider (Order.≼_same fractions (ring fraction_ring ((W ⊗ inverse (whole (pos 2))) ∷ unit_of 20 ∷ [])
      ((var 0 :- number 2 :* var 1) :+ number 2 :* var 1) (var 0) refl))
      (narrow-over (W ⊗ inverse (whole (pos 2)) ⊖ units 20 2) 2 (omega arith) quotient narrow (with_units _ _ _
      (Order.≼_same fractions (sum_affine faces.list (λ f. volume_part s (doubled_area f)) ((s ⊕ s) ⊕ units 20 24) (units 20 2) (λ f. refl))) half_enough))

  pub strips-volume : {low high lo hi : ℤ} → IsNarrow 20 (sum_over (λ f. volume_part s (doubled_area f)) faces.list ⊕ units 20 189) low high → ((hi -ℤ lo) *ℤ pos 2)
      ≤ℤ ((high -ℤ low) +ℤ pos (2 * 2)) → IsNarrow 20 W lo hi
  strips-volume narrow quotient = narrow-wider (order_from fractions (W ∷ inverse (whole (pos 2)) ∷ whole (pos 2) ∷ [])
      ((var 0, number 0, var 1) ∷ (opposite (var 0 :* var 1), var 2, number 2) ∷ (var 0, var 2 :* var 1, unit) ∷ [])
      (scaled bound_is (Order.nought-≼ fractions half_is) (equal (whole-number 2) (equal half no_more))) (var 0 :* var 1) (var 0) refl)
      (strips-room narrow quotient)
    where
      half_is : sign (inverse (whole (pos 2))) ≢ below
      half_is = Order.nonnegative_positive fractions (Bounds.positive-inverse fractions (positive-whole 2 (omega arith)))

  pub strips-length : {low high lo hi : ℤ} → IsNarrow 20 (sum_over (λ f. length_part (whole faces.last_x) s (doubled_area f)) faces.list ⊕ units 20 189) low high
      → ((hi -ℤ lo) *ℤ pos 2) ≤ℤ ((high -ℤ low) +ℤ pos (2 * 2)) → IsNarrow 20 (whole faces.last_x ⊗ W) lo hi
  strips-length narrow quotient = over_two (whole faces.last_x) _ some (lengths (whole faces.last_x) some) narrow quotient
    where
      some : one ≼ whole faces.last_x
      some = Order.≼_trans fractions (Order.≼_same fractions (sym whole-one)) (whole-≼
          (ahead faces.first_x faces.last_x faces.ends.first_within.0 faces.ends.apart))
        where
          ahead : (first last : ℤ) → pos 0 ≤ℤ first → first <ℤ last → pos 1 ≤ℤ last
          ahead first last h k = omega (arith, ints)

  pub strips-side : {low high lo hi : ℤ} → IsNarrow 20 (sum_over (λ f. height_part (reach_of faces b) s (doubled_area f)) faces.list ⊕ units 20 189) low high
      → ((hi -ℤ lo) *ℤ pos 2) ≤ℤ ((high -ℤ low) +ℤ pos (2 * 2)) → IsNarrow 20 (reach_of faces b ⊗ W) lo hi
  strips-side narrow quotient = over_two (reach_of faces b) _ (some_reach faces b) (heights (reach_of faces b) (some_reach faces b)) narrow quotient

  pub strips-height : {low high lo hi : ℤ} → low ≤ℤ high → IsNarrow 20 (sum_over (λ f. height_part (reach_of faces b) s (doubled_area f)) faces.list ⊕ units 20 189)
      low high → ((hi -ℤ lo) *ℤ pos 4) ≤ℤ ((high -ℤ low) +ℤ pos (2 * 4)) → IsNarrow 20 (reach_of faces b ⊗ W) lo hi
  strips-height order narrow quotient = over_four (reach_of faces b) _ (some_reach faces b) (heights (reach_of faces b) (some_reach faces b)) order
      narrow quotient

  -- ---- the same of sums over all faces at once
  no_wider : (w : Fraction) {lo hi : ℤ} → IsNarrow 20 w lo hi → IsNarrow 20 (w ⊕ units 20 189) lo hi
  no_wider w h = narrow-wider (order_from fractions (w ∷ unit_of 20 ∷ []) ((number 189, number 0, var 1) ∷ [])
      (scaled (Order.nonnegative-number fractions 189) (Order.nought-≼ fractions (nonnegative-unit_of 20)) no_more) (var 0) (var 0 :+ number 189 :* var 1) refl) h

  pub volume-total : {low high lo hi : ℤ} → IsNarrow 20 (sum_over (λ f. volume_part s (doubled_area f)) faces.list) low high → ((hi -ℤ lo) *ℤ pos 2)
      ≤ℤ ((high -ℤ low) +ℤ pos (2 * 2)) → IsNarrow 20 W lo hi
  volume-total narrow quotient = strips-volume (no_wider _ narrow) quotient

  pub length-total : {low high lo hi : ℤ} → IsNarrow 20 (sum_over (λ f. length_part (whole faces.last_x) s (doubled_area f)) faces.list) low high
      → ((hi -ℤ lo) *ℤ pos 2) ≤ℤ ((high -ℤ low) +ℤ pos (2 * 2)) → IsNarrow 20 (whole faces.last_x ⊗ W) lo hi
  length-total narrow quotient = strips-length (no_wider _ narrow) quotient

pub nonnegative_bound : (faces : Faces) (b : PlaneBox) → sign (volume_bound faces b) ≢ below
nonnegative_bound faces b = bound_is faces b faces.few
