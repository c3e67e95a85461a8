-- The areas of the parts that are lost: for each slab no more than those of all faces, but for the rounding.
use Rattle.std.proofs.Common.{Bool, true, false, ℕ, suc, ◌+◌, ◌*◌, ◌^◌, ◌≤◌, ℤ, pos, neg_ℤ, ◌≤ℤ◌, unsigned_abs, ◌≡◌, ◌≢◌, ◌∙◌, refl, sym, ap, List, [], ◌∷◌, length, arith}
use Rattle.std.proofs.lemmas.Int.{ints}
use Rattle.std.proofs.lemmas.List.{length-append}
use Rattle.std.specs.List.{AllByRecursion}
use Rattle.exact_algebra.specs.Expression.{var, unit, number, ◌:+◌, ◌:-◌, ◌:*◌, opposite}
use Rattle.exact_algebra.specs.OrderedField.{Sign, below, level, above}
use Rattle.exact_algebra.proofs.Bounds as Bounds
use Rattle.exact_algebra.proofs.Fraction.{Fraction, nought, one, ◌⊕◌, ◌⊗◌, ◌⊖◌, negative, ◌≼◌, sign, fractions, fraction_ring}
use Rattle.exact_algebra.proofs.Order as Order
use Rattle.exact_algebra.proofs.Order.{order_from, no_more, at_most, scaled, equal}
use Rattle.exact_algebra.proofs.Products as Ends
use Rattle.exact_algebra.proofs.Ring.{ring}
use Rattle.exact_algebra.proofs.Span.{ContainsFraction, positive-unit}
use Rattle.exact_algebra.proofs.Whole.{whole, whole-nought, whole-one, whole-add, whole-negative, whole-≼, whole-≼_out, positive-whole, nonnegative-whole}
use Rattle.hull_model.specs.declared.face.Face.{Face}
use Rattle.hull_model.specs.declared.slab.Slab.{Slab}
use Rattle.hull_model.specs.FaceParts.{area_y, area_z}
use Rattle.hull_model.specs.Faces.{IsFace, triangle_of}
use Rattle.hull_model.specs.Flooded.{flooded_share}
use Rattle.hull_model.specs.Fractions.{magnitude, magnitude_by, sum_over}
use Rattle.hull_model.specs.TriangleCut.{Triangle}
use Rattle.hull_model.specs.Waterplane.{Position}
use Rattle.hull_model.proofs.ShareSplits.{sum_over-append}
use Rattle.hull_polyhedron.proofs.WholeHull.{area_y-node, area_z-node}
use Rattle.outward_interval.specs.Widths.{units, unit_of, IsNear}
use Rattle.outward_interval.proofs.Narrow.{whole-number, units-in, units-at_most, magnitude-within}
use Rattle.plane_clip.specs.declared.part.Part.{Part}
use Rattle.plane_clip.specs.Between.{is_flat, unless_flat, clipped_face}
use Rattle.plane_clip.specs.Clipped.{clipped}
use Rattle.plane_clip.specs.Enclosure.{in_unit}
use Rattle.plane_clip.specs.Extents.{ArePartExtents}
use Rattle.plane_clip.specs.Limits.{IsThin}
use Rattle.plane_clip.specs.Parts.{HoldsShare, face_at}
use Rattle.flux_moments.specs.PartSizes.{part_area}
use Rattle.flux_moments.specs.Shared.{Shared, HoldShares}
use Rattle.flux_moments.specs.Sizes.{doubled_area}
use Rattle.flux_moments.proofs.MeanWidths.{in_unit-in}
use Rattle.compartment_loss.specs.Flooding.{shared, face_in, faces_in, flooded_parts}
use Rattle.compartment_loss.proofs.ClippedAreas.{AreParts, clipped-parts, few-clipped}

-- ---- magnitudes
above_magnitude : (x : Fraction) → x ≼ magnitude x
unfolding magnitude
above_magnitude x = go (sign x) refl
  where
    go : (s : Sign) → sign x ≡ s → x ≼ magnitude_by s x
    go above e = Order.≼_refl fractions x
    go level e = Order.≼_refl fractions x
    go below e = order_from fractions (x ∷ []) ((number 2, number 0, opposite (var 0)) ∷ [])
        (scaled (Order.nonnegative-number fractions 2) (Order.nought-≼ fractions (Order.nonnegative_positive fractions (Order.negative_below fractions e))) no_more) (var 0) (opposite (var 0)) refl

negative_magnitude : (x : Fraction) → negative x ≼ magnitude x
unfolding magnitude
negative_magnitude x = go (sign x) refl
  where
    from_nonnegative : sign x ≢ below → negative x ≼ x
    from_nonnegative n = order_from fractions (x ∷ []) ((number 2, number 0, var 0) ∷ []) (scaled (Order.nonnegative-number fractions 2) (Order.nought-≼ fractions n) no_more) (opposite (var 0)) (var 0) refl

    go : (s : Sign) → sign x ≡ s → negative x ≼ magnitude_by s x
    go above e = from_nonnegative (Order.nonnegative_positive fractions e)
    go level e = from_nonnegative (Order.nonnegative_level fractions e)
    go below e = Order.≼_refl fractions (negative x)

magnitude_within : (x m : Fraction) → x ≼ m → negative x ≼ m → magnitude x ≼ m
unfolding magnitude
magnitude_within x m h k = go (sign x)
  where
    go : (s : Sign) → magnitude_by s x ≼ m
    go above = h
    go level = h
    go below = k

-- ---- the areas of parts
-- of an area by its triangle and its share
abbrev pub seen : Shared → Fraction
seen t = magnitude (area_y t.at ⊗ t.share) ⊕ magnitude (area_z t.at ⊗ t.share)

-- and what a part counts besides: one, and the widths of its spans
abbrev pub more : Fraction
more = one ⊕ units 20 6

abbrev pub counted : Shared → Fraction
counted t = seen t ⊕ more

-- the ends of a thin span lie hardly farther from 0 than what it contains
thin-near : (x : Fraction) (lo hi : ℤ) → ContainsFraction 20 lo hi x → IsThin 3 lo hi → IsNear 20 (magnitude x ⊕ units 20 3) lo hi
thin-near x lo hi h thin = record {
  from = order_from fractions values ((var 4, opposite (var 3), var 2) ∷ (unit, var 2 :* var 4, var 1) ∷ (unit, var 1, var 0 :+ var 6) ∷ (opposite unit, var 5 :* var 4, var 6) ∷ [])
      (scaled scale (turned (magnitude x) (negative_magnitude x)) (at_most h.to (at_most apart (equal (units-in 20 3) no_more)))) (opposite ((var 3 :+ var 5) :* var 4)) (var 0) refl;
  to = order_from fractions values ((unit, var 1, var 0 :+ var 6) ∷ (unit, var 0, var 2 :* var 4) ∷ (var 4, var 2, var 3) ∷ (opposite unit, var 5 :* var 4, var 6) ∷ [])
      (at_most apart (at_most h.from (scaled scale (above_magnitude x) (equal (units-in 20 3) no_more)))) (var 1) ((var 3 :+ var 5) :* var 4) refl;
}
  where
    values : List Fraction
    values = whole lo ∷ whole hi ∷ x ∷ magnitude x ∷ whole (pos (2 ^ 20)) ∷ units 20 3 ∷ whole (pos 3) ∷ []

    scale : sign (whole (pos (2 ^ 20))) ≢ below
    scale = Order.nonnegative_positive fractions (positive-unit 20)

    apart : whole hi ≼ whole lo ⊕ whole (pos 3)
    apart = Order.≼_trans fractions (whole-≼ thin) (Order.≼_same fractions (whole-add lo (pos 3)))

    turned : (m : Fraction) → negative x ≼ m → negative m ≼ x
    turned m h = order_from fractions (x ∷ m ∷ []) ((unit, opposite (var 0), var 1) ∷ []) (at_most h no_more) (opposite (var 1)) (var 0) refl

thin-area : (x : Fraction) (lo hi : ℤ) → ContainsFraction 20 lo hi x → IsThin 3 lo hi → in_unit 20 (pos (Ends.magnitude lo hi)) ≼ magnitude x ⊕ units 20 3
thin-area x lo hi h thin = Order.≼_cancel fractions (positive-unit 20) (Order.≼_trans fractions (Order.≼_same fractions (in_unit-in 20 (pos (Ends.magnitude lo hi))))
    (magnitude-within (whole-≼_out lo hi (Order.≼_trans fractions h.from h.to)) (thin-near x lo hi h thin)))

module _ (y z : ℕ) where
  part-counted : (p : Part) (t : Shared) → HoldsShare p t.share t.at → IsThin 3 p.ay.lo p.ay.hi → IsThin 3 p.az.lo p.az.hi → part_area p ⊕ one ≼ counted t
  part-counted p t h ay az = order_from fractions (part_area p ∷ side ∷ top ∷ magnitude (area_y t.at ⊗ t.share) ∷ magnitude (area_z t.at ⊗ t.share) ∷ unit_of 20 ∷ [])
      ((unit, var 0, var 1 :+ var 2) ∷ (unit, var 1, var 3 :+ number 3 :* var 5) ∷ (unit, var 2, var 4 :+ number 3 :* var 5) ∷ [])
      (equal refl (at_most (thin-area _ p.ay.lo p.ay.hi h.ay ay) (at_most (thin-area _ p.az.lo p.az.hi h.az az) no_more)))
      (var 0 :+ unit) ((var 3 :+ var 4) :+ (unit :+ number 6 :* var 5)) refl
    where
      side : Fraction
      side = in_unit 20 (pos (Ends.magnitude p.ay.lo p.ay.hi))

      top : Fraction
      top = in_unit 20 (pos (Ends.magnitude p.az.lo p.az.hi))

  pub parts-counted : (ps : List Part) (ts : List Shared) → HoldShares ps ts → ArePartExtents y z 3 ps → sum_over (λ p. part_area p ⊕ one) ps ≼ sum_over counted ts
  unfolding sum_over
  parts-counted [] [] h k = Order.≼_refl fractions nought
  parts-counted [] (t ∷ ts) h k = absurd h
  parts-counted (p ∷ ps) [] h k = absurd h
  parts-counted (p ∷ ps) (t ∷ ts) h k = Order.≼-add fractions (part-counted p t h.0 k.0.ay k.0.az) (parts-counted ps ts h.1 k.1)

-- ---- the areas of a face's part
-- a share of a part of an area is no larger than the part
shrunk : (n : ℤ) (a x q c : Fraction) → a ≡ whole n → x ≡ a ⊗ q → sign q ≢ below → sign c ≢ below → c ≼ one → magnitude (x ⊗ c) ≼ whole (pos (unsigned_abs n)) ⊗ q
shrunk n a x q c e f some share most = magnitude_within (x ⊗ c) (A ⊗ q)
    (order_from fractions values ((var 3 :* var 4, var 0, var 5) ∷ (var 5 :* var 3, var 4, unit) ∷ (var 4, var 2, var 1 :* var 3) ∷ (var 4 :* var 3, var 1, var 0) ∷ [])
    (scaled both (whole-≼ (up n)) (scaled larger most (equal f (equal e no_more)))) (var 2 :* var 4) (var 5 :* var 3) refl)
    (order_from fractions values ((var 3 :* var 4, opposite (var 0), var 5) ∷ (var 5 :* var 3, var 4, unit) ∷ (opposite (var 4), var 2, var 1 :* var 3) ∷ (opposite (var 4 :* var 3), var 1, var 0) ∷ [])
    (scaled both (Order.≼_trans fractions (Order.≼_same fractions (sym (whole-negative n))) (whole-≼ (down n))) (scaled larger most (equal f (equal e no_more)))) (opposite (var 2 :* var 4)) (var 5 :* var 3) refl)
  where
    A : Fraction
    A = whole (pos (unsigned_abs n))

    values : List Fraction
    values = whole n ∷ a ∷ x ∷ q ∷ c ∷ A ∷ []

    both : sign (q ⊗ c) ≢ below
    both = Order.nonnegative-mul fractions some share

    larger : sign (A ⊗ q) ≢ below
    larger = Order.nonnegative-mul fractions (nonnegative-whole (unsigned_abs n)) some

    up : (n : ℤ) → n ≤ℤ pos (unsigned_abs n)
    up n = omega (arith, ints)

    down : (n : ℤ) → neg_ℤ n ≤ℤ pos (unsigned_abs n)
    down n = omega (arith, ints)

pub one_more : (n : ℕ) → whole (pos (suc n)) ≡ whole (pos n) ⊕ one
one_more n = ap (λ m. whole (pos m)) (after n) ∙ whole-add (pos n) (pos 1) ∙ ap (λ x. whole (pos n) ⊕ x) whole-one
  where
    after : (n : ℕ) → suc n ≡ n + 1
    after n = omega arith

above_more : sign more ≢ below
above_more = Order.nonnegative-add fractions (Order.nonnegative-one fractions) (Order.nonnegative_from fractions (Order.≼_cancel fractions (positive-unit 20)
    (Order.≼_trans fractions (Order.≼_same fractions (ring fraction_ring (whole (pos (2 ^ 20)) ∷ []) (number 0 :* var 0) (number 0) refl ∙ sym whole-nought))
    (Order.≼_trans fractions (whole-≼ some) (Order.≼_same fractions (sym (units-in 20 6)))))))
  where
    some : pos 0 ≤ℤ pos 6
    some = omega (arith, ints)

module _ (c : Fraction) (share : sign c ≢ below) (most : c ≼ one) where
  module _ (f : Face) (is : IsFace f) where
    side_is : area_y (face_at f) ≡ whole f.ay
    side_is = area_y-node (triangle_of f) ∙ sym (ap (λ (g : Face). whole g.ay) is.area)

    top_is : area_z (face_at f) ≡ whole f.az
    top_is = area_z-node (triangle_of f) ∙ sym (ap (λ (g : Face). whole g.az) is.area)

    parts-seen : (us : List (Triangle Position)) (m : Fraction) → AreParts (face_at f) m us
        → sum_over counted (shared c us) ≼ doubled_area f ⊗ m ⊕ whole (pos (length us)) ⊗ more
    unfolding sum_over
    parts-seen [] m h = order_from fractions ((doubled_area f ⊗ m) ∷ whole (pos 0) ∷ more ∷ []) ((unit, number 0, var 0) ∷ (opposite (var 2), var 1, number 0) ∷ [])
        (at_most (Order.nought-≼ fractions (Order.nonnegative-mul fractions (nonnegative-whole (unsigned_abs f.ay + unsigned_abs f.az)) h)) (equal whole-nought no_more)) (number 0) (var 0 :+ var 1 :* var 2) refl
    parts-seen (u ∷ us) m h = order_from fractions
        (Y ∷ Z ∷ sum_over counted (shared c us) ∷ doubled_area f ∷ m ∷ h.0 ∷ whole (pos (length us)) ∷ whole (pos (suc (length us))) ∷ more ∷ whole (pos (unsigned_abs f.ay)) ∷ whole (pos (unsigned_abs f.az)) ∷ [])
        ((unit, var 0, var 9 :* var 5) ∷ (unit, var 1, var 10 :* var 5) ∷ (unit, var 2, var 3 :* (var 4 :- var 5) :+ var 6 :* var 8) ∷ (opposite (var 5), var 3, var 9 :+ var 10)
        ∷ (opposite (var 8), var 7, var 6 :+ unit) ∷ [])
        (at_most (shrunk f.ay (area_y (face_at f)) (area_y u) h.0 c side_is h.1.areas.y h.1.some share most)
        (at_most (shrunk f.az (area_z (face_at f)) (area_z u) h.0 c top_is h.1.areas.z h.1.some share most)
        (at_most (parts-seen us (m ⊖ h.0) h.2)
        (equal (whole-add (pos (unsigned_abs f.ay)) (pos (unsigned_abs f.az))) (equal (one_more (length us)) no_more)))))
        (((var 0 :+ var 1) :+ var 8) :+ var 2) (var 3 :* var 4 :+ var 7 :* var 8) refl
      where
        Y : Fraction
        Y = magnitude (area_y u ⊗ c)

        Z : Fraction
        Z = magnitude (area_z u ⊗ c)

    -- four parts at most
    five : (n : ℕ) → n ≤ 4 → whole (pos n) ⊗ more ≼ whole (pos 5)
    five n few = order_from fractions (whole (pos n) ∷ more ∷ whole (pos 4) ∷ whole (pos 5) ∷ unit_of 20 ∷ [])
        ((var 1, var 0, var 2) ∷ (unit, number 24 :* var 4, unit) ∷ (var 1, var 2, number 4) ∷ (opposite unit, var 3, number 5) ∷ (number 4, var 1, unit :+ number 6 :* var 4) ∷ [])
        (scaled above_more (whole-≼ (at_most_four n few)) (at_most (units-at_most 20 24 small) (equal (whole-number 4) (equal (whole-number 5) (equal refl no_more)))))
        (var 0 :* var 1) (var 3) refl
      where
        at_most_four : (n : ℕ) → n ≤ 4 → pos n ≤ℤ pos 4
        at_most_four n h = omega (arith, ints, h)

        small : pos 24 ≤ℤ pos (2 ^ 20)
        small = omega (arith, ints)

    by-flat : (aft fore : ℤ) (b : Bool) → sum_over counted (shared c (unless_flat b (clipped aft fore (face_at f)))) ≼ doubled_area f ⊕ whole (pos 5)
    unfolding sum_over
    by-flat aft fore true = Order.nonnegative_same fractions (ring fraction_ring (doubled_area f ∷ whole (pos 5) ∷ []) ((var 0 :+ var 1) :- number 0) (var 0 :+ var 1) refl)
        (Order.nonnegative-add fractions (nonnegative-whole (unsigned_abs f.ay + unsigned_abs f.az)) (nonnegative-whole 5))
    by-flat aft fore false = Order.≼_trans fractions (parts-seen (clipped aft fore (face_at f)) one (clipped-parts aft fore (face_at f)))
        (order_from fractions (doubled_area f ∷ (whole (pos (length (clipped aft fore (face_at f)))) ⊗ more) ∷ whole (pos 5) ∷ []) ((unit, var 1, var 2) ∷ [])
        (at_most (five (length (clipped aft fore (face_at f))) (few-clipped aft fore (face_at f))) no_more) (var 0 :* unit :+ var 1) (var 0 :+ var 2) refl)

-- ---- in all slabs
share_above : (s : Slab) → sign (flooded_share s) ≢ below
share_above s = Order.nonnegative-mul fractions (nonnegative-whole s.permeability)
    (Order.nonnegative_positive fractions (Bounds.positive-inverse fractions (positive-whole 1000 (omega arith))))

share_most : (s : Slab) → flooded_share s ≼ one
share_most s = Bounds.quotient-≼ fractions (positive-whole 1000 (omega arith)) (Order.≼_trans fractions (whole-≼ (within s.permeability s.limits.share))
    (Order.≼_same fractions (ring fraction_ring (whole (pos 1000) ∷ []) (var 0) (unit :* var 0) refl)))
  where
    within : (n : ℕ) → n ≤ 1000 → pos n ≤ℤ pos 1000
    within n h = omega (arith, ints, h)

-- the areas of all faces, and five for each
abbrev pub slab_most : List Face → Fraction
slab_most faces = sum_over doubled_area faces ⊕ whole (pos (length faces)) ⊗ whole (pos 5)

faces-counted : (s : Slab) (faces : List Face) → AllByRecursion IsFace faces → sum_over counted (faces_in faces s) ≼ slab_most faces
unfolding sum_over
faces-counted s [] each = Order.≼_same fractions (ring fraction_ring (whole (pos 5) ∷ []) (number 0) (number 0 :+ number 0 :* var 0) refl ∙ ap (λ x. nought ⊕ x ⊗ whole (pos 5)) (sym whole-nought))
faces-counted s (f ∷ faces) each = Order.≼_trans fractions (Order.≼_same fractions (sum_over-append counted (face_in s f) (faces_in faces s)))
    (order_from fractions (sum_over counted (face_in s f) ∷ sum_over counted (faces_in faces s) ∷ doubled_area f ∷ sum_over doubled_area faces ∷ whole (pos (length faces)) ∷ whole (pos (suc (length faces))) ∷ whole (pos 5) ∷ [])
    ((unit, var 0, var 2 :+ var 6) ∷ (unit, var 1, var 3 :+ var 4 :* var 6) ∷ (opposite (var 6), var 5, var 4 :+ unit) ∷ [])
    (at_most (by-flat (flooded_share s) (share_above s) (share_most s) f each.0 s.aft s.fore (is_flat f)) (at_most (faces-counted s faces each.1) (equal (one_more (length faces)) no_more)))
    (var 0 :+ var 1) ((var 2 :+ var 3) :+ var 5 :* var 6) refl)

pub slabs-counted : (faces : List Face) → AllByRecursion IsFace faces → (slabs : List Slab) → sum_over counted (flooded_parts faces slabs) ≼ whole (pos (length slabs)) ⊗ slab_most faces
unfolding sum_over
slabs-counted faces each [] = Order.≼_same fractions (ring fraction_ring (slab_most faces ∷ []) (number 0) (number 0 :* var 0) refl ∙ ap (λ x. x ⊗ slab_most faces) (sym whole-nought))
slabs-counted faces each (s ∷ slabs) = Order.≼_trans fractions (Order.≼_same fractions (sum_over-append counted (faces_in faces s) (flooded_parts faces slabs)))
    (order_from fractions (sum_over counted (faces_in faces s) ∷ sum_over counted (flooded_parts faces slabs) ∷ slab_most faces ∷ whole (pos (length slabs)) ∷ whole (pos (suc (length slabs))) ∷ [])
    ((unit, var 0, var 2) ∷ (unit, var 1, var 3 :* var 2) ∷ (opposite (var 2), var 4, var 3 :+ unit) ∷ [])
    (at_most (faces-counted s faces each) (at_most (slabs-counted faces each slabs) (equal (one_more (length slabs)) no_more)))
    (var 0 :+ var 1) (var 4 :* var 2) refl)

-- ---- how many they are
length-shared : (c : Fraction) (us : List (Triangle Position)) → length (shared c us) ≡ length us
length-shared c [] = refl
length-shared c (u ∷ us) = ap suc (length-shared c us)

few-unless : (aft fore : ℤ) (t : Triangle Position) (b : Bool) → length (unless_flat b (clipped aft fore t)) ≤ 4
few-unless aft fore t true = omega arith
few-unless aft fore t false = few-clipped aft fore t

few-faces : (s : Slab) (faces : List Face) → length (faces_in faces s) ≤ 4 * length faces
few-faces s [] = omega arith
few-faces s (f ∷ faces) = omega (arith, length-append (face_in s f) (faces_in faces s), length-shared (flooded_share s) (clipped_face s.aft s.fore f), few-unless s.aft s.fore (face_at f) (is_flat f), few-faces s faces)

pub few-slabs : (faces : List Face) (slabs : List Slab) → length (flooded_parts faces slabs) ≤ length slabs * (4 * length faces)
few-slabs faces [] = omega arith
few-slabs faces (s ∷ slabs) = omega (arith, length-append (faces_in faces s) (flooded_parts faces slabs), few-faces s faces, few-slabs faces slabs)
