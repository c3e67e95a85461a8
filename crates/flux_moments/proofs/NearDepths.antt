-- The ends of a depth lie near the depths at the planes of a box.
use Rattle.std.proofs.Common.{refl, ◌∙◌, ap, List, [], ◌∷◌, ◌^◌, ℤ, pos, ◌+ℤ◌, ◌-ℤ◌, ◌≤ℤ◌, arith}
use Rattle.std.proofs.lemmas.Int.{ints}
use Rattle.exact_algebra.specs.Expression.{var, unit, number, ◌:+◌, ◌:-◌, ◌:*◌, opposite}
use Rattle.exact_algebra.proofs.Fraction.{Fraction, ◌⊕◌, ◌⊗◌, ◌⊖◌, negative, fractions, ◌≼◌}
use Rattle.exact_algebra.proofs.Order as Order
use Rattle.exact_algebra.proofs.Order.{order_from, no_more, at_most, equal, scaled}
use Rattle.exact_algebra.proofs.Span.{ContainsFraction, in_units}
use Rattle.exact_algebra.proofs.Whole.{whole, whole-one, whole-add, whole-sub, whole-≼_out, nonnegative-whole}
use Rattle.hull_model.specs.declared.node.Node.{Node}
use Rattle.hull_model.specs.Waterplane.{Waterplane, position_of, height, level_at}
use Rattle.outward_interval.specs.Ends.{AreEnds}
use Rattle.outward_interval.specs.Widths.{unit_of, units, IsNarrow}
use Rattle.outward_interval.specs.declared.span.Span.{Span}
use Rattle.outward_interval.proofs.Narrow.{whole-number, unit-in}
use Rattle.plane_clip.specs.Enclosure.{in_unit}
use Rattle.flux_moments.specs.Columns.{depth_of}
use Rattle.flux_moments.specs.Planes.{IsIn}
use Rattle.flux_moments.specs.Sizes.{BoxSize, HasSize, Reaches, distance, margin}
use Rattle.flux_moments.specs.declared.plane_box.PlaneBox.{PlaneBox}
use Rattle.flux_moments.proofs.BoxWidths.{nonnegative_turn, nonnegative_level}
use Rattle.flux_moments.proofs.MeanWidths.{contains_end}
use Rattle.flux_moments.proofs.TotalWidths.{sixteen}

-- the plane of the bracket's first direction with these levels
abbrev pub first_plane : PlaneBox → Fraction → Fraction → Waterplane
first_plane planes a f = record {
  c = planes.bracket.low.c;
  s = planes.bracket.low.s;
  r = planes.bracket.low.r;
  round = planes.bracket.low.direction.direction.square;
  positive = planes.bracket.low.direction.direction.positive;
  a = a;
  f = f;
}

-- the planes of the least levels and of the greatest
abbrev pub least_plane : PlaneBox → Waterplane
least_plane planes = first_plane planes (in_unit 10 planes.a1) (in_unit 10 planes.f1)

abbrev pub greatest_plane : PlaneBox → Waterplane
greatest_plane planes = first_plane planes (in_unit 10 planes.a2) (in_unit 10 planes.f2)

same_end : (z : ℤ) → z ≤ℤ z
same_end z = omega (arith, ints)

pub least_is_in : (planes : PlaneBox) → IsIn planes (least_plane planes)
least_is_in planes = record {
  direction = record { from = omega arith; to = planes.bracket.bracket.ordered };
  aft = contains_end 10 planes.a1 planes.a2 planes.a1 (same_end planes.a1) planes.levels.aft;
  fore = contains_end 10 planes.f1 planes.f2 planes.f1 (same_end planes.f1) planes.levels.fore;
}

pub greatest_is_in : (planes : PlaneBox) → IsIn planes (greatest_plane planes)
greatest_is_in planes = record {
  direction = record { from = omega arith; to = planes.bracket.bracket.ordered };
  aft = contains_end 10 planes.a1 planes.a2 planes.a2 planes.levels.aft (same_end planes.a2);
  fore = contains_end 10 planes.f1 planes.f2 planes.f2 planes.levels.fore (same_end planes.f2);
}

module _ (planes : PlaneBox) (b : BoxSize) (h : Fraction) (is : HasSize planes b) (n : Node) (reached : Reaches b h n) (first last : ℤ) (level high depth : Span 20)
    (narrow : IsNarrow 20 (b.turn ⊗ distance n ⊕ units 20 2) high.lo high.hi) (ends : AreEnds (level.lo -ℤ high.hi) (level.hi -ℤ high.lo) depth.lo depth.hi) where
  near_enough : distance n ≼ h
  near_enough = order_from fractions (b.level ∷ distance n ∷ h ∷ []) ((unit, var 0 :+ var 1, var 2) ∷ (unit, number 0, var 0) ∷ [])
      (at_most reached (at_most (Order.nought-≼ fractions (nonnegative_level planes b is)) no_more)) (var 1) (var 2) refl

  module _ (plane : Waterplane) (contained : ContainsFraction 20 high.lo high.hi (height plane (position_of n))) where
    abbrev values : ℤ → ℤ → ℤ → List Fraction
    values l m d = margin b h ∷ level_at plane first last (whole n.x) ∷ height plane (position_of n) ∷ whole l ∷ whole m ∷ whole high.lo ∷ whole high.hi ∷ whole d
        ∷ b.turn ∷ distance n ∷ h ∷ unit_of 20 ∷ whole (pos (2 ^ 20)) ∷ unit_of 16 ∷ whole (pos 13) ∷ []

    -- at the least levels
    pub under_by : in_units 20 (level_at plane first last (whole n.x)) ≼ whole (level.lo +ℤ pos 1) → margin b h ≼ depth_of plane first last n → pos 1 ≤ℤ depth.lo
    under_by low deep = above depth.lo (whole-≼_out (pos 13) depth.lo (order_from fractions (values level.lo (level.lo +ℤ pos 1) depth.lo)
        ((var 12, var 8 :* var 10 :+ var 13, var 1 :- var 2) ∷ (unit, var 1 :* var 12, var 4) ∷ (unit, var 4, var 3 :+ unit) ∷ (unit, var 5, var 2 :* var 12)
        ∷ (unit, var 6 :- var 5, (var 8 :* var 9 :+ number 2 :* var 11) :* var 12) ∷ (opposite unit, var 7, var 3 :- var 6) ∷ (var 8 :* var 12, var 9, var 10)
        ∷ (opposite (number 14), var 11 :* var 12, unit) ∷ (opposite (var 12), var 13, number 16 :* var 11) ∷ (unit, var 14, number 13) ∷ [])
        (scaled (nonnegative-whole (2 ^ 20)) deep (at_most low (equal (whole-add level.lo (pos 1) ∙ ap (λ x. whole level.lo ⊕ x) whole-one) (at_most contained.from
        (at_most narrow.width (equal (ap whole ends.low ∙ whole-sub level.lo high.hi)
        (scaled (Order.nonnegative-mul fractions (nonnegative_turn planes b is) (nonnegative-whole (2 ^ 20))) near_enough
        (equal (unit-in 20) (equal sixteen (equal (whole-number 13) no_more))))))))))
        (var 14) (var 7) refl))
      where
        above : (z : ℤ) → pos 13 ≤ℤ z → pos 1 ≤ℤ z
        above z h = omega (arith, ints, h)

    -- at the greatest
    pub out_by : whole (level.hi -ℤ pos 1) ≼ in_units 20 (level_at plane first last (whole n.x)) → depth_of plane first last n ≼ negative (margin b h) → depth.hi ≤ℤ pos 0
    out_by high_level dry = beneath depth.hi (whole-≼_out (depth.hi +ℤ pos 13) (pos 0) (order_from fractions
        (margin b h ∷ level_at plane first last (whole n.x) ∷ height plane (position_of n) ∷ whole level.hi ∷ whole (level.hi -ℤ pos 1) ∷ whole high.lo ∷ whole high.hi ∷ whole depth.hi
        ∷ b.turn ∷ distance n ∷ h ∷ unit_of 20 ∷ whole (pos (2 ^ 20)) ∷ unit_of 16 ∷ whole (pos 13) ∷ whole (depth.hi +ℤ pos 13) ∷ whole (pos 0) ∷ [])
        ((var 12, var 1 :- var 2, opposite (var 8 :* var 10 :+ var 13)) ∷ (unit, var 4, var 1 :* var 12) ∷ (opposite unit, var 4, var 3 :- unit) ∷ (unit, var 2 :* var 12, var 6)
        ∷ (unit, var 6 :- var 5, (var 8 :* var 9 :+ number 2 :* var 11) :* var 12) ∷ (unit, var 7, var 3 :- var 5) ∷ (var 8 :* var 12, var 9, var 10)
        ∷ (opposite (number 14), var 11 :* var 12, unit) ∷ (opposite (var 12), var 13, number 16 :* var 11) ∷ (unit, var 14, number 13)
        ∷ (unit, var 15, var 7 :+ var 14) ∷ (opposite unit, var 16, number 0) ∷ [])
        (scaled (nonnegative-whole (2 ^ 20)) dry (at_most high_level (equal (whole-sub level.hi (pos 1) ∙ ap (λ x. whole level.hi ⊖ x) whole-one) (at_most contained.to
        (at_most narrow.width (equal (ap whole ends.high ∙ whole-sub level.hi high.lo)
        (scaled (Order.nonnegative-mul fractions (nonnegative_turn planes b is) (nonnegative-whole (2 ^ 20))) near_enough
        (equal (unit-in 20) (equal sixteen (equal (whole-number 13) (equal (whole-add depth.hi (pos 13)) (equal (whole-number 0) no_more))))))))))))
        (var 15) (var 16) refl))
      where
        beneath : (z : ℤ) → (z +ℤ pos 13) ≤ℤ pos 0 → z ≤ℤ pos 0
        beneath z h = omega (arith, ints, h)
