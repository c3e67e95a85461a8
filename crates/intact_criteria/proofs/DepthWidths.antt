-- How wide the depth interval of an opening may be.
use Rattle.std.proofs.Common.{◌≡◌, refl, sym, ◌∙◌, [], ◌∷◌, ◌^◌, ℤ, pos, ◌+ℤ◌, ◌-ℤ◌, ◌*ℤ◌, ◌≤ℤ◌, ◌<ℤ◌, arith}
use Rattle.std.proofs.lemmas.Int.{ints, clamps}
use Rattle.std.proofs.lemmas.Nat.{pow_pos}
use Rattle.std.specs.Int.{int_max}
use Rattle.angle_bounds.specs.declared.bracket.Bracket.{Bracket}
use Rattle.exact_algebra.specs.Expression.{var, unit, ◌:+◌, ◌:-◌, ◌:*◌}
use Rattle.exact_algebra.specs.Span.{floor_of, ceiling_of}
use Rattle.exact_algebra.proofs.Division.{floor_of-floor, ceiling_of-ceiling}
use Rattle.exact_algebra.proofs.Fraction.{fractions, ◌⊕◌, ◌⊖◌, ◌⊗◌, ◌≼◌}
use Rattle.exact_algebra.proofs.Order as Order
use Rattle.exact_algebra.proofs.Order.{order_from, no_more, at_most, scaled, equal}
use Rattle.exact_algebra.proofs.Span.{positive-unit}
use Rattle.exact_algebra.proofs.Whole.{whole, whole-add, whole-sub, whole-mul, whole-≼}
use Rattle.flux_moments.proofs.MeanWidths.{in_unit-in}
use Rattle.hull_model.specs.declared.opening.Opening.{Opening}
use Rattle.outward_interval.specs.Widths.{unit_of}
use Rattle.outward_interval.proofs.Narrow.{unit-in}
use Rattle.plane_clip.specs.Enclosure.{in_unit}
use Rattle.draft_bracket.specs.declared.drafts.Drafts.{Drafts}
use Rattle.intact_criteria.specs.Narrow.{IsNoWider, depth_width, DepthsAreNarrow}
use Rattle.intact_criteria.specs.Readings.{depth_of, least_depth, greatest_depth}
use Rattle.intact_criteria.proofs.DepthLaws.{not_below, whole_depth, ten_thirty, forty}

first_of : (a b : ℤ) → a ≤ℤ int_max a b
first_of a b = omega (arith, ints, clamps)

second_of : (a b : ℤ) → b ≤ℤ int_max a b
second_of a b = omega (arith, ints, clamps)

next_floor : (n z : ℤ) → n <ℤ ((z +ℤ pos 1) *ℤ pos (2 ^ 20)) → n ≤ℤ ((z *ℤ pos (2 ^ 20)) +ℤ pos (2 ^ 20))
next_floor n z h = omega (arith, ints)

before_ceiling : (n z : ℤ) → ((z -ℤ pos 1) *ℤ pos (2 ^ 20)) <ℤ n → (z *ℤ pos (2 ^ 20)) ≤ℤ (n +ℤ pos (2 ^ 20))
before_ceiling n z h = omega (arith, ints)

sixteen : whole (pos (2 ^ 24)) ⊗ whole (pos (2 ^ 16)) ≡ whole (pos (2 ^ 20)) ⊗ whole (pos (2 ^ 20))
sixteen = sym (whole-mul (pos (2 ^ 24)) (pos (2 ^ 16))) ∙ whole-mul (pos (2 ^ 20)) (pos (2 ^ 20))

two_units : whole (pos (2 ^ 20)) ⊕ whole (pos (2 ^ 20)) ≼ whole (pos (2 ^ 24))
two_units = Order.≼_trans fractions (Order.≼_same fractions (sym (whole-add (pos (2 ^ 20)) (pos (2 ^ 20))))) (whole-≼ less)
  where
    less : (pos (2 ^ 20) +ℤ pos (2 ^ 20)) ≤ℤ pos (2 ^ 24)
    less = omega (arith, ints)

module _ (bracket : Bracket) (drafts : Drafts) (o : Opening) where
  open drafts use {d1, d2}
  open o use {y, z}

  abbrev c : ℤ
  c = bracket.c.lo

  abbrev c' : ℤ
  c' = bracket.c.hi

  abbrev s : ℤ
  s = bracket.s.lo

  abbrev s' : ℤ
  s' = bracket.s.hi

  -- how far cosine and sine turn
  abbrev m : ℤ
  m = int_max (c' -ℤ c) (s' -ℤ s)

  abbrev least : ℤ
  least = least_depth bracket drafts o

  abbrev greatest : ℤ
  greatest = greatest_depth bracket drafts o

  abbrev lo : ℤ
  lo = floor_of least (2 ^ 20)

  abbrev hi : ℤ
  hi = ceiling_of greatest (2 ^ 20)

  turned : (b a : ℤ) → (b -ℤ a) ≤ℤ m → whole b ⊖ whole a ≼ whole m
  turned b a h = Order.≼_trans fractions (Order.≼_same fractions (sym (whole-sub b a))) (whole-≼ h)

  depth_narrow : IsNoWider (depth_width bracket drafts o) (depth_of bracket drafts o)
  depth_narrow = record {
    width = Order.≼_cancel fractions (positive-unit 20)
        (order_from fractions (in_unit 10 (d2 -ℤ d1) ∷ in_unit 40 m ∷ unit_of 16 ∷ whole y ∷ whole z ∷ whole d1 ∷ whole d2 ∷ whole c ∷ whole c' ∷ whole s ∷ whole s' ∷ whole m ∷ whole hi ∷ whole lo
        ∷ whole (pos (2 ^ 20)) ∷ whole (pos (2 ^ 10)) ∷ whole (pos (2 ^ 30)) ∷ whole (pos (2 ^ 40)) ∷ whole (pos (2 ^ 16)) ∷ whole (pos (2 ^ 24)) ∷ whole greatest ∷ whole least
        ∷ whole (hi *ℤ pos (2 ^ 20)) ∷ whole (lo *ℤ pos (2 ^ 20)) ∷ whole (greatest +ℤ pos (2 ^ 20)) ∷ whole ((lo *ℤ pos (2 ^ 20)) +ℤ pos (2 ^ 20)) ∷ [])
        ((unit, var 12 :* var 14, var 22) ∷ (unit, var 22, var 24) ∷ (unit, var 24, var 20 :+ var 14) ∷ (unit, var 20, (var 6 :* var 16 :- var 7 :* var 4) :+ var 10 :* var 3)
        ∷ (unit, var 21, var 25) ∷ (unit, var 25, var 23 :+ var 14) ∷ (unit, var 23, var 13 :* var 14) ∷ (unit, (var 5 :* var 16 :- var 8 :* var 4) :+ var 9 :* var 3, var 21)
        ∷ (var 4, var 8 :- var 7, var 11) ∷ (var 3, var 10 :- var 9, var 11) ∷ (unit, var 14 :+ var 14, var 19)
        ∷ (var 16, var 6 :- var 5, var 0 :* var 15) ∷ (var 3 :+ var 4, var 11, var 1 :* var 17) ∷ (var 19, unit, var 2 :* var 18)
        ∷ (var 0, var 15 :* var 16, var 14 :* var 14) ∷ (var 1 :* (var 3 :+ var 4), var 17, var 14 :* var 14) ∷ (var 2, var 19 :* var 18, var 14 :* var 14) ∷ [])
        (equal (sym (whole-mul hi (pos (2 ^ 20)))) (at_most (whole-≼ (before_ceiling greatest hi (ceiling_of-ceiling greatest (2 ^ 20) (pow_pos 20)).before))
        (equal (whole-add greatest (pos (2 ^ 20))) (equal (whole_depth d2 c s' y z)
        (at_most (whole-≼ (next_floor least lo (floor_of-floor least (2 ^ 20) (pow_pos 20)).next)) (equal (whole-add (lo *ℤ pos (2 ^ 20)) (pos (2 ^ 20)))
        (equal (whole-mul lo (pos (2 ^ 20))) (equal (sym (whole_depth d1 c' s y z))
        (scaled (not_below z o.limits.above_base) (turned c' c (first_of (c' -ℤ c) (s' -ℤ s))) (scaled (not_below y o.limits.beside) (turned s' s (second_of (c' -ℤ c) (s' -ℤ s)))
        (at_most two_units (equal (sym (whole-sub d2 d1) ∙ sym (in_unit-in 10 (d2 -ℤ d1))) (equal (sym (in_unit-in 40 m)) (equal (sym (unit-in 16))
        (equal ten_thirty (equal forty (equal sixteen no_more)))))))))))))))))
        ((var 12 :- var 13) :* var 14) ((((var 0 :+ var 1 :* (var 3 :+ var 4)) :+ var 2) :* var 14) :* var 14) refl);
  }

pub depths_are_narrow : DepthsAreNarrow
depths_are_narrow bracket drafts o = depth_narrow bracket drafts o
