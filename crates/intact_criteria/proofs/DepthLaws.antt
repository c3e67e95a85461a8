-- The depth interval of an opening contains its depth at each plane of the degree.
use Rattle.std.proofs.Common.{◌≡◌, ◌≢◌, refl, sym, ◌∙◌, ap₂, subst, [], ◌∷◌, ◌^◌, ℤ, pos, ◌+ℤ◌, ◌-ℤ◌, ◌*ℤ◌, ◌≤ℤ◌}
use Rattle.std.proofs.lemmas.Nat.{pow_pos}
use Rattle.angle_bounds.specs.declared.bracket.Bracket.{Bracket}
use Rattle.exact_algebra.specs.Expression.{var, unit, ◌:+◌, ◌:-◌, ◌:*◌}
use Rattle.exact_algebra.specs.OrderedField.{below}
use Rattle.exact_algebra.specs.Span.{floor_of, ceiling_of}
use Rattle.exact_algebra.proofs.Division.{floor_of-floor, ceiling_of-ceiling}
use Rattle.exact_algebra.proofs.Fraction.{Fraction, fractions, fraction_ring, sign, ◌⊕◌, ◌⊖◌, ◌⊗◌, inverse, ◌≼◌}
use Rattle.exact_algebra.proofs.Order as Order
use Rattle.exact_algebra.proofs.Order.{order_from, no_more, at_most, scaled, equal}
use Rattle.exact_algebra.proofs.Ring.{ring}
use Rattle.exact_algebra.proofs.Span.{ContainsFraction, positive-unit}
use Rattle.exact_algebra.proofs.Whole.{whole, whole-add, whole-sub, whole-mul, whole-≼, whole-nought, nonnegative-whole}
use Rattle.flux_moments.proofs.Heights.{cosine_contained, sine_contained}
use Rattle.flux_moments.specs.Planes.{cosine, sine}
use Rattle.hull_model.specs.declared.opening.Opening.{Opening}
use Rattle.hull_model.specs.LevelPlanes.{Direction, level_plane}
use Rattle.hull_model.specs.Waterplane.{Waterplane}
use Rattle.draft_bracket.specs.GridLevels.{LiesIn}
use Rattle.dynamic_lever.specs.declared.rows.Arm.{Arm}
use Rattle.intact_criteria.specs.Figures.{depth_under}
use Rattle.intact_criteria.specs.Limit.{Contains}
use Rattle.intact_criteria.specs.Readings.{depth_of, least_depth, greatest_depth}

-- the depth by cosine and sine
depth_is : (plane : Waterplane) (o : Opening) → plane.a ⊖ (cosine plane ⊗ whole o.z ⊖ sine plane ⊗ whole o.y) ≡ depth_under plane o
unfolding depth_under
depth_is plane o = ring fraction_ring (plane.a ∷ whole (pos plane.c) ∷ whole (pos plane.s) ∷ inverse (whole (pos plane.r)) ∷ whole o.z ∷ whole o.y ∷ [])
    (var 0 :- ((var 1 :* var 3) :* var 4 :- (var 2 :* var 3) :* var 5)) (var 0 :- (var 1 :* var 4 :- var 2 :* var 5) :* var 3) refl

pub not_below : (z : ℤ) → pos 0 ≤ℤ z → sign (whole z) ≢ below
not_below z h = Order.nonnegative_from fractions (Order.≼_trans fractions (Order.≼_same fractions (sym whole-nought)) (whole-≼ h))

-- powers of two among the units
pub ten_thirty : whole (pos (2 ^ 10)) ⊗ whole (pos (2 ^ 30)) ≡ whole (pos (2 ^ 20)) ⊗ whole (pos (2 ^ 20))
ten_thirty = sym (whole-mul (pos (2 ^ 10)) (pos (2 ^ 30))) ∙ whole-mul (pos (2 ^ 20)) (pos (2 ^ 20))

pub forty : whole (pos (2 ^ 40)) ≡ whole (pos (2 ^ 20)) ⊗ whole (pos (2 ^ 20))
forty = whole-mul (pos (2 ^ 20)) (pos (2 ^ 20))

-- d 2^30 - c z + s y among the fractions
pub whole_depth : (d c s y z : ℤ) → whole (((d *ℤ pos (2 ^ 30)) -ℤ (c *ℤ z)) +ℤ (s *ℤ y)) ≡ (whole d ⊗ whole (pos (2 ^ 30)) ⊖ whole c ⊗ whole z) ⊕ whole s ⊗ whole y
whole_depth d c s y z = whole-add ((d *ℤ pos (2 ^ 30)) -ℤ (c *ℤ z)) (s *ℤ y)
    ∙ ap₂ (λ a b. a ⊕ b) (whole-sub (d *ℤ pos (2 ^ 30)) (c *ℤ z) ∙ ap₂ (λ a b. a ⊖ b) (whole-mul d (pos (2 ^ 30))) (whole-mul c z)) (whole-mul s y)

module _ (d c s y z : ℤ) (a co si : Fraction) (y_up : pos 0 ≤ℤ y) (z_up : pos 0 ≤ℤ z) where
  abbrev bound : ℤ
  bound = ((d *ℤ pos (2 ^ 30)) -ℤ (c *ℤ z)) +ℤ (s *ℤ y)

  -- a lower bound by the least level, the greatest cosine and the least sine
  pub least_below : (lo : ℤ) → (lo *ℤ pos (2 ^ 20)) ≤ℤ bound → whole d ≼ a ⊗ whole (pos (2 ^ 10)) → co ⊗ whole (pos (2 ^ 40)) ≼ whole c → whole s ≼ si ⊗ whole (pos (2 ^ 40))
      → whole lo ≼ (a ⊖ (co ⊗ whole z ⊖ si ⊗ whole y)) ⊗ whole (pos (2 ^ 20))
  least_below lo h level cos sin = Order.≼_cancel fractions (positive-unit 20)
      (order_from fractions (a ∷ co ∷ si ∷ whole z ∷ whole y ∷ whole d ∷ whole c ∷ whole s ∷ whole (pos (2 ^ 10)) ∷ whole (pos (2 ^ 30)) ∷ whole (pos (2 ^ 40)) ∷ whole (pos (2 ^ 20)) ∷ whole lo ∷ whole bound ∷ whole (lo *ℤ pos (2 ^ 20)) ∷ [])
      ((unit, var 12 :* var 11, var 14) ∷ (unit, var 14, var 13) ∷ (unit, var 13, (var 5 :* var 9 :- var 6 :* var 3) :+ var 7 :* var 4)
      ∷ (var 9, var 5, var 0 :* var 8) ∷ (var 3, var 1 :* var 10, var 6) ∷ (var 4, var 7, var 2 :* var 10)
      ∷ (var 0, var 8 :* var 9, var 11 :* var 11) ∷ (var 2 :* var 4 :- var 1 :* var 3, var 10, var 11 :* var 11) ∷ [])
      (equal (sym (whole-mul lo (pos (2 ^ 20)))) (at_most (whole-≼ h) (equal (whole_depth d c s y z)
      (scaled (nonnegative-whole (2 ^ 30)) level (scaled (not_below z z_up) cos (scaled (not_below y y_up) sin
      (equal ten_thirty (equal forty no_more))))))))
      (var 12 :* var 11) (((var 0 :- (var 1 :* var 3 :- var 2 :* var 4)) :* var 11) :* var 11) refl)

  -- an upper bound by the greatest level, the least cosine and the greatest sine
  pub greatest_above : (hi : ℤ) → bound ≤ℤ (hi *ℤ pos (2 ^ 20)) → a ⊗ whole (pos (2 ^ 10)) ≼ whole d → whole c ≼ co ⊗ whole (pos (2 ^ 40)) → si ⊗ whole (pos (2 ^ 40)) ≼ whole s
      → (a ⊖ (co ⊗ whole z ⊖ si ⊗ whole y)) ⊗ whole (pos (2 ^ 20)) ≼ whole hi
  greatest_above hi h level cos sin = Order.≼_cancel fractions (positive-unit 20)
      (order_from fractions (a ∷ co ∷ si ∷ whole z ∷ whole y ∷ whole d ∷ whole c ∷ whole s ∷ whole (pos (2 ^ 10)) ∷ whole (pos (2 ^ 30)) ∷ whole (pos (2 ^ 40)) ∷ whole (pos (2 ^ 20)) ∷ whole hi ∷ whole bound ∷ whole (hi *ℤ pos (2 ^ 20)) ∷ [])
      ((unit, var 14, var 12 :* var 11) ∷ (unit, var 13, var 14) ∷ (unit, (var 5 :* var 9 :- var 6 :* var 3) :+ var 7 :* var 4, var 13)
      ∷ (var 9, var 0 :* var 8, var 5) ∷ (var 3, var 6, var 1 :* var 10) ∷ (var 4, var 2 :* var 10, var 7)
      ∷ (var 0, var 11 :* var 11, var 8 :* var 9) ∷ (var 2 :* var 4 :- var 1 :* var 3, var 11 :* var 11, var 10) ∷ [])
      (equal (whole-mul hi (pos (2 ^ 20))) (at_most (whole-≼ h) (equal (sym (whole_depth d c s y z))
      (scaled (nonnegative-whole (2 ^ 30)) level (scaled (not_below z z_up) cos (scaled (not_below y y_up) sin
      (equal (sym ten_thirty) (equal (sym forty) no_more))))))))
      (((var 0 :- (var 1 :* var 3 :- var 2 :* var 4)) :* var 11) :* var 11) (var 12 :* var 11) refl)

pub depth_contained : (bracket : Bracket) (arm : Arm) (o : Opening) (d : Direction) (level : Fraction) → LiesIn bracket d → ContainsFraction 10 arm.drafts.d1 arm.drafts.d2 level
    → Contains (depth_of bracket arm.drafts o) (depth_under (level_plane d level) o)
depth_contained bracket arm o d level lies between = subst (Contains (depth_of bracket arm.drafts o)) (depth_is plane o) (record {
  from = least_below arm.drafts.d1 bracket.c.hi bracket.s.lo o.y o.z level (cosine plane) (sine plane) o.limits.beside o.limits.above_base
      (floor_of (least_depth bracket arm.drafts o) (2 ^ 20)) (floor_of-floor (least_depth bracket arm.drafts o) (2 ^ 20) (pow_pos 20)).below
      between.from (cosine_contained bracket plane lies).to (sine_contained bracket plane lies).from;
  to = greatest_above arm.drafts.d2 bracket.c.lo bracket.s.hi o.y o.z level (cosine plane) (sine plane) o.limits.beside o.limits.above_base
      (ceiling_of (greatest_depth bracket arm.drafts o) (2 ^ 20)) (ceiling_of-ceiling (greatest_depth bracket arm.drafts o) (2 ^ 20) (pow_pos 20)).above
      between.to (cosine_contained bracket plane lies).from (sine_contained bracket plane lies).to;
})
  where
    plane : Waterplane
    plane = level_plane d level
