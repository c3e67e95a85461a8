-- The enclosures of the residuals, from those of what is left and of what is owed.
use Rattle.std.proofs.Common.{◌≡◌, ◌∙◌, refl, sym, ap, subst, [], ◌∷◌, ◌^◌, ℤ, pos, ◌+ℤ◌, ◌-ℤ◌, ◌*ℤ◌, ◌≤ℤ◌, ◌<ℤ◌, List, arith}
use Rattle.std.proofs.lemmas.Int.{ints}
use Rattle.exact_algebra.specs.Expression.{var, unit, ◌:+◌, ◌:-◌, ◌:*◌}
use Rattle.exact_algebra.proofs.Fraction.{Fraction, one, ◌⊕◌, ◌⊖◌, ◌⊗◌, fractions, ◌≼◌}
use Rattle.exact_algebra.proofs.Order as Order
use Rattle.exact_algebra.proofs.Order.{order_from, no_more, at_most, scaled, equal}
use Rattle.exact_algebra.proofs.Span.{ContainsFraction, IsLeastSpanOf, least_span_contains}
use Rattle.exact_algebra.proofs.Whole.{whole, whole-nought, whole-one, whole-add, whole-sub, whole-mul, whole-≼}
use Rattle.hull_model.specs.declared.station.Station.{Station}
use Rattle.hull_model.specs.declared.water.Water.{Water}
use Rattle.hull_model.specs.Flooded.{mx_left}
use Rattle.outward_interval.specs.Widths.{IsNarrow}
use Rattle.plane_clip.specs.Enclosure.{in_unit}
use Rattle.flux_moments.proofs.MeanWidths.{in_unit-in}
use Rattle.flux_moments.specs.declared.plane_box.PlaneBox.{PlaneBox}
use Rattle.compartment_loss.specs.LeftWidths.{left_bound}
use Rattle.compartment_loss.specs.declared.flooded_hull.FloodedHull.{FloodedHull}
use Rattle.loading_sheet.specs.declared.loading.Loading.{Loading}
use Rattle.loading_sheet.specs.Centre.{displaced, x_g}
use Rattle.compartment_loss.specs.Upright.{IsUprightPlane, IsUprightBox}
use Rattle.damage_box.specs.Planes.{plane_at}
use Rattle.damage_box.specs.Residuals.{IsHullOf, volume_at, residual_width}
use Rattle.damage_box.specs.Reading.{Encloses}
use Rattle.damage_box.specs.ShipBalance.{balance_of}

-- the plane of grid levels lies in the box of it
pub upright : (a f : ℤ) → IsUprightPlane a f (plane_at a f)
upright a f = record { direction = refl; aft = at_level a; fore = at_level f }
  where
    at_level : (z : ℤ) → ContainsFraction 10 z z (in_unit 10 z)
    at_level z = record { from = Order.≼_same fractions (sym (in_unit-in 10 z)); to = Order.≼_same fractions (in_unit-in 10 z) }

-- a residual about a place x up to X, of which the volume is no wider than B, the moment than X B, and what is owed than a unit
residual_narrow : (B : Fraction) (x X v_lo v_hi m_lo m_hi o_lo o_hi lo hi : ℤ) → pos 0 ≤ℤ X → x ≤ℤ X → v_lo ≤ℤ v_hi
    → IsNarrow 20 B v_lo v_hi → IsNarrow 20 (whole X ⊗ B) m_lo m_hi → (o_hi -ℤ o_lo) ≤ℤ pos 1 → hi -ℤ lo ≡ (x *ℤ (v_hi -ℤ v_lo) +ℤ (m_hi -ℤ m_lo)) +ℤ (o_hi -ℤ o_lo)
    → IsNarrow 20 ((whole X ⊗ B ⊕ whole X ⊗ B) ⊕ one) lo hi
residual_narrow B x X v_lo v_hi m_lo m_hi o_lo o_hi lo hi from within order volume moment owed width = record {
  width = order_from fractions
      (B ∷ whole x ∷ whole X ∷ whole v_lo ∷ whole v_hi ∷ whole m_lo ∷ whole m_hi ∷ whole (o_hi -ℤ o_lo) ∷ whole lo ∷ whole hi ∷ whole (pos (2 ^ 20)) ∷ [])
      ((unit, var 9 :- var 8, (var 1 :* (var 4 :- var 3) :+ (var 6 :- var 5)) :+ var 7) ∷ (var 4 :- var 3, var 1, var 2) ∷ (var 2, var 4 :- var 3, var 0 :* var 10)
      ∷ (unit, var 6 :- var 5, (var 2 :* var 0) :* var 10) ∷ (unit, var 7, unit) ∷ (unit, unit, var 10) ∷ [])
      (equal same (scaled (whole-≼ order) (whole-≼ within) (scaled above (volume.width) (at_most moment.width (at_most (to_one owed) (at_most (from_one (omega (arith, ints))) no_more))))))
      (var 9 :- var 8) (((var 2 :* var 0 :+ var 2 :* var 0) :+ unit) :* var 10) refl;
}
  where
    same : whole hi ⊖ whole lo ≡ (whole x ⊗ (whole v_hi ⊖ whole v_lo) ⊕ (whole m_hi ⊖ whole m_lo)) ⊕ whole (o_hi -ℤ o_lo)
    same = sym (whole-sub hi lo) ∙ ap whole width ∙ whole-add (x *ℤ (v_hi -ℤ v_lo) +ℤ (m_hi -ℤ m_lo)) (o_hi -ℤ o_lo)
        ∙ ap (λ (y : Fraction). y ⊕ whole (o_hi -ℤ o_lo)) (whole-add (x *ℤ (v_hi -ℤ v_lo)) (m_hi -ℤ m_lo)
        ∙ (λ i. (whole-mul x (v_hi -ℤ v_lo) ∙ ap (λ (y : Fraction). whole x ⊗ y) (whole-sub v_hi v_lo)) i ⊕ whole-sub m_hi m_lo i))

    above : Order.NonNegative fractions (whole X)
    above = Order.nonnegative_from fractions (Order.≼_trans fractions (Order.≼_same fractions (sym whole-nought)) (whole-≼ from))

    to_one : {z : ℤ} → z ≤ℤ pos 1 → whole z ≼ one
    to_one h = Order.≼_trans fractions (whole-≼ h) (Order.≼_same fractions whole-one)

    from_one : {z : ℤ} → pos 1 ≤ℤ z → one ≼ whole z
    from_one h = Order.≼_trans fractions (Order.≼_same fractions (sym whole-one)) (whole-≼ h)

module _ (flood : FloodedHull) (loading : Loading) (water : Water) (a f v_lo v_hi m_lo m_hi o_lo o_hi lo hi : ℤ)
    (volume : (stations : List Station) → IsHullOf flood stations → ContainsFraction 20 v_lo v_hi (volume_at stations flood.slabs.items a f))
    (mx : (stations : List Station) → IsHullOf flood stations → ContainsFraction 20 m_lo m_hi (mx_left (plane_at a f) stations flood.slabs.items))
    (volume_narrow : (planes : PlaneBox) → IsUprightBox a f planes → IsNarrow 20 (left_bound flood planes) v_lo v_hi)
    (mx_narrow : (planes : PlaneBox) → IsUprightBox a f planes → IsNarrow 20 (whole flood.faces.now.last_x ⊗ left_bound flood planes) m_lo m_hi)
    (order : v_lo ≤ℤ v_hi) (owed_narrow : (o_hi -ℤ o_lo) ≤ℤ pos 1) where
  pub last_enclosed : IsLeastSpanOf 20 o_lo o_hi (displaced loading water ⊗ (whole flood.faces.now.last_x ⊖ x_g loading))
      → ((v m o : Fraction) → ContainsFraction 20 v_lo v_hi v → ContainsFraction 20 m_lo m_hi m → ContainsFraction 20 o_lo o_hi o
      → ContainsFraction 20 lo hi ((whole flood.faces.now.last_x ⊗ v ⊖ m) ⊖ o))
      → hi -ℤ lo ≡ (flood.faces.now.last_x *ℤ (v_hi -ℤ v_lo) +ℤ (m_hi -ℤ m_lo)) +ℤ (o_hi -ℤ o_lo)
      → Encloses (balance_of flood loading water) a f lo hi (λ s. (balance_of flood loading water).from_last s a f) residual_width
  last_enclosed owed contains width = record {
    contains = λ stations is. subst (λ (z : ℤ). ContainsFraction 20 lo hi ((whole z ⊗ volume_at stations flood.slabs.items a f ⊖ mx_left (plane_at a f) stations flood.slabs.items) ⊖ displaced loading water ⊗ (whole z ⊖ x_g loading)))
        is.faces.last_x (contains _ _ _ (volume stations is) (mx stations is) (least_span_contains owed));
    narrow = λ planes box. residual_narrow (left_bound flood planes) flood.faces.now.last_x flood.faces.now.last_x v_lo v_hi m_lo m_hi o_lo o_hi lo hi
        flood.faces.now.ends.last_within.0 (omega (arith, ints)) order (volume_narrow planes box) (mx_narrow planes box) owed_narrow width;
  }

  pub first_enclosed : IsLeastSpanOf 20 o_lo o_hi (displaced loading water ⊗ (x_g loading ⊖ whole flood.faces.now.first_x))
      → ((v m o : Fraction) → ContainsFraction 20 v_lo v_hi v → ContainsFraction 20 m_lo m_hi m → ContainsFraction 20 o_lo o_hi o
      → ContainsFraction 20 lo hi ((m ⊖ whole flood.faces.now.first_x ⊗ v) ⊖ o))
      → hi -ℤ lo ≡ (flood.faces.now.first_x *ℤ (v_hi -ℤ v_lo) +ℤ (m_hi -ℤ m_lo)) +ℤ (o_hi -ℤ o_lo)
      → Encloses (balance_of flood loading water) a f lo hi (λ s. (balance_of flood loading water).from_first s a f) residual_width
  first_enclosed owed contains width = record {
    contains = λ stations is. subst (λ (z : ℤ). ContainsFraction 20 lo hi ((mx_left (plane_at a f) stations flood.slabs.items ⊖ whole z ⊗ volume_at stations flood.slabs.items a f) ⊖ displaced loading water ⊗ (x_g loading ⊖ whole z)))
        is.faces.first_x (contains _ _ _ (volume stations is) (mx stations is) (least_span_contains owed));
    narrow = λ planes box. residual_narrow (left_bound flood planes) flood.faces.now.first_x flood.faces.now.last_x v_lo v_hi m_lo m_hi o_lo o_hi lo hi
        flood.faces.now.ends.last_within.0 (weak flood.faces.now.first_x flood.faces.now.last_x flood.faces.now.ends.apart) order (volume_narrow planes box) (mx_narrow planes box) owed_narrow width;
  }
    where
      weak : (x y : ℤ) → x <ℤ y → x ≤ℤ y
      weak x y h = omega (arith, ints)
