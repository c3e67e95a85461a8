-- The two ends of the range, and what a search has found.
use Rattle.std.proofs.Common.{◌≡◌, ◌∙◌, refl, sym, ap, subst, List, [], ◌∷◌, Bool, true, false, ℤ, pos, ◌+ℤ◌, ◌-ℤ◌, ◌*ℤ◌, ◌≤ℤ◌, inl, inr, arith}
use Rattle.std.proofs.lemmas.Int.{ints}
use Rattle.std.specs.Prelude.{not, neg_ℤ}
use Rattle.exact_algebra.specs.Expression.{var, unit, number, ◌:+◌, ◌:-◌, ◌:*◌}
use Rattle.exact_algebra.proofs.Fraction.{Fraction, nought, ◌⊗◌, fractions, fraction_ring, ◌≼◌, ◌≺◌}
use Rattle.exact_algebra.proofs.Order as Order
use Rattle.exact_algebra.proofs.Order.{strict_order_from, no_more, at_most}
use Rattle.exact_algebra.proofs.Ring.{ring}
use Rattle.exact_algebra.proofs.Whole.{whole, positive-whole}
use Rattle.angle_bounds.specs.declared.bracket.Bracket.{Bracket}
use Rattle.hull_model.specs.declared.station.Station.{Station}
use Rattle.hull_polyhedron.specs.declared.faces.Faces.{Faces}
use Rattle.flux_moments.specs.Widths.{volume_bound}
use Rattle.flux_moments.proofs.TotalWidths.{nonnegative_bound}
use Rattle.hull_model.specs.LevelPlanes.{Direction}
use Rattle.draft_bracket.specs.GridLevels.{volume_at, bottom_of, top_of}
use Rattle.draft_bracket.specs.DraftBracket.{OfHulls, IsNeed, six_of, IsTooHeavy, IsNearlyAbove, IsNearlyBelow, IsSharpBracket}
use Rattle.draft_bracket.specs.Places.{IsPlace, is_short}
use Rattle.draft_bracket.specs.declared.place.End.TheVariants.{Upper}
use Rattle.draft_bracket.specs.declared.place.Place.{Place}
use Rattle.exact_fraction.specs.declared.ratio.Ratio.{Ratio}
use Rattle.exact_fraction.specs.Fraction.{fraction_of}
use Rattle.draft_bracket.proofs.Wholes.{some_need}
use Rattle.draft_bracket.proofs.Range.{nothing_at_bottom, all_at_top}

false-ne-true : false ≡ true → ⊥
false-ne-true h = cc

true-ne-false : true ≡ false → ⊥
true-ne-false h = cc

-- ---- the ends of the range
module _ (faces : Faces) (bracket : Bracket) (need : Fraction) where
  pub bottom_place : nought ≺ need → IsPlace faces bracket need (bottom_of faces) false false
  bottom_place some = record {
    at_most = λ e hull is are d lies. Order.≼_trans fractions (Order.≼_same fractions (nothing_at_bottom faces hull is are d)) (Order.≺_weak fractions some);
    above = λ e. absurd (false-ne-true e);
    at_least = λ e. absurd (false-ne-true e);
    below = λ e hull is are planes box d lies. Order.≼-≺_trans fractions (Order.≼_same fractions (nothing_at_bottom faces hull is are d))
        (strict_order_from fractions (need ∷ volume_bound faces planes ∷ []) ((unit, number 0, var 1) ∷ []) (at_most (Order.nought-≼ fractions (nonnegative_bound faces planes)) no_more)
        (var 0 :- number 0) some (number 0) (var 0 :+ var 1) refl);
  }

  -- six times the need against six times the whole
  module _ (six : ℤ) (is_six : OfHulls faces (λ hull. six ≡ six_of hull)) where
    whole_six : OfHulls faces (λ hull. (d : Direction) → whole six ≡ volume_at hull d (top_of faces) ⊗ whole (pos 6))
    whole_six hull is are d = ap whole (is_six hull is are) ∙ all_at_top faces hull is are d
        ∙ ring fraction_ring (whole (pos 6) ∷ volume_at hull d (top_of faces) ∷ []) (var 0 :* var 1) (var 1 :* var 0) refl

    turned_six : need ⊗ whole (pos 6) ≡ whole (pos 6) ⊗ need
    turned_six = ring fraction_ring (whole (pos 6) ∷ need ∷ []) (var 1 :* var 0) (var 0 :* var 1) refl

    less_than_all : whole (pos 6) ⊗ need ≺ whole six → OfHulls faces (λ hull. (d : Direction) → need ≺ volume_at hull d (top_of faces))
    less_than_all less hull is are d = Order.≺_cancel fractions (positive-whole 6 (omega arith))
        (Order.≼-≺_trans fractions (Order.≼_same fractions turned_six) (Order.≺-≼_trans fractions less (Order.≼_same fractions (whole_six hull is are d))))

    pub top_place : whole (pos 6) ⊗ need ≺ whole six → IsPlace faces bracket need (top_of faces) true true
    top_place less = record {
      at_most = λ e. absurd (true-ne-false e);
      above = λ e hull is are planes box d lies.
          strict_order_from fractions (need ∷ volume_bound faces planes ∷ volume_at hull d (top_of faces) ∷ []) ((unit, number 0, var 1) ∷ [])
          (at_most (Order.nought-≼ fractions (nonnegative_bound faces planes)) no_more)
          (var 2 :- var 0) (less_than_all less hull is are d) (var 0 :- var 1) (var 2) refl;
      at_least = λ e hull is are d lies. Order.≺_weak fractions (less_than_all less hull is are d);
      below = λ e. absurd (true-ne-false e);
    }

    -- where they are the same, the hull floats wholly under
    pub whole_bracket : whole (pos 6) ⊗ need ≡ whole six → bottom_of faces ≤ℤ top_of faces → OfHulls faces (IsSharpBracket faces bracket need (top_of faces) (top_of faces))
    whole_bracket same ordered hull is are = record {
      drafts = record {
        ordered = no_less (top_of faces);
        at_most = λ d lies. Order.≼_same fractions (sym (all d));
        at_least = λ d lies. Order.≼_same fractions (all d);
      };
      sharp = inl refl;
      from = ordered;
      to = no_less (top_of faces);
    }
      where
        no_less : (n : ℤ) → n ≤ℤ n
        no_less n = omega (arith, ints)

        all : (d : Direction) → need ≡ volume_at hull d (top_of faces)
        all d = Order.mul_cancel fractions (Order.not_nought fractions (positive-whole 6 (omega arith))) (turned_six ∙ same ∙ whole_six hull is are d)

-- ---- what is found
module _ (faces : Faces) (bracket : Bracket) (need : Fraction) where
  pub one_level : (at : ℤ) (is_over reaches : Bool) → IsPlace faces bracket need at is_over reaches → is_over ≡ false → reaches ≡ true → bottom_of faces ≤ℤ at → at ≤ℤ top_of faces
      → OfHulls faces (IsSharpBracket faces bracket need at at)
  one_level at is_over reaches p short enough from to hull is are = record {
    drafts = record { ordered = no_less at; at_most = p.at_most short hull is are; at_least = p.at_least enough hull is are };
    sharp = inl refl;
    from = from;
    to = to;
  }
    where
      no_less : (n : ℤ) → n ≤ℤ n
      no_less n = omega (arith, ints)

  pub two_levels : (d1 next before d2 : ℤ) (o r o' r' o'' r'' o''' r''' : Bool)
      → IsPlace faces bracket need d1 o r → IsPlace faces bracket need next o' r' → IsPlace faces bracket need before o'' r'' → IsPlace faces bracket need d2 o''' r'''
      → o ≡ false → o' ≡ true → r'' ≡ false → r''' ≡ true → next ≡ d1 +ℤ pos 1 → d2 ≡ before +ℤ pos 1 → d1 ≤ℤ before → bottom_of faces ≤ℤ d1 → d2 ≤ℤ top_of faces
      → OfHulls faces (IsSharpBracket faces bracket need d1 d2)
  two_levels d1 next before d2 o r o' r' o'' r'' o''' r''' p q v w short over short' enough e f ordered from to hull is are = record {
    drafts = record { ordered = upwards d1 before d2 ordered f; at_most = p.at_most short hull is are; at_least = w.at_least enough hull is are };
    sharp = inr (record {
      next = inr (subst (IsNearlyAbove faces hull bracket need) e (q.above over hull is are));
      before = inr (subst (IsNearlyBelow faces hull bracket need) (down before d2 f) (v.below short' hull is are));
    });
    from = from;
    to = to;
  }
    where
      upwards : (a b c : ℤ) → a ≤ℤ b → c ≡ b +ℤ pos 1 → a ≤ℤ c
      upwards a b c h e = omega (arith, ints)

      down : (b c : ℤ) → c ≡ b +ℤ pos 1 → b ≡ c -ℤ pos 1
      down b c e = omega (arith, ints)

-- ---- as the search has them
not_true : (b : Bool) → not b ≡ true → b ≡ false
not_true false e = refl
not_true true e = absurd (false-ne-true e)

not_false : (b : Bool) → not b ≡ false → b ≡ true
not_false true e = refl
not_false false e = absurd (true-ne-false e)

module _ (faces : Faces) (bracket : Bracket) (need : Fraction) (bottom top : ℤ) (is_bottom : bottom ≡ bottom_of faces) (is_top : top ≡ top_of faces) where
  from_bottom : {d : ℤ} → bottom ≤ℤ d → bottom_of faces ≤ℤ d
  from_bottom {d} h = subst (λ (b : ℤ). b ≤ℤ d) is_bottom h

  to_top : {d : ℤ} → d ≤ℤ top → d ≤ℤ top_of faces
  to_top {d} h = subst (λ (t : ℤ). d ≤ℤ t) is_top h

  pub found_one : (low next : Place) → IsPlace faces bracket need low.level low.is_over low.reaches → is_short Upper low.is_over low.reaches ≡ true → low.reaches ≡ true
      → bottom ≤ℤ low.level → next.level ≡ low.level +ℤ pos 1 → next.level ≤ℤ top → OfHulls faces (IsSharpBracket faces bracket need low.level low.level)
  found_one low next p short enough from e to = one_level faces bracket need low.level low.is_over low.reaches p (not_true low.is_over short) enough (from_bottom from)
      (to_top (earlier low.level next.level top e to))
    where
      earlier : (a b c : ℤ) → b ≡ a +ℤ pos 1 → b ≤ℤ c → a ≤ℤ c
      earlier a b c e h = omega (arith, ints)

  pub found_two : (low next before at : Place) → IsPlace faces bracket need low.level low.is_over low.reaches → IsPlace faces bracket need next.level next.is_over next.reaches
      → IsPlace faces bracket need before.level before.is_over before.reaches → IsPlace faces bracket need at.level at.is_over at.reaches
      → is_short Upper low.is_over low.reaches ≡ true → is_short Upper next.is_over next.reaches ≡ false → before.reaches ≡ false → at.reaches ≡ true
      → bottom ≤ℤ low.level → next.level ≡ low.level +ℤ pos 1 → at.level ≡ before.level +ℤ pos 1 → low.level ≤ℤ before.level → at.level ≤ℤ top
      → OfHulls faces (IsSharpBracket faces bracket need low.level at.level)
  found_two low next before at p q v w short over short' enough from e f ordered to =
      two_levels faces bracket need low.level next.level before.level at.level low.is_over low.reaches next.is_over next.reaches before.is_over before.reaches at.is_over at.reaches p q v w
      (not_true low.is_over short) (not_false next.is_over over) short' enough e f ordered (from_bottom from) (to_top to)

-- ---- weights
pub bottom_below_top : (faces : Faces) → bottom_of faces ≤ℤ top_of faces
bottom_below_top faces = over faces.half_breadth faces.high_z faces.reach.broad faces.reach.above_base
  where
    over : (y z : ℤ) → pos 1 ≤ℤ y → pos 0 ≤ℤ z → neg_ℤ (pos 1024 *ℤ y) ≤ℤ (pos 1024 *ℤ (z +ℤ y))
    over y z h k = omega (arith, ints)

module _ (need : Fraction) (six : ℤ) (hull : List Station) (is_six : six ≡ six_of hull) where
  pub too_heavy : whole six ≺ whole (pos 6) ⊗ need → IsTooHeavy hull need
  too_heavy h = subst (λ (z : ℤ). whole z ≺ whole (pos 6) ⊗ need) is_six h

  pub not_too_heavy : whole (pos 6) ⊗ need ≼ whole six → IsTooHeavy hull need → ⊥
  not_too_heavy h heavy = Order.≺-not_≼ fractions (subst (λ (z : ℤ). whole z ≺ whole (pos 6) ⊗ need) (sym is_six) heavy) h

-- ---- the ends of the range by other names
pub bottom_placed : (faces : Faces) (bracket : Bracket) (need r : Ratio) (at : ℤ) → r ≡ need → at ≡ bottom_of faces → IsNeed need → IsPlace faces bracket (fraction_of r) at false false
bottom_placed faces bracket need r at e f is = subst (λ (q : Ratio). IsPlace faces bracket (fraction_of q) at false false) (sym e)
    (subst (λ (z : ℤ). IsPlace faces bracket (fraction_of need) z false false) (sym f) (bottom_place faces bracket (fraction_of need) (some_need need is)))

pub top_placed : (faces : Faces) (bracket : Bracket) (need r : Ratio) (at : ℤ) → r ≡ need → at ≡ top_of faces → (six : ℤ) → OfHulls faces (λ hull. six ≡ six_of hull)
    → whole (pos 6) ⊗ fraction_of need ≺ whole six
    → IsPlace faces bracket (fraction_of r) at true true
top_placed faces bracket need r at e f six is_six less = subst (λ (q : Ratio). IsPlace faces bracket (fraction_of q) at true true) (sym e)
    (subst (λ (z : ℤ). IsPlace faces bracket (fraction_of need) z true true) (sym f) (top_place faces bracket (fraction_of need) six is_six less))
