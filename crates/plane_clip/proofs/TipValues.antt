-- What the corner that lies alone on its side cuts off: the means over its tip and over the whole triangle, for each kind of mean, and
-- from them the mean over the wet part by the sides of the corners.
use Prim.Native.Nat.{ℕ, zero, suc, ◌+◌}
use native.Mathlib.Omega.{arith}
use mathlib.Core.Path.{◌≡◌, refl, ◌∙◌, ap, ap₂}
use mathlib.Core.List.{List, [], ◌∷◌}
use mathlib.Core.Bool.{Bool, true, false}
use lib.IntN.{pos}
use Rattle.exact_algebra.specs.Expression.{Expression, var, unit, number, ◌:+◌, ◌:-◌, ◌:*◌, opposite}
use Rattle.exact_algebra.specs.Ring.{number_value}
use Rattle.exact_algebra.proofs.Ring.{ring, ring_from, none, given}
use Rattle.exact_algebra.proofs.Fraction.{Fraction, nought, one, ◌⊕◌, ◌⊗◌, ◌⊖◌, fractions, fraction_ring}
use Rattle.exact_algebra.proofs.Whole.{whole, whole-add, whole-mul, whole-nought, whole-one}
use Rattle.exact_algebra.proofs.WetForm as Form
use Rattle.hull_model.proofs.WetSum.{N12}
use Rattle.hull_model.proofs.TriangleLaws.{by_twelve}
use Rattle.hull_model.proofs.MeanKinds.{Kind, share_kind, corner_kind, pair_kind, depth_kind, weighted_kind, first_place, second_place, third_place, value, mean_at, kind_form}

after : (n : ℕ) → suc n ≡ 1 + n
after n = omega arith

-- a natural number among the fractions is a sum of ones
pub N-number : (n : ℕ) → whole (pos n) ≡ number_value fraction_ring.operations n
N-number zero = whole-nought
N-number (suc n) = ap (λ m. whole (pos m)) (after n) ∙ whole-add (pos 1) (pos n) ∙ ap₂ ◌⊕◌ whole-one (N-number n)

abbrev whole_form : Kind → Fraction → Fraction → Fraction → Fraction
whole_form κ x y z = Form.twelve fractions (value κ (first_place x)) (value κ (second_place y)) (value κ (third_place z))

abbrev tip_form : Kind → Fraction → Fraction → Fraction → Fraction → Fraction → Fraction
tip_form κ t s x y z = Form.tip fractions t s (value κ (first_place x)) (value κ (second_place y)) (value κ (third_place z))

-- k times the mean over the whole triangle is w, where 12 = c k
pub record HasWhole (κ : Kind) (k : ℕ) (x y z w : Fraction) : Type 0 where
  pub c : ℕ
  pub factors : N12 ≡ whole (pos c) ⊗ whole (pos k)
  pub whole_triangle : whole_form κ x y z ≡ whole (pos c) ⊗ w

-- and over the tip e
pub record HasValues (κ : Kind) (k : ℕ) (x y z t s w e : Fraction) : Type 0 where
  pub over_whole : HasWhole κ k x y z w
  pub at_tip : tip_form κ t s x y z ≡ whole (pos over_whole.c) ⊗ e

by_factors : (κ : Kind) (k : ℕ) (x y z m : Fraction) (c : ℕ) → N12 ≡ whole (pos c) ⊗ whole (pos k)
    → Form.wet_form fractions (value κ (first_place x)) (value κ (second_place y)) (value κ (third_place z)) ≡ whole (pos c) ⊗ m → mean_at κ x y z ⊗ whole (pos k) ≡ m
by_factors κ k x y z m c e f = by_twelve (mean_at κ x y z ⊗ whole (pos k)) m (ring_from fraction_ring (mean_at κ x y z ∷ whole (pos k) ∷ N12 ∷ whole (pos c) ∷ m ∷ F ∷ [])
    ((var 1, var 0 :* var 2, var 5) ∷ (var 1, var 5, var 3 :* var 4) ∷ (opposite (var 4), var 2, var 3 :* var 1) ∷ [])
    (given (kind_form κ x y z) (given f (given e none))) ((var 0 :* var 1) :* var 2) (var 4 :* var 2) refl)
  where
    F : Fraction
    F = Form.wet_form fractions (value κ (first_place x)) (value κ (second_place y)) (value κ (third_place z))

abbrev over : Fraction → Bool
over x = Form.over fractions x

module _ (κ : Kind) (k : ℕ) (x y z w : Fraction) (v : HasWhole κ k x y z w) where
  pub dry_value : over x ≡ false → over y ≡ false → over z ≡ false → mean_at κ x y z ⊗ whole (pos k) ≡ nought
  dry_value f g h = by_factors κ k x y z nought v.c v.factors (Form.form_none_over fractions (value κ (first_place x)) (value κ (second_place y)) (value κ (third_place z)) f g h
      ∙ ring fraction_ring (whole (pos v.c) ∷ []) (number 0) (var 0 :* number 0) refl)

  pub wet_value : over x ≡ true → over y ≡ true → over z ≡ true → mean_at κ x y z ⊗ whole (pos k) ≡ w
  wet_value f g h = by_factors κ k x y z w v.c v.factors (Form.form_all_over fractions (value κ (first_place x)) (value κ (second_place y)) (value κ (third_place z)) f g h ∙ v.whole_triangle)

module _ (κ : Kind) (k : ℕ) (x y z t s w e : Fraction) (v : HasValues κ k x y z t s w e) where
  pub when_one : over x ≡ true → over y ≡ false → over z ≡ false → Form.IsPart fractions x y t → Form.IsPart fractions x z s → mean_at κ x y z ⊗ whole (pos k) ≡ e
  when_one f g h i j = by_factors κ k x y z e v.over_whole.c v.over_whole.factors (Form.form_one_over fractions t s (value κ (first_place x)) (value κ (second_place y)) (value κ (third_place z)) f g h i j ∙ v.at_tip)

  pub when_two : over x ≡ false → over y ≡ true → over z ≡ true → Form.IsPart fractions x y t → Form.IsPart fractions x z s → mean_at κ x y z ⊗ whole (pos k) ≡ w ⊖ e
  when_two f g h i j = by_factors κ k x y z (w ⊖ e) v.over_whole.c v.over_whole.factors (Form.form_two_over fractions t s (value κ (first_place x)) (value κ (second_place y)) (value κ (third_place z)) f g h i j
      ∙ ap₂ ◌⊖◌ v.over_whole.whole_triangle v.at_tip ∙ ring fraction_ring (whole (pos v.over_whole.c) ∷ w ∷ e ∷ []) (var 0 :* var 1 :- var 0 :* var 2) (var 0 :* (var 1 :- var 2)) refl)

-- ---- the expressions: t, s, and the depths of the corners, with the factor c last
abbrev twelve_of : (p q : Expression × Expression × Expression) → Expression
twelve_of p q = (p.0 :* q.0 :+ p.1 :* q.1 :+ p.2 :* q.2) :+ (p.0 :+ p.1 :+ p.2) :* (q.0 :+ q.1 :+ q.2)

abbrev at_tip_of : (p : Expression × Expression × Expression) → Expression × Expression × Expression
at_tip_of p = (p.0, (unit :- var 0) :* p.0 :+ var 0 :* p.1, (unit :- var 1) :* p.0 :+ var 1 :* p.2)

abbrev tip_of : (p q : Expression × Expression × Expression) → Expression
tip_of p q = (var 0 :* var 1) :* twelve_of (at_tip_of p) (at_tip_of q)

abbrev ones : Expression × Expression × Expression
ones = (unit, unit, unit)

abbrev first_corner : Expression × Expression × Expression
first_corner = (unit, number 0, number 0)

abbrev second_corner : Expression × Expression × Expression
second_corner = (number 0, unit, number 0)

abbrev third_corner : Expression × Expression × Expression
third_corner = (number 0, number 0, unit)

abbrev depths : Expression × Expression × Expression
depths = (var 2, var 3, var 4)

-- the complements of t and s
abbrev U : Expression
U = unit :- var 0

abbrev W : Expression
W = unit :- var 1

module _ (x y z : Fraction) where
  whole_values : (c : ℕ) → List Fraction
  whole_values c = nought ∷ nought ∷ x ∷ y ∷ z ∷ whole (pos c) ∷ []

  pub share_whole : HasWhole share_kind 1 x y z one
  unfolding whole_values
  share_whole = record {
    c = 12;
    factors = whole-mul (pos 12) (pos 1);
    whole_triangle = ring_from fraction_ring (whole_values 12) ((opposite (unit), var 5, number 12) ∷ []) (given (N-number 12) none) (twelve_of ones ones) (var 5 :* unit) refl;
  }

  pub corner0_whole : HasWhole (corner_kind 0) 3 x y z one
  unfolding whole_values
  corner0_whole = record {
    c = 4;
    factors = whole-mul (pos 4) (pos 3);
    whole_triangle = ring_from fraction_ring (whole_values 4) ((opposite (unit), var 5, number 4) ∷ []) (given (N-number 4) none) (twelve_of ones first_corner) (var 5 :* unit) refl;
  }

  pub corner1_whole : HasWhole (corner_kind 1) 3 x y z one
  unfolding whole_values
  corner1_whole = record {
    c = 4;
    factors = whole-mul (pos 4) (pos 3);
    whole_triangle = ring_from fraction_ring (whole_values 4) ((opposite (unit), var 5, number 4) ∷ []) (given (N-number 4) none) (twelve_of ones second_corner) (var 5 :* unit) refl;
  }

  pub corner2_whole : HasWhole (corner_kind 2) 3 x y z one
  unfolding whole_values
  corner2_whole = record {
    c = 4;
    factors = whole-mul (pos 4) (pos 3);
    whole_triangle = ring_from fraction_ring (whole_values 4) ((opposite (unit), var 5, number 4) ∷ []) (given (N-number 4) none) (twelve_of ones third_corner) (var 5 :* unit) refl;
  }

  pub pair00_whole : HasWhole (pair_kind 0 0) 6 x y z one
  unfolding whole_values
  pair00_whole = record {
    c = 2;
    factors = whole-mul (pos 2) (pos 6);
    whole_triangle = ring_from fraction_ring (whole_values 2) ((opposite (unit), var 5, number 2) ∷ []) (given (N-number 2) none) (twelve_of first_corner first_corner) (var 5 :* unit) refl;
  }

  pub pair01_whole : HasWhole (pair_kind 0 1) 12 x y z one
  unfolding whole_values
  pair01_whole = record {
    c = 1;
    factors = whole-mul (pos 1) (pos 12);
    whole_triangle = ring_from fraction_ring (whole_values 1) ((opposite (unit), var 5, number 1) ∷ []) (given (N-number 1) none) (twelve_of first_corner second_corner) (var 5 :* unit) refl;
  }

  pub pair02_whole : HasWhole (pair_kind 0 2) 12 x y z one
  unfolding whole_values
  pair02_whole = record {
    c = 1;
    factors = whole-mul (pos 1) (pos 12);
    whole_triangle = ring_from fraction_ring (whole_values 1) ((opposite (unit), var 5, number 1) ∷ []) (given (N-number 1) none) (twelve_of first_corner third_corner) (var 5 :* unit) refl;
  }

  pub pair11_whole : HasWhole (pair_kind 1 1) 6 x y z one
  unfolding whole_values
  pair11_whole = record {
    c = 2;
    factors = whole-mul (pos 2) (pos 6);
    whole_triangle = ring_from fraction_ring (whole_values 2) ((opposite (unit), var 5, number 2) ∷ []) (given (N-number 2) none) (twelve_of second_corner second_corner) (var 5 :* unit) refl;
  }

  pub pair12_whole : HasWhole (pair_kind 1 2) 12 x y z one
  unfolding whole_values
  pair12_whole = record {
    c = 1;
    factors = whole-mul (pos 1) (pos 12);
    whole_triangle = ring_from fraction_ring (whole_values 1) ((opposite (unit), var 5, number 1) ∷ []) (given (N-number 1) none) (twelve_of second_corner third_corner) (var 5 :* unit) refl;
  }

  pub pair22_whole : HasWhole (pair_kind 2 2) 6 x y z one
  unfolding whole_values
  pair22_whole = record {
    c = 2;
    factors = whole-mul (pos 2) (pos 6);
    whole_triangle = ring_from fraction_ring (whole_values 2) ((opposite (unit), var 5, number 2) ∷ []) (given (N-number 2) none) (twelve_of third_corner third_corner) (var 5 :* unit) refl;
  }

  pub depth_whole : HasWhole depth_kind 3 x y z (x ⊕ y ⊕ z)
  unfolding whole_values
  depth_whole = record {
    c = 4;
    factors = whole-mul (pos 4) (pos 3);
    whole_triangle = ring_from fraction_ring (whole_values 4) ((opposite ((var 2 :+ var 3 :+ var 4)), var 5, number 4) ∷ []) (given (N-number 4) none) (twelve_of ones depths) (var 5 :* (var 2 :+ var 3 :+ var 4)) refl;
  }

  pub weighted0_whole : HasWhole (weighted_kind 0) 12 x y z ((x ⊕ y ⊕ z) ⊕ x)
  unfolding whole_values
  weighted0_whole = record {
    c = 1;
    factors = whole-mul (pos 1) (pos 12);
    whole_triangle = ring_from fraction_ring (whole_values 1) ((opposite (((var 2 :+ var 3 :+ var 4) :+ var 2)), var 5, number 1) ∷ []) (given (N-number 1) none) (twelve_of first_corner depths) (var 5 :* ((var 2 :+ var 3 :+ var 4) :+ var 2)) refl;
  }

  pub weighted1_whole : HasWhole (weighted_kind 1) 12 x y z ((x ⊕ y ⊕ z) ⊕ y)
  unfolding whole_values
  weighted1_whole = record {
    c = 1;
    factors = whole-mul (pos 1) (pos 12);
    whole_triangle = ring_from fraction_ring (whole_values 1) ((opposite (((var 2 :+ var 3 :+ var 4) :+ var 3)), var 5, number 1) ∷ []) (given (N-number 1) none) (twelve_of second_corner depths) (var 5 :* ((var 2 :+ var 3 :+ var 4) :+ var 3)) refl;
  }

  pub weighted2_whole : HasWhole (weighted_kind 2) 12 x y z ((x ⊕ y ⊕ z) ⊕ z)
  unfolding whole_values
  weighted2_whole = record {
    c = 1;
    factors = whole-mul (pos 1) (pos 12);
    whole_triangle = ring_from fraction_ring (whole_values 1) ((opposite (((var 2 :+ var 3 :+ var 4) :+ var 4)), var 5, number 1) ∷ []) (given (N-number 1) none) (twelve_of third_corner depths) (var 5 :* ((var 2 :+ var 3 :+ var 4) :+ var 4)) refl;
  }

module _ (x y z t s : Fraction) where
  values : (c : ℕ) → List Fraction
  values c = t ∷ s ∷ x ∷ y ∷ z ∷ whole (pos c) ∷ []

  abbrev u : Fraction
  u = one ⊖ t

  abbrev v : Fraction
  v = one ⊖ s

  pub share_values : HasValues share_kind 1 x y z t s one ((t ⊗ s))
  unfolding values share_whole
  share_values = record {
    over_whole = share_whole x y z;
    at_tip = ring_from fraction_ring (values 12) ((opposite ((var 0 :* var 1)), var 5, number 12) ∷ []) (given (N-number 12) none) (tip_of ones ones) (var 5 :* ((var 0 :* var 1))) refl;
  }

  pub corner0_values : HasValues (corner_kind 0) 3 x y z t s one ((t ⊗ s) ⊗ (one ⊕ u ⊕ v))
  unfolding values corner0_whole
  corner0_values = record {
    over_whole = corner0_whole x y z;
    at_tip = ring_from fraction_ring (values 4) ((opposite ((var 0 :* var 1) :* (unit :+ U :+ W)), var 5, number 4) ∷ []) (given (N-number 4) none) (tip_of ones first_corner) (var 5 :* ((var 0 :* var 1) :* (unit :+ U :+ W))) refl;
  }

  pub corner1_values : HasValues (corner_kind 1) 3 x y z t s one ((t ⊗ s) ⊗ t)
  unfolding values corner1_whole
  corner1_values = record {
    over_whole = corner1_whole x y z;
    at_tip = ring_from fraction_ring (values 4) ((opposite ((var 0 :* var 1) :* var 0), var 5, number 4) ∷ []) (given (N-number 4) none) (tip_of ones second_corner) (var 5 :* ((var 0 :* var 1) :* var 0)) refl;
  }

  pub corner2_values : HasValues (corner_kind 2) 3 x y z t s one ((t ⊗ s) ⊗ s)
  unfolding values corner2_whole
  corner2_values = record {
    over_whole = corner2_whole x y z;
    at_tip = ring_from fraction_ring (values 4) ((opposite ((var 0 :* var 1) :* var 1), var 5, number 4) ∷ []) (given (N-number 4) none) (tip_of ones third_corner) (var 5 :* ((var 0 :* var 1) :* var 1)) refl;
  }

  pub pair00_values : HasValues (pair_kind 0 0) 6 x y z t s one ((t ⊗ s) ⊗ (one ⊕ u ⊕ v ⊕ u ⊗ u ⊕ v ⊗ v ⊕ u ⊗ v))
  unfolding values pair00_whole
  pair00_values = record {
    over_whole = pair00_whole x y z;
    at_tip = ring_from fraction_ring (values 2) ((opposite ((var 0 :* var 1) :* (unit :+ U :+ W :+ U :* U :+ W :* W :+ U :* W)), var 5, number 2) ∷ []) (given (N-number 2) none) (tip_of first_corner first_corner) (var 5 :* ((var 0 :* var 1) :* (unit :+ U :+ W :+ U :* U :+ W :* W :+ U :* W))) refl;
  }

  pub pair01_values : HasValues (pair_kind 0 1) 12 x y z t s one (((t ⊗ s) ⊗ t) ⊗ (one ⊕ (u ⊕ u) ⊕ v))
  unfolding values pair01_whole
  pair01_values = record {
    over_whole = pair01_whole x y z;
    at_tip = ring_from fraction_ring (values 1) ((opposite (((var 0 :* var 1) :* var 0) :* (unit :+ (U :+ U) :+ W)), var 5, number 1) ∷ []) (given (N-number 1) none) (tip_of first_corner second_corner) (var 5 :* (((var 0 :* var 1) :* var 0) :* (unit :+ (U :+ U) :+ W))) refl;
  }

  pub pair02_values : HasValues (pair_kind 0 2) 12 x y z t s one (((t ⊗ s) ⊗ s) ⊗ (one ⊕ u ⊕ (v ⊕ v)))
  unfolding values pair02_whole
  pair02_values = record {
    over_whole = pair02_whole x y z;
    at_tip = ring_from fraction_ring (values 1) ((opposite (((var 0 :* var 1) :* var 1) :* (unit :+ U :+ (W :+ W))), var 5, number 1) ∷ []) (given (N-number 1) none) (tip_of first_corner third_corner) (var 5 :* (((var 0 :* var 1) :* var 1) :* (unit :+ U :+ (W :+ W)))) refl;
  }

  pub pair11_values : HasValues (pair_kind 1 1) 6 x y z t s one (((t ⊗ s) ⊗ t) ⊗ t)
  unfolding values pair11_whole
  pair11_values = record {
    over_whole = pair11_whole x y z;
    at_tip = ring_from fraction_ring (values 2) ((opposite (((var 0 :* var 1) :* var 0) :* var 0), var 5, number 2) ∷ []) (given (N-number 2) none) (tip_of second_corner second_corner) (var 5 :* (((var 0 :* var 1) :* var 0) :* var 0)) refl;
  }

  pub pair12_values : HasValues (pair_kind 1 2) 12 x y z t s one (((t ⊗ s) ⊗ t) ⊗ s)
  unfolding values pair12_whole
  pair12_values = record {
    over_whole = pair12_whole x y z;
    at_tip = ring_from fraction_ring (values 1) ((opposite (((var 0 :* var 1) :* var 0) :* var 1), var 5, number 1) ∷ []) (given (N-number 1) none) (tip_of second_corner third_corner) (var 5 :* (((var 0 :* var 1) :* var 0) :* var 1)) refl;
  }

  pub pair22_values : HasValues (pair_kind 2 2) 6 x y z t s one (((t ⊗ s) ⊗ s) ⊗ s)
  unfolding values pair22_whole
  pair22_values = record {
    over_whole = pair22_whole x y z;
    at_tip = ring_from fraction_ring (values 2) ((opposite (((var 0 :* var 1) :* var 1) :* var 1), var 5, number 2) ∷ []) (given (N-number 2) none) (tip_of third_corner third_corner) (var 5 :* (((var 0 :* var 1) :* var 1) :* var 1)) refl;
  }

  -- the depth is nought at both ends of the line
  module _ (i : Form.IsPart fractions x y t) (j : Form.IsPart fractions x z s) where
    pub depth_values : HasValues depth_kind 3 x y z t s (x ⊕ y ⊕ z) (x ⊗ (t ⊗ s))
    unfolding values depth_whole
    depth_values = record {
      over_whole = depth_whole x y z;
      at_tip = ring_from fraction_ring (values 4) ((opposite (var 2 :* (var 0 :* var 1)), var 5, number 4) ∷ (opposite ((var 0 :* var 1) :* ((at_tip_of ones).1 :+ ((at_tip_of ones).0 :+ (at_tip_of ones).1 :+ (at_tip_of ones).2))), var 0 :* (var 2 :- var 3), var 2) ∷ (opposite ((var 0 :* var 1) :* ((at_tip_of ones).2 :+ ((at_tip_of ones).0 :+ (at_tip_of ones).1 :+ (at_tip_of ones).2))), var 1 :* (var 2 :- var 4), var 2) ∷ [])
          (given (N-number 4) (given i (given j none))) (tip_of ones depths) (var 5 :* (var 2 :* (var 0 :* var 1))) refl;
    }

    pub weighted0_values : HasValues (weighted_kind 0) 12 x y z t s ((x ⊕ y ⊕ z) ⊕ x) ((x ⊗ (t ⊗ s)) ⊗ ((one ⊕ one) ⊕ u ⊕ v))
    unfolding values weighted0_whole
    weighted0_values = record {
      over_whole = weighted0_whole x y z;
      at_tip = ring_from fraction_ring (values 1) ((opposite ((var 2 :* (var 0 :* var 1)) :* ((unit :+ unit) :+ U :+ W)), var 5, number 1) ∷ (opposite ((var 0 :* var 1) :* ((at_tip_of first_corner).1 :+ ((at_tip_of first_corner).0 :+ (at_tip_of first_corner).1 :+ (at_tip_of first_corner).2))), var 0 :* (var 2 :- var 3), var 2) ∷ (opposite ((var 0 :* var 1) :* ((at_tip_of first_corner).2 :+ ((at_tip_of first_corner).0 :+ (at_tip_of first_corner).1 :+ (at_tip_of first_corner).2))), var 1 :* (var 2 :- var 4), var 2) ∷ [])
          (given (N-number 1) (given i (given j none))) (tip_of first_corner depths) (var 5 :* ((var 2 :* (var 0 :* var 1)) :* ((unit :+ unit) :+ U :+ W))) refl;
    }

    pub weighted1_values : HasValues (weighted_kind 1) 12 x y z t s ((x ⊕ y ⊕ z) ⊕ y) ((x ⊗ (t ⊗ s)) ⊗ t)
    unfolding values weighted1_whole
    weighted1_values = record {
      over_whole = weighted1_whole x y z;
      at_tip = ring_from fraction_ring (values 1) ((opposite ((var 2 :* (var 0 :* var 1)) :* var 0), var 5, number 1) ∷ (opposite ((var 0 :* var 1) :* ((at_tip_of second_corner).1 :+ ((at_tip_of second_corner).0 :+ (at_tip_of second_corner).1 :+ (at_tip_of second_corner).2))), var 0 :* (var 2 :- var 3), var 2) ∷ (opposite ((var 0 :* var 1) :* ((at_tip_of second_corner).2 :+ ((at_tip_of second_corner).0 :+ (at_tip_of second_corner).1 :+ (at_tip_of second_corner).2))), var 1 :* (var 2 :- var 4), var 2) ∷ [])
          (given (N-number 1) (given i (given j none))) (tip_of second_corner depths) (var 5 :* ((var 2 :* (var 0 :* var 1)) :* var 0)) refl;
    }

    pub weighted2_values : HasValues (weighted_kind 2) 12 x y z t s ((x ⊕ y ⊕ z) ⊕ z) ((x ⊗ (t ⊗ s)) ⊗ s)
    unfolding values weighted2_whole
    weighted2_values = record {
      over_whole = weighted2_whole x y z;
      at_tip = ring_from fraction_ring (values 1) ((opposite ((var 2 :* (var 0 :* var 1)) :* var 1), var 5, number 1) ∷ (opposite ((var 0 :* var 1) :* ((at_tip_of third_corner).1 :+ ((at_tip_of third_corner).0 :+ (at_tip_of third_corner).1 :+ (at_tip_of third_corner).2))), var 0 :* (var 2 :- var 3), var 2) ∷ (opposite ((var 0 :* var 1) :* ((at_tip_of third_corner).2 :+ ((at_tip_of third_corner).0 :+ (at_tip_of third_corner).1 :+ (at_tip_of third_corner).2))), var 1 :* (var 2 :- var 4), var 2) ∷ [])
          (given (N-number 1) (given i (given j none))) (tip_of third_corner depths) (var 5 :* ((var 2 :* (var 0 :* var 1)) :* var 1)) refl;
    }
