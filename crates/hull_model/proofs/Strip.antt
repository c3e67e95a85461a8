-- The section between two neighbouring points: a strip that lies below the draft, above it, or on both sides.
use mathlib.Core.Path.{◌≡◌, refl, sym, ◌∙◌, ap, ap₂}
use mathlib.Core.List.{List, [], ◌∷◌, ◌++◌}
use mathlib.Core.Logic.{◌≢◌}
use Rattle.exact_algebra.specs.Expression.{var, unit, number, ◌:+◌, ◌:-◌, ◌:*◌, opposite}
use Rattle.exact_algebra.specs.OrderedField.{Sign, below, level, above, turned}
use Rattle.exact_algebra.proofs.Ring.{ring, ring_from, none, given}
use Rattle.exact_algebra.proofs.Fraction.{Fraction, nought, ◌⊗◌, ◌⊖◌, negative, inverse, sign, fractions, fraction_ring, ◌≼◌, ◌≺◌}
use Rattle.exact_algebra.proofs.Order as Order
use Rattle.exact_algebra.proofs.Bounds as Bounds
use Rattle.hull_model.specs.Fractions.{magnitude_by, magnitude, interpolated}
use Rattle.hull_model.specs.TriangleCut.{Triangle, crossing, kept_pieces}
use Rattle.hull_model.specs.Section.{Offset, under, determinant}
use Rattle.hull_model.proofs.TriangleCut as Cut

abbrev pub NonNegative : Fraction → Type 0
NonNegative x = sign x ≢ below

-- ---- magnitudes
pub magnitude-nonnegative : (x w : Fraction) → NonNegative w → x ≡ w → magnitude x ≡ w
unfolding magnitude
magnitude-nonnegative x w n e = ap magnitude e ∙ go (sign w) refl
  where
    go : (s : Sign) → sign w ≡ s → magnitude_by s w ≡ w
    go above h = refl
    go level h = refl
    go below h = absurd (n h)

pub magnitude-negative : (x w : Fraction) → NonNegative w → x ≡ negative w → magnitude x ≡ w
unfolding magnitude
magnitude-negative x w n e = ap magnitude e ∙ go (sign w) refl
  where
    twice : negative (negative w) ≡ w
    twice = ring fraction_ring (w ∷ []) (opposite (opposite (var 0))) (var 0) refl

    at : (s : Sign) → sign w ≡ s → magnitude_by (sign (negative w)) (negative w) ≡ magnitude_by (turned s) (negative w)
    at s h = ap (λ (r : Sign). magnitude_by r (negative w)) (fractions.laws.sign-negative w ∙ ap turned h)

    go : (s : Sign) → sign w ≡ s → magnitude_by (sign (negative w)) (negative w) ≡ w
    go above h = at above h ∙ twice
    go level h = at level h ∙ ap negative (fractions.laws.nought_from_sign w h) ∙ ring fraction_ring [] (opposite (number 0)) (number 0) refl ∙ sym (fractions.laws.nought_from_sign w h)
    go below h = absurd (n h)

-- ---- the triangles of a strip
abbrev pub offset : Fraction → Fraction → Offset
offset y z = record { y = y; z = z }

abbrev pub corners : Offset → Offset → Offset → Triangle Offset
corners a b c = record { a = a; b = b; c = c }

-- from the height z to the height d, with the half-breadth u at d
abbrev pub inner : Fraction → Fraction → Fraction → Triangle Offset
inner z u d = corners (offset nought z) (offset nought d) (offset u d)

-- with the half-breadth y at z, to the half-breadth u at d
abbrev pub outer : Fraction → Fraction → Fraction → Fraction → Triangle Offset
outer y z u d = corners (offset nought z) (offset y z) (offset u d)

-- with the half-breadth y at z, to the half-breadths u and v at d
abbrev pub middle : Fraction → Fraction → Fraction → Fraction → Fraction → Triangle Offset
middle y z u v d = corners (offset u d) (offset y z) (offset v d)

pub magnitude-inner : (z u d : Fraction) → NonNegative u → z ≼ d → magnitude (determinant (inner z u d)) ≡ u ⊗ (d ⊖ z)
magnitude-inner z u d n h = magnitude-negative _ _ (Order.nonnegative-mul fractions n h)
    (ring fraction_ring (z ∷ u ∷ d ∷ []) ((number 0 :- number 0) :* (var 2 :- var 0) :- (var 1 :- number 0) :* (var 2 :- var 0)) (opposite (var 1 :* (var 2 :- var 0))) refl)

pub magnitude-outer : (y z u d : Fraction) → NonNegative y → z ≼ d → magnitude (determinant (outer y z u d)) ≡ y ⊗ (d ⊖ z)
magnitude-outer y z u d n h = magnitude-nonnegative _ _ (Order.nonnegative-mul fractions n h)
    (ring fraction_ring (y ∷ z ∷ u ∷ d ∷ []) ((var 0 :- number 0) :* (var 3 :- var 1) :- (var 2 :- number 0) :* (var 1 :- var 1)) (var 0 :* (var 3 :- var 1)) refl)

pub magnitude-middle : (y z u v d : Fraction) → u ≼ v → z ≼ d → magnitude (determinant (middle y z u v d)) ≡ (v ⊖ u) ⊗ (d ⊖ z)
magnitude-middle y z u v d n h = magnitude-nonnegative _ _ (Order.nonnegative-mul fractions n h)
    (ring fraction_ring (y ∷ z ∷ u ∷ v ∷ d ∷ []) ((var 0 :- var 2) :* (var 4 :- var 4) :- (var 3 :- var 2) :* (var 1 :- var 4)) ((var 3 :- var 2) :* (var 4 :- var 1)) refl)

-- ---- which pieces are kept
pub linear : (d : Fraction) → Cut.IsLinear (under d)
linear d t p q = ring fraction_ring (d ∷ t ∷ p.z ∷ q.z ∷ []) (var 0 :- ((unit :- var 1) :* var 2 :+ var 1 :* var 3)) ((unit :- var 1) :* (var 0 :- var 2) :+ var 1 :* (var 0 :- var 3)) refl

pub below_of : (z d : Fraction) → d ≺ z → sign (d ⊖ z) ≡ below
below_of z d h = ap sign (ring fraction_ring (z ∷ d ∷ []) (var 1 :- var 0) (opposite (var 0 :- var 1)) refl) ∙ fractions.laws.sign-negative (z ⊖ d) ∙ ap turned h

not_above : (z d : Fraction) → d ≼ z → sign (d ⊖ z) ≢ above
not_above z d h e = Order.≺-not_≼ fractions e h

-- what is kept of a strip from the half-breadth y at z to the half-breadth u at w
abbrev pub wet_strip : Fraction → Fraction → Fraction → Fraction → Fraction → List (Triangle Offset)
wet_strip d y z u w = kept_pieces (under d) (inner z u w) ++ kept_pieces (under d) (outer y z u w)

-- a strip below the draft is kept
pub wet_strip-below : (d y z u w : Fraction) → z ≺ d → w ≼ d → wet_strip d y z u w ≡ inner z u w ∷ outer y z u w ∷ []
wet_strip-below d y z u w zd wd = go (sign (d ⊖ w)) refl
  where
    go : (s : Sign) → sign (d ⊖ w) ≡ s → wet_strip d y z u w ≡ inner z u w ∷ outer y z u w ∷ []
    go above e = ap₂ ◌++◌ (Cut.kept_pieces_one_side (under d) _ _ _ above above above zd e e refl refl refl) (Cut.kept_pieces_one_side (under d) _ _ _ above above above zd zd e refl refl refl)
    go level e = ap₂ ◌++◌ (Cut.kept_pieces_one_side (under d) _ _ _ above level level zd e e refl refl refl) (Cut.kept_pieces_one_side (under d) _ _ _ above above level zd zd e refl refl refl)
    go below e = absurd (wd e)

-- nothing of a strip above the draft is kept
pub wet_strip-above : (d y z u w : Fraction) → d ≼ z → d ≺ w → wet_strip d y z u w ≡ []
wet_strip-above d y z u w dz dw = go (sign (d ⊖ z)) refl
  where
    go : (s : Sign) → sign (d ⊖ z) ≡ s → wet_strip d y z u w ≡ []
    go above e = absurd (not_above z d dz e)
    go level e = ap₂ ◌++◌ (Cut.kept_pieces_one_side (under d) _ _ _ level below below e (below_of w d dw) (below_of w d dw) refl refl refl) (Cut.kept_pieces_one_side (under d) _ _ _ level level below e e (below_of w d dw) refl refl refl)
    go below e = ap₂ ◌++◌ (Cut.kept_pieces_one_side (under d) _ _ _ below below below e (below_of w d dw) (below_of w d dw) refl refl refl) (Cut.kept_pieces_one_side (under d) _ _ _ below below below e e (below_of w d dw) refl refl refl)

-- the parameter at which a line from z to w has the height d
unfoldable pub share : Fraction → Fraction → Fraction → Fraction
share d z w = (d ⊖ z) ⊗ inverse ((d ⊖ z) ⊖ (d ⊖ w))

pub share_law : (d z w : Fraction) → z ≺ d → d ≺ w → share d z w ⊗ (w ⊖ z) ≡ d ⊖ z
unfolding share
share_law d z w zd dw = ring_from fraction_ring (d ∷ z ∷ w ∷ inverse ((d ⊖ z) ⊖ (d ⊖ w)) ∷ []) ((var 0 :- var 1, ((var 0 :- var 1) :- (var 0 :- var 2)) :* var 3, unit) ∷ [])
    (given (Bounds.mul-inverse_positive fractions (Cut.positive-difference (d ⊖ z) (d ⊖ w) zd (below_of w d dw))) none)
    (((var 0 :- var 1) :* var 3) :* (var 2 :- var 1)) (var 0 :- var 1) refl

-- the half-breadth at d of a line from y at z to u at w
abbrev pub breadth_at : Fraction → Fraction → Fraction → Fraction → Fraction → Fraction
breadth_at d y z u w = interpolated (share d z w) y u

crossing_at : (d y z u w : Fraction) → z ≺ d → d ≺ w → crossing (under d) (offset y z) (offset u w) ≡ offset (breadth_at d y z u w) d
unfolding crossing share
crossing_at d y z u w zd dw = ap (offset (breadth_at d y z u w)) (ring_from fraction_ring (d ∷ z ∷ w ∷ share d z w ∷ []) ((unit, var 3 :* (var 2 :- var 1), var 0 :- var 1) ∷ []) (given (share_law d z w zd dw) none)
    ((unit :- var 3) :* var 1 :+ var 3 :* var 2) (var 0) refl)

-- of a strip on both sides the part below the draft is kept
pub wet_strip-cut : (d y z u w : Fraction) → z ≺ d → d ≺ w
    → let t = share d z w in wet_strip d y z u w ≡ inner z (t ⊗ u) d ∷ middle y z (t ⊗ u) (breadth_at d y z u w) d ∷ outer y z (t ⊗ u) d ∷ []
wet_strip-cut d y z u w zd dw = ap₂ ◌++◌
    (Cut.kept_pieces_one_above (under d) (linear d) _ _ _ zd (below_of w d dw) (below_of w d dw) ∙ ap₂ (λ p q. corners (offset nought z) p q ∷ []) foot on_face)
    (Cut.kept_pieces_two_above (under d) (linear d) _ _ _ zd zd (below_of w d dw) ∙ ap₂ (λ p q. corners p (offset y z) q ∷ corners (offset nought z) (offset y z) p ∷ []) on_face (crossing_at d y z u w zd dw))
  where
    t : Fraction
    t = share d z w

    foot : crossing (under d) (offset nought z) (offset nought w) ≡ offset nought d
    foot = crossing_at d nought z nought w zd dw ∙ ap (λ x. offset x d) (ring fraction_ring (t ∷ []) ((unit :- var 0) :* number 0 :+ var 0 :* number 0) (number 0) refl)

    on_face : crossing (under d) (offset nought z) (offset u w) ≡ offset (t ⊗ u) d
    on_face = crossing_at d nought z u w zd dw ∙ ap (λ x. offset x d) (ring fraction_ring (t ∷ u ∷ []) ((unit :- var 0) :* number 0 :+ var 0 :* var 1) (var 0 :* var 1) refl)
