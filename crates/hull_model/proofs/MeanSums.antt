-- Means whose weights sum up sum up: the means of the depth times the coordinates of the corners to that of the depth, those of the
-- coordinates and those of their products to the share.
use mathlib.Core.Path.{◌≡◌, refl, sym, ◌∙◌}
use mathlib.Core.List.{List, [], ◌∷◌}
use mathlib.Core.Bool.{Bool, true, false}
use Rattle.exact_algebra.specs.Expression.{Expression, var, unit, number, ◌:+◌, ◌:-◌, ◌:*◌}
use Rattle.exact_algebra.proofs.Ring.{ring, ring_from, none, given}
use Rattle.exact_algebra.proofs.Fraction.{Fraction, nought, one, ◌⊕◌, ◌⊗◌, ◌⊖◌, inverse, fractions, fraction_ring}
use Rattle.exact_algebra.proofs.WetForm as Form
use Rattle.hull_model.specs.WetMean.{wet_share, wet_corner, wet_pair, wet_depth, weighted_depth}
use Rattle.hull_model.proofs.WetSum.{N12}
use Rattle.hull_model.proofs.TriangleLaws.{by_twelve}
use Rattle.hull_model.proofs.MeanKinds.{share_kind, corner_kind, pair_kind, depth_kind, weighted_kind, kind_form, pair_swap}

-- a corner: its depth, three values of weights, and the value of the other function
abbrev Weighed : Type 0
Weighed = Fraction × Fraction × Fraction × Fraction × Fraction

-- the corner as the closed form takes it, with one of the weights as its first function
abbrev before : Fraction → Fraction → Fraction → Form.Corner fractions
before x f g = (x, f, g)

abbrev over : Fraction → Bool
over x = Form.over fractions x

abbrev E : Type 0
E = Expression

abbrev between : E → E → E → E
between t x y = (unit :- t) :* x :+ t :* y

abbrev twelve : E → E → E → E → E → E → E
twelve f1 f2 f3 g1 g2 g3 = (f1 :* g1 :+ f2 :* g2 :+ f3 :* g3) :+ (f1 :+ f2 :+ f3) :* (g1 :+ g2 :+ g3)

abbrev tip : E → E → E → E → E → E → E → E → E
tip t s f1 f2 f3 g1 g2 g3 = (t :* s) :* twelve f1 (between t f1 f2) (between s f1 f3) g1 (between t g1 g2) (between s g1 g3)

abbrev sum3 : E → E → E → E
sum3 x y z = (x :+ y) :+ z

three : {a a' b b' c c' : Fraction} → a ≡ a' → b ≡ b' → c ≡ c' → (a ⊕ b) ⊕ c ≡ (a' ⊕ b') ⊕ c'
three e f g = λ i. (e i ⊕ f i) ⊕ g i

-- ---- the sum of three weights, before the other function
abbrev Sums_before : Weighed → Weighed → Weighed → Type 0
Sums_before a b c = Form.wet_form fractions (before a.0 ((a.1 ⊕ a.2) ⊕ a.3) a.4) (before b.0 ((b.1 ⊕ b.2) ⊕ b.3) b.4) (before c.0 ((c.1 ⊕ c.2) ⊕ c.3) c.4)
    ≡ (Form.wet_form fractions (before a.0 a.1 a.4) (before b.0 b.1 b.4) (before c.0 c.1 c.4) ⊕ Form.wet_form fractions (before a.0 a.2 a.4) (before b.0 b.2 b.4) (before c.0 c.2 c.4)) ⊕ Form.wet_form fractions (before a.0 a.3 a.4) (before b.0 b.3 b.4) (before c.0 c.3 c.4)

roll_before : (a b c : Weighed) → Sums_before b c a → Sums_before a b c
roll_before a b c h = Form.roll fractions (before a.0 ((a.1 ⊕ a.2) ⊕ a.3) a.4) (before b.0 ((b.1 ⊕ b.2) ⊕ b.3) b.4) (before c.0 ((c.1 ⊕ c.2) ⊕ c.3) c.4) ∙ h ∙ sym (three (Form.roll fractions (before a.0 a.1 a.4) (before b.0 b.1 b.4) (before c.0 c.1 c.4)) (Form.roll fractions (before a.0 a.2 a.4) (before b.0 b.2 b.4) (before c.0 c.2 c.4)) (Form.roll fractions (before a.0 a.3 a.4) (before b.0 b.3 b.4) (before c.0 c.3 c.4)))

wet_before : (a b c : Weighed) → over a.0 ≡ true → over b.0 ≡ true → over c.0 ≡ true → Sums_before a b c
wet_before a b c e f g = Form.form_all_over fractions (before a.0 ((a.1 ⊕ a.2) ⊕ a.3) a.4) (before b.0 ((b.1 ⊕ b.2) ⊕ b.3) b.4) (before c.0 ((c.1 ⊕ c.2) ⊕ c.3) c.4) e f g
    ∙ ring fraction_ring (nought ∷ nought ∷ a.1 ∷ b.1 ∷ c.1 ∷ a.2 ∷ b.2 ∷ c.2 ∷ a.3 ∷ b.3 ∷ c.3 ∷ a.4 ∷ b.4 ∷ c.4 ∷ []) (twelve (sum3 (var 2) (var 5) (var 8)) (sum3 (var 3) (var 6) (var 9)) (sum3 (var 4) (var 7) (var 10)) (var 11) (var 12) (var 13)) (sum3 (twelve (var 2) (var 3) (var 4) (var 11) (var 12) (var 13)) (twelve (var 5) (var 6) (var 7) (var 11) (var 12) (var 13)) (twelve (var 8) (var 9) (var 10) (var 11) (var 12) (var 13))) refl
    ∙ sym (three (Form.form_all_over fractions (before a.0 a.1 a.4) (before b.0 b.1 b.4) (before c.0 c.1 c.4) e f g) (Form.form_all_over fractions (before a.0 a.2 a.4) (before b.0 b.2 b.4) (before c.0 c.2 c.4) e f g) (Form.form_all_over fractions (before a.0 a.3 a.4) (before b.0 b.3 b.4) (before c.0 c.3 c.4) e f g))

dry_before : (a b c : Weighed) → over a.0 ≡ false → over b.0 ≡ false → over c.0 ≡ false → Sums_before a b c
dry_before a b c e f g = Form.form_none_over fractions (before a.0 ((a.1 ⊕ a.2) ⊕ a.3) a.4) (before b.0 ((b.1 ⊕ b.2) ⊕ b.3) b.4) (before c.0 ((c.1 ⊕ c.2) ⊕ c.3) c.4) e f g
    ∙ ring fraction_ring [] (number 0) (sum3 (number 0) (number 0) (number 0)) refl
    ∙ sym (three (Form.form_none_over fractions (before a.0 a.1 a.4) (before b.0 b.1 b.4) (before c.0 c.1 c.4) e f g) (Form.form_none_over fractions (before a.0 a.2 a.4) (before b.0 b.2 b.4) (before c.0 c.2 c.4) e f g) (Form.form_none_over fractions (before a.0 a.3 a.4) (before b.0 b.3 b.4) (before c.0 c.3 c.4) e f g))

one_before : (a b c : Weighed) → over a.0 ≡ true → over b.0 ≡ false → over c.0 ≡ false → Sums_before a b c
one_before a b c e f g = Form.form_one_over fractions t s (before a.0 ((a.1 ⊕ a.2) ⊕ a.3) a.4) (before b.0 ((b.1 ⊕ b.2) ⊕ b.3) b.4) (before c.0 ((c.1 ⊕ c.2) ⊕ c.3) c.4) e f g i j
    ∙ ring fraction_ring (t ∷ s ∷ a.1 ∷ b.1 ∷ c.1 ∷ a.2 ∷ b.2 ∷ c.2 ∷ a.3 ∷ b.3 ∷ c.3 ∷ a.4 ∷ b.4 ∷ c.4 ∷ []) (tip (var 0) (var 1) (sum3 (var 2) (var 5) (var 8)) (sum3 (var 3) (var 6) (var 9)) (sum3 (var 4) (var 7) (var 10)) (var 11) (var 12) (var 13)) (sum3 (tip (var 0) (var 1) (var 2) (var 3) (var 4) (var 11) (var 12) (var 13)) (tip (var 0) (var 1) (var 5) (var 6) (var 7) (var 11) (var 12) (var 13)) (tip (var 0) (var 1) (var 8) (var 9) (var 10) (var 11) (var 12) (var 13))) refl
    ∙ sym (three (Form.form_one_over fractions t s (before a.0 a.1 a.4) (before b.0 b.1 b.4) (before c.0 c.1 c.4) e f g i j) (Form.form_one_over fractions t s (before a.0 a.2 a.4) (before b.0 b.2 b.4) (before c.0 c.2 c.4) e f g i j) (Form.form_one_over fractions t s (before a.0 a.3 a.4) (before b.0 b.3 b.4) (before c.0 c.3 c.4) e f g i j))
  where
    t : Fraction
    t = a.0 ⊗ inverse (a.0 ⊖ b.0)

    s : Fraction
    s = a.0 ⊗ inverse (a.0 ⊖ c.0)

    i : Form.IsPart fractions a.0 b.0 t
    i = Form.is_part fractions a.0 b.0 (Form.differ_over fractions a.0 b.0 e f)

    j : Form.IsPart fractions a.0 c.0 s
    j = Form.is_part fractions a.0 c.0 (Form.differ_over fractions a.0 c.0 e g)

two_before : (a b c : Weighed) → over a.0 ≡ false → over b.0 ≡ true → over c.0 ≡ true → Sums_before a b c
two_before a b c e f g = Form.form_two_over fractions t s (before a.0 ((a.1 ⊕ a.2) ⊕ a.3) a.4) (before b.0 ((b.1 ⊕ b.2) ⊕ b.3) b.4) (before c.0 ((c.1 ⊕ c.2) ⊕ c.3) c.4) e f g i j
    ∙ ring fraction_ring (t ∷ s ∷ a.1 ∷ b.1 ∷ c.1 ∷ a.2 ∷ b.2 ∷ c.2 ∷ a.3 ∷ b.3 ∷ c.3 ∷ a.4 ∷ b.4 ∷ c.4 ∷ []) ((twelve (sum3 (var 2) (var 5) (var 8)) (sum3 (var 3) (var 6) (var 9)) (sum3 (var 4) (var 7) (var 10)) (var 11) (var 12) (var 13)) :- (tip (var 0) (var 1) (sum3 (var 2) (var 5) (var 8)) (sum3 (var 3) (var 6) (var 9)) (sum3 (var 4) (var 7) (var 10)) (var 11) (var 12) (var 13))) (sum3 ((twelve (var 2) (var 3) (var 4) (var 11) (var 12) (var 13)) :- (tip (var 0) (var 1) (var 2) (var 3) (var 4) (var 11) (var 12) (var 13))) ((twelve (var 5) (var 6) (var 7) (var 11) (var 12) (var 13)) :- (tip (var 0) (var 1) (var 5) (var 6) (var 7) (var 11) (var 12) (var 13))) ((twelve (var 8) (var 9) (var 10) (var 11) (var 12) (var 13)) :- (tip (var 0) (var 1) (var 8) (var 9) (var 10) (var 11) (var 12) (var 13)))) refl
    ∙ sym (three (Form.form_two_over fractions t s (before a.0 a.1 a.4) (before b.0 b.1 b.4) (before c.0 c.1 c.4) e f g i j) (Form.form_two_over fractions t s (before a.0 a.2 a.4) (before b.0 b.2 b.4) (before c.0 c.2 c.4) e f g i j) (Form.form_two_over fractions t s (before a.0 a.3 a.4) (before b.0 b.3 b.4) (before c.0 c.3 c.4) e f g i j))
  where
    t : Fraction
    t = a.0 ⊗ inverse (a.0 ⊖ b.0)

    s : Fraction
    s = a.0 ⊗ inverse (a.0 ⊖ c.0)

    i : Form.IsPart fractions a.0 b.0 t
    i = Form.is_part fractions a.0 b.0 (Form.differ_under fractions a.0 b.0 e f)

    j : Form.IsPart fractions a.0 c.0 s
    j = Form.is_part fractions a.0 c.0 (Form.differ_under fractions a.0 c.0 e g)

sums_before : (a b c : Weighed) → Sums_before a b c
sums_before a b c = go (over a.0) (over b.0) (over c.0) refl refl refl
  where
    go : (u v w : Bool) → over a.0 ≡ u → over b.0 ≡ v → over c.0 ≡ w → Sums_before a b c
    go true true true e f g = wet_before a b c e f g
    go false false false e f g = dry_before a b c e f g
    go true false false e f g = one_before a b c e f g
    go false true false e f g = roll_before a b c (one_before b c a f g e)
    go false false true e f g = roll_before a b c (roll_before b c a (one_before c a b g e f))
    go false true true e f g = two_before a b c e f g
    go true false true e f g = roll_before a b c (two_before b c a f g e)
    go true true false e f g = roll_before a b c (roll_before b c a (two_before c a b g e f))

-- ---- the two functions change places
abbrev exchanged : Form.Corner fractions → Form.Corner fractions
exchanged a = (a.0, a.2, a.1)

abbrev Exchanges : (a b c : Form.Corner fractions) → Type 0
Exchanges a b c = Form.wet_form fractions a b c ≡ Form.wet_form fractions (exchanged a) (exchanged b) (exchanged c)

abbrev values : Fraction → Fraction → (a b c : Form.Corner fractions) → List Fraction
values t s a b c = t ∷ s ∷ a.1 ∷ b.1 ∷ c.1 ∷ a.2 ∷ b.2 ∷ c.2 ∷ []

abbrev twelve_of : E
twelve_of = twelve (var 2) (var 3) (var 4) (var 5) (var 6) (var 7)

abbrev twelve_exchanged : E
twelve_exchanged = twelve (var 5) (var 6) (var 7) (var 2) (var 3) (var 4)

abbrev tip_of : E
tip_of = tip (var 0) (var 1) (var 2) (var 3) (var 4) (var 5) (var 6) (var 7)

abbrev tip_exchanged : E
tip_exchanged = tip (var 0) (var 1) (var 5) (var 6) (var 7) (var 2) (var 3) (var 4)

exchanges : (a b c : Form.Corner fractions) → Exchanges a b c
exchanges a b c = go (over a.0) (over b.0) (over c.0) refl refl refl
  where
    roll : (a b c : Form.Corner fractions) → Exchanges b c a → Exchanges a b c
    roll a b c h = Form.roll fractions a b c ∙ h ∙ sym (Form.roll fractions (exchanged a) (exchanged b) (exchanged c))

    one : (a b c : Form.Corner fractions) → over a.0 ≡ true → over b.0 ≡ false → over c.0 ≡ false → Exchanges a b c
    one a b c e f g =
        let t = a.0 ⊗ inverse (a.0 ⊖ b.0) in
        let s = a.0 ⊗ inverse (a.0 ⊖ c.0) in
        let i = Form.is_part fractions a.0 b.0 (Form.differ_over fractions a.0 b.0 e f) in
        let j = Form.is_part fractions a.0 c.0 (Form.differ_over fractions a.0 c.0 e g) in
        Form.form_one_over fractions t s a b c e f g i j ∙ ring fraction_ring (values t s a b c) tip_of tip_exchanged refl
        ∙ sym (Form.form_one_over fractions t s (exchanged a) (exchanged b) (exchanged c) e f g i j)

    two : (a b c : Form.Corner fractions) → over a.0 ≡ false → over b.0 ≡ true → over c.0 ≡ true → Exchanges a b c
    two a b c e f g =
        let t = a.0 ⊗ inverse (a.0 ⊖ b.0) in
        let s = a.0 ⊗ inverse (a.0 ⊖ c.0) in
        let i = Form.is_part fractions a.0 b.0 (Form.differ_under fractions a.0 b.0 e f) in
        let j = Form.is_part fractions a.0 c.0 (Form.differ_under fractions a.0 c.0 e g) in
        Form.form_two_over fractions t s a b c e f g i j ∙ ring fraction_ring (values t s a b c) (twelve_of :- tip_of) (twelve_exchanged :- tip_exchanged) refl
        ∙ sym (Form.form_two_over fractions t s (exchanged a) (exchanged b) (exchanged c) e f g i j)

    go : (u v w : Bool) → over a.0 ≡ u → over b.0 ≡ v → over c.0 ≡ w → Exchanges a b c
    go true true true e f g = Form.form_all_over fractions a b c e f g ∙ ring fraction_ring (values nought nought a b c) twelve_of twelve_exchanged refl
        ∙ sym (Form.form_all_over fractions (exchanged a) (exchanged b) (exchanged c) e f g)
    go false false false e f g = Form.form_none_over fractions a b c e f g ∙ sym (Form.form_none_over fractions (exchanged a) (exchanged b) (exchanged c) e f g)
    go true false false e f g = one a b c e f g
    go false true false e f g = roll a b c (one b c a f g e)
    go false false true e f g = roll a b c (roll b c a (one c a b g e f))
    go false true true e f g = two a b c e f g
    go true false true e f g = roll a b c (two b c a f g e)
    go true true false e f g = roll a b c (roll b c a (two c a b g e f))

-- ---- the means
-- three kinds of which the weights are the coordinates, and the kind of which the weight is one
one_first : one ≡ (one ⊕ nought) ⊕ nought
one_first = ring fraction_ring [] unit (sum3 unit (number 0) (number 0)) refl

one_second : one ≡ (nought ⊕ one) ⊕ nought
one_second = ring fraction_ring [] unit (sum3 (number 0) unit (number 0)) refl

one_third : one ≡ (nought ⊕ nought) ⊕ one
one_third = ring fraction_ring [] unit (sum3 (number 0) (number 0) unit) refl

from_forms : (m a b c : Fraction) {f f1 f2 f3 : Fraction} → m ⊗ N12 ≡ f → a ⊗ N12 ≡ f1 → b ⊗ N12 ≡ f2 → c ⊗ N12 ≡ f3 → f ≡ (f1 ⊕ f2) ⊕ f3 → m ≡ (a ⊕ b) ⊕ c
from_forms m a b c {f} {f1} {f2} {f3} e h k l s = by_twelve m ((a ⊕ b) ⊕ c) (ring_from fraction_ring (m ∷ a ∷ b ∷ c ∷ N12 ∷ f ∷ f1 ∷ f2 ∷ f3 ∷ [])
    ((unit, var 0 :* var 4, var 5) ∷ (unit, var 5, sum3 (var 6) (var 7) (var 8)) ∷ (unit, var 6, var 1 :* var 4) ∷ (unit, var 7, var 2 :* var 4) ∷ (unit, var 8, var 3 :* var 4) ∷ [])
    (given e (given s (given (sym h) (given (sym k) (given (sym l) none))))) (var 0 :* var 4) (sum3 (var 1) (var 2) (var 3) :* var 4) refl)

module _ (h k l : Fraction) where
  -- with the coordinates as weights, before the other function and behind it
  sum_before : (g1 g2 g3 : Fraction) → Form.wet_form fractions (h, one, g1) (k, one, g2) (l, one, g3)
      ≡ (Form.wet_form fractions (h, one, g1) (k, nought, g2) (l, nought, g3) ⊕ Form.wet_form fractions (h, nought, g1) (k, one, g2) (l, nought, g3)) ⊕ Form.wet_form fractions (h, nought, g1) (k, nought, g2) (l, one, g3)
  sum_before g1 g2 g3 = (λ i. Form.wet_form fractions (h, one_first i, g1) (k, one_second i, g2) (l, one_third i, g3)) ∙ sums_before (h, one, nought, nought, g1) (k, nought, one, nought, g2) (l, nought, nought, one, g3)

  sum_behind : (g1 g2 g3 : Fraction) → Form.wet_form fractions (h, g1, one) (k, g2, one) (l, g3, one)
      ≡ (Form.wet_form fractions (h, g1, one) (k, g2, nought) (l, g3, nought) ⊕ Form.wet_form fractions (h, g1, nought) (k, g2, one) (l, g3, nought)) ⊕ Form.wet_form fractions (h, g1, nought) (k, g2, nought) (l, g3, one)
  sum_behind g1 g2 g3 = exchanges (h, g1, one) (k, g2, one) (l, g3, one) ∙ sum_before g1 g2 g3
      ∙ sym (three (exchanges (h, g1, one) (k, g2, nought) (l, g3, nought)) (exchanges (h, g1, nought) (k, g2, one) (l, g3, nought)) (exchanges (h, g1, nought) (k, g2, nought) (l, g3, one)))

  pub depth_is_sum : wet_depth h k l ≡ (weighted_depth 0 h k l ⊕ weighted_depth 1 h k l) ⊕ weighted_depth 2 h k l
  depth_is_sum = from_forms (wet_depth h k l) (weighted_depth 0 h k l) (weighted_depth 1 h k l) (weighted_depth 2 h k l)
      (kind_form depth_kind h k l) (kind_form (weighted_kind 0) h k l) (kind_form (weighted_kind 1) h k l) (kind_form (weighted_kind 2) h k l) (sum_before h k l)

  pub share_is_sum : wet_share h k l ≡ (wet_corner 0 h k l ⊕ wet_corner 1 h k l) ⊕ wet_corner 2 h k l
  share_is_sum = from_forms (wet_share h k l) (wet_corner 0 h k l) (wet_corner 1 h k l) (wet_corner 2 h k l)
      (kind_form share_kind h k l) (kind_form (corner_kind 0) h k l) (kind_form (corner_kind 1) h k l) (kind_form (corner_kind 2) h k l) (sum_behind one one one)

  corner0_is_sum : wet_corner 0 h k l ≡ (wet_pair 0 0 h k l ⊕ wet_pair 1 0 h k l) ⊕ wet_pair 2 0 h k l
  corner0_is_sum = from_forms (wet_corner 0 h k l) (wet_pair 0 0 h k l) (wet_pair 1 0 h k l) (wet_pair 2 0 h k l)
      (kind_form (corner_kind 0) h k l) (kind_form (pair_kind 0 0) h k l) (kind_form (pair_kind 1 0) h k l) (kind_form (pair_kind 2 0) h k l) (sum_before one nought nought)

  corner1_is_sum : wet_corner 1 h k l ≡ (wet_pair 0 1 h k l ⊕ wet_pair 1 1 h k l) ⊕ wet_pair 2 1 h k l
  corner1_is_sum = from_forms (wet_corner 1 h k l) (wet_pair 0 1 h k l) (wet_pair 1 1 h k l) (wet_pair 2 1 h k l)
      (kind_form (corner_kind 1) h k l) (kind_form (pair_kind 0 1) h k l) (kind_form (pair_kind 1 1) h k l) (kind_form (pair_kind 2 1) h k l) (sum_before nought one nought)

  corner2_is_sum : wet_corner 2 h k l ≡ (wet_pair 0 2 h k l ⊕ wet_pair 1 2 h k l) ⊕ wet_pair 2 2 h k l
  corner2_is_sum = from_forms (wet_corner 2 h k l) (wet_pair 0 2 h k l) (wet_pair 1 2 h k l) (wet_pair 2 2 h k l)
      (kind_form (corner_kind 2) h k l) (kind_form (pair_kind 0 2) h k l) (kind_form (pair_kind 1 2) h k l) (kind_form (pair_kind 2 2) h k l) (sum_before nought nought one)

  -- the products in the order that the code has
  pub share_is_sum_of_pairs : wet_share h k l ≡ ((wet_pair 0 0 h k l ⊕ wet_pair 1 1 h k l) ⊕ wet_pair 2 2 h k l) ⊕ ((wet_pair 0 1 h k l ⊕ wet_pair 0 2 h k l) ⊕ wet_pair 1 2 h k l) ⊗ (one ⊕ one)
  share_is_sum_of_pairs = ring_from fraction_ring (wet_share h k l ∷ wet_corner 0 h k l ∷ wet_corner 1 h k l ∷ wet_corner 2 h k l ∷ wet_pair 0 0 h k l ∷ wet_pair 0 1 h k l ∷ wet_pair 0 2 h k l ∷ wet_pair 1 0 h k l ∷ wet_pair 1 1 h k l ∷ wet_pair 1 2 h k l ∷ wet_pair 2 0 h k l ∷ wet_pair 2 1 h k l ∷ wet_pair 2 2 h k l ∷ [])
      ((unit, var 0, sum3 (var 1) (var 2) (var 3)) ∷ (unit, var 1, sum3 (var 4) (var 7) (var 10)) ∷ (unit, var 2, sum3 (var 5) (var 8) (var 11)) ∷ (unit, var 3, sum3 (var 6) (var 9) (var 12)) ∷ (unit, var 7, var 5) ∷ (unit, var 10, var 6) ∷ (unit, var 11, var 9) ∷ [])
      (given share_is_sum (given corner0_is_sum (given corner1_is_sum (given corner2_is_sum (given (pair_swap 1 0 h k l) (given (pair_swap 2 0 h k l) (given (pair_swap 2 1 h k l) none)))))))
      (var 0) (sum3 (var 4) (var 8) (var 12) :+ sum3 (var 5) (var 6) (var 9) :* (unit :+ unit)) refl
