-- Means over the wet part rise with the depths of the corners: of the product of a coordinate or 1 with another, or with the depth.
use Prim.Native.Nat.{ℕ, zero, suc}
use native.Mathlib.Omega.{arith}
use mathlib.Core.Path.{◌≡◌, refl, sym, ◌∙◌, ap}
use mathlib.Core.List.{[], ◌∷◌}
use mathlib.Core.Logic.{◌≢◌}
use mathlib.Core.Bool.{Bool, true, false}
use Rattle.exact_algebra.specs.Expression.{var, unit, number, ◌:+◌, ◌:-◌, ◌:*◌}
use Rattle.exact_algebra.specs.OrderedField.{Sign, below, level, above}
use Rattle.exact_algebra.proofs.Ring.{ring}
use Rattle.exact_algebra.proofs.Fraction.{Fraction, nought, one, ◌⊕◌, ◌⊗◌, ◌⊖◌, sign, fractions, fraction_ring, ◌≼◌}
use Rattle.exact_algebra.proofs.Whole.{positive-whole}
use Rattle.exact_algebra.proofs.Order as Order
use Rattle.exact_algebra.proofs.Order.{order_from, no_more, at_most, scaled, equal}
use Rattle.exact_algebra.proofs.WetForm as Form
use Rattle.exact_algebra.proofs.DividedDifference as Over
use Rattle.hull_model.specs.Fractions.{interpolated}
use Rattle.hull_model.specs.TriangleCut.{Triangle, triangle, Corners, is_kept_by, are_opposite, side, crossing}
use Rattle.hull_model.specs.WetMean.{Place, with_depths, product_mean, coordinate, wet_mean}
use Rattle.hull_model.proofs.TriangleCut.{IsLinear}
use Rattle.hull_model.specs.TriangleLaws.{between}
use Rattle.hull_model.proofs.CutInduction.{IsInside, one_side, inside, crossing_parameter, cut_induction}
use Rattle.hull_model.proofs.WetSum.{IsLinearOn, N12, valued, form_at, twelve_at, form_first, form_middle, form_last, wet_mean-form, kept_none_below, not_all_level, not_kept_either}
use Rattle.hull_model.proofs.TriangleLaws.{constant, constant_linear, depth_at, depth_linear, coordinate_linear, product-twelfth}

abbrev NonNegative : Fraction → Type 0
NonNegative x = sign x ≢ below

-- one point at two depths: the second is at least as deep as the first
abbrev pub Raised : Type 0
Raised = Place × Place

pub record Rises (x : Raised) : Type 0 where
  pub first : NonNegative x.0.first
  pub second : NonNegative x.0.second
  pub third : NonNegative x.0.third
  pub same_first : x.0.first ≼ x.1.first
  pub same_second : x.0.second ≼ x.1.second
  pub same_third : x.0.third ≼ x.1.third
  pub deeper : x.0.depth ≼ x.1.depth

abbrev pub between_both : Fraction → Raised → Raised → Raised
between_both t x y = (between t x.0 y.0, between t x.1 y.1)

module _ (t : Fraction) (i : IsInside t) where
  nonnegative-between : (x y : Fraction) → NonNegative x → NonNegative y → NonNegative (interpolated t x y)
  nonnegative-between x y p q = Order.nonnegative-add fractions (Order.nonnegative-mul fractions (Order.nonnegative_positive fractions i.1) p) (Order.nonnegative-mul fractions (Order.nonnegative_positive fractions i.0) q)

  ≼-between : (x y x' y' : Fraction) → x ≼ x' → y ≼ y' → interpolated t x y ≼ interpolated t x' y'
  ≼-between x y x' y' h k = order_from fractions (t ∷ x ∷ y ∷ x' ∷ y' ∷ []) ((unit :- var 0, var 1, var 3) ∷ (var 0, var 2, var 4) ∷ [])
      (scaled (Order.nonnegative_positive fractions i.1) h (scaled (Order.nonnegative_positive fractions i.0) k no_more)) ((unit :- var 0) :* var 1 :+ var 0 :* var 2) ((unit :- var 0) :* var 3 :+ var 0 :* var 4) refl

  pub rises-between : (x y : Raised) → Rises x → Rises y → Rises (between_both t x y)
  rises-between x y h k = record {
    first = nonnegative-between x.0.first y.0.first h.first k.first;
    second = nonnegative-between x.0.second y.0.second h.second k.second;
    third = nonnegative-between x.0.third y.0.third h.third k.third;
    same_first = ≼-between x.0.first y.0.first x.1.first y.1.first h.same_first k.same_first;
    same_second = ≼-between x.0.second y.0.second x.1.second y.1.second h.same_second k.same_second;
    same_third = ≼-between x.0.third y.0.third x.1.third y.1.third h.same_third k.same_third;
    deeper = ≼-between x.0.depth y.0.depth x.1.depth y.1.depth h.deeper k.deeper;
  }

  -- t of x and the rest of y
  nonnegative-mixed : (x y : Fraction) → NonNegative x → NonNegative y → NonNegative (t ⊗ x ⊕ (one ⊖ t) ⊗ y)
  nonnegative-mixed x y p q = Order.nonnegative-add fractions (Order.nonnegative-mul fractions (Order.nonnegative_positive fractions i.0) p) (Order.nonnegative-mul fractions (Order.nonnegative_positive fractions i.1) q)

  ≼-mixed : (x y x' y' : Fraction) → x ≼ x' → y ≼ y' → t ⊗ x ⊕ (one ⊖ t) ⊗ y ≼ t ⊗ x' ⊕ (one ⊖ t) ⊗ y'
  ≼-mixed x y x' y' h k = order_from fractions (t ∷ x ∷ y ∷ x' ∷ y' ∷ []) ((var 0, var 1, var 3) ∷ (unit :- var 0, var 2, var 4) ∷ [])
      (scaled (Order.nonnegative_positive fractions i.0) h (scaled (Order.nonnegative_positive fractions i.1) k no_more)) (var 0 :* var 1 :+ (unit :- var 0) :* var 2) (var 0 :* var 3 :+ (unit :- var 0) :* var 4) refl

-- a factor that is nowhere below nought and doesn't fall
pub record IsWeight (f : Place → Fraction) : Type 0 where
  pub linear : IsLinearOn f
  pub low : (x : Raised) → Rises x → NonNegative (f x.0)
  pub high : (x : Raised) → Rises x → NonNegative (f x.1)
  pub rises : (x : Raised) → Rises x → f x.0 ≼ f x.1

-- a factor that isn't below nought where the depth isn't, and doesn't fall
pub record IsRising (g : Place → Fraction) : Type 0 where
  pub linear : IsLinearOn g
  pub low : (x : Raised) → Rises x → NonNegative x.0.depth → NonNegative (g x.0)
  pub high : (x : Raised) → Rises x → NonNegative x.1.depth → NonNegative (g x.1)
  pub rises : (x : Raised) → Rises x → g x.0 ≼ g x.1

above_low : (x y : Fraction) → x ≼ y → Over.is_above (sign y) ≡ false → Over.is_above (sign x) ≡ false
above_low x y h e = go (sign x) refl
  where
    true-ne-false : true ≡ false → ⊥
    true-ne-false h = cc

    go : (s : Sign) → sign x ≡ s → Over.is_above (sign x) ≡ false
    go below f = ap Over.is_above f
    go level f = ap Over.is_above f
    go above f = absurd (true-ne-false (sym (ap Over.is_above (Order.positive_from fractions f h)) ∙ e))

-- the depth of the first and of the second
abbrev pub low_corners : Corners Raised
low_corners = record { depth = λ x. x.0.depth; between = between_both }

abbrev pub high_corners : Corners Raised
high_corners = record { depth = λ x. x.1.depth; between = between_both }

low_linear : IsLinear low_corners
low_linear t p q = refl

pub high_linear : IsLinear high_corners
high_linear t p q = refl

module _ (f g : Place → Fraction) (weight : IsWeight f) (rising : IsRising g) where
  abbrev form : Place → Place → Place → Fraction
  form a b c = form_at f g (triangle a b c)

  -- at a split the form is the mean of the forms of the parts
  at_first : (t : Fraction) (a b c : Place) → form a b c ≡ t ⊗ form a (between t a b) c ⊕ (one ⊖ t) ⊗ form (between t a b) b c
  at_first t a b c = form_first (product_mean f g) f g weight.linear rising.linear (product-twelfth f g) t a b c

  at_middle : (t : Fraction) (a b c : Place) → form a b c ≡ t ⊗ form a b (between t a c) ⊕ (one ⊖ t) ⊗ form (between t a c) b c
  at_middle t a b c = form_middle (product_mean f g) f g weight.linear rising.linear (product-twelfth f g) t a b c

  at_last : (t : Fraction) (a b c : Place) → form a b c ≡ t ⊗ form a b (between t b c) ⊕ (one ⊖ t) ⊗ form a (between t b c) c
  at_last t a b c = form_last (product_mean f g) f g weight.linear rising.linear (product-twelfth f g) t a b c

  nonnegative-sum : (x y z : Fraction) → NonNegative x → NonNegative y → NonNegative z → NonNegative (x ⊕ y ⊕ z)
  nonnegative-sum x y z p q r = Order.nonnegative-add fractions (Order.nonnegative-add fractions p q) r

  -- ---- at the greater depths the form isn't below nought
  unfoldable IsNonNegative : ℕ → Raised → Raised → Raised → Type 0
  IsNonNegative k a b c = Rises a → Rises b → Rises c → NonNegative (form a.1 b.1 c.1)

  settled_high : (k : ℕ) (a b c : Raised) → are_opposite (side high_corners a) (side high_corners b) ≡ false → are_opposite (side high_corners a) (side high_corners c) ≡ false → are_opposite (side high_corners b) (side high_corners c) ≡ false → IsNonNegative k a b c
  unfolding IsNonNegative
  settled_high k a b c e h l x y z = go (is_kept_by (sign a.1.depth) (sign b.1.depth) (sign c.1.depth)) refl
    where
      go : (u : Bool) → is_kept_by (sign a.1.depth) (sign b.1.depth) (sign c.1.depth) ≡ u → NonNegative (form a.1 b.1 c.1)
      go true k = let n = kept_none_below (sign a.1.depth) (sign b.1.depth) (sign c.1.depth) k in
          Order.nonnegative_same fractions (Form.form_wet fractions (valued f g a.1) (valued f g b.1) (valued f g c.1) n.0 n.1 n.2 (not_all_level (sign a.1.depth) (sign b.1.depth) (sign c.1.depth) k))
          (Order.nonnegative-add fractions
          (nonnegative-sum _ _ _ (Order.nonnegative-mul fractions (weight.high a x) (rising.high a x n.0)) (Order.nonnegative-mul fractions (weight.high b y) (rising.high b y n.1)) (Order.nonnegative-mul fractions (weight.high c z) (rising.high c z n.2)))
          (Order.nonnegative-mul fractions (nonnegative-sum _ _ _ (weight.high a x) (weight.high b y) (weight.high c z)) (nonnegative-sum _ _ _ (rising.high a x n.0) (rising.high b y n.1) (rising.high c z n.2))))
      go false k = let n = not_kept_either (sign a.1.depth) (sign b.1.depth) (sign c.1.depth) k (one_side (sign a.1.depth) (sign b.1.depth) (sign c.1.depth) e h l) in
          Order.nonnegative_same fractions (Form.form_dry fractions (valued f g a.1) (valued f g b.1) (valued f g c.1) n.0 n.1 n.2) (Order.nonnegative-nought fractions)

  nonnegative : (a b c : Raised) → IsNonNegative 3 a b c
  unfolding IsNonNegative crossing
  nonnegative = cut_induction high_corners high_linear IsNonNegative settled_high
      (λ k a b c e l r x y z. let t = crossing_parameter high_corners high_linear a b in let i = inside high_corners high_linear a b e in let m = rises-between t i a b x y in
      Order.nonnegative_same fractions (at_first t a.1 b.1 c.1) (nonnegative-mixed t i _ _ (r x m z) (l m y z)))
      (λ k a b c _ e l r x y z. let t = crossing_parameter high_corners high_linear a c in let i = inside high_corners high_linear a c e in let m = rises-between t i a c x z in
      Order.nonnegative_same fractions (at_middle t a.1 b.1 c.1) (nonnegative-mixed t i _ _ (r x y m) (l m y z)))
      (λ k a b c _ _ e l r x y z. let t = crossing_parameter high_corners high_linear b c in let i = inside high_corners high_linear b c e in let m = rises-between t i b c y z in
      Order.nonnegative_same fractions (at_last t a.1 b.1 c.1) (nonnegative-mixed t i _ _ (r x y m) (l x m z)))

  -- ---- the form rises
  unfoldable FormRises : ℕ → Raised → Raised → Raised → Type 0
  FormRises k a b c = Rises a → Rises b → Rises c → form a.0 b.0 c.0 ≼ form a.1 b.1 c.1

  is_nonnegative : (a b c : Raised) → Rises a → Rises b → Rises c → NonNegative (form a.1 b.1 c.1)
  unfolding IsNonNegative
  is_nonnegative = nonnegative

  by_values : {x y x' y' : Fraction} → x ≡ x' → y ≡ y' → x' ≼ y' → x ≼ y
  by_values e f h = Order.≼_trans fractions (Order.≼_same fractions e) (Order.≼_trans fractions h (Order.≼_same fractions (sym f)))

  settled_low : (k : ℕ) (a b c : Raised) → are_opposite (side low_corners a) (side low_corners b) ≡ false → are_opposite (side low_corners a) (side low_corners c) ≡ false → are_opposite (side low_corners b) (side low_corners c) ≡ false → FormRises k a b c
  unfolding FormRises
  settled_low k a b c e h l x y z = go (is_kept_by (sign a.0.depth) (sign b.0.depth) (sign c.0.depth)) refl
    where
      up : (p : Raised) → Rises p → NonNegative p.0.depth → NonNegative p.1.depth
      up p r n = Order.nonnegative_same fractions (ring fraction_ring (p.0.depth ∷ p.1.depth ∷ []) (var 1) (var 0 :+ (var 1 :- var 0)) refl) (Order.nonnegative-add fractions n r.deeper)

      product : (p : Raised) → Rises p → NonNegative p.0.depth → f p.0 ⊗ g p.0 ≼ f p.1 ⊗ g p.1
      product p r n = Order.≼-mul_both fractions (weight.low p r) (rising.high p r (up p r n)) (weight.rises p r) (rising.rises p r)

      go : (u : Bool) → is_kept_by (sign a.0.depth) (sign b.0.depth) (sign c.0.depth) ≡ u → form a.0 b.0 c.0 ≼ form a.1 b.1 c.1
      go true k = let n = kept_none_below (sign a.0.depth) (sign b.0.depth) (sign c.0.depth) k in
          by_values
          (Form.form_wet fractions (valued f g a.0) (valued f g b.0) (valued f g c.0) n.0 n.1 n.2 (not_all_level (sign a.0.depth) (sign b.0.depth) (sign c.0.depth) k))
          (Form.form_wet fractions (valued f g a.1) (valued f g b.1) (valued f g c.1) (up a x n.0) (up b y n.1) (up c z n.2)
          (λ p q r. not_all_level (sign a.0.depth) (sign b.0.depth) (sign c.0.depth) k (above_low a.0.depth a.1.depth x.deeper p) (above_low b.0.depth b.1.depth y.deeper q) (above_low c.0.depth c.1.depth z.deeper r)))
          (Order.≼-add fractions (Order.≼-add fractions (Order.≼-add fractions (product a x n.0) (product b y n.1)) (product c z n.2))
          (Order.≼-mul_both fractions (nonnegative-sum _ _ _ (weight.low a x) (weight.low b y) (weight.low c z)) (nonnegative-sum _ _ _ (rising.high a x (up a x n.0)) (rising.high b y (up b y n.1)) (rising.high c z (up c z n.2)))
          (Order.≼-add fractions (Order.≼-add fractions (weight.rises a x) (weight.rises b y)) (weight.rises c z)) (Order.≼-add fractions (Order.≼-add fractions (rising.rises a x) (rising.rises b y)) (rising.rises c z))))
      go false k = let n = not_kept_either (sign a.0.depth) (sign b.0.depth) (sign c.0.depth) k (one_side (sign a.0.depth) (sign b.0.depth) (sign c.0.depth) e h l) in
          by_values (Form.form_dry fractions (valued f g a.0) (valued f g b.0) (valued f g c.0) n.0 n.1 n.2) refl
          (Order.nonnegative_same fractions (ring fraction_ring (form a.1 b.1 c.1 ∷ []) (var 0 :- number 0) (var 0) refl) (is_nonnegative a b c x y z))

  all_rise : (a b c : Raised) → FormRises 3 a b c
  unfolding FormRises crossing
  all_rise = cut_induction low_corners low_linear FormRises settled_low
      (λ k a b c e l r x y z. let t = crossing_parameter low_corners low_linear a b in let i = inside low_corners low_linear a b e in let m = rises-between t i a b x y in
      by_values (at_first t a.0 b.0 c.0) (at_first t a.1 b.1 c.1) (≼-mixed t i _ _ _ _ (r x m z) (l m y z)))
      (λ k a b c _ e l r x y z. let t = crossing_parameter low_corners low_linear a c in let i = inside low_corners low_linear a c e in let m = rises-between t i a c x z in
      by_values (at_middle t a.0 b.0 c.0) (at_middle t a.1 b.1 c.1) (≼-mixed t i _ _ _ _ (r x y m) (l m y z)))
      (λ k a b c _ _ e l r x y z. let t = crossing_parameter low_corners low_linear b c in let i = inside low_corners low_linear b c e in let m = rises-between t i b c y z in
      by_values (at_last t a.0 b.0 c.0) (at_last t a.1 b.1 c.1) (≼-mixed t i _ _ _ _ (r x y m) (l x m z)))

  form_rises : (a b c : Raised) → Rises a → Rises b → Rises c → form a.0 b.0 c.0 ≼ form a.1 b.1 c.1
  unfolding FormRises
  form_rises = all_rise

  -- the mean at depths rises with them
  pub mean_rises : (mean : Triangle Place → Fraction) → ((t : Triangle Place) → mean t ⊗ N12 ≡ twelve_at f g t) → (h k l h' k' l' : Fraction) → h ≼ h' → k ≼ k' → l ≼ l' → wet_mean mean h k l ≼ wet_mean mean h' k' l'
  mean_rises mean is_twelfth h k l h' k' l' x y z = Order.≼_cancel fractions (positive-whole 12 (omega arith))
      (by_values (wet_mean-form mean f g weight.linear rising.linear is_twelfth h k l) (wet_mean-form mean f g weight.linear rising.linear is_twelfth h' k' l')
      (form_rises (low.a, high.a) (low.b, high.b) (low.c, high.c)
      (record { first = some; second = none_left; third = none_left; same_first = same one; same_second = same nought; same_third = same nought; deeper = x })
      (record { first = none_left; second = some; third = none_left; same_first = same nought; same_second = same one; same_third = same nought; deeper = y })
      (record { first = none_left; second = none_left; third = some; same_first = same nought; same_second = same nought; same_third = same one; deeper = z })))
    where
      low : Triangle Place
      low = with_depths h k l

      high : Triangle Place
      high = with_depths h' k' l'

      some : NonNegative one
      some = Order.nonnegative-one fractions

      none_left : NonNegative nought
      none_left = Order.nonnegative-nought fractions

      same : (q : Fraction) → q ≼ q
      same q = Order.≼_refl fractions q

  -- nor is the form at the lesser depths below nought
  pub form_nonnegative : (a b c : Raised) → Rises a → Rises b → Rises c → NonNegative (form a.0 b.0 c.0)
  form_nonnegative a b c x y z = is_nonnegative (a.0, a.0) (b.0, b.0) (c.0, c.0) (still a x) (still b y) (still c z)
    where
      still : (p : Raised) → Rises p → Rises (p.0, p.0)
      still p r = record { first = r.first; second = r.second; third = r.third; same_first = Order.≼_refl fractions p.0.first; same_second = Order.≼_refl fractions p.0.second; same_third = Order.≼_refl fractions p.0.third; deeper = Order.≼_refl fractions p.0.depth }

  -- and isn't below nought
  pub mean_nonnegative : (mean : Triangle Place → Fraction) → ((t : Triangle Place) → mean t ⊗ N12 ≡ twelve_at f g t) → (h k l : Fraction) → NonNegative (wet_mean mean h k l)
  mean_nonnegative mean is_twelfth h k l = Order.nonnegative_factor fractions (positive-whole 12 (omega arith))
      (Order.nonnegative_same fractions (wet_mean-form mean f g weight.linear rising.linear is_twelfth h k l)
      (is_nonnegative (w.a, w.a) (w.b, w.b) (w.c, w.c)
      (record { first = some; second = none_left; third = none_left; same_first = same one; same_second = same nought; same_third = same nought; deeper = same h })
      (record { first = none_left; second = some; third = none_left; same_first = same nought; same_second = same one; same_third = same nought; deeper = same k })
      (record { first = none_left; second = none_left; third = some; same_first = same nought; same_second = same nought; same_third = same one; deeper = same l })))
    where
      w : Triangle Place
      w = with_depths h k l

      some : NonNegative one
      some = Order.nonnegative-one fractions

      none_left : NonNegative nought
      none_left = Order.nonnegative-nought fractions

      same : (q : Fraction) → q ≼ q
      same q = Order.≼_refl fractions q

-- ---- the functions of the five kinds of mean
pub constant_weight : IsWeight constant
constant_weight = record { linear = constant_linear; low = λ x r. Order.nonnegative-one fractions; high = λ x r. Order.nonnegative-one fractions; rises = λ x r. Order.≼_refl fractions one }

up_from : (x y : Fraction) → NonNegative x → x ≼ y → NonNegative y
up_from x y n h = Order.nonnegative_same fractions (ring fraction_ring (x ∷ y ∷ []) (var 1) (var 0 :+ (var 1 :- var 0)) refl) (Order.nonnegative-add fractions n h)

pub coordinate_weight : (n : ℕ) → IsWeight (coordinate n)
coordinate_weight zero = record { linear = coordinate_linear zero; low = λ x r. r.first; high = λ x r. up_from x.0.first x.1.first r.first r.same_first; rises = λ x r. r.same_first }
coordinate_weight (suc zero) = record { linear = coordinate_linear (suc zero); low = λ x r. r.second; high = λ x r. up_from x.0.second x.1.second r.second r.same_second; rises = λ x r. r.same_second }
coordinate_weight (suc (suc n)) = record { linear = coordinate_linear (suc (suc n)); low = λ x r. r.third; high = λ x r. up_from x.0.third x.1.third r.third r.same_third; rises = λ x r. r.same_third }

pub rising_weight : (f : Place → Fraction) → IsWeight f → IsRising f
rising_weight f w = record { linear = w.linear; low = λ x r _. w.low x r; high = λ x r _. w.high x r; rises = w.rises }

pub depth_rising : IsRising depth_at
depth_rising = record { linear = depth_linear; low = λ x r n. n; high = λ x r n. n; rises = λ x r. r.deeper }
