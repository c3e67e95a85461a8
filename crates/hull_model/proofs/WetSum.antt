-- The sum over the kept pieces of a triangle, of share times mean, is the triangle's share times the closed form: for the mean of the
-- product of two functions that are linear between points.
use Prim.Native.Nat.{ℕ, suc}
use native.Mathlib.Omega.{arith}
use mathlib.Core.Path.{◌≡◌, refl, sym, ◌∙◌, ap}
use mathlib.Core.List.{List, [], ◌∷◌, ◌++◌}
use mathlib.Core.Logic.{◌⊎◌, inl, inr}
use mathlib.Core.Bool.{Bool, true, false}
use lib.IntN.{pos}
use Rattle.std.specs.Prelude.{filter, cond}
use Rattle.std.proofs.lemmas.List.Elements.{filter-append}
use Rattle.exact_algebra.specs.Expression.{var, unit, number, ◌:+◌, ◌:-◌, ◌:*◌, opposite}
use Rattle.exact_algebra.specs.OrderedField.{Sign}
use Rattle.exact_algebra.proofs.Ring.{ring, ring_from, none, given}
use Rattle.exact_algebra.proofs.Fraction.{Fraction, nought, one, ◌⊕◌, ◌⊗◌, ◌⊖◌, sign, fractions, fraction_ring}
use Rattle.exact_algebra.proofs.Whole.{whole}
use Rattle.exact_algebra.proofs.Order as Order
use Rattle.exact_algebra.proofs.WetForm as Form
use Rattle.exact_algebra.proofs.DividedDifference as Over
use Rattle.hull_model.specs.Fractions.{interpolated, sum_over}
use Rattle.hull_model.specs.TriangleCut.{Triangle, triangle, Split, uncut, parts, are_opposite, is_kept_by, side, crossing, split_by, split, pieces, is_kept, kept_pieces}
use Rattle.hull_model.specs.WetMean.{Place, places, with_depths, share_of, wet_mean}
use Rattle.hull_model.proofs.TriangleCut.{IsLinear, pieces_uncut}
use Rattle.hull_model.specs.TriangleLaws.{wet_part, between}
use Rattle.hull_model.proofs.CutInduction.{NoneBelow, NoneAbove, one_side, inside, crossing_parameter, cut_induction}
use Rattle.hull_model.proofs.ShareSplits.{sum_over-append, sum_over-one, sum_over-none, share_first, share_middle, share_last, share-whole}

pub linear : IsLinear places
linear t p q = refl

-- a function that is linear between points
abbrev pub IsLinearOn : (Place → Fraction) → Type 0
IsLinearOn f = (t : Fraction) (p q : Place) → f (between t p q) ≡ interpolated t (f p) (f q)

abbrev pub N12 : Fraction
N12 = whole (pos 12)

-- ---- which triangles are kept
pub kept_none_below : (p q r : Sign) → is_kept_by p q r ≡ true → NoneBelow p q r
kept_none_below p q r e = (grind arith, grind arith, grind arith)

not_kept : (p q r : Sign) → is_kept_by p q r ≡ false → NoneBelow p q r → NoneAbove p q r
not_kept p q r e n = (grind arith, grind arith, grind arith)

pub not_kept_either : (p q r : Sign) → is_kept_by p q r ≡ false → NoneBelow p q r ⊎ NoneAbove p q r → NoneAbove p q r
not_kept_either p q r e (inl n) = not_kept p q r e n
not_kept_either p q r e (inr n) = n

pub not_all_level : (p q r : Sign) → is_kept_by p q r ≡ true → Over.is_above p ≡ false → Over.is_above q ≡ false → Over.is_above r ≡ false → ⊥
not_all_level p q r k e f g = grind arith

-- the two functions at a point, with its depth
module _ (f g : Place → Fraction) where
  abbrev pub valued : Place → Form.Corner fractions
  valued p = (p.depth, f p, g p)

  abbrev pub form_at : Triangle Place → Fraction
  form_at t = Form.wet_form fractions (valued t.a) (valued t.b) (valued t.c)

  abbrev pub twelve_at : Triangle Place → Fraction
  twelve_at t = Form.twelve fractions (valued t.a) (valued t.b) (valued t.c)

  pub form_kept : (a b c : Place) → is_kept places (triangle a b c) ≡ true → form_at (triangle a b c) ≡ twelve_at (triangle a b c)
  form_kept a b c k = Form.form_wet fractions (valued a) (valued b) (valued c) n.0 n.1 n.2 (not_all_level (sign a.depth) (sign b.depth) (sign c.depth) k)
    where
      n : NoneBelow (sign a.depth) (sign b.depth) (sign c.depth)
      n = kept_none_below (sign a.depth) (sign b.depth) (sign c.depth) k

  pub form_not_above : (a b c : Place) → NoneAbove (sign a.depth) (sign b.depth) (sign c.depth) → form_at (triangle a b c) ≡ nought
  form_not_above a b c n = Form.form_dry fractions (valued a) (valued b) (valued c) n.0 n.1 n.2

-- ---- the sum over the pieces
module _ (mean : Triangle Place → Fraction) (f g : Place → Fraction) (f_linear : IsLinearOn f) (g_linear : IsLinearOn g) (is_twelfth : (t : Triangle Place) → mean t ⊗ N12 ≡ twelve_at f g t) where
  abbrev form : Triangle Place → Fraction
  form t = form_at f g t

  abbrev at : Place → Form.Corner fractions
  at p = valued f g p

  valued-between : (t : Fraction) (p q : Place) → Form.point fractions t (at p) (at q) ≡ at (between t p q)
  valued-between t p q = λ i. (interpolated t p.depth q.depth, sym (f_linear t p q) i, sym (g_linear t p q) i)

  pub form_first : (t : Fraction) (a b c : Place) → form (triangle a b c) ≡ t ⊗ form (triangle a (between t a b) c) ⊕ (one ⊖ t) ⊗ form (triangle (between t a b) b c)
  form_first t a b c = Form.split_first fractions t (at a) (at b) (at c) ∙ ap (λ (x : Form.Corner fractions). t ⊗ Form.wet_form fractions (at a) x (at c) ⊕ (one ⊖ t) ⊗ Form.wet_form fractions x (at b) (at c)) (valued-between t a b)

  pub form_middle : (t : Fraction) (a b c : Place) → form (triangle a b c) ≡ t ⊗ form (triangle a b (between t a c)) ⊕ (one ⊖ t) ⊗ form (triangle (between t a c) b c)
  form_middle t a b c = Form.split_middle fractions t (at a) (at b) (at c) ∙ ap (λ (x : Form.Corner fractions). t ⊗ Form.wet_form fractions (at a) (at b) x ⊕ (one ⊖ t) ⊗ Form.wet_form fractions x (at b) (at c)) (valued-between t a c)

  pub form_last : (t : Fraction) (a b c : Place) → form (triangle a b c) ≡ t ⊗ form (triangle a b (between t b c)) ⊕ (one ⊖ t) ⊗ form (triangle a (between t b c) c)
  form_last t a b c = Form.split_last fractions t (at a) (at b) (at c) ∙ ap (λ (x : Form.Corner fractions). t ⊗ Form.wet_form fractions (at a) (at b) x ⊕ (one ⊖ t) ⊗ Form.wet_form fractions (at a) x (at c)) (valued-between t b c)

  abbrev term : Triangle Place → Fraction
  term t = share_of t ⊗ mean t

  abbrev kept : ℕ → Triangle Place → List (Triangle Place)
  kept k t = filter (is_kept places) (pieces places k t)

  unfoldable Sums : ℕ → Place → Place → Place → Type 0
  Sums k a b c = sum_over term (kept k (triangle a b c)) ⊗ N12 ≡ share_of (triangle a b c) ⊗ form (triangle a b c)

  kept_parts : (k : ℕ) (t p q : Triangle Place) → split places t ≡ parts p q → kept (suc k) t ≡ kept k p ++ kept k q
  unfolding pieces
  kept_parts k t p q e = ap (λ (u : Split Place). filter (is_kept places) (elim u [ uncut ↦ t ∷ [] | parts p q ↦ pieces places k p ++ pieces places k q ])) e
      ∙ filter-append (is_kept places) (pieces places k p) (pieces places k q)

  split_at : (a b c : Place) (u v w : Bool) → are_opposite (side places a) (side places b) ≡ u → are_opposite (side places a) (side places c) ≡ v → are_opposite (side places b) (side places c) ≡ w
      → split places (triangle a b c) ≡ split_by places u v w a b c
  split_at a b c u v w e f g = λ i. split_by places (e i) (f i) (g i) a b c

  settled : (k : ℕ) (a b c : Place) → are_opposite (side places a) (side places b) ≡ false → are_opposite (side places a) (side places c) ≡ false → are_opposite (side places b) (side places c) ≡ false → Sums k a b c
  unfolding Sums
  settled k a b c e h l = ap (λ ts. sum_over term ts ⊗ N12) (ap (filter (is_kept places)) (pieces_uncut places k T (split_at a b c false false false e h l))) ∙ go (is_kept places T) refl
    where
      T : Triangle Place
      T = triangle a b c

      go : (b : Bool) → is_kept places T ≡ b → sum_over term (cond b (T ∷ []) []) ⊗ N12 ≡ share_of T ⊗ form T
      go true k = ring_from fraction_ring (sum_over term (T ∷ []) ∷ share_of T ∷ mean T ∷ N12 ∷ twelve_at f g T ∷ form T ∷ [])
          ((var 3, var 0, var 1 :* var 2) ∷ (var 1, var 2 :* var 3, var 4) ∷ (opposite (var 1), var 5, var 4) ∷ [])
          (given (sum_over-one term T) (given (is_twelfth T) (given (form_kept f g a b c k) none))) (var 0 :* var 3) (var 1 :* var 5) refl
      go false k = ring_from fraction_ring (sum_over term [] ∷ share_of T ∷ N12 ∷ form T ∷ [])
          ((var 2, var 0, number 0) ∷ (opposite (var 1), var 3, number 0) ∷ [])
          (given (sum_over-none term) (given (form_not_above f g a b c (not_kept_either (sign a.depth) (sign b.depth) (sign c.depth) k (one_side (sign a.depth) (sign b.depth) (sign c.depth) e h l))) none))
          (var 0 :* var 2) (var 1 :* var 3) refl

  -- both parts of a split: p at the start of the edge, with the part t, and q behind it
  both : (k : ℕ) (t : Fraction) (w p q : Triangle Place) → split places w ≡ parts q p → form w ≡ t ⊗ form p ⊕ (one ⊖ t) ⊗ form q
      → (share_of p ≡ t ⊗ share_of w) × (share_of q ≡ (one ⊖ t) ⊗ share_of w) → Sums k q.a q.b q.c → Sums k p.a p.b p.c → Sums (suc k) w.a w.b w.c
  unfolding Sums
  both k t w p q e m s l r = ring_from fraction_ring (sum_over term (kept (suc k) w) ∷ sum_over term (kept k q) ∷ sum_over term (kept k p) ∷ N12 ∷ share_of w ∷ share_of p ∷ share_of q ∷ form w ∷ form p ∷ form q ∷ t ∷ [])
      ((var 3, var 0, var 1 :+ var 2) ∷ (unit, var 1 :* var 3, var 6 :* var 9) ∷ (unit, var 2 :* var 3, var 5 :* var 8) ∷ (opposite (var 4), var 7, var 10 :* var 8 :+ (unit :- var 10) :* var 9) ∷ (var 8, var 5, var 10 :* var 4) ∷ (var 9, var 6, (unit :- var 10) :* var 4) ∷ [])
      (given (ap (sum_over term) (kept_parts k w q p e) ∙ sum_over-append term (kept k q) (kept k p)) (given l (given r (given m (given s.0 (given s.1 none))))))
      (var 0 :* var 3) (var 4 :* var 7) refl

  all_sums : (a b c : Place) → Sums 3 a b c
  unfolding crossing
  all_sums = cut_induction places linear Sums settled
      (λ k a b c e l r. let t = inside places linear a b e in
      both k (crossing_parameter places linear a b) (triangle a b c) (triangle a (crossing places a b) c) (triangle (crossing places a b) b c) (split_at a b c true _ _ e refl refl) (form_first (crossing_parameter places linear a b) a b c) (share_first (crossing_parameter places linear a b) a b c (Order.nonnegative_positive fractions t.0) (Order.nonnegative_positive fractions t.1)) l r)
      (λ k a b c e h l r. let t = inside places linear a c h in
      both k (crossing_parameter places linear a c) (triangle a b c) (triangle a b (crossing places a c)) (triangle (crossing places a c) b c) (split_at a b c false true _ e h refl) (form_middle (crossing_parameter places linear a c) a b c) (share_middle (crossing_parameter places linear a c) a b c (Order.nonnegative_positive fractions t.0) (Order.nonnegative_positive fractions t.1)) l r)
      (λ k a b c e h m l r. let t = inside places linear b c m in
      both k (crossing_parameter places linear b c) (triangle a b c) (triangle a b (crossing places b c)) (triangle a (crossing places b c) c) (split_at a b c false false true e h m) (form_last (crossing_parameter places linear b c) a b c) (share_last (crossing_parameter places linear b c) a b c (Order.nonnegative_positive fractions t.0) (Order.nonnegative_positive fractions t.1)) l r)

  pub wet_part-form : (t : Triangle Place) → wet_part mean t ⊗ N12 ≡ share_of t ⊗ form t
  unfolding wet_part kept_pieces Sums
  wet_part-form t = all_sums t.a t.b t.c

  pub wet_mean-part : (h k l : Fraction) → wet_mean mean h k l ≡ wet_part mean (with_depths h k l)
  unfolding wet_mean wet_part
  wet_mean-part h k l = refl

  pub wet_mean-form : (h k l : Fraction) → wet_mean mean h k l ⊗ N12 ≡ form (with_depths h k l)
  wet_mean-form h k l = ap (λ x. x ⊗ N12) (wet_mean-part h k l) ∙ wet_part-form (with_depths h k l) ∙ ap (λ s. s ⊗ form (with_depths h k l)) (share-whole h k l)
      ∙ ring fraction_ring (form (with_depths h k l) ∷ []) (unit :* var 0) (var 0) refl
