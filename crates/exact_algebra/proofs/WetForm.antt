-- Twelve times the mean of the product of two linear functions over the part of a triangle where the depth is above nought: its closed
-- form, how it adds up at a split of any edge, its symmetry, and its value by the sides of the corners.
use mathlib.Core.Path.{◌≡◌, refl, sym, ◌∙◌, ap, ap₂}
use mathlib.Core.List.{List, [], ◌∷◌}
use mathlib.Core.Logic.{◌≢◌}
use mathlib.Core.Bool.{Bool, true, false}
use Rattle.exact_algebra.specs.Expression.{Expression, var, unit, number, ◌:+◌, ◌:-◌, ◌:*◌, opposite}
use Rattle.exact_algebra.specs.Ring.{CommutativeRing}
use Rattle.exact_algebra.specs.OrderedField.{OrderedField, ring_of, below, above}
use Rattle.exact_algebra.proofs.Ring.{ring, ring_from, none, given}
use Rattle.exact_algebra.proofs.DualNumbers.{LocalRing, of_field, dual, small_vanish, pairs_vanish, triples_vanish}
use Rattle.exact_algebra.proofs.DividedDifference as Difference
use Rattle.exact_algebra.proofs.DividedDifference.{is_above}

true-ne-false : true ≡ false → ⊥
true-ne-false h = cc

-- ---- numbers x + p·ε + q·δ + r·ε·δ among the expressions
abbrev Dual : Type 0
Dual = (Expression × Expression) × (Expression × Expression)

abbrev add1 : Expression × Expression → Expression × Expression → Expression × Expression
add1 x y = (x.0 :+ y.0, x.1 :+ y.1)

abbrev sub1 : Expression × Expression → Expression × Expression → Expression × Expression
sub1 x y = (x.0 :- y.0, x.1 :- y.1)

abbrev mul1 : Expression × Expression → Expression × Expression → Expression × Expression
mul1 x y = (x.0 :* y.0, x.0 :* y.1 :+ x.1 :* y.0)

abbrev negative1 : Expression × Expression → Expression × Expression
negative1 x = (opposite x.0, opposite x.1)

abbrev add2 : Dual → Dual → Dual
add2 x y = (add1 x.0 y.0, add1 x.1 y.1)

abbrev sub2 : Dual → Dual → Dual
sub2 x y = (sub1 x.0 y.0, sub1 x.1 y.1)

abbrev mul2 : Dual → Dual → Dual
mul2 x y = (mul1 x.0 y.0, add1 (mul1 x.0 y.1) (mul1 x.1 y.0))

abbrev negative2 : Dual → Dual
negative2 x = (negative1 x.0, negative1 x.1)

abbrev real : Expression → Dual
real x = ((x, number 0), (number 0, number 0))

-- the inverse of x - y, with g for that of its real part
abbrev inverse1 : Expression × Expression → Expression → Expression × Expression
inverse1 x g = (g, opposite (x.1 :* g :* g))

abbrev inverse2 : Dual → Expression → Dual
inverse2 x g = (inverse1 x.0 g, negative1 (mul1 (mul1 x.1 (inverse1 x.0 g)) (inverse1 x.0 g)))

abbrev gap2 : Dual → Dual → Expression → Dual
gap2 x y g = inverse2 (sub2 x y) g

abbrev between2 : Expression → Dual → Dual → Dual
between2 t a b = add2 (mul2 (add2 (real unit) (negative2 (real t))) a) (mul2 (real t) b)

abbrev full2 : Dual → Dual → Dual → Dual
full2 a b c = add2 (add2 (add2 (add2 (add2 (mul2 a a) (mul2 b b)) (mul2 c c)) (mul2 a b)) (mul2 b c)) (mul2 a c)

abbrev alone2 : Dual → Dual → Dual → Dual
alone2 x g k = mul2 (mul2 (mul2 (mul2 (mul2 x x) x) x) g) k

-- variables: depth and two values of each corner, then two inverses
abbrev A : Dual
A = ((var 0, var 1), (var 2, number 0))

abbrev B : Dual
B = ((var 3, var 4), (var 5, number 0))

abbrev C : Dual
C = ((var 6, var 7), (var 8, number 0))

abbrev twelve_of : Expression → Expression → Expression → Expression → Expression → Expression → Expression
twelve_of p1 p2 p3 q1 q2 q3 = (p1 :* q1 :+ p2 :* q2 :+ p3 :* q3) :+ (p1 :+ p2 :+ p3) :* (q1 :+ q2 :+ q3)

abbrev tip_of : Expression → Expression → Expression
tip_of t s = (t :* s) :* twelve_of (var 1) ((unit :- t) :* var 1 :+ t :* var 4) ((unit :- s) :* var 1 :+ s :* var 7) (var 2) ((unit :- t) :* var 2 :+ t :* var 5) ((unit :- s) :* var 2 :+ s :* var 8)

module _ (K : OrderedField) where
  open K use {Carrier, laws}
  open K.operations use {sign, inverse}
  open K.operations.ring use {nought, one, ◌⊕◌, ◌⊗◌, negative}

  infixl 6 ◌⊕◌
  infixl 7 ◌⊗◌
  infixl 6 ◌⊖◌
  abbrev ◌⊖◌ : Carrier → Carrier → Carrier
  x ⊖ y = x ⊕ negative y

  abbrev R : CommutativeRing
  R = ring_of K

  abbrev D : LocalRing
  D = dual (dual (of_field K))

  abbrev Deep : Type 0
  Deep = (Carrier × Carrier) × (Carrier × Carrier)

  -- a corner: its depth, and the values of the two functions there
  abbrev pub Corner : Type 0
  Corner = Carrier × Carrier × Carrier

  abbrev deep : Corner → Deep
  deep a = ((a.0, a.1), (a.2, nought))

  abbrev real_number : Carrier → Deep
  real_number x = ((x, nought), (nought, nought))

  abbrev pub between : Carrier → Carrier → Carrier → Carrier
  between t x y = (one ⊖ t) ⊗ x ⊕ t ⊗ y

  abbrev pub point : Carrier → Corner → Corner → Corner
  point t a b = (between t a.0 b.0, between t a.1 b.1, between t a.2 b.2)

  -- the closed form
  unfoldable pub wet_form : Corner → Corner → Corner → Carrier
  wet_form a b c = (Difference.second_difference D (deep a) (deep b) (deep c)).1.1

  -- twelve times the mean of the product over the whole triangle
  abbrev pub twelve : Corner → Corner → Corner → Carrier
  twelve a b c = (a.1 ⊗ a.2 ⊕ b.1 ⊗ b.2 ⊕ c.1 ⊗ c.2) ⊕ (a.1 ⊕ b.1 ⊕ c.1) ⊗ (a.2 ⊕ b.2 ⊕ c.2)

  -- ---- splits
  four_parts : {s t u w s' t' u' w' : Carrier} → s ≡ s' → t ≡ t' → u ≡ u' → w ≡ w' → ◌≡◌ {A = Deep} ((s, t), (u, w)) ((s', t'), (u', w'))
  four_parts e f g k = λ i. ((e i, f i), (g i, k i))

  deep-point : (t : Carrier) (a b : Corner) → Difference.between D (real_number t) (deep a) (deep b) ≡ deep (point t a b)
  deep-point t a b = four_parts refl
      (ring R values (between2 (var 6) A B).0.1 ((unit :- var 6) :* var 1 :+ var 6 :* var 4) refl)
      (ring R values (between2 (var 6) A B).1.0 ((unit :- var 6) :* var 2 :+ var 6 :* var 5) refl)
      (ring R values (between2 (var 6) A B).1.1 (number 0) refl)
    where
      values : List Carrier
      values = a.0 ∷ a.1 ∷ a.2 ∷ b.0 ∷ b.1 ∷ b.2 ∷ t ∷ []

  weighed : (t : Carrier) (x y w : Deep) → x ≡ D.ring.operations.◌⊕◌ (D.ring.operations.◌⊗◌ (real_number t) y) (D.ring.operations.◌⊗◌ (D.ring.operations.◌⊕◌ D.ring.operations.one (D.ring.operations.negative (real_number t))) w)
      → x.1.1 ≡ t ⊗ y.1.1 ⊕ (one ⊖ t) ⊗ w.1.1
  weighed t x y w e = ap (λ (u : Deep). u.1.1) e ∙ ring R (t ∷ y.0.0 ∷ y.0.1 ∷ y.1.0 ∷ y.1.1 ∷ w.0.0 ∷ w.0.1 ∷ w.1.0 ∷ w.1.1 ∷ [])
      (add2 (mul2 (real (var 0)) ((var 1, var 2), (var 3, var 4))) (mul2 (add2 (real unit) (negative2 (real (var 0)))) ((var 5, var 6), (var 7, var 8)))).1.1 (var 0 :* var 4 :+ (unit :- var 0) :* var 8) refl

  pub split_first : (t : Carrier) (a b c : Corner) → wet_form a b c ≡ t ⊗ wet_form a (point t a b) c ⊕ (one ⊖ t) ⊗ wet_form (point t a b) b c
  unfolding wet_form
  split_first t a b c = weighed t _ (Difference.second_difference D (deep a) (Difference.between D (real_number t) (deep a) (deep b)) (deep c)) (Difference.second_difference D (Difference.between D (real_number t) (deep a) (deep b)) (deep b) (deep c)) (Difference.split_first D (real_number t) (deep a) (deep b) (deep c))
      ∙ ap (λ (x : Deep). t ⊗ (Difference.second_difference D (deep a) x (deep c)).1.1 ⊕ (one ⊖ t) ⊗ (Difference.second_difference D x (deep b) (deep c)).1.1) (deep-point t a b)

  -- ---- the order of the corners
  pub swap : (a b c : Corner) → wet_form a b c ≡ wet_form b a c
  unfolding wet_form
  swap a b c = ap (λ (x : Deep). x.1.1) (Difference.second_difference-swap D (deep a) (deep b) (deep c))

  pub turn : (a b c : Corner) → wet_form a b c ≡ wet_form a c b
  unfolding wet_form
  turn a b c = ap (λ (x : Deep). x.1.1) (Difference.second_difference-turn D (deep a) (deep b) (deep c))

  pub roll : (a b c : Corner) → wet_form a b c ≡ wet_form b c a
  roll a b c = swap a b c ∙ turn b a c

  pub split_middle : (t : Carrier) (a b c : Corner) → wet_form a b c ≡ t ⊗ wet_form a b (point t a c) ⊕ (one ⊖ t) ⊗ wet_form (point t a c) b c
  split_middle t a b c = turn a b c ∙ split_first t a c b ∙ ap₂ (λ y z. t ⊗ y ⊕ (one ⊖ t) ⊗ z) (turn a (point t a c) b) (turn (point t a c) c b)

  pub split_last : (t : Carrier) (a b c : Corner) → wet_form a b c ≡ t ⊗ wet_form a b (point t b c) ⊕ (one ⊖ t) ⊗ wet_form a (point t b c) c
  split_last t a b c = swap a b c ∙ split_middle t b a c ∙ ap₂ (λ y z. t ⊗ y ⊕ (one ⊖ t) ⊗ z) (swap b a (point t b c)) (swap (point t b c) a c)

  -- ---- all corners on one side
  abbrev pub over : Carrier → Bool
  over x = is_above (sign x)

  twelve-values : (a b c : Corner) → (Difference.full D (deep a) (deep b) (deep c)).1.1 ≡ twelve a b c
  twelve-values a b c = ring R (a.0 ∷ a.1 ∷ a.2 ∷ b.0 ∷ b.1 ∷ b.2 ∷ c.0 ∷ c.1 ∷ c.2 ∷ []) (full2 A B C).1.1 (twelve_of (var 1) (var 4) (var 7) (var 2) (var 5) (var 8)) refl

  some_over : (u v w : Bool) → (u ≡ false → v ≡ false → w ≡ false → ⊥) → Difference.SomeOver D u v w
  some_over false false false n = n refl refl refl
  some_over true true true n = tt
  some_over true true false n = tt
  some_over true false true n = tt
  some_over true false false n = tt
  some_over false true true n = tt
  some_over false true false n = tt
  some_over false false true n = tt

  -- no corner is below, and not all are level
  pub form_wet : (a b c : Corner) → sign a.0 ≢ below → sign b.0 ≢ below → sign c.0 ≢ below → (over a.0 ≡ false → over b.0 ≡ false → over c.0 ≡ false → ⊥) → wet_form a b c ≡ twelve a b c
  unfolding wet_form
  form_wet a b c x y w n = ap (λ (u : Deep). u.1.1) (Difference.none_below D (triples_vanish (dual (of_field K)) (pairs_vanish (of_field K) (small_vanish K))) (deep a) (deep b) (deep c) x y w (some_over (over a.0) (over b.0) (over c.0) n))
      ∙ twelve-values a b c

  pub form_dry : (a b c : Corner) → sign a.0 ≢ above → sign b.0 ≢ above → sign c.0 ≢ above → wet_form a b c ≡ nought
  unfolding wet_form
  form_dry a b c x y w = ap (λ (u : Deep). u.1.1) (Difference.none_above D (deep a) (deep b) (deep c) x y w)

  -- ---- by the sides of the corners: t is the part x / (x - y) of an edge
  abbrev pub IsPart : Carrier → Carrier → Carrier → Type 0
  IsPart x y t = t ⊗ (x ⊖ y) ≡ x

  pub differ_over : (x y : Carrier) → over x ≡ true → over y ≡ false → x ⊖ y ≢ nought
  differ_over x y p q e = true-ne-false (sym p ∙ ap (λ z. over z) (ring_from R (x ∷ y ∷ []) ((unit, var 0 :- var 1, number 0) ∷ []) (given e none) (var 0) (var 1) refl) ∙ q)

  pub differ_under : (x y : Carrier) → over x ≡ false → over y ≡ true → x ⊖ y ≢ nought
  differ_under x y p q e = true-ne-false (sym q ∙ ap (λ z. over z) (ring_from R (x ∷ y ∷ []) ((opposite unit, var 0 :- var 1, number 0) ∷ []) (given e none) (var 1) (var 0) refl) ∙ p)

  pub is_part : (x y : Carrier) → x ⊖ y ≢ nought → IsPart x y (x ⊗ inverse (x ⊖ y))
  is_part x y n = ring_from R (x ∷ y ∷ inverse (x ⊖ y) ∷ []) ((var 0, (var 0 :- var 1) :* var 2, unit) ∷ []) (given (laws.mul-inverse (x ⊖ y) n) none) ((var 0 :* var 2) :* (var 0 :- var 1)) (var 0) refl

  part-over : (x y t : Carrier) → over x ≡ true → over y ≡ false → IsPart x y t → t ≡ x ⊗ inverse (x ⊖ y)
  part-over x y t p q i = ring_from R (x ∷ y ∷ t ∷ inverse (x ⊖ y) ∷ []) ((opposite (var 2), (var 0 :- var 1) :* var 3, unit) ∷ (var 3, var 2 :* (var 0 :- var 1), var 0) ∷ [])
      (given (laws.mul-inverse (x ⊖ y) (differ_over x y p q)) (given i none)) (var 2) (var 0 :* var 3) refl

  part-under : (x y t : Carrier) → over x ≡ false → over y ≡ true → IsPart x y t → t ≡ negative (x ⊗ inverse (y ⊖ x))
  part-under x y t p q i = ring_from R (x ∷ y ∷ t ∷ inverse (y ⊖ x) ∷ []) ((opposite (var 2), (var 1 :- var 0) :* var 3, unit) ∷ (opposite (var 3), var 2 :* (var 0 :- var 1), var 0) ∷ [])
      (given (laws.mul-inverse (y ⊖ x) (differ_over y x q p)) (given i none)) (var 2) (opposite (var 0 :* var 3)) refl

  abbrev form_by : Bool → Bool → Bool → Corner → Corner → Corner → Carrier
  form_by u v w a b c = (Difference.second_difference_by D u v w (deep a) (deep b) (deep c)).1.1

  form-by : (u v w : Bool) (a b c : Corner) → over a.0 ≡ u → over b.0 ≡ v → over c.0 ≡ w → wet_form a b c ≡ form_by u v w a b c
  unfolding wet_form Difference.second_difference
  form-by u v w a b c e f g = λ i. form_by (e i) (f i) (g i) a b c

  -- the part of the triangle at its first corner
  abbrev pub tip : Carrier → Carrier → Corner → Corner → Corner → Carrier
  tip t s a b c = (t ⊗ s) ⊗ twelve a (point t a b) (point s a c)

  pub form_all_over : (a b c : Corner) → over a.0 ≡ true → over b.0 ≡ true → over c.0 ≡ true → wet_form a b c ≡ twelve a b c
  form_all_over a b c e f g = form-by true true true a b c e f g ∙ twelve-values a b c

  pub form_none_over : (a b c : Corner) → over a.0 ≡ false → over b.0 ≡ false → over c.0 ≡ false → wet_form a b c ≡ nought
  form_none_over a b c e f g = form-by false false false a b c e f g

  pub form_one_over : (t s : Carrier) (a b c : Corner) → over a.0 ≡ true → over b.0 ≡ false → over c.0 ≡ false → IsPart a.0 b.0 t → IsPart a.0 c.0 s → wet_form a b c ≡ tip t s a b c
  form_one_over t s a b c e f g i j = form-by true false false a b c e f g
      ∙ ring R (a.0 ∷ a.1 ∷ a.2 ∷ b.0 ∷ b.1 ∷ b.2 ∷ c.0 ∷ c.1 ∷ c.2 ∷ inverse (a.0 ⊖ b.0) ∷ inverse (a.0 ⊖ c.0) ∷ []) (alone2 A (gap2 A B (var 9)) (gap2 A C (var 10))).1.1 (tip_of (var 0 :* var 9) (var 0 :* var 10)) refl
      ∙ ap₂ (λ t s. tip t s a b c) (sym (part-over a.0 b.0 t e f i)) (sym (part-over a.0 c.0 s e g j))

  pub form_two_over : (t s : Carrier) (a b c : Corner) → over a.0 ≡ false → over b.0 ≡ true → over c.0 ≡ true → IsPart a.0 b.0 t → IsPart a.0 c.0 s → wet_form a b c ≡ twelve a b c ⊖ tip t s a b c
  form_two_over t s a b c e f g i j = form-by false true true a b c e f g
      ∙ ring R (a.0 ∷ a.1 ∷ a.2 ∷ b.0 ∷ b.1 ∷ b.2 ∷ c.0 ∷ c.1 ∷ c.2 ∷ inverse (b.0 ⊖ a.0) ∷ inverse (c.0 ⊖ a.0) ∷ []) (sub2 (full2 A B C) (alone2 A (gap2 B A (var 9)) (gap2 C A (var 10)))).1.1
      (twelve_of (var 1) (var 4) (var 7) (var 2) (var 5) (var 8) :- tip_of (opposite (var 0 :* var 9)) (opposite (var 0 :* var 10))) refl
      ∙ ap₂ (λ t s. twelve a b c ⊖ tip t s a b c) (sym (part-under a.0 b.0 t e f i)) (sym (part-under a.0 c.0 s e g j))
