-- The second divided difference of the fourth power of max(h, 0) at three depths, over a local ring with a sign. Over dual numbers
-- of dual numbers, at depths h + p·ε + q·δ, its part at ε·δ is twelve times the mean of p·q over the part of a triangle where h is above
-- nought: so what holds of it in every such ring holds of the means of all products of two linear functions.
use mathlib.Core.Path.{◌≡◌, refl, sym, ◌∙◌, ap, ap₂, subst}
use mathlib.Core.List.{[], ◌∷◌}
use mathlib.Core.Logic.{◌≢◌}
use mathlib.Core.Bool.{Bool, true, false}
use Rattle.exact_algebra.specs.Expression.{Expression, var, unit, number, ◌:+◌, ◌:-◌, ◌:*◌, opposite}
use Rattle.exact_algebra.specs.OrderedField.{Sign, below, level, above}
use Rattle.exact_algebra.proofs.Ring.{ring, ring_from, none, given}
use Rattle.exact_algebra.proofs.Sign.{level-ne-above, level-ne-below}
use Rattle.exact_algebra.proofs.DualNumbers.{LocalRing, PairsVanish, TriplesVanish}

true-ne-false : true ≡ false → ⊥
true-ne-false h = cc

abbrev pub is_above : Sign → Bool
is_above below = false
is_above level = false
is_above above = true

-- the expressions of the identities
abbrev fourth : Expression → Expression
fourth x = x :* x :* x :* x

abbrev squares : Expression → Expression → Expression → Expression
squares a b c = a :* a :+ b :* b :+ c :* c :+ a :* b :+ b :* c :+ a :* c

abbrev cubes : Expression → Expression → Expression
cubes a b = a :* a :* a :+ a :* a :* b :+ a :* b :* b :+ b :* b :* b

module _ (L : LocalRing) where
  open L use {ring as R, sign, inverse}
  open L.ring use {Carrier}
  open L.ring.operations use {nought, one, ◌⊕◌, ◌⊗◌, negative}

  infixl 6 ◌⊕◌
  infixl 7 ◌⊗◌
  infixl 6 ◌⊖◌
  abbrev pub ◌⊖◌ : Carrier → Carrier → Carrier
  x ⊖ y = x ⊕ negative y

  abbrev pub is_over : Carrier → Bool
  is_over x = is_above (sign x)

  abbrev pub gap : Carrier → Carrier → Carrier
  gap x y = inverse (x ⊖ y)

  -- a corner that lies alone on its side
  abbrev pub alone : Carrier → Carrier → Carrier → Carrier
  alone x g k = x ⊗ x ⊗ x ⊗ x ⊗ g ⊗ k

  abbrev pub full : Carrier → Carrier → Carrier → Carrier
  full a b c = a ⊗ a ⊕ b ⊗ b ⊕ c ⊗ c ⊕ a ⊗ b ⊕ b ⊗ c ⊕ a ⊗ c

  abbrev pub second_difference_by : Bool → Bool → Bool → Carrier → Carrier → Carrier → Carrier
  second_difference_by true true true a b c = full a b c
  second_difference_by true true false a b c = full a b c ⊖ alone c (gap a c) (gap b c)
  second_difference_by true false true a b c = full a b c ⊖ alone b (gap a b) (gap c b)
  second_difference_by false true true a b c = full a b c ⊖ alone a (gap b a) (gap c a)
  second_difference_by true false false a b c = alone a (gap a b) (gap a c)
  second_difference_by false true false a b c = alone b (gap b a) (gap b c)
  second_difference_by false false true a b c = alone c (gap c a) (gap c b)
  second_difference_by false false false a b c = nought

  unfoldable pub second_difference : Carrier → Carrier → Carrier → Carrier
  second_difference a b c = second_difference_by (is_over a) (is_over b) (is_over c) a b c

  abbrev first_difference_by : Bool → Bool → Carrier → Carrier → Carrier
  first_difference_by true true a b = a ⊗ a ⊗ a ⊕ a ⊗ a ⊗ b ⊕ a ⊗ b ⊗ b ⊕ b ⊗ b ⊗ b
  first_difference_by true false a b = a ⊗ a ⊗ a ⊗ a ⊗ gap a b
  first_difference_by false true a b = b ⊗ b ⊗ b ⊗ b ⊗ gap b a
  first_difference_by false false a b = nought

  first_difference : Carrier → Carrier → Carrier
  first_difference a b = first_difference_by (is_over a) (is_over b) a b

  abbrev Apart : Bool → Bool → Carrier → Carrier → Type 0
  Apart true true a b = Unit {0}
  Apart true false a b = (a ⊖ b) ⊗ gap a b ≡ one
  Apart false true a b = (b ⊖ a) ⊗ gap b a ≡ one
  Apart false false a b = Unit {0}

  apart_by : (p q : Bool) (a b : Carrier) → (sign a ≡ sign b → p ≡ q) → Apart p q a b
  apart_by true true a b f = tt
  apart_by true false a b f = L.mul-inverse (a ⊖ b) (λ e. true-ne-false (f (L.near a b e)))
  apart_by false true a b f = L.mul-inverse (b ⊖ a) (λ e. true-ne-false (sym (f (sym (L.near b a e)))))
  apart_by false false a b f = tt

  apart : (a b : Carrier) → Apart (is_over a) (is_over b) a b
  apart a b = apart_by (is_over a) (is_over b) a b (ap is_above)

  step_by : (p q r : Bool) (a b c : Carrier) → Apart p q a b → Apart p r a c → Apart q r b c
      → (b ⊖ a) ⊗ second_difference_by p q r a b c ≡ first_difference_by q r b c ⊖ first_difference_by p r a c
  step_by true true true a b c x y z = ring R (a ∷ b ∷ c ∷ []) ((var 1 :- var 0) :* (squares (var 0) (var 1) (var 2))) ((cubes (var 1) (var 2)) :- (cubes (var 0) (var 2))) refl
  step_by true true false a b c x y z = ring_from R (a ∷ b ∷ c ∷ gap a c ∷ gap b c ∷ [])
      ((var 0 :* var 0 :* var 0 :+ var 0 :* var 0 :* var 2 :+ var 0 :* var 2 :* var 2 :+ var 2 :* var 2 :* var 2 :* var 2 :* var 4 :+ var 2 :* var 2 :* var 2, (var 0 :- var 2) :* var 3, unit) ∷ (opposite (var 1 :* var 1 :* var 1) :- var 1 :* var 1 :* var 2 :- var 1 :* var 2 :* var 2 :- var 2 :* var 2 :* var 2 :* var 2 :* var 3 :- var 2 :* var 2 :* var 2, (var 1 :- var 2) :* var 4, unit) ∷ []) (given y (given z none))
      ((var 1 :- var 0) :* (squares (var 0) (var 1) (var 2) :- fourth (var 2) :* var 3 :* var 4)) ((fourth (var 1) :* var 4) :- (fourth (var 0) :* var 3)) refl
  step_by true false true a b c x y z = ring_from R (a ∷ b ∷ c ∷ gap a b ∷ gap c b ∷ [])
      ((var 1 :* var 1 :* var 1 :* var 1 :* var 4, (var 0 :- var 1) :* var 3, unit) ∷ (opposite (var 1 :* var 1 :* var 1) :- var 1 :* var 1 :* var 2 :- var 1 :* var 2 :* var 2 :- var 2 :* var 2 :* var 2, (var 2 :- var 1) :* var 4, unit) ∷ []) (given x (given z none))
      ((var 1 :- var 0) :* (squares (var 0) (var 1) (var 2) :- fourth (var 1) :* var 3 :* var 4)) ((fourth (var 2) :* var 4) :- (cubes (var 0) (var 2))) refl
  step_by true false false a b c x y z = ring_from R (a ∷ b ∷ c ∷ gap a b ∷ gap a c ∷ [])
      ((opposite (var 0 :* var 0 :* var 0 :* var 0 :* var 4), (var 0 :- var 1) :* var 3, unit) ∷ []) (given x none)
      ((var 1 :- var 0) :* (fourth (var 0) :* var 3 :* var 4)) ((number 0) :- (fourth (var 0) :* var 4)) refl
  step_by false true true a b c x y z = ring_from R (a ∷ b ∷ c ∷ gap b a ∷ gap c a ∷ [])
      ((opposite (var 0 :* var 0 :* var 0 :* var 0 :* var 4), (var 1 :- var 0) :* var 3, unit) ∷ (var 0 :* var 0 :* var 0 :+ var 0 :* var 0 :* var 2 :+ var 0 :* var 2 :* var 2 :+ var 2 :* var 2 :* var 2, (var 2 :- var 0) :* var 4, unit) ∷ []) (given x (given y none))
      ((var 1 :- var 0) :* (squares (var 0) (var 1) (var 2) :- fourth (var 0) :* var 3 :* var 4)) ((cubes (var 1) (var 2)) :- (fourth (var 2) :* var 4)) refl
  step_by false true false a b c x y z = ring_from R (a ∷ b ∷ c ∷ gap b a ∷ gap b c ∷ [])
      ((var 1 :* var 1 :* var 1 :* var 1 :* var 4, (var 1 :- var 0) :* var 3, unit) ∷ []) (given x none)
      ((var 1 :- var 0) :* (fourth (var 1) :* var 3 :* var 4)) ((fourth (var 1) :* var 4) :- (number 0)) refl
  step_by false false true a b c x y z = ring_from R (a ∷ b ∷ c ∷ gap c a ∷ gap c b ∷ [])
      ((var 2 :* var 2 :* var 2 :* var 2 :* var 4, (var 2 :- var 0) :* var 3, unit) ∷ (opposite (var 2 :* var 2 :* var 2 :* var 2 :* var 3), (var 2 :- var 1) :* var 4, unit) ∷ []) (given y (given z none))
      ((var 1 :- var 0) :* (fourth (var 2) :* var 3 :* var 4)) ((fourth (var 2) :* var 4) :- (fourth (var 2) :* var 3)) refl
  step_by false false false a b c x y z = ring R (a ∷ b ∷ c ∷ []) ((var 1 :- var 0) :* (number 0)) ((number 0) :- (number 0)) refl

  swap_by : (p q r : Bool) (a b c : Carrier) → second_difference_by p q r a b c ≡ second_difference_by q p r b a c
  swap_by true true true a b c = ring R (a ∷ b ∷ c ∷ []) (squares (var 0) (var 1) (var 2)) (squares (var 1) (var 0) (var 2)) refl
  swap_by true true false a b c = ring R (a ∷ b ∷ c ∷ gap a c ∷ gap b c ∷ []) (squares (var 0) (var 1) (var 2) :- fourth (var 2) :* var 3 :* var 4) (squares (var 1) (var 0) (var 2) :- fourth (var 2) :* var 4 :* var 3) refl
  swap_by true false true a b c = ring R (a ∷ b ∷ c ∷ gap a b ∷ gap c b ∷ []) (squares (var 0) (var 1) (var 2) :- fourth (var 1) :* var 3 :* var 4) (squares (var 1) (var 0) (var 2) :- fourth (var 1) :* var 3 :* var 4) refl
  swap_by true false false a b c = ring R (a ∷ b ∷ c ∷ gap a b ∷ gap a c ∷ []) (fourth (var 0) :* var 3 :* var 4) (fourth (var 0) :* var 3 :* var 4) refl
  swap_by false true true a b c = ring R (a ∷ b ∷ c ∷ gap b a ∷ gap c a ∷ []) (squares (var 0) (var 1) (var 2) :- fourth (var 0) :* var 3 :* var 4) (squares (var 1) (var 0) (var 2) :- fourth (var 0) :* var 3 :* var 4) refl
  swap_by false true false a b c = ring R (a ∷ b ∷ c ∷ gap b a ∷ gap b c ∷ []) (fourth (var 1) :* var 3 :* var 4) (fourth (var 1) :* var 3 :* var 4) refl
  swap_by false false true a b c = ring R (a ∷ b ∷ c ∷ gap c a ∷ gap c b ∷ []) (fourth (var 2) :* var 3 :* var 4) (fourth (var 2) :* var 4 :* var 3) refl
  swap_by false false false a b c = ring R (a ∷ b ∷ c ∷ []) (number 0) (number 0) refl

  turn_by : (p q r : Bool) (a b c : Carrier) → second_difference_by p q r a b c ≡ second_difference_by p r q a c b
  turn_by true true true a b c = ring R (a ∷ b ∷ c ∷ []) (squares (var 0) (var 1) (var 2)) (squares (var 0) (var 2) (var 1)) refl
  turn_by true true false a b c = ring R (a ∷ b ∷ c ∷ gap a c ∷ gap b c ∷ []) (squares (var 0) (var 1) (var 2) :- fourth (var 2) :* var 3 :* var 4) (squares (var 0) (var 2) (var 1) :- fourth (var 2) :* var 3 :* var 4) refl
  turn_by true false true a b c = ring R (a ∷ b ∷ c ∷ gap a b ∷ gap c b ∷ []) (squares (var 0) (var 1) (var 2) :- fourth (var 1) :* var 3 :* var 4) (squares (var 0) (var 2) (var 1) :- fourth (var 1) :* var 3 :* var 4) refl
  turn_by true false false a b c = ring R (a ∷ b ∷ c ∷ gap a b ∷ gap a c ∷ []) (fourth (var 0) :* var 3 :* var 4) (fourth (var 0) :* var 4 :* var 3) refl
  turn_by false true true a b c = ring R (a ∷ b ∷ c ∷ gap b a ∷ gap c a ∷ []) (squares (var 0) (var 1) (var 2) :- fourth (var 0) :* var 3 :* var 4) (squares (var 0) (var 2) (var 1) :- fourth (var 0) :* var 4 :* var 3) refl
  turn_by false true false a b c = ring R (a ∷ b ∷ c ∷ gap b a ∷ gap b c ∷ []) (fourth (var 1) :* var 3 :* var 4) (fourth (var 1) :* var 3 :* var 4) refl
  turn_by false false true a b c = ring R (a ∷ b ∷ c ∷ gap c a ∷ gap c b ∷ []) (fourth (var 2) :* var 3 :* var 4) (fourth (var 2) :* var 3 :* var 4) refl
  turn_by false false false a b c = ring R (a ∷ b ∷ c ∷ []) (number 0) (number 0) refl

  step : (a b c : Carrier) → (b ⊖ a) ⊗ second_difference a b c ≡ first_difference b c ⊖ first_difference a c
  unfolding second_difference first_difference
  step a b c = step_by (is_over a) (is_over b) (is_over c) a b c (apart a b) (apart a c) (apart b c)

  pub second_difference-swap : (a b c : Carrier) → second_difference a b c ≡ second_difference b a c
  unfolding second_difference
  second_difference-swap a b c = swap_by (is_over a) (is_over b) (is_over c) a b c

  pub second_difference-turn : (a b c : Carrier) → second_difference a b c ≡ second_difference a c b
  unfolding second_difference
  second_difference-turn a b c = turn_by (is_over a) (is_over b) (is_over c) a b c

  abbrev pub between : Carrier → Carrier → Carrier → Carrier
  between t a b = (one ⊖ t) ⊗ a ⊕ t ⊗ b

  times_cancel : (k x y : Carrier) → sign k ≢ level → k ⊗ x ≡ k ⊗ y → x ≡ y
  times_cancel k x y n e = ring_from R (k ∷ x ∷ y ∷ inverse k ∷ [])
      ((var 2 :- var 1, var 0 :* var 3, unit) ∷ (var 3, var 0 :* var 1, var 0 :* var 2) ∷ []) (given (L.mul-inverse k n) (given e none)) (var 1) (var 2) refl

  -- the law where the three points of the edge lie on one side
  same_by : (p r : Bool) (t a b c : Carrier) → Apart p r a c → Apart p r b c → Apart p r (between t a b) c
      → second_difference_by p p r a b c ≡ t ⊗ second_difference_by p p r a (between t a b) c ⊕ (one ⊖ t) ⊗ second_difference_by p p r (between t a b) b c
  same_by true true t a b c x y z = ring R (t ∷ a ∷ b ∷ c ∷ []) (squares (var 1) (var 2) (var 3)) (var 0 :* squares (var 1) X (var 3) :+ (unit :- var 0) :* squares X (var 2) (var 3)) refl
    where
      X : Expression
      X = (unit :- var 0) :* var 1 :+ var 0 :* var 2
  same_by true false t a b c x y z = ring_from R (t ∷ a ∷ b ∷ c ∷ gap a c ∷ gap b c ∷ gap (between t a b) c ∷ [])
      ((var 0 :* var 3 :* var 3 :* var 3 :* var 3 :* var 5 :* var 6 :- var 3 :* var 3 :* var 3 :* var 3 :* var 5 :* var 6, (var 1 :- var 3) :* var 4, unit) ∷ (opposite (var 0 :* var 3 :* var 3 :* var 3 :* var 3 :* var 4 :* var 6), (var 2 :- var 3) :* var 5, unit) ∷ (var 3 :* var 3 :* var 3 :* var 3 :* var 4 :* var 5, (X :- var 3) :* var 6, unit) ∷ [])
      (given x (given y (given z none))) (squares (var 1) (var 2) (var 3) :- fourth (var 3) :* var 4 :* var 5) (var 0 :* (squares (var 1) X (var 3) :- fourth (var 3) :* var 4 :* var 6) :+ (unit :- var 0) :* (squares X (var 2) (var 3) :- fourth (var 3) :* var 6 :* var 5)) refl
    where
      X : Expression
      X = (unit :- var 0) :* var 1 :+ var 0 :* var 2
  same_by false true t a b c x y z = ring_from R (t ∷ a ∷ b ∷ c ∷ gap c a ∷ gap c b ∷ gap c (between t a b) ∷ [])
      ((opposite (var 0 :* var 3 :* var 3 :* var 3 :* var 3 :* var 5 :* var 6) :+ var 3 :* var 3 :* var 3 :* var 3 :* var 5 :* var 6, (var 3 :- var 1) :* var 4, unit) ∷ (var 0 :* var 3 :* var 3 :* var 3 :* var 3 :* var 4 :* var 6, (var 3 :- var 2) :* var 5, unit) ∷ (opposite (var 3 :* var 3 :* var 3 :* var 3 :* var 4 :* var 5), (var 3 :- X) :* var 6, unit) ∷ [])
      (given x (given y (given z none))) (fourth (var 3) :* var 4 :* var 5) (var 0 :* (fourth (var 3) :* var 4 :* var 6) :+ (unit :- var 0) :* (fourth (var 3) :* var 6 :* var 5)) refl
    where
      X : Expression
      X = (unit :- var 0) :* var 1 :+ var 0 :* var 2
  same_by false false t a b c x y z = ring R (t ∷ []) (number 0) (var 0 :* number 0 :+ (unit :- var 0) :* number 0) refl

  -- a split at any point of an edge
  pub split_first : (t a b c : Carrier) → second_difference a b c ≡ t ⊗ second_difference a (between t a b) c ⊕ (one ⊖ t) ⊗ second_difference (between t a b) b c
  unfolding second_difference
  split_first t a b c = go (sign (b ⊖ a)) refl
    where
      x : Carrier
      x = between t a b

      X : Expression
      X = (unit :- var 0) :* var 1 :+ var 0 :* var 2

      far : sign (b ⊖ a) ≢ level → second_difference a b c ≡ t ⊗ second_difference a x c ⊕ (one ⊖ t) ⊗ second_difference x b c
      far n = times_cancel (b ⊖ a) (second_difference a b c) (t ⊗ second_difference a x c ⊕ (one ⊖ t) ⊗ second_difference x b c) n
          (ring_from R (t ∷ a ∷ b ∷ second_difference a b c ∷ second_difference a x c ∷ second_difference x b c ∷ first_difference b c ∷ first_difference a c ∷ first_difference x c ∷ [])
          ((unit, (var 2 :- var 1) :* var 3, var 6 :- var 7) ∷ (opposite unit, (X :- var 1) :* var 4, var 8 :- var 7) ∷ (opposite unit, (var 2 :- X) :* var 5, var 6 :- var 8) ∷ [])
          (given (step a b c) (given (step a x c) (given (step x b c) none)))
          ((var 2 :- var 1) :* var 3) ((var 2 :- var 1) :* (var 0 :* var 4 :+ (unit :- var 0) :* var 5)) refl)

      Same : Bool → Bool → Bool → Bool → Type 0
      Same p q s r = second_difference_by p q r a b c ≡ t ⊗ second_difference_by p s r a x c ⊕ (one ⊖ t) ⊗ second_difference_by s q r x b c

      near : sign b ≡ sign a → sign x ≡ sign a → Same (is_over a) (is_over b) (is_over x) (is_over c)
      near e f = subst (λ (q : Bool). Same (is_over a) q (is_over x) (is_over c)) (ap is_above (sym e)) (subst (λ (s : Bool). Same (is_over a) (is_over a) s (is_over c)) (ap is_above (sym f))
          (same_by (is_over a) (is_over c) t a b c (apart a c) (subst (λ (q : Bool). Apart q (is_over c) b c) (ap is_above e) (apart b c)) (subst (λ (q : Bool). Apart q (is_over c) x c) (ap is_above f) (apart x c))))

      go : (s : Sign) → sign (b ⊖ a) ≡ s → second_difference a b c ≡ t ⊗ second_difference a x c ⊕ (one ⊖ t) ⊗ second_difference x b c
      go below e = far (λ z. level-ne-below (sym z ∙ e))
      go level e = near (L.near b a e) (L.near x a (ap sign (ring R (t ∷ a ∷ b ∷ []) (X :- var 1) (var 0 :* (var 2 :- var 1)) refl) ∙ L.ideal t (b ⊖ a) e))
      go above e = far (λ z. level-ne-above (sym z ∙ e))

  pub split_middle : (t a b c : Carrier) → second_difference a b c ≡ t ⊗ second_difference a b (between t a c) ⊕ (one ⊖ t) ⊗ second_difference (between t a c) b c
  split_middle t a b c = second_difference-turn a b c ∙ split_first t a c b ∙ ap₂ (λ y z. t ⊗ y ⊕ (one ⊖ t) ⊗ z) (second_difference-turn a (between t a c) b) (second_difference-turn (between t a c) c b)

  pub split_last : (t a b c : Carrier) → second_difference a b c ≡ t ⊗ second_difference a b (between t b c) ⊕ (one ⊖ t) ⊗ second_difference a (between t b c) c
  split_last t a b c = second_difference-swap a b c ∙ split_middle t b a c ∙ ap₂ (λ y z. t ⊗ y ⊕ (one ⊖ t) ⊗ z) (second_difference-swap b a (between t b c)) (second_difference-swap (between t b c) a c)

  pub second_difference-roll : (a b c : Carrier) → second_difference a b c ≡ second_difference c a b
  second_difference-roll a b c = second_difference-turn a b c ∙ second_difference-swap a c b

  -- ---- where no corner is below, and one is above; or none is below and products of first_difference infinitely small numbers are 0
  abbrev LevelUnless : Bool → Carrier → Type 0
  LevelUnless true a = Unit {0}
  LevelUnless false a = sign a ≡ level

  abbrev pub SomeOver : Bool → Bool → Bool → Type 0
  SomeOver false false false = ⊥
  SomeOver _ _ _ = Unit {0}

  module _ (V : TriplesVanish L) where
    none_below_by : (p q r : Bool) (a b c : Carrier) → LevelUnless p a → LevelUnless q b → LevelUnless r c → Apart p q a b → Apart p r a c → Apart q r b c → SomeOver p q r → second_difference_by p q r a b c ≡ full a b c
    none_below_by true true true a b c f g h x y z n = ring R (a ∷ b ∷ c ∷ []) (squares (var 0) (var 1) (var 2)) (squares (var 0) (var 1) (var 2)) refl
    none_below_by true true false a b c f g h x y z n = ring_from R (a ∷ b ∷ c ∷ gap a c ∷ gap b c ∷ [])
        ((opposite (var 2 :* var 3 :* var 4), var 2 :* var 2 :* var 2, number 0) ∷ []) (given (V _ _ _ h h h) none)
        (squares (var 0) (var 1) (var 2) :- fourth (var 2) :* var 3 :* var 4) (squares (var 0) (var 1) (var 2)) refl
    none_below_by true false true a b c f g h x y z n = ring_from R (a ∷ b ∷ c ∷ gap a b ∷ gap c b ∷ [])
        ((opposite (var 1 :* var 3 :* var 4), var 1 :* var 1 :* var 1, number 0) ∷ []) (given (V _ _ _ g g g) none)
        (squares (var 0) (var 1) (var 2) :- fourth (var 1) :* var 3 :* var 4) (squares (var 0) (var 1) (var 2)) refl
    none_below_by true false false a b c f g h x y z n = ring_from R (a ∷ b ∷ c ∷ gap a b ∷ gap a c ∷ [])
        ((var 0 :* var 0 :* var 0 :* var 4 :+ var 0 :* var 0 :* var 1 :* var 4 :+ var 0 :* var 1 :* var 1 :* var 4 :+ var 1 :* var 1 :* var 1 :* var 4, (var 0 :- var 1) :* var 3, unit) ∷ (var 0 :* var 0 :+ var 0 :* var 1 :+ var 0 :* var 2 :+ var 1 :* var 1 :+ var 1 :* var 2 :+ var 2 :* var 2, (var 0 :- var 2) :* var 4, unit) ∷ (var 1 :* var 3 :* var 4 :+ var 4, var 1 :* var 1 :* var 1, number 0) ∷ (var 4, var 1 :* var 1 :* var 2, number 0) ∷ (var 4, var 1 :* var 2 :* var 2, number 0) ∷ (var 4, var 2 :* var 2 :* var 2, number 0) ∷ []) (given x (given y (given (V _ _ _ g g g) (given (V _ _ _ g g h) (given (V _ _ _ g h h) (given (V _ _ _ h h h) none))))))
        (fourth (var 0) :* var 3 :* var 4) (squares (var 0) (var 1) (var 2)) refl
    none_below_by false true true a b c f g h x y z n = ring_from R (a ∷ b ∷ c ∷ gap b a ∷ gap c a ∷ [])
        ((opposite (var 0 :* var 3 :* var 4), var 0 :* var 0 :* var 0, number 0) ∷ []) (given (V _ _ _ f f f) none)
        (squares (var 0) (var 1) (var 2) :- fourth (var 0) :* var 3 :* var 4) (squares (var 0) (var 1) (var 2)) refl
    none_below_by false true false a b c f g h x y z n = ring_from R (a ∷ b ∷ c ∷ gap b a ∷ gap b c ∷ [])
        ((var 0 :* var 0 :* var 0 :* var 4 :+ var 0 :* var 0 :* var 1 :* var 4 :+ var 0 :* var 1 :* var 1 :* var 4 :+ var 1 :* var 1 :* var 1 :* var 4, (var 1 :- var 0) :* var 3, unit) ∷ (var 0 :* var 0 :+ var 0 :* var 1 :+ var 0 :* var 2 :+ var 1 :* var 1 :+ var 1 :* var 2 :+ var 2 :* var 2, (var 1 :- var 2) :* var 4, unit) ∷ (var 0 :* var 3 :* var 4 :+ var 4, var 0 :* var 0 :* var 0, number 0) ∷ (var 4, var 0 :* var 0 :* var 2, number 0) ∷ (var 4, var 0 :* var 2 :* var 2, number 0) ∷ (var 4, var 2 :* var 2 :* var 2, number 0) ∷ []) (given x (given z (given (V _ _ _ f f f) (given (V _ _ _ f f h) (given (V _ _ _ f h h) (given (V _ _ _ h h h) none))))))
        (fourth (var 1) :* var 3 :* var 4) (squares (var 0) (var 1) (var 2)) refl
    none_below_by false false true a b c f g h x y z n = ring_from R (a ∷ b ∷ c ∷ gap c a ∷ gap c b ∷ [])
        ((var 0 :* var 0 :* var 0 :* var 4 :+ var 0 :* var 0 :* var 2 :* var 4 :+ var 0 :* var 2 :* var 2 :* var 4 :+ var 2 :* var 2 :* var 2 :* var 4, (var 2 :- var 0) :* var 3, unit) ∷ (var 0 :* var 0 :+ var 0 :* var 1 :+ var 0 :* var 2 :+ var 1 :* var 1 :+ var 1 :* var 2 :+ var 2 :* var 2, (var 2 :- var 1) :* var 4, unit) ∷ (var 0 :* var 3 :* var 4 :+ var 4, var 0 :* var 0 :* var 0, number 0) ∷ (var 4, var 0 :* var 0 :* var 1, number 0) ∷ (var 4, var 0 :* var 1 :* var 1, number 0) ∷ (var 4, var 1 :* var 1 :* var 1, number 0) ∷ []) (given y (given z (given (V _ _ _ f f f) (given (V _ _ _ f f g) (given (V _ _ _ f g g) (given (V _ _ _ g g g) none))))))
        (fourth (var 2) :* var 3 :* var 4) (squares (var 0) (var 1) (var 2)) refl
    none_below_by false false false a b c f g h x y z n = absurd n

  level_unless : (a : Carrier) → sign a ≢ below → LevelUnless (is_over a) a
  level_unless a n = go (sign a) refl
    where
      go : (s : Sign) → sign a ≡ s → LevelUnless (is_above s) a
      go below e = absurd (n e)
      go level e = e
      go above e = tt

  pub none_below : TriplesVanish L → (a b c : Carrier) → sign a ≢ below → sign b ≢ below → sign c ≢ below → SomeOver (is_over a) (is_over b) (is_over c) → second_difference a b c ≡ full a b c
  unfolding second_difference
  none_below V a b c x y z n = none_below_by V (is_over a) (is_over b) (is_over c) a b c (level_unless a x) (level_unless b y) (level_unless c z) (apart a b) (apart a c) (apart b c) n

  -- with products of first_difference being 0 the corners may all lie in the plane
  pub none_below_pairs : PairsVanish L → (a b c : Carrier) → sign a ≢ below → sign b ≢ below → sign c ≢ below → second_difference a b c ≡ full a b c
  unfolding second_difference
  none_below_pairs V a b c x y z = go (is_over a) (is_over b) (is_over c) (level_unless a x) (level_unless b y) (level_unless c z) (apart a b) (apart a c) (apart b c)
    where
      V3 : TriplesVanish L
      V3 x y z p q r = ap (λ u. u ⊗ z) (V x y p q) ∙ ring R (z ∷ []) (number 0 :* var 0) (number 0) refl

      some1 : (q r : Bool) → SomeOver true q r
      some1 true true = tt
      some1 true false = tt
      some1 false true = tt
      some1 false false = tt

      some2 : (r : Bool) → SomeOver false true r
      some2 true = tt
      some2 false = tt

      go : (p q r : Bool) → LevelUnless p a → LevelUnless q b → LevelUnless r c → Apart p q a b → Apart p r a c → Apart q r b c → second_difference_by p q r a b c ≡ full a b c
      go false false false f g h k l m = ring_from R (a ∷ b ∷ c ∷ [])
          ((opposite unit, var 0 :* var 0, number 0) ∷ (opposite unit, var 1 :* var 1, number 0) ∷ (opposite unit, var 2 :* var 2, number 0) ∷ (opposite unit, var 0 :* var 1, number 0) ∷ (opposite unit, var 1 :* var 2, number 0) ∷ (opposite unit, var 0 :* var 2, number 0) ∷ [])
          (given (V a a f f) (given (V b b g g) (given (V c c h h) (given (V a b f g) (given (V b c g h) (given (V a c f h) none)))))) (number 0) (squares (var 0) (var 1) (var 2)) refl
      go true q r f g h k l m = none_below_by V3 true q r a b c f g h k l m (some1 q r)
      go false true r f g h k l m = none_below_by V3 false true r a b c f g h k l m (some2 r)
      go false false true f g h k l m = none_below_by V3 false false true a b c f g h k l m tt

  not_over : (a : Carrier) → sign a ≢ above → is_over a ≡ false
  not_over a n = go (sign a) refl
    where
      go : (s : Sign) → sign a ≡ s → is_above s ≡ false
      go below e = refl
      go level e = refl
      go above e = absurd (n e)

  pub none_above : (a b c : Carrier) → sign a ≢ above → sign b ≢ above → sign c ≢ above → second_difference a b c ≡ nought
  unfolding second_difference
  none_above a b c x y z = rw (not_over a x, not_over b y, not_over c z) refl
