-- Soundness of the normal form: a polynomial means the value of the expression that it comes from, in each commutative
-- ring, so expressions whose difference has the normal form zero are equal.
use Prim.Native.Nat.{ℕ, zero, suc, ◌+◌, ◌*◌, compare, Ordering}
use mathlib.Core.Path.{◌≡◌, refl, sym, ◌∙◌, ap, ap₂}
use mathlib.Core.List.{List}
use mathlib.Core.Bool.{Bool, true, false}
use native.Mathlib.Nat.{zero-add, suc-add, suc-mul, zero-mul}
use native.Mathlib.Omega.{compare-eq}
use Rattle.exact_algebra.specs.Expression.{Expression, var, unit, number, ◌:+◌, ◌:-◌, ◌:*◌, opposite, Polynomial, constant, term, plus_term, plus_constant, sum_of, times_constant, times_variable, product_of, normal_form, is_zero}
use Rattle.exact_algebra.specs.Ring.{CommutativeRing, value, variable_value, number_value, NormalFormIsSound}

false-ne-true : false ≡ true → ⊥
false-ne-true h = cc

module _ (R : CommutativeRing) where
  open R use {Carrier, operations, laws}
  open R.operations use {nought, one, ◌⊕◌, ◌⊗◌, negative}

  infixl 6 ◌⊕◌
  infixl 7 ◌⊗◌
  abbrev number_of : ℕ → Carrier
  number_of n = number_value operations n

  -- ---- laws that follow
  nought_add : (x : Carrier) → nought ⊕ x ≡ x
  nought_add x = laws.add_comm nought x ∙ laws.add_nought x

  add_left_comm : (x y z : Carrier) → x ⊕ (y ⊕ z) ≡ y ⊕ (x ⊕ z)
  add_left_comm x y z = sym (laws.add_assoc x y z) ∙ ap (λ t. t ⊕ z) (laws.add_comm x y) ∙ laws.add_assoc y x z

  swap_inner : (p q r s : Carrier) → (p ⊕ q) ⊕ (r ⊕ s) ≡ (p ⊕ r) ⊕ (q ⊕ s)
  swap_inner p q r s = laws.add_assoc p q (r ⊕ s) ∙ ap (λ t. p ⊕ t) (add_left_comm q r s) ∙ sym (laws.add_assoc p r (q ⊕ s))

  mul_left_comm : (x y z : Carrier) → x ⊗ (y ⊗ z) ≡ y ⊗ (x ⊗ z)
  mul_left_comm x y z = sym (laws.mul_assoc x y z) ∙ ap (λ t. t ⊗ z) (laws.mul_comm x y) ∙ laws.mul_assoc y x z

  add_mul : (x y z : Carrier) → (x ⊕ y) ⊗ z ≡ (x ⊗ z) ⊕ (y ⊗ z)
  add_mul x y z = laws.mul_comm (x ⊕ y) z ∙ laws.mul_add z x y ∙ ap₂ ◌⊕◌ (laws.mul_comm z x) (laws.mul_comm z y)

  pub cancel : (x y z : Carrier) → x ⊕ z ≡ y ⊕ z → x ≡ y
  cancel x y z e = sym (back x z) ∙ ap (λ t. t ⊕ negative z) e ∙ back y z
    where
      back : (x z : Carrier) → (x ⊕ z) ⊕ negative z ≡ x
      back x z = laws.add_assoc x z (negative z) ∙ ap (λ t. x ⊕ t) (laws.add_negative z) ∙ laws.add_nought x

  negative_unique : (x y : Carrier) → x ⊕ y ≡ nought → y ≡ negative x
  negative_unique x y e = cancel y (negative x) x (laws.add_comm y x ∙ e ∙ sym (laws.add_comm (negative x) x ∙ laws.add_negative x))

  pub mul_nought : (x : Carrier) → x ⊗ nought ≡ nought
  mul_nought x = cancel (x ⊗ nought) nought (x ⊗ nought) (sym (laws.mul_add x nought nought) ∙ ap (λ t. x ⊗ t) (laws.add_nought nought) ∙ sym (nought_add (x ⊗ nought)))

  mul-negative : (x y : Carrier) → x ⊗ negative y ≡ negative (x ⊗ y)
  mul-negative x y = negative_unique (x ⊗ y) (x ⊗ negative y) (sym (laws.mul_add x y (negative y)) ∙ ap (λ t. x ⊗ t) (laws.add_negative y) ∙ mul_nought x)

  negative-mul : (x y : Carrier) → negative x ⊗ y ≡ negative (x ⊗ y)
  negative-mul x y = laws.mul_comm (negative x) y ∙ mul-negative y x ∙ ap negative (laws.mul_comm y x)

  negative-negative : (x : Carrier) → negative (negative x) ≡ x
  negative-negative x = sym (negative_unique (negative x) x (laws.add_comm (negative x) x ∙ laws.add_negative x))

  negative-add : (x y : Carrier) → negative (x ⊕ y) ≡ negative x ⊕ negative y
  negative-add x y = sym (negative_unique (x ⊕ y) (negative x ⊕ negative y) (swap_inner x y (negative x) (negative y) ∙ ap₂ ◌⊕◌ (laws.add_negative x) (laws.add_negative y) ∙ laws.add_nought nought))

  pub negative-nought : negative nought ≡ nought
  negative-nought = sym (nought_add (negative nought)) ∙ laws.add_negative nought

  number-add : (a b : ℕ) → number_of (a + b) ≡ number_of a ⊕ number_of b
  number-add zero b = ap number_of (zero-add b) ∙ sym (nought_add (number_of b))
  number-add (suc a) b = ap number_of (suc-add a b) ∙ ap (λ t. one ⊕ t) (number-add a b) ∙ sym (laws.add_assoc one (number_of a) (number_of b))

  number-mul : (a b : ℕ) → number_of (a * b) ≡ number_of a ⊗ number_of b
  number-mul zero b = ap number_of (zero-mul b) ∙ sym (laws.mul_comm nought (number_of b) ∙ mul_nought (number_of b))
  number-mul (suc a) b = ap number_of (suc-mul a b) ∙ number-add (a * b) b ∙ laws.add_comm (number_of (a * b)) (number_of b) ∙ ap₂ ◌⊕◌ (sym (laws.mul_comm one (number_of b) ∙ laws.mul_one (number_of b))) (number-mul a b) ∙ sym (add_mul one (number_of a) (number_of b))

  abbrev difference : ℕ → ℕ → Carrier
  difference a b = number_of a ⊕ negative (number_of b)

  difference-add : (p n a b : ℕ) → difference (p + a) (n + b) ≡ difference p n ⊕ difference a b
  difference-add p n a b = ap₂ (λ s t. s ⊕ negative t) (number-add p a) (number-add n b) ∙ ap (λ t. (number_of p ⊕ number_of a) ⊕ t) (negative-add (number_of n) (number_of b)) ∙ swap_inner (number_of p) (number_of a) (negative (number_of n)) (negative (number_of b))

  difference-mul : (p n a b : ℕ) → difference (p * a + n * b) (p * b + n * a) ≡ difference p n ⊗ difference a b
  difference-mul p n a b =
      ap₂ (λ s t. s ⊕ negative t) (number-add (p * a) (n * b) ∙ ap₂ ◌⊕◌ (number-mul p a) (number-mul n b)) (number-add (p * b) (n * a) ∙ ap₂ ◌⊕◌ (number-mul p b) (number-mul n a))
      ∙ algebra (number_of p) (number_of n) (number_of a) (number_of b)
    where
      algebra : (p n a b : Carrier) → ((p ⊗ a) ⊕ (n ⊗ b)) ⊕ negative ((p ⊗ b) ⊕ (n ⊗ a)) ≡ (p ⊕ negative n) ⊗ (a ⊕ negative b)
      algebra p n a b = ap (λ t. ((p ⊗ a) ⊕ (n ⊗ b)) ⊕ t) (negative-add (p ⊗ b) (n ⊗ a)) ∙ swap_inner (p ⊗ a) (n ⊗ b) (negative (p ⊗ b)) (negative (n ⊗ a))
          ∙ ap₂ ◌⊕◌ (ap (λ t. (p ⊗ a) ⊕ t) (sym (mul-negative p b)) ∙ sym (laws.mul_add p a (negative b)))
          (laws.add_comm (n ⊗ b) (negative (n ⊗ a)) ∙ ap₂ ◌⊕◌ (sym (negative-mul n a)) (sym (negative-mul n (negative b) ∙ ap negative (mul-negative n b) ∙ negative-negative (n ⊗ b))) ∙ sym (laws.mul_add (negative n) a (negative b)))
          ∙ sym (add_mul p (negative n) (a ⊕ negative b))

  -- ---- what a polynomial means at values of the variables
  module _ (values : List Carrier) where
    abbrev variable : ℕ → Carrier
    variable i = variable_value operations values i

    abbrev value_of : Expression → Carrier
    value_of e = value operations values e

    abbrev meaning : Polynomial → Carrier
    meaning (constant a b) = number_of a ⊕ negative (number_of b)
    meaning (term i P Q) = (variable i ⊗ meaning P) ⊕ meaning Q

    meaning-plus_constant : (p n : ℕ) (r : Polynomial) → meaning (plus_constant p n r) ≡ difference p n ⊕ meaning r
    meaning-plus_constant p n (constant a b) = difference-add p n a b
    meaning-plus_constant p n (term i P Q) = ap (λ t. (variable i ⊗ meaning P) ⊕ t) (meaning-plus_constant p n Q) ∙ add_left_comm (variable i ⊗ meaning P) (difference p n) (meaning Q)

    meaning-plus_term : (i : ℕ) (P Q : Polynomial) (add_P add_Q : Polynomial → Polynomial) → ((r : Polynomial) → meaning (add_P r) ≡ meaning P ⊕ meaning r) → ((r : Polynomial) → meaning (add_Q r) ≡ meaning Q ⊕ meaning r)
        → (r : Polynomial) → meaning (plus_term i P Q add_P add_Q r) ≡ meaning (term i P Q) ⊕ meaning r
    meaning-plus_term i P Q add_P add_Q of_P of_Q (constant a b) = ap (λ t. (variable i ⊗ meaning P) ⊕ t) (of_Q (constant a b)) ∙ sym (laws.add_assoc (variable i ⊗ meaning P) (meaning Q) (difference a b))
    meaning-plus_term i P Q add_P add_Q of_P of_Q (term j P' Q') = go (compare i j) refl (meaning-plus_term i P Q add_P add_Q of_P of_Q Q')
      where
        go : (c : Ordering) → compare i j ≡ c → meaning (plus_term i P Q add_P add_Q Q') ≡ meaning (term i P Q) ⊕ meaning Q'
            → meaning (elim c [ Ordering.lt ↦ term i P (add_Q (term j P' Q')) | Ordering.eq ↦ term i (add_P P') (add_Q Q') | Ordering.gt ↦ term j P' (plus_term i P Q add_P add_Q Q') ]) ≡ meaning (term i P Q) ⊕ meaning (term j P' Q')
        go Ordering.lt e ih = ap (λ t. (variable i ⊗ meaning P) ⊕ t) (of_Q (term j P' Q')) ∙ sym (laws.add_assoc (variable i ⊗ meaning P) (meaning Q) (meaning (term j P' Q')))
        go Ordering.eq e ih = ap₂ ◌⊕◌ (ap (λ t. variable i ⊗ t) (of_P P') ∙ laws.mul_add (variable i) (meaning P) (meaning P')) (of_Q Q')
            ∙ swap_inner (variable i ⊗ meaning P) (variable i ⊗ meaning P') (meaning Q) (meaning Q')
            ∙ ap (λ (k : ℕ). ((variable i ⊗ meaning P) ⊕ meaning Q) ⊕ ((variable k ⊗ meaning P') ⊕ meaning Q')) (compare-eq i j e)
        go Ordering.gt e ih = ap (λ t. (variable j ⊗ meaning P') ⊕ t) ih ∙ add_left_comm (variable j ⊗ meaning P') (meaning (term i P Q)) (meaning Q')

    meaning-sum_of : (p r : Polynomial) → meaning (sum_of p r) ≡ meaning p ⊕ meaning r
    meaning-sum_of (constant a b) r = meaning-plus_constant a b r
    meaning-sum_of (term i P Q) r = meaning-plus_term i P Q (sum_of P) (sum_of Q) (meaning-sum_of P) (meaning-sum_of Q) r

    meaning-times_constant : (p n : ℕ) (r : Polynomial) → meaning (times_constant p n r) ≡ difference p n ⊗ meaning r
    meaning-times_constant p n (constant a b) = difference-mul p n a b
    meaning-times_constant p n (term i P Q) = ap₂ ◌⊕◌ (ap (λ t. variable i ⊗ t) (meaning-times_constant p n P) ∙ mul_left_comm (variable i) (difference p n) (meaning P)) (meaning-times_constant p n Q) ∙ sym (laws.mul_add (difference p n) (variable i ⊗ meaning P) (meaning Q))

    meaning-term : (i : ℕ) (P : Polynomial) → meaning (term i P (constant 0 0)) ≡ variable i ⊗ meaning P
    meaning-term i P = ap (λ t. (variable i ⊗ meaning P) ⊕ t) (laws.add_negative nought) ∙ laws.add_nought (variable i ⊗ meaning P)

    meaning-times_variable : (i : ℕ) (r : Polynomial) → meaning (times_variable i r) ≡ variable i ⊗ meaning r
    meaning-times_variable i (constant a b) = meaning-term i (constant a b)
    meaning-times_variable i (term j P Q) = go (compare i j) (meaning-times_variable i P) (meaning-times_variable i Q)
      where
        go : (c : Ordering) → meaning (times_variable i P) ≡ variable i ⊗ meaning P → meaning (times_variable i Q) ≡ variable i ⊗ meaning Q
            → meaning (elim c [ Ordering.lt ↦ term i (term j P Q) (constant 0 0) | Ordering.eq ↦ term i (term j P Q) (constant 0 0) | Ordering.gt ↦ term j (times_variable i P) (times_variable i Q) ]) ≡ variable i ⊗ meaning (term j P Q)
        go Ordering.lt of_P of_Q = meaning-term i (term j P Q)
        go Ordering.eq of_P of_Q = meaning-term i (term j P Q)
        go Ordering.gt of_P of_Q = ap₂ ◌⊕◌ (ap (λ t. variable j ⊗ t) of_P ∙ mul_left_comm (variable j) (variable i) (meaning P)) of_Q ∙ sym (laws.mul_add (variable i) (variable j ⊗ meaning P) (meaning Q))

    meaning-product_of : (p r : Polynomial) → meaning (product_of p r) ≡ meaning p ⊗ meaning r
    meaning-product_of (constant a b) r = meaning-times_constant a b r
    meaning-product_of (term i P Q) r = meaning-sum_of (times_variable i (product_of P r)) (product_of Q r)
        ∙ ap₂ ◌⊕◌ (meaning-times_variable i (product_of P r) ∙ ap (λ t. variable i ⊗ t) (meaning-product_of P r) ∙ sym (laws.mul_assoc (variable i) (meaning P) (meaning r))) (meaning-product_of Q r)
        ∙ sym (add_mul (variable i ⊗ meaning P) (meaning Q) (meaning r))

    minus_one : (x : Carrier) → difference 0 1 ⊗ x ≡ negative x
    minus_one x = ap (λ t. t ⊗ x) (nought_add (negative (one ⊕ nought)) ∙ ap negative (laws.add_nought one)) ∙ negative-mul one x ∙ ap negative (laws.mul_comm one x ∙ laws.mul_one x)

    meaning-normal_form : (e : Expression) → meaning (normal_form e) ≡ value_of e
    meaning-normal_form (var i) = meaning-term i (constant 1 0) ∙ ap (λ t. variable i ⊗ t) (ap₂ ◌⊕◌ (laws.add_nought one) negative-nought ∙ laws.add_nought one) ∙ laws.mul_one (variable i)
    meaning-normal_form unit = ap₂ ◌⊕◌ (laws.add_nought one) negative-nought ∙ laws.add_nought one
    meaning-normal_form (number n) = ap (λ t. number_of n ⊕ t) negative-nought ∙ laws.add_nought (number_of n)
    meaning-normal_form (a :+ b) = meaning-sum_of (normal_form a) (normal_form b) ∙ ap₂ ◌⊕◌ (meaning-normal_form a) (meaning-normal_form b)
    meaning-normal_form (a :- b) = meaning-sum_of (normal_form a) (times_constant 0 1 (normal_form b)) ∙ ap₂ ◌⊕◌ (meaning-normal_form a) (meaning-times_constant 0 1 (normal_form b) ∙ minus_one (meaning (normal_form b)) ∙ ap negative (meaning-normal_form b))
    meaning-normal_form (a :* b) = meaning-product_of (normal_form a) (normal_form b) ∙ ap₂ ◌⊗◌ (meaning-normal_form a) (meaning-normal_form b)
    meaning-normal_form (opposite a) = meaning-times_constant 0 1 (normal_form a) ∙ minus_one (meaning (normal_form a)) ∙ ap negative (meaning-normal_form a)

    meaning-zero : (p : Polynomial) → is_zero p ≡ true → meaning p ≡ nought
    meaning-zero (constant a b) h = go (compare a b) refl h
      where
        go : (c : Ordering) → compare a b ≡ c → elim c [ Ordering.lt ↦ false | Ordering.eq ↦ true | Ordering.gt ↦ false ] ≡ true → difference a b ≡ nought
        go Ordering.lt e h = absurd (false-ne-true h)
        go Ordering.eq e h = ap (λ (k : ℕ). number_of a ⊕ negative (number_of k)) (sym (compare-eq a b e)) ∙ laws.add_negative (number_of a)
        go Ordering.gt e h = absurd (false-ne-true h)
    meaning-zero (term i P Q) h = ap₂ (λ s t. (variable i ⊗ s) ⊕ t) (meaning-zero P (first (is_zero P) (is_zero Q) h)) (meaning-zero Q (second (is_zero P) (is_zero Q) h)) ∙ laws.add_nought (variable i ⊗ nought) ∙ mul_nought (variable i)
      where
        first : (a b : Bool) → elim a [ true ↦ b | false ↦ false ] ≡ true → a ≡ true
        first true b h = refl
        first false b h = h

        second : (a b : Bool) → elim a [ true ↦ b | false ↦ false ] ≡ true → b ≡ true
        second true b h = h
        second false b h = absurd (false-ne-true h)

    -- an expression with the normal form zero has the value nought
    pub value-zero : (e : Expression) → is_zero (normal_form e) ≡ true → value_of e ≡ nought
    value-zero e h = sym (meaning-normal_form e) ∙ meaning-zero (normal_form e) h

  pub normal_form_sound : NormalFormIsSound operations
  normal_form_sound values a b h = cancel _ _ (negative (value operations values b)) (value-zero values (a :- b) h ∙ sym (laws.add_negative (value operations values b)))
