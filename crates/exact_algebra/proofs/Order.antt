-- Order in an ordered field: signs, sums, products, factors left out, and the solver `order_from`, which proves an order
-- whose difference is a sum of differences at hand, each times a factor that isn't below nought. Its last argument is `refl`.
use mathlib.Core.Path.{◌≡◌, refl, sym, ◌∙◌, ap, ap₂}
use mathlib.Core.List.{List, [], ◌∷◌}
use mathlib.Core.Bool.{true}
use mathlib.Core.Logic.{◌≢◌, ◌⊎◌, inl, inr}
use Prim.Native.Nat.{ℕ, zero, suc}
use Rattle.exact_algebra.specs.Expression.{Expression, var, unit, number, ◌:+◌, ◌:-◌, ◌:*◌, opposite, normal_form, is_zero}
use Rattle.exact_algebra.specs.Ring.{value, number_value, CommutativeRing}
use Rattle.exact_algebra.specs.OrderedField.{OrderedField, ring_of, Sign, below, level, above, turned, sign_product}
use Rattle.exact_algebra.proofs.NormalForm.{value-zero}
use Rattle.exact_algebra.proofs.Ring.{Equations, ring, ring_from, none, given}
use Rattle.exact_algebra.proofs.Sign.{level-ne-above, level-ne-below, above-ne-below}

-- an expression less each difference of a list, times its factor
abbrev pub remainder : Expression → Equations → Expression
remainder e [] = e
remainder e ((f, a, b) ∷ facts) = remainder (e :- f :* (b :- a)) facts

module _ (K : OrderedField) where
  open K use {Carrier, laws}
  open K.operations use {sign, inverse}
  open K.operations.ring use {nought, one, ◌⊕◌, ◌⊗◌, negative}

  infixl 6 ◌⊕◌
  infixl 7 ◌⊗◌
  infixl 6 ◌⊖◌
  abbrev pub ◌⊖◌ : Carrier → Carrier → Carrier
  x ⊖ y = x ⊕ negative y

  abbrev pub NonNegative : Carrier → Type 0
  NonNegative x = sign x ≢ below

  abbrev pub Positive : Carrier → Type 0
  Positive x = sign x ≡ above

  -- x is at most y, and x is less than y
  infix 4 ◌≼◌
  abbrev pub ◌≼◌ : Carrier → Carrier → Type 0
  x ≼ y = NonNegative (y ⊖ x)

  infix 4 ◌≺◌
  abbrev pub ◌≺◌ : Carrier → Carrier → Type 0
  x ≺ y = Positive (y ⊖ x)

  abbrev R : CommutativeRing
  R = ring_of K

  -- ---- signs
  pub nonnegative_same : {x y : Carrier} → x ≡ y → NonNegative y → NonNegative x
  nonnegative_same e n f = n (ap sign (sym e) ∙ f)

  pub positive_same : {x y : Carrier} → x ≡ y → Positive y → Positive x
  positive_same e p = ap sign e ∙ p

  pub nonnegative_positive : {x : Carrier} → Positive x → NonNegative x
  nonnegative_positive p f = above-ne-below (sym p ∙ f)

  pub nonnegative_level : {x : Carrier} → sign x ≡ level → NonNegative x
  nonnegative_level p f = level-ne-below (sym p ∙ f)

  pub nonnegative-nought : NonNegative nought
  nonnegative-nought = nonnegative_level laws.sign-nought

  pub nonnegative-one : NonNegative one
  nonnegative-one = nonnegative_positive laws.sign-one

  -- the opposite of a number below nought is above
  pub negative_below : {x : Carrier} → sign x ≡ below → Positive (negative x)
  negative_below {x} e = laws.sign-negative x ∙ ap turned e

  -- a number is not below nought, or its opposite is above
  pub nonnegative_or : (x : Carrier) → NonNegative x ⊎ Positive (negative x)
  nonnegative_or x = go (sign x) refl
    where
      go : (s : Sign) → sign x ≡ s → NonNegative x ⊎ Positive (negative x)
      go below e = inr (negative_below e)
      go level e = inl (nonnegative_level e)
      go above e = inl (nonnegative_positive e)

  -- a number that isn't below nought is nought or above
  pub nought_or_positive : {x : Carrier} → NonNegative x → (x ≡ nought) ⊎ Positive x
  nought_or_positive {x} n = go (sign x) refl
    where
      go : (s : Sign) → sign x ≡ s → (x ≡ nought) ⊎ Positive x
      go below e = absurd (n e)
      go level e = inl (laws.nought_from_sign x e)
      go above e = inr e

  pub nonnegative-add : {x y : Carrier} → NonNegative x → NonNegative y → NonNegative (x ⊕ y)
  nonnegative-add {x} {y} p q = go (nought_or_positive p) (nought_or_positive q)
    where
      go : (x ≡ nought) ⊎ Positive x → (y ≡ nought) ⊎ Positive y → NonNegative (x ⊕ y)
      go (inl e) s = nonnegative_same (ring_from R (x ∷ y ∷ []) ((unit, var 0, number 0) ∷ []) (given e none) (var 0 :+ var 1) (var 1) refl) q
      go (inr r) (inl f) = nonnegative_same (ring_from R (x ∷ y ∷ []) ((unit, var 1, number 0) ∷ []) (given f none) (var 0 :+ var 1) (var 0) refl) p
      go (inr r) (inr s) = nonnegative_positive (laws.sign-add x y r s)

  pub nonnegative-mul : {x y : Carrier} → NonNegative x → NonNegative y → NonNegative (x ⊗ y)
  nonnegative-mul {x} {y} p q = go (nought_or_positive p) (nought_or_positive q)
    where
      go : (x ≡ nought) ⊎ Positive x → (y ≡ nought) ⊎ Positive y → NonNegative (x ⊗ y)
      go (inl e) s = nonnegative_same (ring_from R (x ∷ y ∷ []) ((var 1, var 0, number 0) ∷ []) (given e none) (var 0 :* var 1) (number 0) refl) nonnegative-nought
      go (inr r) (inl f) = nonnegative_same (ring_from R (x ∷ y ∷ []) ((var 0, var 1, number 0) ∷ []) (given f none) (var 0 :* var 1) (number 0) refl) nonnegative-nought
      go (inr r) (inr s) = nonnegative_positive (laws.sign-mul x y r s)

  -- one of the two above nought, and the sum is
  pub positive-add : {x y : Carrier} → Positive x → NonNegative y → Positive (x ⊕ y)
  positive-add {x} {y} p q = go (nought_or_positive q)
    where
      go : (y ≡ nought) ⊎ Positive y → Positive (x ⊕ y)
      go (inl f) = positive_same (ring_from R (x ∷ y ∷ []) ((unit, var 1, number 0) ∷ []) (given f none) (var 0 :+ var 1) (var 0) refl) p
      go (inr s) = laws.sign-add x y p s

  pub positive-mul : {x y : Carrier} → Positive x → Positive y → Positive (x ⊗ y)
  positive-mul {x} {y} p q = laws.sign-mul x y p q

  pub nonnegative-number : (n : ℕ) → NonNegative (number_value K.operations.ring n)
  nonnegative-number zero = nonnegative-nought
  nonnegative-number (suc n) = nonnegative-add nonnegative-one (nonnegative-number n)

  pub positive-number : (n : ℕ) → Positive (number_value K.operations.ring (suc n))
  positive-number n = positive-add laws.sign-one (nonnegative-number n)

  pub sign-product : (x y : Carrier) → sign (x ⊗ y) ≡ sign_product (sign x) (sign y)
  sign-product x y = go (sign x) (sign y) refl refl
    where
      turn : (u v : Carrier) → sign u ≡ turned (sign v) → turned (sign u) ≡ sign v
      turn u v e = ap turned e ∙ twice (sign v)
        where
          twice : (s : Sign) → turned (turned s) ≡ s
          twice below = refl
          twice level = refl
          twice above = refl

      first_nought : x ≡ nought → sign (x ⊗ y) ≡ level
      first_nought e = ap sign (ring_from R (x ∷ y ∷ []) ((var 1, var 0, number 0) ∷ []) (given e none) (var 0 :* var 1) (number 0) refl) ∙ laws.sign-nought

      second_nought : y ≡ nought → sign (x ⊗ y) ≡ level
      second_nought e = ap sign (ring_from R (x ∷ y ∷ []) ((var 0, var 1, number 0) ∷ []) (given e none) (var 0 :* var 1) (number 0) refl) ∙ laws.sign-nought

      opposite_above : Positive (negative (x ⊗ y)) → sign (x ⊗ y) ≡ below
      opposite_above p = sym (turn (negative (x ⊗ y)) (x ⊗ y) (laws.sign-negative (x ⊗ y))) ∙ ap turned p

      go : (s t : Sign) → sign x ≡ s → sign y ≡ t → sign (x ⊗ y) ≡ sign_product s t
      go level t e f = first_nought (laws.nought_from_sign x e)
      go below below e f = ap sign (ring R (x ∷ y ∷ []) (var 0 :* var 1) (opposite (var 0) :* opposite (var 1)) refl) ∙ positive-mul (negative_below e) (negative_below f)
      go below level e f = second_nought (laws.nought_from_sign y f)
      go below above e f = opposite_above (positive_same (ring R (x ∷ y ∷ []) (opposite (var 0 :* var 1)) (opposite (var 0) :* var 1) refl) (positive-mul (negative_below e) f))
      go above below e f = opposite_above (positive_same (ring R (x ∷ y ∷ []) (opposite (var 0 :* var 1)) (var 0 :* opposite (var 1)) refl) (positive-mul e (negative_below f)))
      go above level e f = second_nought (laws.nought_from_sign y f)
      go above above e f = positive-mul e f

  pub nonnegative_square : (x : Carrier) → NonNegative (x ⊗ x)
  nonnegative_square x f = go (sign x) (sym (sign-product x x) ∙ f)
    where
      go : (s : Sign) → sign_product s s ≡ below → ⊥
      go below e = above-ne-below e
      go level e = level-ne-below e
      go above e = above-ne-below e

  -- a number above nought has no opposite above nought
  pub not_both : {x : Carrier} → Positive x → Positive (negative x) → ⊥
  not_both {x} p q = above-ne-below (sym q ∙ laws.sign-negative x ∙ ap turned p)

  -- a factor above nought may be left out
  pub nonnegative_factor : {x c : Carrier} → Positive c → NonNegative (x ⊗ c) → NonNegative x
  nonnegative_factor {x} {c} p n f = n (sign-product x c ∙ ap₂ sign_product f p)

  pub positive_factor : {x c : Carrier} → Positive c → Positive (x ⊗ c) → Positive x
  positive_factor {x} {c} p q = go (sign x) (sym (ap (sign_product (sign x)) p) ∙ sym (sign-product x c) ∙ q)
    where
      go : (s : Sign) → sign_product s above ≡ above → s ≡ above
      go below e = absurd (above-ne-below (sym e))
      go level e = absurd (level-ne-above e)
      go above e = refl

  pub not_nought : {x : Carrier} → Positive x → x ≢ nought
  not_nought p e = level-ne-above (sym (ap sign e ∙ laws.sign-nought) ∙ p)

  -- ---- the solver: (f, a, b) in the list stands for a ≼ b taken f times, or for a ≡ b
  module _ (values : List Carrier) where
    abbrev value_of : Expression → Carrier
    value_of e = value K.operations.ring values e

    -- proofs of orders and equations, one for each of a list: `at_most` taken once, `scaled` with a factor that isn't
    -- below nought, `equal` with any factor
    pub data Facts : Equations → Type 0 where
      no_more : Facts []
      at_most : {a b : Expression} {facts : Equations} → value_of a ≼ value_of b → Facts facts → Facts ((unit, a, b) ∷ facts)
      scaled : {f a b : Expression} {facts : Equations} → NonNegative (value_of f) → value_of a ≼ value_of b → Facts facts → Facts ((f, a, b) ∷ facts)
      equal : {f a b : Expression} {facts : Equations} → value_of a ≡ value_of b → Facts facts → Facts ((f, a, b) ∷ facts)

    more : (e f a b : Expression) → NonNegative (value_of (e :- f :* (b :- a))) → NonNegative (value_of (f :* (b :- a))) → NonNegative (value_of e)
    more e f a b n m = nonnegative_same (ring R (value_of e ∷ value_of (f :* (b :- a)) ∷ []) (var 0) ((var 0 :- var 1) :+ var 1) refl) (nonnegative-add n m)

    nonnegative-remainder : (e : Expression) (facts : Equations) → Facts facts → NonNegative (value_of (remainder e facts)) → NonNegative (value_of e)
    nonnegative-remainder e [] no_more n = n
    nonnegative-remainder e ((f, a, b) ∷ facts) (at_most h g) n = more e unit a b (nonnegative-remainder (e :- unit :* (b :- a)) facts g n) (nonnegative-mul nonnegative-one h)
    nonnegative-remainder e ((f, a, b) ∷ facts) (scaled p h g) n = more e f a b (nonnegative-remainder (e :- f :* (b :- a)) facts g n) (nonnegative-mul p h)
    nonnegative-remainder e ((f, a, b) ∷ facts) (equal h g) n = more e f a b (nonnegative-remainder (e :- f :* (b :- a)) facts g n)
        (nonnegative_same (ring_from R (value_of f ∷ value_of a ∷ value_of b ∷ []) ((opposite (var 0), var 1, var 2) ∷ []) (given h none) (var 0 :* (var 2 :- var 1)) (number 0) refl) nonnegative-nought)

    pub order_from : (facts : Equations) → Facts facts → (x y : Expression) → is_zero (normal_form (remainder (y :- x) facts)) ≡ true → value_of x ≼ value_of y
    order_from facts g x y h = nonnegative-remainder (y :- x) facts g (nonnegative_same (value-zero R values (remainder (y :- x) facts) h) nonnegative-nought)

    -- the same with a number above nought left over
    pub strict_order_from : (facts : Equations) → Facts facts → (p : Expression) → Positive (value_of p) → (x y : Expression)
        → is_zero (normal_form (remainder (y :- x :- p) facts)) ≡ true → value_of x ≺ value_of y
    strict_order_from facts g p q x y h = positive_same (ring R (value_of (y :- x) ∷ value_of p ∷ []) (var 0) (var 1 :+ (var 0 :- var 1)) refl)
        (positive-add q (nonnegative-remainder (y :- x :- p) facts g (nonnegative_same (value-zero R values (remainder (y :- x :- p) facts) h) nonnegative-nought)))

  -- ---- the order
  pub ≼_same : {x y : Carrier} → x ≡ y → x ≼ y
  ≼_same {x} {y} e = order_from (x ∷ y ∷ []) ((unit, var 0, var 1) ∷ []) (equal e no_more) (var 0) (var 1) refl

  pub ≼_refl : (x : Carrier) → x ≼ x
  ≼_refl x = ≼_same refl

  pub ≼_trans : {x y z : Carrier} → x ≼ y → y ≼ z → x ≼ z
  ≼_trans {x} {y} {z} h k = order_from (x ∷ y ∷ z ∷ []) ((unit, var 0, var 1) ∷ (unit, var 1, var 2) ∷ []) (at_most h (at_most k no_more)) (var 0) (var 2) refl

  pub ≺-not_≼ : {x y : Carrier} → x ≺ y → y ≼ x → ⊥
  ≺-not_≼ {x} {y} h k = k (ap sign (ring R (x ∷ y ∷ []) (var 0 :- var 1) (opposite (var 1 :- var 0)) refl) ∙ laws.sign-negative (y ⊖ x) ∙ ap turned h)

  pub ≼_antisym : {x y : Carrier} → x ≼ y → y ≼ x → x ≡ y
  ≼_antisym {x} {y} h k = go (nought_or_positive h)
    where
      go : (y ⊖ x ≡ nought) ⊎ (x ≺ y) → x ≡ y
      go (inl e) = ring_from R (x ∷ y ∷ []) ((opposite unit, var 1 :- var 0, number 0) ∷ []) (given e none) (var 0) (var 1) refl
      go (inr s) = absurd (≺-not_≼ s k)

  pub ≼_or_≺ : (x y : Carrier) → (x ≼ y) ⊎ (y ≺ x)
  ≼_or_≺ x y = go (nonnegative_or (y ⊖ x))
    where
      go : NonNegative (y ⊖ x) ⊎ Positive (negative (y ⊖ x)) → (x ≼ y) ⊎ (y ≺ x)
      go (inl h) = inl h
      go (inr s) = inr (positive_same (ring R (x ∷ y ∷ []) (var 0 :- var 1) (opposite (var 1 :- var 0)) refl) s)

  pub ≺_weak : {x y : Carrier} → x ≺ y → x ≼ y
  ≺_weak h = nonnegative_positive h

  pub ≼_total : (x y : Carrier) → (x ≼ y) ⊎ (y ≼ x)
  ≼_total x y = elim (≼_or_≺ x y) [ inl h ↦ inl h | inr s ↦ inr (≺_weak s) ]

  pub ≺_from_not : {x y : Carrier} → (y ≼ x → ⊥) → x ≺ y
  ≺_from_not {x} {y} n = elim (≼_or_≺ y x) [ inl h ↦ absurd (n h) | inr s ↦ s ]

  pub ≺_irrefl : {x : Carrier} → x ≺ x → ⊥
  ≺_irrefl {x} s = ≺-not_≼ s (≼_refl x)

  pub ≺-≼_trans : {x y z : Carrier} → x ≺ y → y ≼ z → x ≺ z
  ≺-≼_trans {x} {y} {z} s h = strict_order_from (x ∷ y ∷ z ∷ []) ((unit, var 1, var 2) ∷ []) (at_most h no_more) (var 1 :- var 0) s (var 0) (var 2) refl

  pub ≼-≺_trans : {x y z : Carrier} → x ≼ y → y ≺ z → x ≺ z
  ≼-≺_trans {x} {y} {z} h s = strict_order_from (x ∷ y ∷ z ∷ []) ((unit, var 0, var 1) ∷ []) (at_most h no_more) (var 2 :- var 1) s (var 0) (var 2) refl

  pub ≺_trans : {x y z : Carrier} → x ≺ y → y ≺ z → x ≺ z
  ≺_trans s t = ≺-≼_trans s (≺_weak t)

  -- nought as the lower side
  pub nought-≼ : {x : Carrier} → NonNegative x → nought ≼ x
  nought-≼ {x} n = nonnegative_same (ring R (x ∷ []) (var 0 :- number 0) (var 0) refl) n

  pub nonnegative_from : {x : Carrier} → nought ≼ x → NonNegative x
  nonnegative_from {x} h = nonnegative_same (ring R (x ∷ []) (var 0) (var 0 :- number 0) refl) h

  pub positive_from : {x y : Carrier} → Positive x → x ≼ y → Positive y
  positive_from {x} {y} p h = positive_same (ring R (x ∷ y ∷ []) (var 1) (var 0 :+ (var 1 :- var 0)) refl) (positive-add p h)

  -- ---- sums, opposites, products
  pub ≼-add : {a b c d : Carrier} → a ≼ b → c ≼ d → a ⊕ c ≼ b ⊕ d
  ≼-add {a} {b} {c} {d} h k = order_from (a ∷ b ∷ c ∷ d ∷ []) ((unit, var 0, var 1) ∷ (unit, var 2, var 3) ∷ []) (at_most h (at_most k no_more)) (var 0 :+ var 2) (var 1 :+ var 3) refl

  pub ≼-sub : {a b c d : Carrier} → a ≼ b → c ≼ d → a ⊖ d ≼ b ⊖ c
  ≼-sub {a} {b} {c} {d} h k = order_from (a ∷ b ∷ c ∷ d ∷ []) ((unit, var 0, var 1) ∷ (unit, var 2, var 3) ∷ []) (at_most h (at_most k no_more)) (var 0 :- var 3) (var 1 :- var 2) refl

  pub ≼-negative : {a b : Carrier} → a ≼ b → negative b ≼ negative a
  ≼-negative {a} {b} h = order_from (a ∷ b ∷ []) ((unit, var 0, var 1) ∷ []) (at_most h no_more) (opposite (var 1)) (opposite (var 0)) refl

  pub ≼-mul : {a b c : Carrier} → NonNegative c → a ≼ b → a ⊗ c ≼ b ⊗ c
  ≼-mul {a} {b} {c} n h = order_from (a ∷ b ∷ c ∷ []) ((var 2, var 0, var 1) ∷ []) (scaled n h no_more) (var 0 :* var 2) (var 1 :* var 2) refl

  -- a factor at most nought turns the order
  pub ≼-mul_turned : {a b c : Carrier} → NonNegative (negative c) → a ≼ b → b ⊗ c ≼ a ⊗ c
  ≼-mul_turned {a} {b} {c} n h = order_from (a ∷ b ∷ c ∷ []) ((opposite (var 2), var 0, var 1) ∷ []) (scaled n h no_more) (var 1 :* var 2) (var 0 :* var 2) refl

  pub ≼-mul_both : {a b c d : Carrier} → NonNegative a → NonNegative d → a ≼ b → c ≼ d → a ⊗ c ≼ b ⊗ d
  ≼-mul_both {a} {b} {c} {d} n m h k = order_from (a ∷ b ∷ c ∷ d ∷ []) ((var 3, var 0, var 1) ∷ (var 0, var 2, var 3) ∷ []) (scaled m h (scaled n k no_more)) (var 0 :* var 2) (var 1 :* var 3) refl

  -- ---- a common factor above nought may be left out
  pub ≼_cancel : {a b c : Carrier} → Positive c → a ⊗ c ≼ b ⊗ c → a ≼ b
  ≼_cancel {a} {b} {c} p h = nonnegative_factor p (nonnegative_same (ring R (a ∷ b ∷ c ∷ []) ((var 1 :- var 0) :* var 2) (var 1 :* var 2 :- var 0 :* var 2) refl) h)

  pub ≺_cancel : {a b c : Carrier} → Positive c → a ⊗ c ≺ b ⊗ c → a ≺ b
  ≺_cancel {a} {b} {c} p h = positive_factor p (positive_same (ring R (a ∷ b ∷ c ∷ []) ((var 1 :- var 0) :* var 2) (var 1 :* var 2 :- var 0 :* var 2) refl) h)

  pub ≺-mul : {a b c : Carrier} → Positive c → a ≺ b → a ⊗ c ≺ b ⊗ c
  ≺-mul {a} {b} {c} p h = positive_same (ring R (a ∷ b ∷ c ∷ []) (var 1 :* var 2 :- var 0 :* var 2) ((var 1 :- var 0) :* var 2) refl) (positive-mul h p)

  pub mul_cancel : {a b c : Carrier} → c ≢ nought → a ⊗ c ≡ b ⊗ c → a ≡ b
  mul_cancel {a} {b} {c} n e = ring_from R (a ∷ b ∷ c ∷ inverse c ∷ []) ((var 1 :- var 0, var 2 :* var 3, unit) ∷ (var 3, var 0 :* var 2, var 1 :* var 2) ∷ [])
      (given (laws.mul-inverse c n) (given e none)) (var 0) (var 1) refl
