-- Polynomial expressions in numbered variables, and their normal form. Two expressions are equal in each commutative ring
-- where the normal form of their difference is zero, which a check finds by computing.
use Prim.Native.Nat.{ℕ, ◌+◌, ◌*◌, compare, Ordering}
use Rattle.std.specs.Prelude.{◌≡◌, Bool, true, false}

-- `unit` is one, and `number n` is the sum of n ones
pub data Expression : Type 0 where
  var : ℕ → Expression
  unit : Expression
  number : ℕ → Expression
  ◌:+◌ : Expression → Expression → Expression
  ◌:-◌ : Expression → Expression → Expression
  ◌:*◌ : Expression → Expression → Expression
  opposite : Expression → Expression

infixl 6 ◌:+◌
infixl 6 ◌:-◌
infixl 7 ◌:*◌
-- `constant p n` is p - n, and `term i P Q` is P times the variable i, plus Q
pub data Polynomial : Type 0 where
  constant : ℕ → ℕ → Polynomial
  term : ℕ → Polynomial → Polynomial → Polynomial

-- the sum of `term i P Q` and a polynomial, given how P and Q are added to one
abbrev pub plus_term : ℕ → Polynomial → Polynomial → (Polynomial → Polynomial) → (Polynomial → Polynomial) → Polynomial → Polynomial
plus_term i P Q add_P add_Q (constant a b) = term i P (add_Q (constant a b))
plus_term i P Q add_P add_Q (term j P' Q') = elim (compare i j) [
  | Ordering.lt ↦ term i P (add_Q (term j P' Q'))
  | Ordering.eq ↦ term i (add_P P') (add_Q Q')
  | Ordering.gt ↦ term j P' (plus_term i P Q add_P add_Q Q')
]

abbrev pub plus_constant : ℕ → ℕ → Polynomial → Polynomial
plus_constant p n (constant a b) = constant (p + a) (n + b)
plus_constant p n (term i P Q) = term i P (plus_constant p n Q)

abbrev pub sum_of : Polynomial → Polynomial → Polynomial
sum_of (constant a b) r = plus_constant a b r
sum_of (term i P Q) r = plus_term i P Q (sum_of P) (sum_of Q) r

abbrev pub times_constant : ℕ → ℕ → Polynomial → Polynomial
times_constant p n (constant a b) = constant (p * a + n * b) (p * b + n * a)
times_constant p n (term i P Q) = term i (times_constant p n P) (times_constant p n Q)

abbrev pub times_variable : ℕ → Polynomial → Polynomial
times_variable i (constant a b) = term i (constant a b) (constant 0 0)
times_variable i (term j P Q) = elim (compare i j) [
  | Ordering.lt ↦ term i (term j P Q) (constant 0 0)
  | Ordering.eq ↦ term i (term j P Q) (constant 0 0)
  | Ordering.gt ↦ term j (times_variable i P) (times_variable i Q)
]

abbrev pub product_of : Polynomial → Polynomial → Polynomial
product_of (constant a b) r = times_constant a b r
product_of (term i P Q) r = sum_of (times_variable i (product_of P r)) (product_of Q r)

abbrev pub normal_form : Expression → Polynomial
normal_form (var i) = term i (constant 1 0) (constant 0 0)
normal_form unit = constant 1 0
normal_form (number n) = constant n 0
normal_form (a :+ b) = sum_of (normal_form a) (normal_form b)
normal_form (a :- b) = sum_of (normal_form a) (times_constant 0 1 (normal_form b))
normal_form (a :* b) = product_of (normal_form a) (normal_form b)
normal_form (opposite a) = times_constant 0 1 (normal_form a)

-- whether each coefficient is zero
abbrev pub is_zero : Polynomial → Bool
is_zero (constant a b) = elim (compare a b) [ Ordering.lt ↦ false | Ordering.eq ↦ true | Ordering.gt ↦ false ]
is_zero (term i P Q) = elim (is_zero P) [ true ↦ is_zero Q | false ↦ false ]

-- two expressions whose difference has the normal form zero
abbrev pub SameNormalForm : Expression → Expression → Type 0
SameNormalForm a b = is_zero (normal_form (a :- b)) ≡ true
