-- Operations of a ring, the laws of a commutative ring, the value of an expression in one, and the law that the normal
-- form keeps values.
use Prim.Native.Nat.{ℕ, zero, suc}
use Rattle.std.specs.Prelude.{◌≡◌, List, [], ◌∷◌, ℤ, pos, ◌+ℤ◌, ◌*ℤ◌, neg_ℤ}
use Rattle.exact_algebra.specs.Expression.{Expression, var, unit, number, ◌:+◌, ◌:-◌, ◌:*◌, opposite, SameNormalForm}

pub record Operations (C : Type 0) : Type 0 where
  pub nought : C
  pub one : C
  infixl 6 ◌⊕◌
  pub ◌⊕◌ : C → C → C
  infixl 7 ◌⊗◌
  pub ◌⊗◌ : C → C → C
  pub negative : C → C

module _ {C : Type 0} (R : Operations C) where
  open R use {nought, one, ◌⊕◌, ◌⊗◌, negative}

  infixl 6 ◌⊕◌
  infixl 7 ◌⊗◌
  pub record IsCommutativeRing : Type 0 where
    pub add_assoc : (x y z : C) → (x ⊕ y) ⊕ z ≡ x ⊕ (y ⊕ z)
    pub add_comm : (x y : C) → x ⊕ y ≡ y ⊕ x
    pub add_nought : (x : C) → x ⊕ nought ≡ x
    pub add_negative : (x : C) → x ⊕ negative x ≡ nought
    pub mul_assoc : (x y z : C) → (x ⊗ y) ⊗ z ≡ x ⊗ (y ⊗ z)
    pub mul_comm : (x y : C) → x ⊗ y ≡ y ⊗ x
    pub mul_one : (x : C) → x ⊗ one ≡ x
    pub mul_add : (x y z : C) → x ⊗ (y ⊕ z) ≡ (x ⊗ y) ⊕ (x ⊗ z)

  -- the value of a variable, which is nought past the list's end
  abbrev pub variable_value : List C → ℕ → C
  variable_value [] i = nought
  variable_value (x ∷ values) zero = x
  variable_value (x ∷ values) (suc i) = variable_value values i

  -- the sum of n ones
  abbrev pub number_value : ℕ → C
  number_value zero = nought
  number_value (suc n) = one ⊕ number_value n

  abbrev pub value : List C → Expression → C
  value values (var i) = variable_value values i
  value values unit = one
  value values (number n) = number_value n
  value values (a :+ b) = value values a ⊕ value values b
  value values (a :- b) = value values a ⊕ negative (value values b)
  value values (a :* b) = value values a ⊗ value values b
  value values (opposite a) = negative (value values a)

  -- expressions whose difference has the normal form zero are equal at all values of their variables
  abbrev pub NormalFormIsSound : Type 0
  NormalFormIsSound = (values : List C) (a b : Expression) → SameNormalForm a b → value values a ≡ value values b

abbrev pub whole_numbers : Operations ℤ
whole_numbers = record { nought = pos 0; one = pos 1; ◌⊕◌ = ◌+ℤ◌; ◌⊗◌ = ◌*ℤ◌; negative = neg_ℤ }

pub record CommutativeRing : Type 1 where
  pub Carrier : Type 0
  pub operations : Operations Carrier
  pub laws : IsCommutativeRing operations
