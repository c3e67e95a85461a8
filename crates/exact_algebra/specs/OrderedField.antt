-- Ordered fields: a commutative ring whose elements have a sign, and an inverse where they aren't nought. x is at most y
-- where the sign of y - x isn't below.
use Rattle.std.specs.Prelude.{◌≡◌, ◌≢◌}
use Rattle.exact_algebra.specs.Ring.{Operations, IsCommutativeRing, CommutativeRing}

pub data Sign : Type 0 where
  below : Sign
  level : Sign
  above : Sign
  deriving Discrete as Sign-discrete
  deriving IsSet as Sign-set

-- the sign of the opposite number
abbrev pub turned : Sign → Sign
turned below = above
turned level = level
turned above = below

-- the sign of a product
abbrev pub sign_product : Sign → Sign → Sign
sign_product below s = turned s
sign_product level s = level
sign_product above s = s

pub record OrderedOperations (C : Type 0) : Type 0 where
  pub ring : Operations C
  pub sign : C → Sign
  pub inverse : C → C

module _ {C : Type 0} (K : OrderedOperations C) where
  open K use {sign, inverse}
  open K.ring use {nought, one, ◌⊕◌, ◌⊗◌, negative}

  infixl 6 ◌⊕◌
  infixl 7 ◌⊗◌
  pub record IsOrderedField : Type 0 where
    pub ring : IsCommutativeRing K.ring
    pub sign-nought : sign nought ≡ level
    pub sign-one : sign one ≡ above
    pub nought_from_sign : (x : C) → sign x ≡ level → x ≡ nought
    pub sign-negative : (x : C) → sign (negative x) ≡ turned (sign x)
    pub sign-add : (x y : C) → sign x ≡ above → sign y ≡ above → sign (x ⊕ y) ≡ above
    pub sign-mul : (x y : C) → sign x ≡ above → sign y ≡ above → sign (x ⊗ y) ≡ above
    pub mul-inverse : (x : C) → x ≢ nought → x ⊗ inverse x ≡ one

pub record OrderedField : Type 1 where
  pub Carrier : Type 0
  pub operations : OrderedOperations Carrier
  pub laws : IsOrderedField operations

-- the ring of an ordered field
abbrev pub ring_of : OrderedField → CommutativeRing
ring_of K = record { Carrier = K.Carrier; operations = K.operations.ring; laws = K.laws.ring }
