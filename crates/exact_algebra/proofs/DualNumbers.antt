-- Commutative rings with a sign in which a number of sign `level` is infinitely small, and each other has an inverse: local rings.
-- An ordered field is one, and so are the dual numbers x + y·ε over one, with ε·ε = 0. A law that holds of depths h + w·ε holds, in
-- its second part, of the derivative along w.
use mathlib.Core.Path.{◌≡◌, refl, ◌∙◌, ap}
use mathlib.Core.List.{[], ◌∷◌}
use mathlib.Core.Logic.{◌≢◌}
use Rattle.exact_algebra.specs.Expression.{var, unit, number, ◌:+◌, ◌:-◌, ◌:*◌, opposite}
use Rattle.exact_algebra.specs.Ring.{CommutativeRing}
use Rattle.exact_algebra.specs.OrderedField.{OrderedField, ring_of, Sign, level}
use Rattle.exact_algebra.proofs.Ring.{ring, ring_from, none, given}
use Rattle.exact_algebra.proofs.NormalForm.{mul_nought}

pub record LocalRing : Type 1 where
  pub ring : CommutativeRing
  pub sign : ring.Carrier → Sign
  pub inverse : ring.Carrier → ring.Carrier
  pub sign-nought : sign ring.operations.nought ≡ level
  pub mul-inverse : (x : ring.Carrier) → sign x ≢ level → ring.operations.◌⊗◌ x (inverse x) ≡ ring.operations.one
  pub near : (x y : ring.Carrier) → sign (ring.operations.◌⊕◌ x (ring.operations.negative y)) ≡ level → sign x ≡ sign y
  pub ideal : (t x : ring.Carrier) → sign x ≡ level → sign (ring.operations.◌⊗◌ t x) ≡ level

-- products of one, two, three infinitely small numbers are nought
pub SmallVanish : LocalRing → Type 0
SmallVanish L = (x : L.ring.Carrier) → L.sign x ≡ level → x ≡ L.ring.operations.nought

abbrev pub PairsVanish : LocalRing → Type 0
PairsVanish L = (x y : L.ring.Carrier) → L.sign x ≡ level → L.sign y ≡ level → L.ring.operations.◌⊗◌ x y ≡ L.ring.operations.nought

abbrev pub TriplesVanish : LocalRing → Type 0
TriplesVanish L = (x y z : L.ring.Carrier) → L.sign x ≡ level → L.sign y ≡ level → L.sign z ≡ level → L.ring.operations.◌⊗◌ (L.ring.operations.◌⊗◌ x y) z ≡ L.ring.operations.nought

module _ (K : OrderedField) where
  open K use {Carrier, laws}
  open K.operations use {sign, inverse}
  open K.operations.ring use {nought, ◌⊕◌, ◌⊗◌, negative}

  infixl 6 ◌⊕◌
  infixl 7 ◌⊗◌
  pub equal_by_difference : (x y : Carrier) → x ⊕ negative y ≡ nought → x ≡ y
  equal_by_difference x y e = ring_from (ring_of K) (x ∷ y ∷ []) ((unit, var 0 :- var 1, number 0) ∷ []) (given e none) (var 0) (var 1) refl

  -- an ordered field, in which only nought is infinitely small
  abbrev pub of_field : LocalRing
  of_field = record {
    ring = ring_of K;
    sign = sign;
    inverse = inverse;
    sign-nought = laws.sign-nought;
    mul-inverse = λ x n. laws.mul-inverse x (λ e. n (ap sign e ∙ laws.sign-nought));
    near = λ x y e. ap sign (equal_by_difference x y (laws.nought_from_sign (x ⊕ negative y) e));
    ideal = λ t x e. ap sign (ap (λ y. t ⊗ y) (laws.nought_from_sign x e) ∙ mul_nought (ring_of K) t) ∙ laws.sign-nought;
  }

module _ (L : LocalRing) where
  open L use {sign, inverse}
  open L.ring use {Carrier, laws}
  open L.ring.operations use {nought, one, ◌⊕◌, ◌⊗◌, negative}

  infixl 6 ◌⊕◌
  infixl 7 ◌⊗◌
  abbrev pub Dual : Type 0
  Dual = Carrier × Carrier

  abbrev pub dual_ring : CommutativeRing
  dual_ring = record {
    Carrier = Carrier × Carrier;
    operations = record {
      nought = (nought, nought);
      one = (one, nought);
      ◌⊕◌ = λ x y. (x.0 ⊕ y.0, x.1 ⊕ y.1);
      ◌⊗◌ = λ x y. (x.0 ⊗ y.0, x.0 ⊗ y.1 ⊕ x.1 ⊗ y.0);
      negative = λ x. (negative x.0, negative x.1);
    };
    laws = record {
      add_assoc = λ x y z i. (laws.add_assoc x.0 y.0 z.0 i, laws.add_assoc x.1 y.1 z.1 i);
      add_comm = λ x y i. (laws.add_comm x.0 y.0 i, laws.add_comm x.1 y.1 i);
      add_nought = λ x i. (laws.add_nought x.0 i, laws.add_nought x.1 i);
      add_negative = λ x i. (laws.add_negative x.0 i, laws.add_negative x.1 i);
      mul_assoc = λ x y z i. (laws.mul_assoc x.0 y.0 z.0 i, assoc x.0 x.1 y.0 y.1 z.0 z.1 i);
      mul_comm = λ x y i. (laws.mul_comm x.0 y.0 i, comm x.0 x.1 y.0 y.1 i);
      mul_one = λ x i. (laws.mul_one x.0 i, one_law x.0 x.1 i);
      mul_add = λ x y z i. (laws.mul_add x.0 y.0 z.0 i, distr x.0 x.1 y.0 y.1 z.0 z.1 i);
    };
  }
    where
      assoc : (a a' b b' c c' : Carrier) → (a ⊗ b) ⊗ c' ⊕ (a ⊗ b' ⊕ a' ⊗ b) ⊗ c ≡ a ⊗ (b ⊗ c' ⊕ b' ⊗ c) ⊕ a' ⊗ (b ⊗ c)
      assoc a a' b b' c c' = ring L.ring (a ∷ a' ∷ b ∷ b' ∷ c ∷ c' ∷ []) ((var 0 :* var 2) :* var 5 :+ (var 0 :* var 3 :+ var 1 :* var 2) :* var 4) (var 0 :* (var 2 :* var 5 :+ var 3 :* var 4) :+ var 1 :* (var 2 :* var 4)) refl

      comm : (a a' b b' : Carrier) → a ⊗ b' ⊕ a' ⊗ b ≡ b ⊗ a' ⊕ b' ⊗ a
      comm a a' b b' = ring L.ring (a ∷ a' ∷ b ∷ b' ∷ []) (var 0 :* var 3 :+ var 1 :* var 2) (var 2 :* var 1 :+ var 3 :* var 0) refl

      one_law : (a a' : Carrier) → a ⊗ nought ⊕ a' ⊗ one ≡ a'
      one_law a a' = ring L.ring (a ∷ a' ∷ []) (var 0 :* number 0 :+ var 1 :* unit) (var 1) refl

      distr : (a a' b b' c c' : Carrier) → a ⊗ (b' ⊕ c') ⊕ a' ⊗ (b ⊕ c) ≡ (a ⊗ b' ⊕ a' ⊗ b) ⊕ (a ⊗ c' ⊕ a' ⊗ c)
      distr a a' b b' c c' = ring L.ring (a ∷ a' ∷ b ∷ b' ∷ c ∷ c' ∷ []) (var 0 :* (var 3 :+ var 5) :+ var 1 :* (var 2 :+ var 4)) ((var 0 :* var 3 :+ var 1 :* var 2) :+ (var 0 :* var 5 :+ var 1 :* var 4)) refl

  pub dual-inverse : (x : Carrier × Carrier) → sign x.0 ≢ level → ◌≡◌ {A = Carrier × Carrier} (x.0 ⊗ inverse x.0, x.0 ⊗ negative (x.1 ⊗ inverse x.0 ⊗ inverse x.0) ⊕ x.1 ⊗ inverse x.0) (one, nought)
  dual-inverse x n = λ i. (L.mul-inverse x.0 n i, second i)
    where
      second : x.0 ⊗ negative (x.1 ⊗ inverse x.0 ⊗ inverse x.0) ⊕ x.1 ⊗ inverse x.0 ≡ nought
      second = ring_from L.ring (x.0 ∷ x.1 ∷ inverse x.0 ∷ []) ((opposite (var 1 :* var 2), var 0 :* var 2, unit) ∷ []) (given (L.mul-inverse x.0 n) none) (var 0 :* opposite (var 1 :* var 2 :* var 2) :+ var 1 :* var 2) (number 0) refl

  -- the numbers x + y·ε
  abbrev pub dual : LocalRing
  dual = record {
    ring = dual_ring;
    sign = λ x. sign x.0;
    inverse = λ x. (inverse x.0, negative (x.1 ⊗ inverse x.0 ⊗ inverse x.0));
    sign-nought = L.sign-nought;
    mul-inverse = dual-inverse;
    near = λ x y e. L.near x.0 y.0 e;
    ideal = λ t x e. L.ideal t.0 x.0 e;
  }

pub small_vanish : (K : OrderedField) → SmallVanish (of_field K)
unfolding SmallVanish
small_vanish K x e = K.laws.nought_from_sign x e

pub pairs_vanish : (L : LocalRing) → SmallVanish L → PairsVanish (dual L)
unfolding SmallVanish
pairs_vanish L f x y p q = λ i. (first i, second i)
  where
    open L.ring.operations use {nought, ◌⊕◌, ◌⊗◌}

    first : x.0 ⊗ y.0 ≡ nought
    first = ring_from L.ring (x.0 ∷ y.0 ∷ []) ((var 1, var 0, number 0) ∷ []) (given (f x.0 p) none) (var 0 :* var 1) (number 0) refl

    second : x.0 ⊗ y.1 ⊕ x.1 ⊗ y.0 ≡ nought
    second = ring_from L.ring (x.0 ∷ y.0 ∷ x.1 ∷ y.1 ∷ []) ((var 3, var 0, number 0) ∷ (var 2, var 1, number 0) ∷ []) (given (f x.0 p) (given (f y.0 q) none)) (var 0 :* var 3 :+ var 2 :* var 1) (number 0) refl

pub triples_vanish : (L : LocalRing) → PairsVanish L → TriplesVanish (dual L)
triples_vanish L f x y z p q r = λ i. (first i, second i)
  where
    open L.ring.operations use {nought, ◌⊕◌, ◌⊗◌}

    first : (x.0 ⊗ y.0) ⊗ z.0 ≡ nought
    first = ring_from L.ring (x.0 ∷ y.0 ∷ z.0 ∷ []) ((var 2, var 0 :* var 1, number 0) ∷ []) (given (f x.0 y.0 p q) none) (var 0 :* var 1 :* var 2) (number 0) refl

    second : (x.0 ⊗ y.0) ⊗ z.1 ⊕ (x.0 ⊗ y.1 ⊕ x.1 ⊗ y.0) ⊗ z.0 ≡ nought
    second = ring_from L.ring (x.0 ∷ y.0 ∷ z.0 ∷ x.1 ∷ y.1 ∷ z.1 ∷ []) ((var 5, var 0 :* var 1, number 0) ∷ (var 4, var 0 :* var 2, number 0) ∷ (var 3, var 1 :* var 2, number 0) ∷ [])
        (given (f x.0 y.0 p q) (given (f x.0 z.0 p r) (given (f y.0 z.0 q r) none))) ((var 0 :* var 1) :* var 5 :+ (var 0 :* var 4 :+ var 3 :* var 1) :* var 2) (number 0) refl
