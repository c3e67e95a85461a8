-- Fractions: ratios of a whole number to a denominator above 0, where two ratios are one fraction if their cross products
-- are equal. Equality of fractions is `≡`. They are an ordered field, `fractions`.
use Prim.Native.Nat.{ℕ, zero, suc, ◌+◌, ◌*◌, ◌<◌}
use mathlib.Core.Path.{◌≡◌, refl, sym, ◌∙◌, ap}
use mathlib.Core.List.{List, [], ◌∷◌}
use mathlib.Core.Logic.{◌≢◌}
use mathlib.Core.HLevel.{Π_prop}
use mathlib.Core.Quot.{Quot, mk, sound, lift, ind, Quot-set}
use mathlib.Mathlib.Data.Quot.{lift₂}
use native.Mathlib.Omega.{arith}
use native.Mathlib.Nat.{mul-pos, zero-lt-suc}
use lib.IntN.{ℤ, pos, negsuc, ◌+ℤ◌, ◌*ℤ◌, neg_ℤ}
use Rattle.exact_algebra.specs.Expression.{Expression, var, unit, number, ◌:+◌, ◌:*◌, opposite}
use Rattle.exact_algebra.specs.Ring.{CommutativeRing}
use Rattle.exact_algebra.specs.OrderedField.{OrderedField, Sign, below, level, above, turned, Sign-set}
use Rattle.exact_algebra.proofs.Ring.{ring, ring_from, none, given}
use Rattle.exact_algebra.proofs.WholeNumbers.{integers}
use Rattle.exact_algebra.proofs.Sign.{level-ne-above, level-ne-below, above-ne-below}

-- a whole number over a denominator above 0
pub record Ratio : Type 0 where
  pub num : ℤ
  pub den : ℕ
  pub positive : 0 < den

abbrev pub SameRatio : Ratio → Ratio → Type 0
SameRatio p q = p.num *ℤ pos q.den ≡ q.num *ℤ pos p.den

abbrev pub Fraction : Type 0
Fraction = Quot SameRatio

-- the fraction with a numerator and a denominator above 0
unfoldable pub over : ℤ → (d : ℕ) → 0 < d → Fraction
over n d h = mk (record { num = n; den = d; positive = h })

-- ---- sum, product, opposite
abbrev ratio_sum : Ratio → Ratio → Ratio
ratio_sum p q = record { num = p.num *ℤ pos q.den +ℤ q.num *ℤ pos p.den; den = p.den * q.den; positive = mul-pos p.positive q.positive }

abbrev ratio_product : Ratio → Ratio → Ratio
ratio_product p q = record { num = p.num *ℤ q.num; den = p.den * q.den; positive = mul-pos p.positive q.positive }

abbrev ratio_negative : Ratio → Ratio
ratio_negative p = record { num = neg_ℤ p.num; den = p.den; positive = p.positive }

-- numerators and denominators of up to three ratios, as variables in the order of `values`
abbrev n₁ : Expression
n₁ = var 0

abbrev d₁ : Expression
d₁ = var 1

abbrev n₂ : Expression
n₂ = var 2

abbrev d₂ : Expression
d₂ = var 3

abbrev n₃ : Expression
n₃ = var 4

abbrev d₃ : Expression
d₃ = var 5

pub ratio_sum-same_left : (p p' q : Ratio) → SameRatio p p' → SameRatio (ratio_sum p q) (ratio_sum p' q)
ratio_sum-same_left p p' q e = ring_from integers (p.num ∷ pos p.den ∷ p'.num ∷ pos p'.den ∷ q.num ∷ pos q.den ∷ []) ((d₃ :* d₃, n₁ :* d₂, n₂ :* d₁) ∷ []) (given e none)
    ((n₁ :* d₃ :+ n₃ :* d₁) :* (d₂ :* d₃)) ((n₂ :* d₃ :+ n₃ :* d₂) :* (d₁ :* d₃)) refl

pub ratio_sum-same_right : (p q q' : Ratio) → SameRatio q q' → SameRatio (ratio_sum p q) (ratio_sum p q')
ratio_sum-same_right p q q' e = ring_from integers (p.num ∷ pos p.den ∷ q.num ∷ pos q.den ∷ q'.num ∷ pos q'.den ∷ []) ((d₁ :* d₁, n₂ :* d₃, n₃ :* d₂) ∷ []) (given e none)
    ((n₁ :* d₂ :+ n₂ :* d₁) :* (d₁ :* d₃)) ((n₁ :* d₃ :+ n₃ :* d₁) :* (d₁ :* d₂)) refl

pub ratio_product-same_left : (p p' q : Ratio) → SameRatio p p' → SameRatio (ratio_product p q) (ratio_product p' q)
ratio_product-same_left p p' q e = ring_from integers (p.num ∷ pos p.den ∷ p'.num ∷ pos p'.den ∷ q.num ∷ pos q.den ∷ []) ((n₃ :* d₃, n₁ :* d₂, n₂ :* d₁) ∷ []) (given e none)
    ((n₁ :* n₃) :* (d₂ :* d₃)) ((n₂ :* n₃) :* (d₁ :* d₃)) refl

pub ratio_product-same_right : (p q q' : Ratio) → SameRatio q q' → SameRatio (ratio_product p q) (ratio_product p q')
ratio_product-same_right p q q' e = ring_from integers (p.num ∷ pos p.den ∷ q.num ∷ pos q.den ∷ q'.num ∷ pos q'.den ∷ []) ((n₁ :* d₁, n₂ :* d₃, n₃ :* d₂) ∷ []) (given e none)
    ((n₁ :* n₂) :* (d₁ :* d₃)) ((n₁ :* n₃) :* (d₁ :* d₂)) refl

pub ratio_negative-same : (p q : Ratio) → SameRatio p q → SameRatio (ratio_negative p) (ratio_negative q)
ratio_negative-same p q e = ring_from integers (p.num ∷ pos p.den ∷ q.num ∷ pos q.den ∷ []) ((opposite unit, n₁ :* d₂, n₂ :* d₁) ∷ []) (given e none) (opposite n₁ :* d₂) (opposite n₂ :* d₁) refl

infixl 6 ◌⊕◌
infixl 7 ◌⊗◌
unfoldable pub ◌⊕◌ : Fraction → Fraction → Fraction
x ⊕ y = lift₂ Quot-set (λ p q. mk (ratio_sum p q)) (λ p q q' e. sound (ratio_sum-same_right p q q' e)) (λ p p' q e. sound (ratio_sum-same_left p p' q e)) x y

unfoldable pub ◌⊗◌ : Fraction → Fraction → Fraction
x ⊗ y = lift₂ Quot-set (λ p q. mk (ratio_product p q)) (λ p q q' e. sound (ratio_product-same_right p q q' e)) (λ p p' q e. sound (ratio_product-same_left p p' q e)) x y

unfoldable pub negative : Fraction → Fraction
negative x = lift Quot-set (λ p. mk (ratio_negative p)) (λ p q e. sound (ratio_negative-same p q e)) x

abbrev pub nought : Fraction
nought = mk (record { num = pos 0; den = 1; positive = omega arith })

abbrev pub one : Fraction
one = mk (record { num = pos 1; den = 1; positive = omega arith })

-- ---- the laws, by cross products
by_ratio : (P Q : Fraction → Fraction) → ((p : Ratio) → P (mk p) ≡ Q (mk p)) → (x : Fraction) → P x ≡ Q x
by_ratio P Q f x = ind (λ x. Quot-set (P x) (Q x)) f x

by_ratio₂ : (P Q : Fraction → Fraction → Fraction) → ((p q : Ratio) → P (mk p) (mk q) ≡ Q (mk p) (mk q)) → (x y : Fraction) → P x y ≡ Q x y
by_ratio₂ P Q f x y = by_ratio (λ x. P x y) (λ x. Q x y) (λ p. by_ratio (λ y. P (mk p) y) (λ y. Q (mk p) y) (f p) y) x

by_ratio₃ : (P Q : Fraction → Fraction → Fraction → Fraction) → ((p q r : Ratio) → P (mk p) (mk q) (mk r) ≡ Q (mk p) (mk q) (mk r)) → (x y z : Fraction) → P x y z ≡ Q x y z
by_ratio₃ P Q f x y z = by_ratio₂ (λ x y. P x y z) (λ x y. Q x y z) (λ p q. by_ratio (λ z. P (mk p) (mk q) z) (λ z. Q (mk p) (mk q) z) (f p q) z) x y

abbrev values : Ratio → Ratio → Ratio → List ℤ
values p q r = p.num ∷ pos p.den ∷ q.num ∷ pos q.den ∷ r.num ∷ pos r.den ∷ []

pub add_assoc : (x y z : Fraction) → (x ⊕ y) ⊕ z ≡ x ⊕ (y ⊕ z)
unfolding ◌⊕◌
add_assoc = by_ratio₃ (λ x y z. (x ⊕ y) ⊕ z) (λ x y z. x ⊕ (y ⊕ z)) (λ p q r. sound (ring integers (values p q r)
    (((n₁ :* d₂ :+ n₂ :* d₁) :* d₃ :+ n₃ :* (d₁ :* d₂)) :* (d₁ :* (d₂ :* d₃))) ((n₁ :* (d₂ :* d₃) :+ (n₂ :* d₃ :+ n₃ :* d₂) :* d₁) :* ((d₁ :* d₂) :* d₃)) refl))

pub add_comm : (x y : Fraction) → x ⊕ y ≡ y ⊕ x
unfolding ◌⊕◌
add_comm = by_ratio₂ (λ x y. x ⊕ y) (λ x y. y ⊕ x) (λ p q. sound (ring integers (values p q q) ((n₁ :* d₂ :+ n₂ :* d₁) :* (d₂ :* d₁)) ((n₂ :* d₁ :+ n₁ :* d₂) :* (d₁ :* d₂)) refl))

pub add_nought : (x : Fraction) → x ⊕ nought ≡ x
unfolding ◌⊕◌
add_nought = by_ratio (λ x. x ⊕ nought) (λ x. x) (λ p. sound (ring integers (values p p p) ((n₁ :* unit :+ number 0 :* d₁) :* d₁) (n₁ :* (d₁ :* unit)) refl))

pub add_negative : (x : Fraction) → x ⊕ negative x ≡ nought
unfolding ◌⊕◌ negative
add_negative = by_ratio (λ x. x ⊕ negative x) (λ x. nought) (λ p. sound (ring integers (values p p p) ((n₁ :* d₁ :+ opposite n₁ :* d₁) :* unit) (number 0 :* (d₁ :* d₁)) refl))

pub mul_assoc : (x y z : Fraction) → (x ⊗ y) ⊗ z ≡ x ⊗ (y ⊗ z)
unfolding ◌⊗◌
mul_assoc = by_ratio₃ (λ x y z. (x ⊗ y) ⊗ z) (λ x y z. x ⊗ (y ⊗ z)) (λ p q r. sound (ring integers (values p q r)
    (((n₁ :* n₂) :* n₃) :* (d₁ :* (d₂ :* d₃))) ((n₁ :* (n₂ :* n₃)) :* ((d₁ :* d₂) :* d₃)) refl))

pub mul_comm : (x y : Fraction) → x ⊗ y ≡ y ⊗ x
unfolding ◌⊗◌
mul_comm = by_ratio₂ (λ x y. x ⊗ y) (λ x y. y ⊗ x) (λ p q. sound (ring integers (values p q q) ((n₁ :* n₂) :* (d₂ :* d₁)) ((n₂ :* n₁) :* (d₁ :* d₂)) refl))

pub mul_one : (x : Fraction) → x ⊗ one ≡ x
unfolding ◌⊗◌
mul_one = by_ratio (λ x. x ⊗ one) (λ x. x) (λ p. sound (ring integers (values p p p) ((n₁ :* unit) :* d₁) (n₁ :* (d₁ :* unit)) refl))

pub mul_add : (x y z : Fraction) → x ⊗ (y ⊕ z) ≡ (x ⊗ y) ⊕ (x ⊗ z)
unfolding ◌⊗◌ ◌⊕◌
mul_add = by_ratio₃ (λ x y z. x ⊗ (y ⊕ z)) (λ x y z. (x ⊗ y) ⊕ (x ⊗ z)) (λ p q r. sound (ring integers (values p q r)
    ((n₁ :* (n₂ :* d₃ :+ n₃ :* d₂)) :* ((d₁ :* d₂) :* (d₁ :* d₃))) (((n₁ :* n₂) :* (d₁ :* d₃) :+ (n₁ :* n₃) :* (d₁ :* d₂)) :* (d₁ :* (d₂ :* d₃))) refl))

abbrev pub fraction_ring : CommutativeRing
fraction_ring = record {
  Carrier = Fraction;
  operations = record { nought = nought; one = one; ◌⊕◌ = ◌⊕◌; ◌⊗◌ = ◌⊗◌; negative = negative };
  laws = record { add_assoc = add_assoc; add_comm = add_comm; add_nought = add_nought; add_negative = add_negative; mul_assoc = mul_assoc; mul_comm = mul_comm; mul_one = mul_one; mul_add = mul_add };
}

-- ---- sign and inverse
abbrev pub sign_of : ℤ → Sign
sign_of (pos zero) = level
sign_of (pos (suc n)) = above
sign_of (negsuc n) = below

sign_of-times : (n : ℤ) (d : ℕ) → sign_of (n *ℤ pos (suc d)) ≡ sign_of n
sign_of-times (pos zero) d = grind arith
sign_of-times (pos (suc n)) d = grind arith
sign_of-times (negsuc n) d = grind arith

sign_of-times_den : (n : ℤ) (d : ℕ) → 0 < d → sign_of (n *ℤ pos d) ≡ sign_of n
sign_of-times_den n zero h = absurd (omega arith)
sign_of-times_den n (suc d) h = sign_of-times n d

pub sign_of-same : (p q : Ratio) → SameRatio p q → sign_of p.num ≡ sign_of q.num
sign_of-same p q e = sym (sign_of-times_den p.num q.den q.positive) ∙ ap sign_of e ∙ sign_of-times_den q.num p.den p.positive

unfoldable pub sign : Fraction → Sign
sign x = lift Sign-set (λ p. sign_of p.num) sign_of-same x

abbrev pub inverse_ratio : (n : ℤ) (d : ℕ) → Ratio
inverse_ratio (pos zero) d = record { num = pos 0; den = 1; positive = omega arith }
inverse_ratio (pos (suc n)) d = record { num = pos d; den = suc n; positive = omega arith }
inverse_ratio (negsuc n) d = record { num = neg_ℤ (pos d); den = suc n; positive = omega arith }

abbrev pub ratio_inverse : Ratio → Ratio
ratio_inverse p = inverse_ratio p.num p.den

pub inverse_ratio-same : (n m : ℤ) (d e : ℕ) → sign_of n ≡ sign_of m → n *ℤ pos e ≡ m *ℤ pos d → SameRatio (inverse_ratio n d) (inverse_ratio m e)
inverse_ratio-same (pos zero) (pos zero) d e s x = refl
inverse_ratio-same (pos zero) (pos (suc m)) d e s x = absurd (level-ne-above s)
inverse_ratio-same (pos zero) (negsuc m) d e s x = absurd (level-ne-below s)
inverse_ratio-same (pos (suc n)) (pos zero) d e s x = absurd (level-ne-above (sym s))
inverse_ratio-same (pos (suc n)) (pos (suc m)) d e s x = ring_from integers (pos (suc n) ∷ pos d ∷ pos (suc m) ∷ pos e ∷ []) ((opposite unit, n₁ :* d₂, n₂ :* d₁) ∷ []) (given x none) (d₁ :* n₂) (d₂ :* n₁) refl
inverse_ratio-same (pos (suc n)) (negsuc m) d e s x = absurd (above-ne-below s)
inverse_ratio-same (negsuc n) (pos zero) d e s x = absurd (level-ne-below (sym s))
inverse_ratio-same (negsuc n) (pos (suc m)) d e s x = absurd (above-ne-below (sym s))
inverse_ratio-same (negsuc n) (negsuc m) d e s x = ring_from integers (pos (suc n) ∷ pos d ∷ pos (suc m) ∷ pos e ∷ []) ((opposite unit, opposite n₁ :* d₂, opposite n₂ :* d₁) ∷ []) (given x none) (opposite d₁ :* n₂) (opposite d₂ :* n₁) refl

unfoldable pub inverse : Fraction → Fraction
inverse x = lift Quot-set (λ p. mk (ratio_inverse p)) (λ p q e. sound (inverse_ratio-same p.num q.num p.den q.den (sign_of-same p q e) e)) x

-- ---- the laws of order
nought_from_level : (p : Ratio) → sign_of p.num ≡ level → ◌≡◌ {A = Fraction} (mk p) nought
nought_from_level p s = sound (go p.num s)
  where
    go : (n : ℤ) → sign_of n ≡ level → n *ℤ pos 1 ≡ pos 0 *ℤ pos p.den
    go (pos zero) s = ring integers (pos p.den ∷ []) (number 0 :* unit) (number 0 :* var 0) refl
    go (pos (suc n)) s = absurd (level-ne-above (sym s))
    go (negsuc n) s = absurd (level-ne-below (sym s))

pub nought_from_sign : (x : Fraction) → sign x ≡ level → x ≡ nought
unfolding sign
nought_from_sign = ind (λ x. Π_prop (λ e. Quot-set x nought)) nought_from_level

pub sign-negative : (x : Fraction) → sign (negative x) ≡ turned (sign x)
unfolding sign negative
sign-negative = ind (λ x. Sign-set (sign (negative x)) (turned (sign x))) (λ p. go p.num)
  where
    go : (n : ℤ) → sign_of (neg_ℤ n) ≡ turned (sign_of n)
    go (pos zero) = refl
    go (pos (suc n)) = refl
    go (negsuc n) = refl

sign_of-positive : (k : ℕ) → 0 < k → sign_of (pos k) ≡ above
sign_of-positive zero h = absurd (omega arith)
sign_of-positive (suc k) h = refl

sign_of-sum_above : (n m : ℤ) (d e : ℕ) → 0 < d → 0 < e → sign_of n ≡ above → sign_of m ≡ above → sign_of (n *ℤ pos e +ℤ m *ℤ pos d) ≡ above
sign_of-sum_above (pos zero) m d e h k s t = absurd (level-ne-above s)
sign_of-sum_above (negsuc n) m d e h k s t = absurd (above-ne-below (sym s))
sign_of-sum_above (pos (suc n)) (pos zero) d e h k s t = absurd (level-ne-above t)
sign_of-sum_above (pos (suc n)) (negsuc m) d e h k s t = absurd (above-ne-below (sym t))
sign_of-sum_above (pos (suc n)) (pos (suc m)) d e h k s t = sign_of-positive (suc n * e + suc m * d) (omega (arith, mul-pos (zero-lt-suc n) k))

sign_of-product_above : (n m : ℤ) → sign_of n ≡ above → sign_of m ≡ above → sign_of (n *ℤ m) ≡ above
sign_of-product_above (pos zero) m s t = absurd (level-ne-above s)
sign_of-product_above (negsuc n) m s t = absurd (above-ne-below (sym s))
sign_of-product_above (pos (suc n)) (pos zero) s t = absurd (level-ne-above t)
sign_of-product_above (pos (suc n)) (negsuc m) s t = absurd (above-ne-below (sym t))
sign_of-product_above (pos (suc n)) (pos (suc m)) s t = sign_of-positive (suc n * suc m) (mul-pos (zero-lt-suc n) (zero-lt-suc m))

pub sign-add : (x y : Fraction) → sign x ≡ above → sign y ≡ above → sign (x ⊕ y) ≡ above
unfolding sign ◌⊕◌
sign-add = ind (λ x. Π_prop (λ y. Π_prop (λ _. Π_prop (λ _. Sign-set (sign (x ⊕ y)) above))))
    (λ p. ind (λ y. Π_prop (λ _. Π_prop (λ _. Sign-set (sign (mk p ⊕ y)) above))) (λ q. sign_of-sum_above p.num q.num p.den q.den p.positive q.positive))

pub sign-mul : (x y : Fraction) → sign x ≡ above → sign y ≡ above → sign (x ⊗ y) ≡ above
unfolding sign ◌⊗◌
sign-mul = ind (λ x. Π_prop (λ y. Π_prop (λ _. Π_prop (λ _. Sign-set (sign (x ⊗ y)) above))))
    (λ p. ind (λ y. Π_prop (λ _. Π_prop (λ _. Sign-set (sign (mk p ⊗ y)) above))) (λ q. sign_of-product_above p.num q.num))

pub mul-inverse : (x : Fraction) → x ≢ nought → x ⊗ inverse x ≡ one
unfolding ◌⊗◌ inverse
mul-inverse = ind (λ x. Π_prop (λ _. Quot-set (x ⊗ inverse x) one)) (λ p n. go p.num p.den p.positive (λ s. n (nought_from_level p s)))
  where
    go : (n : ℤ) (d : ℕ) (h : 0 < d) → sign_of n ≢ level → ◌≡◌ {A = Fraction} (mk (ratio_product (record { num = n; den = d; positive = h }) (inverse_ratio n d))) one
    go (pos zero) d h k = absurd (k refl)
    go (pos (suc n)) d h k = sound (ring integers (pos (suc n) ∷ pos d ∷ []) ((var 0 :* var 1) :* unit) (unit :* (var 1 :* var 0)) refl)
    go (negsuc n) d h k = sound (ring integers (pos (suc n) ∷ pos d ∷ []) ((opposite (var 0) :* opposite (var 1)) :* unit) (unit :* (var 1 :* var 0)) refl)

pub inverse-nought : inverse nought ≡ nought
unfolding inverse
inverse-nought = refl

pub sign-nought : sign nought ≡ level
unfolding sign
sign-nought = refl

pub sign-one : sign one ≡ above
unfolding sign
sign-one = refl

abbrev pub fractions : OrderedField
fractions = record {
  Carrier = Fraction;
  operations = record { ring = fraction_ring.operations; sign = sign; inverse = inverse };
  laws = record { ring = fraction_ring.laws; sign-nought = sign-nought; sign-one = sign-one; nought_from_sign = nought_from_sign; sign-negative = sign-negative; sign-add = sign-add; sign-mul = sign-mul; mul-inverse = mul-inverse };
}

-- ---- difference and order
infixl 6 ◌⊖◌
abbrev pub ◌⊖◌ : Fraction → Fraction → Fraction
x ⊖ y = x ⊕ negative y

-- x is at most y, and x is less than y
infix 4 ◌≼◌
abbrev pub ◌≼◌ : Fraction → Fraction → Type 0
x ≼ y = sign (y ⊖ x) ≢ below

infix 4 ◌≺◌
abbrev pub ◌≺◌ : Fraction → Fraction → Type 0
x ≺ y = sign (y ⊖ x) ≡ above
