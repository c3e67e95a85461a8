-- Bounds that intervals need, over any ordered field: of a product by the four products of the ends, of a quotient by a
-- number above nought, of the lesser and the greater of two numbers, and of a mean.
use mathlib.Core.Path.{◌≡◌, refl, sym, ◌∙◌}
use mathlib.Core.List.{List, [], ◌∷◌}
use mathlib.Core.Logic.{◌⊎◌, inl, inr}
use Rattle.exact_algebra.specs.Expression.{var, unit, number, ◌:+◌, ◌:-◌, ◌:*◌, opposite}
use Rattle.exact_algebra.specs.Ring.{number_value, CommutativeRing}
use Rattle.exact_algebra.specs.OrderedField.{OrderedField, ring_of, Sign, below, level, above}
use Rattle.exact_algebra.proofs.Ring.{ring}
use Rattle.exact_algebra.proofs.Order as Order
use Rattle.exact_algebra.proofs.Order.{order_from, no_more, at_most, scaled, equal}

module _ (K : OrderedField) where
  open K use {Carrier, laws}
  open K.operations use {sign, inverse}
  open K.operations.ring use {nought, one, ◌⊕◌, ◌⊗◌, negative}

  infixl 6 ◌⊕◌
  infixl 7 ◌⊗◌
  infix 4 ◌≼◌
  abbrev ◌≼◌ : Carrier → Carrier → Type 0
  x ≼ y = Order.◌≼◌ K x y

  infix 4 ◌≺◌
  abbrev ◌≺◌ : Carrier → Carrier → Type 0
  x ≺ y = Order.◌≺◌ K x y

  abbrev NonNegative : Carrier → Type 0
  NonNegative x = Order.NonNegative K x

  abbrev Positive : Carrier → Type 0
  Positive x = Order.Positive K x

  abbrev R : CommutativeRing
  R = ring_of K

  -- ---- products: x between a and b, y between c and d
  -- a lower bound of the four products of the ends is one of the product
  pub product_above : {a b c d x y m : Carrier} → a ≼ x → x ≼ b → c ≼ y → y ≼ d → m ≼ a ⊗ c → m ≼ a ⊗ d → m ≼ b ⊗ c → m ≼ b ⊗ d → m ≼ x ⊗ y
  product_above {a} {b} {c} {d} {x} {y} {m} ax xb cy yd ac ad bc bd = go (Order.nonnegative_or K y) (Order.nonnegative_or K a) (Order.nonnegative_or K b)
    where
      values : List Carrier
      values = a ∷ b ∷ c ∷ d ∷ x ∷ y ∷ m ∷ []

      go : NonNegative y ⊎ Positive (negative y) → NonNegative a ⊎ Positive (negative a) → NonNegative b ⊎ Positive (negative b) → m ≼ x ⊗ y
      go (inl u) (inl s) _ = order_from K values ((var 5, var 0, var 4) ∷ (var 0, var 2, var 5) ∷ (unit, var 6, var 0 :* var 2) ∷ [])
          (scaled u ax (scaled s cy (at_most ac no_more))) (var 6) (var 4 :* var 5) refl
      go (inl u) (inr s) _ = order_from K values ((var 5, var 0, var 4) ∷ (opposite (var 0), var 5, var 3) ∷ (unit, var 6, var 0 :* var 3) ∷ [])
          (scaled u ax (scaled (Order.nonnegative_positive K s) yd (at_most ad no_more))) (var 6) (var 4 :* var 5) refl
      go (inr u) _ (inl s) = order_from K values ((opposite (var 5), var 4, var 1) ∷ (var 1, var 2, var 5) ∷ (unit, var 6, var 1 :* var 2) ∷ [])
          (scaled (Order.nonnegative_positive K u) xb (scaled s cy (at_most bc no_more))) (var 6) (var 4 :* var 5) refl
      go (inr u) _ (inr s) = order_from K values ((opposite (var 5), var 4, var 1) ∷ (opposite (var 1), var 5, var 3) ∷ (unit, var 6, var 1 :* var 3) ∷ [])
          (scaled (Order.nonnegative_positive K u) xb (scaled (Order.nonnegative_positive K s) yd (at_most bd no_more))) (var 6) (var 4 :* var 5) refl

  -- an upper bound of the four products of the ends is one of the product
  pub product_below : {a b c d x y m : Carrier} → a ≼ x → x ≼ b → c ≼ y → y ≼ d → a ⊗ c ≼ m → a ⊗ d ≼ m → b ⊗ c ≼ m → b ⊗ d ≼ m → x ⊗ y ≼ m
  product_below {a} {b} {c} {d} {x} {y} {m} ax xb cy yd ac ad bc bd = go (Order.nonnegative_or K y) (Order.nonnegative_or K a) (Order.nonnegative_or K b)
    where
      values : List Carrier
      values = a ∷ b ∷ c ∷ d ∷ x ∷ y ∷ m ∷ []

      go : NonNegative y ⊎ Positive (negative y) → NonNegative a ⊎ Positive (negative a) → NonNegative b ⊎ Positive (negative b) → x ⊗ y ≼ m
      go (inl u) _ (inl s) = order_from K values ((var 5, var 4, var 1) ∷ (var 1, var 5, var 3) ∷ (unit, var 1 :* var 3, var 6) ∷ [])
          (scaled u xb (scaled s yd (at_most bd no_more))) (var 4 :* var 5) (var 6) refl
      go (inl u) _ (inr s) = order_from K values ((var 5, var 4, var 1) ∷ (opposite (var 1), var 2, var 5) ∷ (unit, var 1 :* var 2, var 6) ∷ [])
          (scaled u xb (scaled (Order.nonnegative_positive K s) cy (at_most bc no_more))) (var 4 :* var 5) (var 6) refl
      go (inr u) (inl s) _ = order_from K values ((opposite (var 5), var 0, var 4) ∷ (var 0, var 5, var 3) ∷ (unit, var 0 :* var 3, var 6) ∷ [])
          (scaled (Order.nonnegative_positive K u) ax (scaled s yd (at_most ad no_more))) (var 4 :* var 5) (var 6) refl
      go (inr u) (inr s) _ = order_from K values ((opposite (var 5), var 0, var 4) ∷ (opposite (var 0), var 2, var 5) ∷ (unit, var 0 :* var 2, var 6) ∷ [])
          (scaled (Order.nonnegative_positive K u) ax (scaled (Order.nonnegative_positive K s) cy (at_most ac no_more))) (var 4 :* var 5) (var 6) refl

  -- ---- quotients by a number above nought
  pub mul-inverse_positive : {y : Carrier} → Positive y → y ⊗ inverse y ≡ one
  mul-inverse_positive {y} p = laws.mul-inverse y (Order.not_nought K p)

  pub positive-inverse : {y : Carrier} → Positive y → Positive (inverse y)
  positive-inverse {y} p = Order.positive_factor K p (Order.positive_same K (ring R (inverse y ∷ y ∷ []) (var 0 :* var 1) (var 1 :* var 0) refl ∙ mul-inverse_positive p) laws.sign-one)

  -- m is at most x / y exactly where m y is at most x
  pub ≼-quotient : {m x y : Carrier} → Positive y → m ⊗ y ≼ x → m ≼ x ⊗ inverse y
  ≼-quotient {m} {x} {y} p h = order_from K (m ∷ x ∷ y ∷ inverse y ∷ []) ((var 3, var 0 :* var 2, var 1) ∷ (var 0, unit, var 2 :* var 3) ∷ [])
      (scaled (Order.nonnegative_positive K (positive-inverse p)) h (equal (sym (mul-inverse_positive p)) no_more)) (var 0) (var 1 :* var 3) refl

  pub ≼-quotient_out : {m x y : Carrier} → Positive y → m ≼ x ⊗ inverse y → m ⊗ y ≼ x
  ≼-quotient_out {m} {x} {y} p h = order_from K (m ∷ x ∷ y ∷ inverse y ∷ []) ((var 2, var 0, var 1 :* var 3) ∷ (var 1, var 2 :* var 3, unit) ∷ [])
      (scaled (Order.nonnegative_positive K p) h (equal (mul-inverse_positive p) no_more)) (var 0 :* var 2) (var 1) refl

  -- x / y is at most m exactly where x is at most m y
  pub quotient-≼ : {m x y : Carrier} → Positive y → x ≼ m ⊗ y → x ⊗ inverse y ≼ m
  quotient-≼ {m} {x} {y} p h = order_from K (m ∷ x ∷ y ∷ inverse y ∷ []) ((var 3, var 1, var 0 :* var 2) ∷ (var 0, var 2 :* var 3, unit) ∷ [])
      (scaled (Order.nonnegative_positive K (positive-inverse p)) h (equal (mul-inverse_positive p) no_more)) (var 1 :* var 3) (var 0) refl

  pub quotient-≼_out : {m x y : Carrier} → Positive y → x ⊗ inverse y ≼ m → x ≼ m ⊗ y
  quotient-≼_out {m} {x} {y} p h = order_from K (m ∷ x ∷ y ∷ inverse y ∷ []) ((var 2, var 1 :* var 3, var 0) ∷ (var 1, unit, var 2 :* var 3) ∷ [])
      (scaled (Order.nonnegative_positive K p) h (equal (sym (mul-inverse_positive p)) no_more)) (var 1) (var 0 :* var 2) refl

  -- x at least a, y between c and d, c above nought: m c and m d at most a make m at most x / y
  pub quotient_above : {a c d x y m : Carrier} → Positive c → a ≼ x → c ≼ y → y ≼ d → m ⊗ c ≼ a → m ⊗ d ≼ a → m ≼ x ⊗ inverse y
  quotient_above {a} {c} {d} {x} {y} {m} p ax cy yd mc md = ≼-quotient (Order.positive_from K p cy) (go (Order.nonnegative_or K m))
    where
      go : NonNegative m ⊎ Positive (negative m) → m ⊗ y ≼ x
      go (inl n) = order_from K (a ∷ c ∷ d ∷ x ∷ y ∷ m ∷ []) ((unit, var 0, var 3) ∷ (unit, var 5 :* var 2, var 0) ∷ (var 5, var 4, var 2) ∷ [])
          (at_most ax (at_most md (scaled n yd no_more))) (var 5 :* var 4) (var 3) refl
      go (inr s) = order_from K (a ∷ c ∷ d ∷ x ∷ y ∷ m ∷ []) ((unit, var 0, var 3) ∷ (unit, var 5 :* var 1, var 0) ∷ (opposite (var 5), var 1, var 4) ∷ [])
          (at_most ax (at_most mc (scaled (Order.nonnegative_positive K s) cy no_more))) (var 5 :* var 4) (var 3) refl

  -- x at most b, y between c and d, c above nought: m c and m d at least b make m at least x / y
  pub quotient_below : {b c d x y m : Carrier} → Positive c → x ≼ b → c ≼ y → y ≼ d → b ≼ m ⊗ c → b ≼ m ⊗ d → x ⊗ inverse y ≼ m
  quotient_below {b} {c} {d} {x} {y} {m} p xb cy yd mc md = quotient-≼ (Order.positive_from K p cy) (go (Order.nonnegative_or K m))
    where
      go : NonNegative m ⊎ Positive (negative m) → x ≼ m ⊗ y
      go (inl n) = order_from K (b ∷ c ∷ d ∷ x ∷ y ∷ m ∷ []) ((unit, var 3, var 0) ∷ (unit, var 0, var 5 :* var 1) ∷ (var 5, var 1, var 4) ∷ [])
          (at_most xb (at_most mc (scaled n cy no_more))) (var 3) (var 5 :* var 4) refl
      go (inr s) = order_from K (b ∷ c ∷ d ∷ x ∷ y ∷ m ∷ []) ((unit, var 3, var 0) ∷ (unit, var 0, var 5 :* var 2) ∷ (opposite (var 5), var 4, var 2) ∷ [])
          (at_most xb (at_most md (scaled (Order.nonnegative_positive K s) yd no_more))) (var 3) (var 5 :* var 4) refl

  -- ---- the lesser and the greater of two numbers, by the sign of y - x
  abbrev pub min_by : Sign → Carrier → Carrier → Carrier
  min_by below x y = y
  min_by level x y = x
  min_by above x y = x

  abbrev pub max_by : Sign → Carrier → Carrier → Carrier
  max_by below x y = x
  max_by level x y = y
  max_by above x y = y

  abbrev pub min_of : Carrier → Carrier → Carrier
  min_of x y = min_by (sign (y ⊕ negative x)) x y

  abbrev pub max_of : Carrier → Carrier → Carrier
  max_of x y = max_by (sign (y ⊕ negative x)) x y

  pub min_of_cases : (x y : Carrier) → ((x ≼ y) × (min_of x y ≡ x)) ⊎ ((y ≼ x) × (min_of x y ≡ y))
  min_of_cases x y = go (sign (y ⊕ negative x)) refl
    where
      go : (s : Sign) → sign (y ⊕ negative x) ≡ s → ((x ≼ y) × (min_by s x y ≡ x)) ⊎ ((y ≼ x) × (min_by s x y ≡ y))
      go below e = inr (Order.nonnegative_same K (ring R (x ∷ y ∷ []) (var 0 :- var 1) (opposite (var 1 :- var 0)) refl) (Order.nonnegative_positive K (Order.negative_below K e)), refl)
      go level e = inl (Order.nonnegative_level K e, refl)
      go above e = inl (Order.nonnegative_positive K e, refl)

  pub max_of_cases : (x y : Carrier) → ((x ≼ y) × (max_of x y ≡ y)) ⊎ ((y ≼ x) × (max_of x y ≡ x))
  max_of_cases x y = go (sign (y ⊕ negative x)) refl
    where
      go : (s : Sign) → sign (y ⊕ negative x) ≡ s → ((x ≼ y) × (max_by s x y ≡ y)) ⊎ ((y ≼ x) × (max_by s x y ≡ x))
      go below e = inr (Order.nonnegative_same K (ring R (x ∷ y ∷ []) (var 0 :- var 1) (opposite (var 1 :- var 0)) refl) (Order.nonnegative_positive K (Order.negative_below K e)), refl)
      go level e = inl (Order.nonnegative_level K e, refl)
      go above e = inl (Order.nonnegative_positive K e, refl)

  pub min_of-≼_left : (x y : Carrier) → min_of x y ≼ x
  min_of-≼_left x y = elim (min_of_cases x y) [ inl h ↦ Order.≼_same K h.1 | inr h ↦ Order.≼_trans K (Order.≼_same K h.1) h.0 ]

  pub min_of-≼_right : (x y : Carrier) → min_of x y ≼ y
  min_of-≼_right x y = elim (min_of_cases x y) [ inl h ↦ Order.≼_trans K (Order.≼_same K h.1) h.0 | inr h ↦ Order.≼_same K h.1 ]

  pub ≼-min_of : {x y z : Carrier} → z ≼ x → z ≼ y → z ≼ min_of x y
  ≼-min_of {x} {y} h k = elim (min_of_cases x y) [ inl e ↦ Order.≼_trans K h (Order.≼_same K (sym e.1)) | inr e ↦ Order.≼_trans K k (Order.≼_same K (sym e.1)) ]

  pub ≼-max_of_left : (x y : Carrier) → x ≼ max_of x y
  ≼-max_of_left x y = elim (max_of_cases x y) [ inl h ↦ Order.≼_trans K h.0 (Order.≼_same K (sym h.1)) | inr h ↦ Order.≼_same K (sym h.1) ]

  pub ≼-max_of_right : (x y : Carrier) → y ≼ max_of x y
  ≼-max_of_right x y = elim (max_of_cases x y) [ inl h ↦ Order.≼_same K (sym h.1) | inr h ↦ Order.≼_trans K h.0 (Order.≼_same K (sym h.1)) ]

  pub max_of-≼ : {x y z : Carrier} → x ≼ z → y ≼ z → max_of x y ≼ z
  max_of-≼ {x} {y} h k = elim (max_of_cases x y) [ inl e ↦ Order.≼_trans K (Order.≼_same K e.1) k | inr e ↦ Order.≼_trans K (Order.≼_same K e.1) h ]

  -- the least and the greatest of the four products of the ends
  abbrev pub least_product : Carrier → Carrier → Carrier → Carrier → Carrier
  least_product a b c d = min_of (min_of (a ⊗ c) (a ⊗ d)) (min_of (b ⊗ c) (b ⊗ d))

  abbrev pub greatest_product : Carrier → Carrier → Carrier → Carrier → Carrier
  greatest_product a b c d = max_of (max_of (a ⊗ c) (a ⊗ d)) (max_of (b ⊗ c) (b ⊗ d))

  pub least_product-≼ : {a b c d x y : Carrier} → a ≼ x → x ≼ b → c ≼ y → y ≼ d → least_product a b c d ≼ x ⊗ y
  least_product-≼ {a} {b} {c} {d} ax xb cy yd =
      let left : least_product a b c d ≼ min_of (a ⊗ c) (a ⊗ d) = min_of-≼_left (min_of (a ⊗ c) (a ⊗ d)) (min_of (b ⊗ c) (b ⊗ d)) in
      let right : least_product a b c d ≼ min_of (b ⊗ c) (b ⊗ d) = min_of-≼_right (min_of (a ⊗ c) (a ⊗ d)) (min_of (b ⊗ c) (b ⊗ d)) in
      product_above ax xb cy yd
      (Order.≼_trans K left (min_of-≼_left (a ⊗ c) (a ⊗ d))) (Order.≼_trans K left (min_of-≼_right (a ⊗ c) (a ⊗ d)))
      (Order.≼_trans K right (min_of-≼_left (b ⊗ c) (b ⊗ d))) (Order.≼_trans K right (min_of-≼_right (b ⊗ c) (b ⊗ d)))

  pub ≼-greatest_product : {a b c d x y : Carrier} → a ≼ x → x ≼ b → c ≼ y → y ≼ d → x ⊗ y ≼ greatest_product a b c d
  ≼-greatest_product {a} {b} {c} {d} ax xb cy yd =
      let left : max_of (a ⊗ c) (a ⊗ d) ≼ greatest_product a b c d = ≼-max_of_left (max_of (a ⊗ c) (a ⊗ d)) (max_of (b ⊗ c) (b ⊗ d)) in
      let right : max_of (b ⊗ c) (b ⊗ d) ≼ greatest_product a b c d = ≼-max_of_right (max_of (a ⊗ c) (a ⊗ d)) (max_of (b ⊗ c) (b ⊗ d)) in
      product_below ax xb cy yd
      (Order.≼_trans K (≼-max_of_left (a ⊗ c) (a ⊗ d)) left) (Order.≼_trans K (≼-max_of_right (a ⊗ c) (a ⊗ d)) left)
      (Order.≼_trans K (≼-max_of_left (b ⊗ c) (b ⊗ d)) right) (Order.≼_trans K (≼-max_of_right (b ⊗ c) (b ⊗ d)) right)

  -- ---- means, with weights that aren't below nought and whose sum is one
  pub weighted_mean_above : {a b c p q r m : Carrier} → NonNegative p → NonNegative q → NonNegative r → p ⊕ q ⊕ r ≡ one → m ≼ a → m ≼ b → m ≼ c → m ≼ p ⊗ a ⊕ q ⊗ b ⊕ r ⊗ c
  weighted_mean_above {a} {b} {c} {p} {q} {r} {m} np nq nr e ma mb mc =
      order_from K (a ∷ b ∷ c ∷ p ∷ q ∷ r ∷ m ∷ []) ((var 3, var 6, var 0) ∷ (var 4, var 6, var 1) ∷ (var 5, var 6, var 2) ∷ (var 6, unit, var 3 :+ var 4 :+ var 5) ∷ [])
      (scaled np ma (scaled nq mb (scaled nr mc (equal (sym e) no_more)))) (var 6) (var 3 :* var 0 :+ var 4 :* var 1 :+ var 5 :* var 2) refl

  pub weighted_mean_below : {a b c p q r m : Carrier} → NonNegative p → NonNegative q → NonNegative r → p ⊕ q ⊕ r ≡ one → a ≼ m → b ≼ m → c ≼ m → p ⊗ a ⊕ q ⊗ b ⊕ r ⊗ c ≼ m
  weighted_mean_below {a} {b} {c} {p} {q} {r} {m} np nq nr e am bm cm =
      order_from K (a ∷ b ∷ c ∷ p ∷ q ∷ r ∷ m ∷ []) ((var 3, var 0, var 6) ∷ (var 4, var 1, var 6) ∷ (var 5, var 2, var 6) ∷ (var 6, var 3 :+ var 4 :+ var 5, unit) ∷ [])
      (scaled np am (scaled nq bm (scaled nr cm (equal e no_more)))) (var 3 :* var 0 :+ var 4 :* var 1 :+ var 5 :* var 2) (var 6) refl

  abbrev pub mean_of : Carrier → Carrier → Carrier → Carrier
  mean_of a b c = (a ⊕ b ⊕ c) ⊗ inverse (number_value K.operations.ring 3)

  pub mean_of_above : {a b c m : Carrier} → m ≼ a → m ≼ b → m ≼ c → m ≼ mean_of a b c
  mean_of_above {a} {b} {c} {m} ma mb mc = ≼-quotient (Order.positive-number K 2)
      (order_from K (a ∷ b ∷ c ∷ m ∷ []) ((unit, var 3, var 0) ∷ (unit, var 3, var 1) ∷ (unit, var 3, var 2) ∷ []) (at_most ma (at_most mb (at_most mc no_more))) (var 3 :* number 3) (var 0 :+ var 1 :+ var 2) refl)

  pub mean_of_below : {a b c m : Carrier} → a ≼ m → b ≼ m → c ≼ m → mean_of a b c ≼ m
  mean_of_below {a} {b} {c} {m} am bm cm = quotient-≼ (Order.positive-number K 2)
      (order_from K (a ∷ b ∷ c ∷ m ∷ []) ((unit, var 0, var 3) ∷ (unit, var 1, var 3) ∷ (unit, var 2, var 3) ∷ []) (at_most am (at_most bm (at_most cm no_more))) (var 0 :+ var 1 :+ var 2) (var 3 :* number 3) refl)

  -- a point between a and b, at t from 0 to 1
  pub between_above : {a b t m : Carrier} → NonNegative t → t ≼ one → m ≼ a → m ≼ b → m ≼ (one ⊕ negative t) ⊗ a ⊕ t ⊗ b
  between_above {a} {b} {t} {m} n h ma mb = order_from K (a ∷ b ∷ t ∷ m ∷ []) ((unit :- var 2, var 3, var 0) ∷ (var 2, var 3, var 1) ∷ [])
      (scaled h ma (scaled n mb no_more)) (var 3) ((unit :- var 2) :* var 0 :+ var 2 :* var 1) refl

  pub between_below : {a b t m : Carrier} → NonNegative t → t ≼ one → a ≼ m → b ≼ m → (one ⊕ negative t) ⊗ a ⊕ t ⊗ b ≼ m
  between_below {a} {b} {t} {m} n h am bm = order_from K (a ∷ b ∷ t ∷ m ∷ []) ((unit :- var 2, var 0, var 3) ∷ (var 2, var 1, var 3) ∷ [])
      (scaled h am (scaled n bm no_more)) ((unit :- var 2) :* var 0 :+ var 2 :* var 1) (var 3) refl
