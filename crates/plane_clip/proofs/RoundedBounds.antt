-- Bounds of products, sums and parts that are rounded down or up, from natural numbers to fractions. Every term is built of numbers that
-- aren't below nought, so bounds of the parts give bounds of the whole.
use Prim.Native.Nat.{ℕ, ◌+◌, ◌-◌, ◌*◌, ◌/◌, ◌<◌, ◌≤◌, ◌^◌}
use native.Mathlib.Omega.{arith}
use mathlib.Core.Path.{◌≡◌, refl, sym, ◌∙◌, ap, subst}
use mathlib.Core.List.{[], ◌∷◌}
use mathlib.Core.Logic.{◌≢◌, ◌⊎◌, inl, inr}
use mathlib.Core.Bool.{Bool, true, false}
use lib.IntN.{pos}
use lib.Signed.{◌≤ℤ◌}
use borrow.Author.Differences.{ints}
use Rattle.std.proofs.Math.Nat.{div-mul-le_self, lt-div-mul-add, eq-or-lt_of_le}
use Rattle.exact_algebra.specs.Expression.{var, unit, number, ◌:+◌, ◌:-◌, ◌:*◌, opposite}
use Rattle.exact_algebra.specs.OrderedField.{below, above}
use Rattle.exact_algebra.proofs.Ring.{ring, ring_from, none, given}
use Rattle.exact_algebra.proofs.Fraction.{Fraction, nought, one, ◌⊕◌, ◌⊗◌, ◌⊖◌, sign, fractions, fraction_ring, ◌≼◌}
use Rattle.exact_algebra.proofs.Whole.{whole, whole-add, whole-mul, whole-nought, whole-≼, positive-whole, nonnegative-whole}
use Rattle.exact_algebra.proofs.Order as Order
use Rattle.exact_algebra.proofs.Order.{order_from, no_more, at_most, scaled, equal}
use Rattle.plane_clip.specs.Rounded.{scale, cube, bound, rest, part}
use Rattle.plane_clip.proofs.PartSteps.{part-most}

abbrev pub NonNegative : Fraction → Type 0
NonNegative x = sign x ≢ below

-- ---- natural numbers among the fractions
abbrev pub N : ℕ → Fraction
N n = whole (pos n)

abbrev pub P40 : Fraction
P40 = N (2 ^ 40)

pub positive-P40 : sign P40 ≡ above
positive-P40 = positive-whole (2 ^ 40) (omega arith)

pub N-add : (m n : ℕ) → N (m + n) ≡ N m ⊕ N n
N-add m n = whole-add (pos m) (pos n)

pub N-mul : (m n : ℕ) → N (m * n) ≡ N m ⊗ N n
N-mul m n = whole-mul (pos m) (pos n)

pub N_le : (m n : ℕ) → m ≤ n → N m ≼ N n
N_le m n h = whole-≼ (up h)
  where
    up : {m n : ℕ} → m ≤ n → pos m ≤ℤ pos n
    up h = omega (arith, ints)

pub same : {x y : Fraction} → x ≡ y → x ≼ y
same e = Order.≼_same fractions e

pub up_from : (x y : Fraction) → NonNegative x → x ≼ y → NonNegative y
up_from x y n h = Order.nonnegative_same fractions (ring fraction_ring (x ∷ y ∷ []) (var 1) (var 0 :+ (var 1 :- var 0)) refl) (Order.nonnegative-add fractions n h)

-- n is a bound of x, rounded down or up
abbrev pub BoundAt : Bool → ℕ → Fraction → Type 0
BoundAt false n x = N n ≼ x
BoundAt true n x = NonNegative x × (x ≼ N n)

-- the same of x in units of 2^-40
abbrev pub Bound : Bool → ℕ → Fraction → Type 0
Bound up n x = BoundAt up n (x ⊗ P40)

pub bound-same : (up : Bool) (n : ℕ) {x y : Fraction} → x ≡ y → BoundAt up n y → BoundAt up n x
bound-same up n e b = subst (λ z. BoundAt up n z) (sym e) b

unscaled : (y : Fraction) → NonNegative (y ⊗ P40) → NonNegative y
unscaled y n = Order.nonnegative_factor fractions positive-P40 n

scaled_up : (y : Fraction) → NonNegative y → NonNegative (y ⊗ P40)
scaled_up y n = Order.nonnegative-mul fractions n (nonnegative-whole (2 ^ 40))

-- n / P scaled up again
pub up_again : (n P : ℕ) → 0 < P → n ≤ (n / P + 1) * P
up_again n P o = next (n / P) n P (lt-div-mul-add {a = n} {b = P} o)
  where
    next : (q n d : ℕ) → n < q * d + d → n ≤ (q + 1) * d
    next q n d h = omega (arith, h)

-- ---- products
-- i and j are bounds of E and F, and q P is at most, at least, their product
product-low : (i j q P : ℕ) (E F : Fraction) → q * P ≤ i * j → N i ≼ E → N j ≼ F → N q ⊗ N P ≼ E ⊗ F
product-low i j q P E F h f g = Order.≼_trans fractions (same (sym (N-mul q P))) (Order.≼_trans fractions (N_le (q * P) (i * j) h) (Order.≼_trans fractions (same (N-mul i j)) (Order.≼-mul_both fractions (nonnegative-whole i) (up_from (N j) F (nonnegative-whole j) g) f g)))

product-high : (i j q P : ℕ) (E F : Fraction) → i * j ≤ q * P → NonNegative E → E ≼ N i → F ≼ N j → E ⊗ F ≼ N q ⊗ N P
product-high i j q P E F h n f g = Order.≼_trans fractions (Order.≼-mul_both fractions n (nonnegative-whole j) f g) (Order.≼_trans fractions (same (sym (N-mul i j))) (Order.≼_trans fractions (N_le (i * j) (q * P) h) (same (N-mul q P))))

pub scale-bound : (up : Bool) (i j : ℕ) (E y : Fraction) → BoundAt up i E → Bound up j y → BoundAt up (scale up i j) (E ⊗ y)
scale-bound false i j E y f g = Order.≼_cancel fractions positive-P40 (Order.≼_trans fractions (product-low i j (scale false i j) (2 ^ 40) E (y ⊗ P40) (div-mul-le_self (i * j) (2 ^ 40)) f g)
    (same (ring fraction_ring (E ∷ y ∷ P40 ∷ []) (var 0 :* (var 1 :* var 2)) ((var 0 :* var 1) :* var 2) refl)))
scale-bound true i j E y f g = (
  Order.nonnegative-mul fractions f.0 (unscaled y g.0),
  Order.≼_cancel fractions positive-P40 (Order.≼_trans fractions (same (ring fraction_ring (E ∷ y ∷ P40 ∷ []) ((var 0 :* var 1) :* var 2) (var 0 :* (var 1 :* var 2)) refl))
      (product-high i j (scale true i j) (2 ^ 40) E (y ⊗ P40) (up_again (i * j) (2 ^ 40) (omega arith)) f.0 f.1 g.1)),
)

pub bound-mul : (up : Bool) (i j : ℕ) (x y : Fraction) → Bound up i x → Bound up j y → Bound up (scale up i j) (x ⊗ y)
bound-mul up i j x y f g = bound-same up (scale up i j) (ring fraction_ring (x ∷ y ∷ P40 ∷ []) ((var 0 :* var 1) :* var 2) ((var 0 :* var 2) :* var 1) refl) (scale-bound up i j (x ⊗ P40) y f g)

square-40 : N (2 ^ 80) ≡ P40 ⊗ P40
square-40 = N-mul (2 ^ 40) (2 ^ 40)

positive-80 : sign (N (2 ^ 80)) ≡ above
positive-80 = positive-whole (2 ^ 80) (omega arith)

pub cube-bound : (up : Bool) (a T S : ℕ) (t s : Fraction) → Bound up T t → Bound up S s → BoundAt up (cube up a T S) (N a ⊗ (t ⊗ s))
cube-bound false a T S t s f g = Order.≼_cancel fractions positive-80 (Order.≼_trans fractions (product-low a (T * S) (cube false a T S) (2 ^ 80) (N a) ((t ⊗ P40) ⊗ (s ⊗ P40)) (div-mul-le_self (a * (T * S)) (2 ^ 80)) (Order.≼_refl fractions (N a))
    (Order.≼_trans fractions (same (N-mul T S)) (Order.≼-mul_both fractions (nonnegative-whole T) (up_from (N S) (s ⊗ P40) (nonnegative-whole S) g) f g)))
    (same (ring_from fraction_ring (N a ∷ t ∷ s ∷ P40 ∷ N (2 ^ 80) ∷ []) ((opposite (var 0 :* (var 1 :* var 2)), var 4, var 3 :* var 3) ∷ []) (given square-40 none) (var 0 :* ((var 1 :* var 3) :* (var 2 :* var 3))) ((var 0 :* (var 1 :* var 2)) :* var 4) refl)))
cube-bound true a T S t s f g = (
  Order.nonnegative-mul fractions (nonnegative-whole a) (Order.nonnegative-mul fractions (unscaled t f.0) (unscaled s g.0)),
  Order.≼_cancel fractions positive-80 (Order.≼_trans fractions (same (ring_from fraction_ring (N a ∷ t ∷ s ∷ P40 ∷ N (2 ^ 80) ∷ []) ((var 0 :* (var 1 :* var 2), var 4, var 3 :* var 3) ∷ []) (given square-40 none) ((var 0 :* (var 1 :* var 2)) :* var 4) (var 0 :* ((var 1 :* var 3) :* (var 2 :* var 3))) refl))
      (product-high a (T * S) (cube true a T S) (2 ^ 80) (N a) ((t ⊗ P40) ⊗ (s ⊗ P40)) (up_again (a * (T * S)) (2 ^ 80) (omega arith)) (nonnegative-whole a) (Order.≼_refl fractions (N a))
      (Order.≼_trans fractions (Order.≼-mul_both fractions f.0 (nonnegative-whole S) f.1 g.1) (same (sym (N-mul T S)))))),
)

-- ---- sums
pub bound-add : (up : Bool) (i j : ℕ) (x y : Fraction) → Bound up i x → Bound up j y → Bound up (i + j) (x ⊕ y)
bound-add false i j x y f g = Order.≼_trans fractions (same (N-add i j)) (Order.≼_trans fractions (Order.≼-add fractions f g) (same (ring fraction_ring (x ∷ y ∷ P40 ∷ []) (var 0 :* var 2 :+ var 1 :* var 2) ((var 0 :+ var 1) :* var 2) refl)))
bound-add true i j x y f g = (
  Order.nonnegative_same fractions (ring fraction_ring (x ∷ y ∷ P40 ∷ []) ((var 0 :+ var 1) :* var 2) (var 0 :* var 2 :+ var 1 :* var 2) refl) (Order.nonnegative-add fractions f.0 g.0),
  Order.≼_trans fractions (same (ring fraction_ring (x ∷ y ∷ P40 ∷ []) ((var 0 :+ var 1) :* var 2) (var 0 :* var 2 :+ var 1 :* var 2) refl)) (Order.≼_trans fractions (Order.≼-add fractions f.1 g.1) (same (sym (N-add i j)))),
)

pub bound-twice : (up : Bool) (i : ℕ) (x : Fraction) → Bound up i x → Bound up (2 * i) (x ⊕ x)
bound-twice up i x f = subst (λ k. Bound up k (x ⊕ x)) twice (bound-add up i i x x f f)
  where
    twice : i + i ≡ 2 * i
    twice = omega arith

pub bound-one : (up : Bool) → Bound up (2 ^ 40) one
bound-one false = same (ring fraction_ring (P40 ∷ []) (var 0) (unit :* var 0) refl)
bound-one true = (scaled_up one (Order.nonnegative-one fractions), same (ring fraction_ring (P40 ∷ []) (unit :* var 0) (var 0) refl))

pub bound-nought : (up : Bool) → Bound up 0 nought
bound-nought false = same (whole-nought ∙ ring fraction_ring (P40 ∷ []) (number 0) (number 0 :* var 0) refl)
bound-nought true = (scaled_up nought (Order.nonnegative-nought fractions), same (ring fraction_ring (P40 ∷ []) (number 0 :* var 0) (number 0) refl ∙ sym whole-nought))

-- ---- parts of edges
abbrev pub IsPartOf : ℕ → ℕ → Fraction → Type 0
IsPartOf a b t = t ⊗ (N a ⊕ N b) ≡ N a

module _ (a b : ℕ) (t : Fraction) (some : 0 < a + b) (i : IsPartOf a b t) where
  positive-sum : sign (N a ⊕ N b) ≡ above
  positive-sum = ap sign (sym (N-add a b)) ∙ positive-whole (a + b) some

  part-nonnegative : NonNegative t
  part-nonnegative = Order.nonnegative_factor fractions positive-sum (Order.nonnegative_same fractions i (nonnegative-whole a))

  rest-nonnegative : NonNegative (one ⊖ t)
  rest-nonnegative = Order.nonnegative_factor fractions positive-sum
      (Order.nonnegative_same fractions (ring_from fraction_ring (t ∷ N a ∷ N b ∷ []) ((opposite unit, var 0 :* (var 1 :+ var 2), var 1) ∷ []) (given i none) ((unit :- var 0) :* (var 1 :+ var 2)) (var 2) refl) (nonnegative-whole b))

  T : ℕ
  T = part a b

  floor : T * (a + b) ≤ a * 2 ^ 40
  unfolding T part
  floor = div-mul-le_self (a * 2 ^ 40) (a + b)

  ceiling : a * 2 ^ 40 ≤ (T + 1) * (a + b)
  unfolding T part
  ceiling = up_again (a * 2 ^ 40) (a + b) some

  pub part-low : N (part a b) ≼ t ⊗ P40
  unfolding T
  part-low = Order.≼_cancel fractions positive-sum (order_from fractions (t ∷ N a ∷ N b ∷ P40 ∷ N T ∷ N (T * (a + b)) ∷ N (a * 2 ^ 40) ∷ N (a + b) ∷ [])
      ((opposite (var 3), var 0 :* (var 1 :+ var 2), var 1) ∷ (opposite unit, var 5, var 4 :* var 7) ∷ (unit, var 6, var 1 :* var 3) ∷ (opposite (var 4), var 7, var 1 :+ var 2) ∷ (unit, var 5, var 6) ∷ [])
      (equal i (equal (N-mul T (a + b)) (equal (N-mul a (2 ^ 40)) (equal (N-add a b) (at_most (N_le (T * (a + b)) (a * 2 ^ 40) floor) no_more))))) (var 4 :* (var 1 :+ var 2)) ((var 0 :* var 3) :* (var 1 :+ var 2)) refl)

  pub part-high : t ⊗ P40 ≼ N (part a b + 1)
  unfolding T
  part-high = Order.≼_cancel fractions positive-sum (order_from fractions (t ∷ N a ∷ N b ∷ P40 ∷ N (T + 1) ∷ N ((T + 1) * (a + b)) ∷ N (a * 2 ^ 40) ∷ N (a + b) ∷ [])
      ((var 3, var 0 :* (var 1 :+ var 2), var 1) ∷ (unit, var 5, var 4 :* var 7) ∷ (opposite unit, var 6, var 1 :* var 3) ∷ (var 4, var 7, var 1 :+ var 2) ∷ (unit, var 6, var 5) ∷ [])
      (equal i (equal (N-mul (T + 1) (a + b)) (equal (N-mul a (2 ^ 40)) (equal (N-add a b) (at_most (N_le (a * 2 ^ 40) ((T + 1) * (a + b)) ceiling) no_more))))) ((var 0 :* var 3) :* (var 1 :+ var 2)) (var 4 :* (var 1 :+ var 2)) refl)

  pub bound-part : (up : Bool) → Bound up (bound up (part a b)) t
  bound-part false = part-low
  bound-part true = (scaled_up t part-nonnegative, part-high)

  pub bound-rest : (up : Bool) → Bound up (rest up (part a b)) (one ⊖ t)
  bound-rest false = go (part a b) part-high (eq-or-lt_of_le (part-most a b))
    where
      go : (T : ℕ) → t ⊗ P40 ≼ N (T + 1) → (T ≡ 2 ^ 40) ⊎ (T < 2 ^ 40) → Bound false (rest false T) (one ⊖ t)
      go T h (inl e) = subst (λ k. N k ≼ (one ⊖ t) ⊗ P40) (none_left T e) (Order.≼_trans fractions (same whole-nought) (Order.nonnegative_same fractions (ring fraction_ring (((one ⊖ t) ⊗ P40) ∷ []) (var 0 :- number 0) (var 0) refl) (scaled_up (one ⊖ t) rest-nonnegative)))
        where
          none_left : (T : ℕ) → T ≡ 2 ^ 40 → 0 ≡ rest false T
          none_left T e = omega (arith, e)
      go T h (inr l) = order_from fractions (t ∷ P40 ∷ N (rest false T) ∷ N (T + 1) ∷ []) ((unit, var 0 :* var 1, var 3) ∷ (opposite unit, var 1, var 2 :+ var 3) ∷ [])
          (at_most h (equal (ap N (sym (filled T l)) ∙ N-add (rest false T) (T + 1)) no_more)) (var 2) ((unit :- var 0) :* var 1) refl
        where
          filled : (T : ℕ) → T < 2 ^ 40 → rest false T + (T + 1) ≡ 2 ^ 40
          filled T l = omega (arith, l)
  bound-rest true = (
    scaled_up (one ⊖ t) rest-nonnegative,
    order_from fractions (t ∷ P40 ∷ N (2 ^ 40 - part a b) ∷ N (part a b) ∷ []) ((unit, var 3, var 0 :* var 1) ∷ (unit, var 1, var 2 :+ var 3) ∷ [])
        (at_most part-low (equal (ap N (sym (filled (part a b) (part-most a b))) ∙ N-add (2 ^ 40 - part a b) (part a b)) no_more)) ((unit :- var 0) :* var 1) (var 2) refl,
  )
    where
      filled : (T : ℕ) → T ≤ 2 ^ 40 → (2 ^ 40 - T) + T ≡ 2 ^ 40
      filled T h = omega (arith, h)
