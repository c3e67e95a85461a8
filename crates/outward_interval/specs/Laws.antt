-- Laws of the operators on spans: what the results contain, and how wide they are. With these a span meets `Encloses`.
use Rattle.std.specs.Prelude.{◌≡◌, ℕ, ◌*◌, ◌^◌, ℤ, pos, neg_ℤ, ◌+ℤ◌, ◌-ℤ◌, ◌*ℤ◌, ◌≤ℤ◌}
use native.Mathlib.Omega.{arith}
use borrow.Author.Differences.{ints}
use Rattle.exact_algebra.proofs.Fraction.{Fraction, ◌⊕◌, ◌⊖◌, ◌⊗◌, negative}
use Rattle.exact_algebra.proofs.Span.{ContainsFraction, contains_sum, contains_negative}
use Rattle.exact_algebra.proofs.Products.{magnitude, contains_difference, contains_rounded_product, rounded_product-width}
use Rattle.outward_interval.specs.Ends.{AreEnds, AreLeastEnds, least_product, greatest_product}

-- ends that contain a fraction still do under other names
renamed : (F : ℕ) (low high lo hi : ℤ) (x : Fraction) → AreEnds low high lo hi → ContainsFraction F low high x → ContainsFraction F lo hi x
renamed F low high lo hi x e h = rw (e.low, e.high) h

pub sum_contains : (F : ℕ) (a b c d lo hi : ℤ) (x y : Fraction) → AreEnds (a +ℤ c) (b +ℤ d) lo hi → ContainsFraction F a b x → ContainsFraction F c d y → ContainsFraction F lo hi (x ⊕ y)
sum_contains F a b c d lo hi x y e h k = renamed F (a +ℤ c) (b +ℤ d) lo hi (x ⊕ y) e (contains_sum h k)

pub difference_contains : (F : ℕ) (a b c d lo hi : ℤ) (x y : Fraction) → AreEnds (a -ℤ d) (b -ℤ c) lo hi → ContainsFraction F a b x → ContainsFraction F c d y → ContainsFraction F lo hi (x ⊖ y)
difference_contains F a b c d lo hi x y e h k = renamed F (a -ℤ d) (b -ℤ c) lo hi (x ⊖ y) e (contains_difference h k)

pub negative_contains : (F : ℕ) (a b lo hi : ℤ) (x : Fraction) → AreEnds (neg_ℤ b) (neg_ℤ a) lo hi → ContainsFraction F a b x → ContainsFraction F lo hi (negative x)
negative_contains F a b lo hi x e h = renamed F (neg_ℤ b) (neg_ℤ a) lo hi (negative x) e (contains_negative h)

pub product_contains : (F : ℕ) (a b c d lo hi : ℤ) (x y : Fraction) → AreLeastEnds (least_product a b c d) (greatest_product a b c d) (2 ^ F) lo hi
    → ContainsFraction F a b x → ContainsFraction F c d y → ContainsFraction F lo hi (x ⊗ y)
product_contains F a b c d lo hi x y e h k = contains_rounded_product h k e.low e.high

pub sum_width : (a b c d lo hi : ℤ) → AreEnds (a +ℤ c) (b +ℤ d) lo hi → hi -ℤ lo ≡ (b -ℤ a) +ℤ (d -ℤ c)
sum_width a b c d lo hi e = go lo hi e.low e.high
  where
    go : (lo hi : ℤ) → lo ≡ a +ℤ c → hi ≡ b +ℤ d → hi -ℤ lo ≡ (b -ℤ a) +ℤ (d -ℤ c)
    go lo hi e f = omega (arith, ints)

pub difference_width : (a b c d lo hi : ℤ) → AreEnds (a -ℤ d) (b -ℤ c) lo hi → hi -ℤ lo ≡ (b -ℤ a) +ℤ (d -ℤ c)
difference_width a b c d lo hi e = go lo hi e.low e.high
  where
    go : (lo hi : ℤ) → lo ≡ a -ℤ d → hi ≡ b -ℤ c → hi -ℤ lo ≡ (b -ℤ a) +ℤ (d -ℤ c)
    go lo hi e f = omega (arith, ints)

pub negative_width : (a b lo hi : ℤ) → AreEnds (neg_ℤ b) (neg_ℤ a) lo hi → hi -ℤ lo ≡ b -ℤ a
negative_width a b lo hi e = go lo hi e.low e.high
  where
    go : (lo hi : ℤ) → lo ≡ neg_ℤ b → hi ≡ neg_ℤ a → hi -ℤ lo ≡ b -ℤ a
    go lo hi e f = omega (arith, ints)

pub product_width : (one : ℕ) (a b c d lo hi : ℤ) → a ≤ℤ b → c ≤ℤ d → AreLeastEnds (least_product a b c d) (greatest_product a b c d) one lo hi
    → ((hi -ℤ lo) *ℤ pos one) ≤ℤ ((pos (magnitude a b) *ℤ (d -ℤ c) +ℤ pos (magnitude c d) *ℤ (b -ℤ a)) +ℤ pos (2 * one))
product_width one a b c d lo hi ab cd e = rounded_product-width one a b c d lo hi ab cd e.low e.high
