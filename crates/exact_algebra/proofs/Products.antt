-- Differences and products of what spans contain, the products by the least and the greatest of the four products of the
-- ends; and how wide a product is that is rounded outwards.
use Prim.Native.Nat.{ℕ, ◌*◌, ◌<◌, ◌^◌, max}
use native.Mathlib.Omega.{arith}
use mathlib.Core.Path.{◌≡◌, refl, sym}
use mathlib.Core.List.{[], ◌∷◌}
use lib.IntN.{ℤ, pos, ◌+ℤ◌, ◌-ℤ◌, ◌*ℤ◌, neg_ℤ}
use lib.Signed.{◌≤ℤ◌, ◌<ℤ◌, ≤ℤ_refl}
use borrow.Author.Differences.{ints}
use Rattle.std.specs.Int.{int_min, int_max}
use Rattle.std.specs.Int.RustNames.{unsigned_abs}
use Rattle.std.proofs.lemmas.Int.{clamps}
use Rattle.exact_algebra.specs.Expression.{var, unit, number, ◌:+◌, ◌:-◌, ◌:*◌, opposite}
use Rattle.exact_algebra.specs.Span.{IsFloor, IsCeiling}
use Rattle.exact_algebra.proofs.Ring.{ring}
use Rattle.exact_algebra.proofs.WholeNumbers.{integers}
use Rattle.exact_algebra.proofs.Fraction.{Fraction, ◌⊕◌, ◌⊗◌, ◌⊖◌, negative, inverse, fractions, fraction_ring, ◌≼◌}
use Rattle.exact_algebra.proofs.Whole.{whole, whole-add, whole-sub, whole-mul, whole-negative, whole-≼, whole-≼_out, positive-whole}
use Rattle.exact_algebra.proofs.Span.{ContainsFraction, contains_sum, contains_negative, contains_wider, positive-unit, product_from, product_to}
use Rattle.exact_algebra.proofs.Bounds as Bounds
use Rattle.exact_algebra.proofs.Order as Order
use Rattle.exact_algebra.proofs.Order.{order_from, no_more, at_most, scaled, equal}

pub contains_difference : {F : ℕ} {a b c d : ℤ} {x y : Fraction} → ContainsFraction F a b x → ContainsFraction F c d y → ContainsFraction F (a -ℤ d) (b -ℤ c) (x ⊖ y)
contains_difference h k = contains_sum h (contains_negative k)

-- ---- the least and the greatest of four numbers
abbrev pub least_of : ℤ → ℤ → ℤ → ℤ → ℤ
least_of p q r s = int_min (int_min p q) (int_min r s)

abbrev pub greatest_of : ℤ → ℤ → ℤ → ℤ → ℤ
greatest_of p q r s = int_max (int_max p q) (int_max r s)

lesser_left : (p q : ℤ) → int_min p q ≤ℤ p
lesser_left p q = omega (arith, ints, clamps)

lesser_right : (p q : ℤ) → int_min p q ≤ℤ q
lesser_right p q = omega (arith, ints, clamps)

below_lesser : (m p q : ℤ) → m ≤ℤ p → m ≤ℤ q → m ≤ℤ int_min p q
below_lesser m p q h k = omega (arith, ints, clamps)

greater_left : (p q : ℤ) → p ≤ℤ int_max p q
greater_left p q = omega (arith, ints, clamps)

greater_right : (p q : ℤ) → q ≤ℤ int_max p q
greater_right p q = omega (arith, ints, clamps)

greater_below : (m p q : ℤ) → p ≤ℤ m → q ≤ℤ m → int_max p q ≤ℤ m
greater_below m p q h k = omega (arith, ints, clamps)

trans : {a b c : ℤ} → a ≤ℤ b → b ≤ℤ c → a ≤ℤ c
trans h k = omega (arith, ints)

-- ---- what a product contains
pub contains_rounded_product : {F : ℕ} {a b c d lo hi : ℤ} {x y : Fraction} → ContainsFraction F a b x → ContainsFraction F c d y
    → IsFloor (least_of (a *ℤ c) (a *ℤ d) (b *ℤ c) (b *ℤ d)) (2 ^ F) lo → IsCeiling (greatest_of (a *ℤ c) (a *ℤ d) (b *ℤ c) (b *ℤ d)) (2 ^ F) hi
    → ContainsFraction F lo hi (x ⊗ y)
contains_rounded_product {F} {a} {b} {c} {d} {lo} {hi} h k low high = record {
  from = product_from (least_of p q r s) lo h k
      (trans (lesser_left (int_min p q) (int_min r s)) (lesser_left p q)) (trans (lesser_left (int_min p q) (int_min r s)) (lesser_right p q))
      (trans (lesser_right (int_min p q) (int_min r s)) (lesser_left r s)) (trans (lesser_right (int_min p q) (int_min r s)) (lesser_right r s)) low.below;
  to = product_to (greatest_of p q r s) hi h k
      (trans (greater_left p q) (greater_left (int_max p q) (int_max r s))) (trans (greater_right p q) (greater_left (int_max p q) (int_max r s)))
      (trans (greater_left r s) (greater_right (int_max p q) (int_max r s))) (trans (greater_right r s) (greater_right (int_max p q) (int_max r s))) high.above;
}
  where
    p : ℤ
    p = a *ℤ c

    q : ℤ
    q = a *ℤ d

    r : ℤ
    r = b *ℤ c

    s : ℤ
    s = b *ℤ d

-- ---- how wide a product is
-- x e is at most s v where x is from -s to s and e from -v to v: twice the difference is (s - x)(v + e) + (s + x)(v - e)
product_of_magnitudes : (s v x e : Fraction) → negative s ≼ x → x ≼ s → negative v ≼ e → e ≼ v → x ⊗ e ≼ s ⊗ v
product_of_magnitudes s v x e sx xs ve ev = Order.≼_cancel fractions (Order.positive-number fractions 1)
    (order_from fractions (s ∷ v ∷ x ∷ e ∷ []) ((var 1 :+ var 3, var 2, var 0) ∷ (var 1 :- var 3, opposite (var 2), var 0) ∷ [])
    (scaled (from_minus ve) xs (scaled ev (turned sx) no_more)) ((var 2 :* var 3) :* number 2) ((var 0 :* var 1) :* number 2) refl)
  where
    from_minus : negative v ≼ e → Order.NonNegative fractions (v ⊕ e)
    from_minus h = Order.nonnegative_same fractions (ring fraction_ring (v ∷ e ∷ []) (var 0 :+ var 1) (var 1 :- opposite (var 0)) refl) h

    turned : negative s ≼ x → negative x ≼ s
    turned h = order_from fractions (s ∷ x ∷ []) ((unit, opposite (var 0), var 1) ∷ []) (at_most h no_more) (opposite (var 1)) (var 0) refl

-- two products of numbers from a to b and from c to d differ by no more than s (d - c) + t (b - a), with s and t for the magnitudes
products_apart : (a b c d s t x u y v : Fraction) → negative s ≼ a → b ≼ s → negative t ≼ c → d ≼ t
    → a ≼ x → x ≼ b → a ≼ u → u ≼ b → c ≼ y → y ≼ d → c ≼ v → v ≼ d → x ⊗ y ≼ u ⊗ v ⊕ (s ⊗ (d ⊖ c) ⊕ t ⊗ (b ⊖ a))
products_apart a b c d s t x u y v sa bs tc dt ax xb au ub cy yd cv vd =
    order_from fractions (a ∷ b ∷ c ∷ d ∷ s ∷ t ∷ x ∷ u ∷ y ∷ v ∷ []) ((unit, var 6 :* (var 8 :- var 9), var 4 :* (var 3 :- var 2)) ∷ (unit, var 9 :* (var 6 :- var 7), var 5 :* (var 1 :- var 0)) ∷ [])
    (at_most first (at_most second no_more)) (var 6 :* var 8) (var 7 :* var 9 :+ (var 4 :* (var 3 :- var 2) :+ var 5 :* (var 1 :- var 0))) refl
  where
    apart : (a b x u : Fraction) → a ≼ x → x ≼ b → a ≼ u → u ≼ b → (negative (b ⊖ a) ≼ x ⊖ u) × (x ⊖ u ≼ b ⊖ a)
    apart a b x u ax xb au ub = (
      order_from fractions (a ∷ b ∷ x ∷ u ∷ []) ((unit, var 0, var 2) ∷ (unit, var 3, var 1) ∷ []) (at_most ax (at_most ub no_more)) (opposite (var 1 :- var 0)) (var 2 :- var 3) refl,
      order_from fractions (a ∷ b ∷ x ∷ u ∷ []) ((unit, var 2, var 1) ∷ (unit, var 0, var 3) ∷ []) (at_most xb (at_most au no_more)) (var 2 :- var 3) (var 1 :- var 0) refl,
    )

    first : x ⊗ (y ⊖ v) ≼ s ⊗ (d ⊖ c)
    first = product_of_magnitudes s (d ⊖ c) x (y ⊖ v) (Order.≼_trans fractions sa ax) (Order.≼_trans fractions xb bs) (apart c d y v cy yd cv vd).0 (apart c d y v cy yd cv vd).1

    second : v ⊗ (x ⊖ u) ≼ t ⊗ (b ⊖ a)
    second = product_of_magnitudes t (b ⊖ a) v (x ⊖ u) (Order.≼_trans fractions tc cv) (Order.≼_trans fractions vd dt) (apart a b x u ax xb au ub).0 (apart a b x u ax xb au ub).1

-- the greatest magnitude of two ends
abbrev pub magnitude : ℤ → ℤ → ℕ
magnitude a b = max (unsigned_abs a) (unsigned_abs b)

abbrev spread : ℤ → ℤ → ℤ → ℤ → ℤ
spread a b c d = pos (magnitude a b) *ℤ (d -ℤ c) +ℤ pos (magnitude c d) *ℤ (b -ℤ a)

from_magnitude : (a b : ℤ) → (neg_ℤ (pos (magnitude a b)) ≤ℤ a) × (b ≤ℤ pos (magnitude a b))
from_magnitude a b = (low a (unsigned_abs b), high b (unsigned_abs a))
  where
    low : (a : ℤ) (m : ℕ) → neg_ℤ (pos (max (unsigned_abs a) m)) ≤ℤ a
    low a m = omega (arith, ints)

    high : (b : ℤ) (m : ℕ) → b ≤ℤ pos (max m (unsigned_abs b))
    high b m = omega (arith, ints)

-- the same of whole numbers
whole_products_apart : (a b c d x u y v : ℤ) → a ≤ℤ x → x ≤ℤ b → a ≤ℤ u → u ≤ℤ b → c ≤ℤ y → y ≤ℤ d → c ≤ℤ v → v ≤ℤ d → (x *ℤ y) ≤ℤ (u *ℤ v +ℤ spread a b c d)
whole_products_apart a b c d x u y v ax xb au ub cy yd cv vd = whole-≼_out (x *ℤ y) (u *ℤ v +ℤ spread a b c d)
    (Order.≼_trans fractions (Order.≼_same fractions (whole-mul x y)) (Order.≼_trans fractions
    (products_apart (whole a) (whole b) (whole c) (whole d) (whole (pos (magnitude a b))) (whole (pos (magnitude c d))) (whole x) (whole u) (whole y) (whole v) (low a b) (whole-≼ (from_magnitude a b).1) (low c d) (whole-≼ (from_magnitude c d).1)
    (whole-≼ ax) (whole-≼ xb) (whole-≼ au) (whole-≼ ub) (whole-≼ cy) (whole-≼ yd) (whole-≼ cv) (whole-≼ vd))
    (Order.≼_same fractions (sym together))))
  where
    low : (a b : ℤ) → negative (whole (pos (magnitude a b))) ≼ whole a
    low a b = Order.≼_trans fractions (Order.≼_same fractions (sym (whole-negative (pos (magnitude a b))))) (whole-≼ (from_magnitude a b).0)

    together : whole (u *ℤ v +ℤ spread a b c d) ≡ whole u ⊗ whole v ⊕ (whole (pos (magnitude a b)) ⊗ (whole d ⊖ whole c) ⊕ whole (pos (magnitude c d)) ⊗ (whole b ⊖ whole a))
    together = rw (← whole-sub d c, ← whole-sub b a, ← whole-mul (pos (magnitude a b)) (d -ℤ c), ← whole-mul (pos (magnitude c d)) (b -ℤ a), ← whole-add (pos (magnitude a b) *ℤ (d -ℤ c)) (pos (magnitude c d) *ℤ (b -ℤ a)), ← whole-mul u v) (whole-add (u *ℤ v) (spread a b c d))

-- the greatest and the least product differ by no more
extremes_apart : (a b c d : ℤ) → a ≤ℤ b → c ≤ℤ d
    → greatest_of (a *ℤ c) (a *ℤ d) (b *ℤ c) (b *ℤ d) ≤ℤ (least_of (a *ℤ c) (a *ℤ d) (b *ℤ c) (b *ℤ d) +ℤ spread a b c d)
extremes_apart a b c d ab cd = moved g (spread a b c d) (least_of (a *ℤ c) (a *ℤ d) (b *ℤ c) (b *ℤ d)) (below_lesser m (int_min (a *ℤ c) (a *ℤ d)) (int_min (b *ℤ c) (b *ℤ d))
    (below_lesser m (a *ℤ c) (a *ℤ d) (at a c (≤ℤ_refl a) ab (≤ℤ_refl c) cd) (at a d (≤ℤ_refl a) ab cd (≤ℤ_refl d)))
    (below_lesser m (b *ℤ c) (b *ℤ d) (at b c ab (≤ℤ_refl b) (≤ℤ_refl c) cd) (at b d ab (≤ℤ_refl b) cd (≤ℤ_refl d))))
  where
    g : ℤ
    g = greatest_of (a *ℤ c) (a *ℤ d) (b *ℤ c) (b *ℤ d)

    m : ℤ
    m = g -ℤ spread a b c d

    back : (g w z : ℤ) → g ≤ℤ (z +ℤ w) → (g -ℤ w) ≤ℤ z
    back g w z h = omega (arith, ints)

    moved : (g w z : ℤ) → (g -ℤ w) ≤ℤ z → g ≤ℤ (z +ℤ w)
    moved g w z h = omega (arith, ints)

    at : (u v : ℤ) → a ≤ℤ u → u ≤ℤ b → c ≤ℤ v → v ≤ℤ d → m ≤ℤ (u *ℤ v)
    at u v au ub cv vd = back g (spread a b c d) (u *ℤ v) (greater_below n (int_max (a *ℤ c) (a *ℤ d)) (int_max (b *ℤ c) (b *ℤ d))
        (greater_below n (a *ℤ c) (a *ℤ d) (of a c (≤ℤ_refl a) ab (≤ℤ_refl c) cd) (of a d (≤ℤ_refl a) ab cd (≤ℤ_refl d)))
        (greater_below n (b *ℤ c) (b *ℤ d) (of b c ab (≤ℤ_refl b) (≤ℤ_refl c) cd) (of b d ab (≤ℤ_refl b) cd (≤ℤ_refl d))))
      where
        n : ℤ
        n = u *ℤ v +ℤ spread a b c d

        of : (x y : ℤ) → a ≤ℤ x → x ≤ℤ b → c ≤ℤ y → y ≤ℤ d → (x *ℤ y) ≤ℤ n
        of x y ax xb cy yd = whole_products_apart a b c d x u y v ax xb au ub cy yd cv vd

-- the floor of low_end / d and the ceiling of high_end / d lie no further apart, in units of 1 / d, than these two, and one unit for each end
pub rounded-width : (low_end high_end : ℤ) (d : ℕ) (lo hi : ℤ) → IsFloor low_end d lo → IsCeiling high_end d hi → ((hi -ℤ lo) *ℤ pos d) ≤ℤ ((high_end -ℤ low_end) +ℤ pos (2 * d))
rounded-width low_end high_end d lo hi low high =
    go ((hi -ℤ lo) *ℤ pos d) ((lo +ℤ pos 1) *ℤ pos d) ((hi -ℤ pos 1) *ℤ pos d) (lo *ℤ pos d) (hi *ℤ pos d)
    (ring integers (lo ∷ hi ∷ pos d ∷ []) ((var 1 :- var 0) :* var 2) (var 1 :* var 2 :- var 0 :* var 2) refl)
    (ring integers (lo ∷ pos d ∷ []) ((var 0 :+ unit) :* var 1) (var 0 :* var 1 :+ var 1) refl)
    (ring integers (hi ∷ pos d ∷ []) ((var 0 :- unit) :* var 1) (var 0 :* var 1 :- var 1) refl)
    low.next high.before
  where
    go : (x y z p q : ℤ) → x ≡ q -ℤ p → y ≡ p +ℤ pos d → z ≡ q -ℤ pos d → low_end <ℤ y → z <ℤ high_end → x ≤ℤ ((high_end -ℤ low_end) +ℤ pos (2 * d))
    go x y z p q e f h m n = omega (arith, ints)

-- a product rounded outwards is no wider, in units, than each magnitude times the other's width, and one unit for each end
pub rounded_product-width : (k : ℕ) (a b c d lo hi : ℤ) → a ≤ℤ b → c ≤ℤ d
    → IsFloor (least_of (a *ℤ c) (a *ℤ d) (b *ℤ c) (b *ℤ d)) k lo → IsCeiling (greatest_of (a *ℤ c) (a *ℤ d) (b *ℤ c) (b *ℤ d)) k hi
    → ((hi -ℤ lo) *ℤ pos k) ≤ℤ ((pos (magnitude a b) *ℤ (d -ℤ c) +ℤ pos (magnitude c d) *ℤ (b -ℤ a)) +ℤ pos (2 * k))
rounded_product-width k a b c d lo hi ab cd low high =
    go ((hi -ℤ lo) *ℤ pos k) (least_of (a *ℤ c) (a *ℤ d) (b *ℤ c) (b *ℤ d)) (greatest_of (a *ℤ c) (a *ℤ d) (b *ℤ c) (b *ℤ d)) (spread a b c d) (pos (2 * k))
    (rounded-width (least_of (a *ℤ c) (a *ℤ d) (b *ℤ c) (b *ℤ d)) (greatest_of (a *ℤ c) (a *ℤ d) (b *ℤ c) (b *ℤ d)) k lo hi low high) (extremes_apart a b c d ab cd)
  where
    go : (x l g w t : ℤ) → x ≤ℤ ((g -ℤ l) +ℤ t) → g ≤ℤ (l +ℤ w) → x ≤ℤ (w +ℤ t)
    go x l g w t h k = omega (arith, ints)

-- ---- products with a number of another scale, and other scales
pub contains_scaled_product : {F G : ℕ} {a b c d lo hi : ℤ} {x y : Fraction} → ContainsFraction F a b x → ContainsFraction G c d y
    → IsFloor (least_of (a *ℤ c) (a *ℤ d) (b *ℤ c) (b *ℤ d)) (2 ^ G) lo → IsCeiling (greatest_of (a *ℤ c) (a *ℤ d) (b *ℤ c) (b *ℤ d)) (2 ^ G) hi
    → ContainsFraction F lo hi (x ⊗ y)
contains_scaled_product {F} {G} {a} {b} {c} {d} {lo} {hi} {x} {y} h k low high = record {
  from = Order.≼_cancel fractions (positive-unit G)
      (order_from fractions (x ∷ y ∷ whole (pos (2 ^ F)) ∷ whole (pos (2 ^ G)) ∷ whole lo ∷ whole (lo *ℤ pos (2 ^ G)) ∷ whole m ∷ []) ((unit, var 4 :* var 3, var 5) ∷ (unit, var 5, var 6) ∷ (unit, var 6, (var 0 :* var 2) :* (var 1 :* var 3)) ∷ [])
      (equal (sym (whole-mul lo (pos (2 ^ G)))) (at_most (whole-≼ low.below) (at_most least no_more))) (var 4 :* var 3) (((var 0 :* var 1) :* var 2) :* var 3) refl);
  to = Order.≼_cancel fractions (positive-unit G)
      (order_from fractions (x ∷ y ∷ whole (pos (2 ^ F)) ∷ whole (pos (2 ^ G)) ∷ whole hi ∷ whole (hi *ℤ pos (2 ^ G)) ∷ whole n ∷ []) ((unit, var 5, var 4 :* var 3) ∷ (unit, var 6, var 5) ∷ (unit, (var 0 :* var 2) :* (var 1 :* var 3), var 6) ∷ [])
      (equal (whole-mul hi (pos (2 ^ G))) (at_most (whole-≼ high.above) (at_most most no_more))) (((var 0 :* var 1) :* var 2) :* var 3) (var 4 :* var 3) refl);
}
  where
    p : ℤ
    p = a *ℤ c

    q : ℤ
    q = a *ℤ d

    r : ℤ
    r = b *ℤ c

    s : ℤ
    s = b *ℤ d

    m : ℤ
    m = least_of p q r s

    n : ℤ
    n = greatest_of p q r s

    from : (i j : ℤ) → m ≤ℤ (i *ℤ j) → whole m ≼ whole i ⊗ whole j
    from i j h = Order.≼_trans fractions (whole-≼ h) (Order.≼_same fractions (whole-mul i j))

    up : (i j : ℤ) → (i *ℤ j) ≤ℤ n → whole i ⊗ whole j ≼ whole n
    up i j h = Order.≼_trans fractions (Order.≼_same fractions (sym (whole-mul i j))) (whole-≼ h)

    least : whole m ≼ (x ⊗ whole (pos (2 ^ F))) ⊗ (y ⊗ whole (pos (2 ^ G)))
    least = Bounds.product_above fractions h.from h.to k.from k.to
        (from a c (trans (lesser_left (int_min p q) (int_min r s)) (lesser_left p q))) (from a d (trans (lesser_left (int_min p q) (int_min r s)) (lesser_right p q)))
        (from b c (trans (lesser_right (int_min p q) (int_min r s)) (lesser_left r s))) (from b d (trans (lesser_right (int_min p q) (int_min r s)) (lesser_right r s)))

    most : (x ⊗ whole (pos (2 ^ F))) ⊗ (y ⊗ whole (pos (2 ^ G))) ≼ whole n
    most = Bounds.product_below fractions h.from h.to k.from k.to
        (up a c (trans (greater_left p q) (greater_left (int_max p q) (int_max r s)))) (up a d (trans (greater_right p q) (greater_left (int_max p q) (int_max r s))))
        (up b c (trans (greater_left r s) (greater_right (int_max p q) (int_max r s)))) (up b d (trans (greater_right r s) (greater_right (int_max p q) (int_max r s))))

pub contains_rescaled : {F G : ℕ} {a b lo hi : ℤ} {x : Fraction} → ContainsFraction F a b x → IsFloor (a *ℤ pos (2 ^ G)) (2 ^ F) lo → IsCeiling (b *ℤ pos (2 ^ G)) (2 ^ F) hi → ContainsFraction G lo hi x
contains_rescaled {F} {G} {a} {b} {lo} {hi} {x} h low high = record {
  from = Order.≼_cancel fractions (positive-unit F)
      (order_from fractions (x ∷ whole (pos (2 ^ F)) ∷ whole (pos (2 ^ G)) ∷ whole a ∷ whole lo ∷ whole (lo *ℤ pos (2 ^ F)) ∷ whole (a *ℤ pos (2 ^ G)) ∷ [])
      ((unit, var 4 :* var 1, var 5) ∷ (unit, var 5, var 6) ∷ (unit, var 6, var 3 :* var 2) ∷ (var 2, var 3, var 0 :* var 1) ∷ [])
      (equal (sym (whole-mul lo (pos (2 ^ F)))) (at_most (whole-≼ low.below) (equal (whole-mul a (pos (2 ^ G))) (scaled (Order.nonnegative_positive fractions (positive-unit G)) h.from no_more)))) (var 4 :* var 1) ((var 0 :* var 2) :* var 1) refl);
  to = Order.≼_cancel fractions (positive-unit F)
      (order_from fractions (x ∷ whole (pos (2 ^ F)) ∷ whole (pos (2 ^ G)) ∷ whole b ∷ whole hi ∷ whole (hi *ℤ pos (2 ^ F)) ∷ whole (b *ℤ pos (2 ^ G)) ∷ [])
      ((unit, var 5, var 4 :* var 1) ∷ (unit, var 6, var 5) ∷ (unit, var 3 :* var 2, var 6) ∷ (var 2, var 0 :* var 1, var 3) ∷ [])
      (equal (whole-mul hi (pos (2 ^ F))) (at_most (whole-≼ high.above) (equal (sym (whole-mul b (pos (2 ^ G)))) (scaled (Order.nonnegative_positive fractions (positive-unit G)) h.to no_more)))) ((var 0 :* var 2) :* var 1) (var 4 :* var 1) refl);
}

pub contains_joined_left : {F : ℕ} (a b c d : ℤ) {x : Fraction} → ContainsFraction F a b x → ContainsFraction F (int_min a c) (int_max b d) x
contains_joined_left a b c d h = contains_wider h (lesser_left a c) (greater_left b d)

pub contains_joined_right : {F : ℕ} (a b c d : ℤ) {x : Fraction} → ContainsFraction F c d x → ContainsFraction F (int_min a c) (int_max b d) x
contains_joined_right a b c d h = contains_wider h (lesser_right a c) (greater_right b d)

pub contains_over_whole : {F : ℕ} {a b lo hi : ℤ} {x : Fraction} (n : ℕ) → 0 < n → ContainsFraction F a b x → IsFloor a n lo → IsCeiling b n hi → ContainsFraction F lo hi (x ⊗ inverse (whole (pos n)))
contains_over_whole {F} {a} {b} {lo} {hi} {x} n some h low high = record {
  from = Order.≼_trans fractions (Bounds.≼-quotient fractions (positive-whole n some)
      (Order.≼_trans fractions (Order.≼_same fractions (sym (whole-mul lo (pos n)))) (Order.≼_trans fractions (whole-≼ low.below) h.from))) (Order.≼_same fractions turned);
  to = Order.≼_trans fractions (Order.≼_same fractions (sym turned)) (Bounds.quotient-≼ fractions (positive-whole n some)
      (Order.≼_trans fractions h.to (Order.≼_trans fractions (whole-≼ high.above) (Order.≼_same fractions (whole-mul hi (pos n))))));
}
  where
    turned : (x ⊗ whole (pos (2 ^ F))) ⊗ inverse (whole (pos n)) ≡ (x ⊗ inverse (whole (pos n))) ⊗ whole (pos (2 ^ F))
    turned = ring fraction_ring (x ∷ whole (pos (2 ^ F)) ∷ inverse (whole (pos n)) ∷ []) ((var 0 :* var 1) :* var 2) ((var 0 :* var 2) :* var 1) refl

pub contains_times_whole : (F : ℕ) (a b n lo hi : ℤ) (x : Fraction) → ContainsFraction F a b x → lo ≡ int_min (a *ℤ n) (b *ℤ n) → hi ≡ int_max (a *ℤ n) (b *ℤ n) → ContainsFraction F lo hi (x ⊗ whole n)
contains_times_whole F a b n lo hi x h low high = record {
  from = Order.≼_trans fractions (Bounds.product_above fractions h.from h.to (Order.≼_refl fractions (whole n)) (Order.≼_refl fractions (whole n)) first first second second) (Order.≼_same fractions turned);
  to = Order.≼_trans fractions (Order.≼_same fractions (sym turned)) (Bounds.product_below fractions h.from h.to (Order.≼_refl fractions (whole n)) (Order.≼_refl fractions (whole n)) third third fourth fourth);
}
  where
    turned : (x ⊗ whole (pos (2 ^ F))) ⊗ whole n ≡ (x ⊗ whole n) ⊗ whole (pos (2 ^ F))
    turned = ring fraction_ring (x ∷ whole (pos (2 ^ F)) ∷ whole n ∷ []) ((var 0 :* var 1) :* var 2) ((var 0 :* var 2) :* var 1) refl

    above : (i : ℤ) → lo ≤ℤ (i *ℤ n) → whole lo ≼ whole i ⊗ whole n
    above i h = Order.≼_trans fractions (whole-≼ h) (Order.≼_same fractions (whole-mul i n))

    up : (i : ℤ) → (i *ℤ n) ≤ℤ hi → whole i ⊗ whole n ≼ whole hi
    up i h = Order.≼_trans fractions (Order.≼_same fractions (sym (whole-mul i n))) (whole-≼ h)

    first : whole lo ≼ whole a ⊗ whole n
    first = above a (rw low (lesser_left (a *ℤ n) (b *ℤ n)))

    second : whole lo ≼ whole b ⊗ whole n
    second = above b (rw low (lesser_right (a *ℤ n) (b *ℤ n)))

    third : whole a ⊗ whole n ≼ whole hi
    third = up a (rw high (greater_left (a *ℤ n) (b *ℤ n)))

    fourth : whole b ⊗ whole n ≼ whole hi
    fourth = up b (rw high (greater_right (a *ℤ n) (b *ℤ n)))
