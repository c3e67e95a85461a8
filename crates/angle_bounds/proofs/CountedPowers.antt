-- A counted power is the power, turned back by quarters into the first.
use Rattle.std.proofs.Common.{◌≡◌, ℕ, zero, suc, ◌+◌, ◌<◌, ℤ, pos, neg_ℤ, ◌≤ℤ◌, ◌<ℤ◌, refl, ◌∙◌, ap, ap₂, arith, Bool, true, false, [], ◌∷◌, int_le}
use Rattle.std.proofs.Math.IntN.{neg_ℤ-neg_ℤ}
use Rattle.std.proofs.lemmas.Int.{ints}
use Rattle.exact_algebra.specs.Expression.{var, ◌:+◌, ◌:-◌, ◌:*◌, opposite}
use Rattle.exact_algebra.proofs.Ring.{ring}
use Rattle.exact_algebra.proofs.WholeNumbers.{integers}
use Rattle.angle_bounds.specs.Degrees.{Counted, multiplied, turned_back, counted_power, times, power, turned, PowersAreCounted}
use Rattle.angle_bounds.proofs.Degrees.{some_leg}
use Rattle.angle_bounds.proofs.Remainders.{remainder, power_is, positive}

-- turning and multiplying may be exchanged
turned-times : (n : ℕ) (c s : ℤ) (z : ℤ × ℤ) → turned n (times c s z) ≡ times c s (turned n z)
turned-times zero c s z = refl
turned-times (suc n) c s z = ap (turned n) (pair (ring integers (z.0 ∷ z.1 ∷ c ∷ s ∷ []) (opposite (var 0 :* var 3 :+ var 1 :* var 2)) (opposite (var 1) :* var 2 :- var 0 :* var 3) refl) (ring integers (z.0 ∷ z.1 ∷ c ∷ s ∷ []) (var 0 :* var 2 :- var 1 :* var 3) (opposite (var 1) :* var 3 :+ var 0 :* var 2) refl)) ∙ turned-times n c s (neg_ℤ z.1, z.0)
  where
    pair : {a b c d : ℤ} → a ≡ b → c ≡ d → Path (ℤ × ℤ) (a, c) (b, d)
    pair e f = ap₂ (λ x y. (x, y)) e f

abbrev value : Counted → ℤ × ℤ
value w = turned w.turns (w.re, w.im)

turned_back_is : (w : Counted) → value (turned_back w) ≡ value w
turned_back_is w = by (int_le w.re (pos 0)) refl
  where
    next : (n : ℕ) → n + 1 ≡ suc n
    next n = omega arith

    by : (b : Bool) → int_le w.re (pos 0) ≡ b → value (turned_back w) ≡ value w
    by true e = rw e (ap (λ n. turned n (w.im, neg_ℤ w.re)) (next w.turns) ∙ ap (λ x. turned w.turns (x, w.im)) (neg_ℤ-neg_ℤ w.re))
    by false e = rw e refl

same : (n c s : ℕ) → value (counted_power n c s) ≡ power n (pos c) (pos s)
unfolding counted_power
same zero c s = refl
same (suc n) c s =
    let w = counted_power n c s in
    turned_back_is (multiplied (pos c) (pos s) w) ∙ turned-times w.turns (pos c) (pos s) (w.re, w.im) ∙ ap (times (pos c) (pos s)) (same n c s)

above : (n : ℕ) → 0 < n → pos 0 <ℤ pos n
above n h = omega (arith, ints, h)

not_below : (n : ℕ) → pos 0 ≤ℤ pos n
not_below n = omega (arith, ints)

pub powers_are_counted : PowersAreCounted
powers_are_counted n c s r d = record {
  re = rw (power_is n c s) (above (remainder n c s).re (positive n c s (some_leg c s r d)));
  im = rw (power_is n c s) (not_below (remainder n c s).im);
  same = same n c s;
}
