-- The spans of moments: what they contain, how wide they are, and how far their ends may lie.
use Rattle.std.proofs.Common.{◌≡◌, ◌∙◌, refl, ap, subst, [], ◌∷◌, ℕ, ◌*◌, ◌^◌, ◌<◌, ◌≤◌, ℤ, pos, negsuc, ◌+ℤ◌, ◌-ℤ◌, ◌*ℤ◌, ◌≤ℤ◌, ◌<ℤ◌, unsigned_abs, arith}
use Rattle.std.proofs.lemmas.Int.{ints, clamps, unsigned_abs-mul}
use Rattle.std.specs.Int.{int_min, int_max}
use Rattle.exact_algebra.specs.Expression.{var, unit, ◌:-◌, ◌:*◌, opposite}
use Rattle.exact_algebra.specs.Span.{IsLeastSpan}
use Rattle.exact_algebra.proofs.Bounds as Bounds
use Rattle.exact_algebra.proofs.Fraction.{Fraction, ◌⊖◌, ◌⊗◌, inverse, fractions, fraction_ring}
use Rattle.exact_algebra.proofs.Order as Order
use Rattle.exact_algebra.proofs.Ring.{ring, ring_from, none, given}
use Rattle.exact_algebra.proofs.Span.{ContainsFraction, IsLeastSpanOf}
use Rattle.exact_algebra.proofs.Whole.{whole, whole-mul, whole-sub, whole-≼, whole-≺_out, positive-whole}
use Rattle.exact_fraction.specs.Bounds.{MagnitudeBelow}
use Rattle.flux_moments.proofs.ProductEnds.{product_less, floor_at_most, ceiling_at_most}
use Rattle.outward_interval.specs.Ends.{EndsBelow, AreEnds}
use Rattle.damage_box.specs.Planes.{IsPlace}
use Rattle.damage_box.specs.Reading.{IsNeed}

-- ---- a volume times a place
place_size : (x n : ℤ) → IsPlace x → n ≡ x → unsigned_abs n < 2 ^ 19
place_size x n p e = go x n p.from p.to e
  where
    go : (x n : ℤ) → pos 0 ≤ℤ x → x ≤ℤ pos 524287 → n ≡ x → unsigned_abs n < 2 ^ 19
    go x (pos n) h k e = omega (arith, ints)
    go x (negsuc n) h k e = absurd (omega (arith, ints))

pub times_ends : {a b lo hi : ℤ} (x n : ℤ) → IsPlace x → n ≡ x → EndsBelow 102 a b → AreEnds (int_min (a *ℤ n) (b *ℤ n)) (int_max (a *ℤ n) (b *ℤ n)) lo hi → EndsBelow 121 lo hi
times_ends {a} {b} {lo} {hi} x n p e h ends = record { low = rw ends.low (lesser (a *ℤ n) (b *ℤ n) (at a h.low) (at b h.high)); high = rw ends.high (greater (a *ℤ n) (b *ℤ n) (at a h.low) (at b h.high)) }
  where
    at : (z : ℤ) → MagnitudeBelow 102 z → MagnitudeBelow 121 (z *ℤ n)
    at z m = product_less (2 ^ 102) (2 ^ 19) z n m (place_size x n p e)

    lesser : (p q : ℤ) → MagnitudeBelow 121 p → MagnitudeBelow 121 q → MagnitudeBelow 121 (int_min p q)
    lesser p q h k = omega (arith, ints, clamps)

    greater : (p q : ℤ) → MagnitudeBelow 121 p → MagnitudeBelow 121 q → MagnitudeBelow 121 (int_max p q)
    greater p q h k = omega (arith, ints, clamps)

pub times_width : (x n w d : ℤ) → IsPlace x → n ≡ x → w ≡ pos (unsigned_abs n) *ℤ d → w ≡ x *ℤ d
times_width x n w d p e h = h ∙ ap (λ (z : ℤ). z *ℤ d) (size x n p.from e)
  where
    size : (x n : ℤ) → pos 0 ≤ℤ x → n ≡ x → pos (unsigned_abs n) ≡ x
    size x (pos n) h e = e
    size x (negsuc n) h e = absurd (omega (arith, ints, h, e))

pub times_contains : {lo hi : ℤ} (x n : ℤ) (v : Fraction) → n ≡ x → ContainsFraction 20 lo hi (v ⊗ whole n) → ContainsFraction 20 lo hi (whole x ⊗ v)
times_contains {lo} {hi} x n v e = subst (λ (y : Fraction). ContainsFraction 20 lo hi y)
    (ring fraction_ring (v ∷ whole n ∷ []) (var 0 :* var 1) (var 1 :* var 0) refl ∙ ap (λ (z : ℤ). whole z ⊗ v) e)

-- ---- differences
difference_below : (a b : ℤ) → MagnitudeBelow 123 a → MagnitudeBelow 122 b → MagnitudeBelow 126 (a -ℤ b)
difference_below a b h k = omega (arith, ints)

less : (a b : ℕ) (z : ℤ) → 2 ^ a ≤ 2 ^ b → MagnitudeBelow a z → MagnitudeBelow b z
less a b z h k = omega (arith, h, k)

pub wider : {a : ℕ} (b : ℕ) {lo hi : ℤ} → 2 ^ a ≤ 2 ^ b → EndsBelow a lo hi → EndsBelow b lo hi
wider {a} b {lo} {hi} h e = record { low = less a b lo h e.low; high = less a b hi h e.high }

pub first_difference : {a b c d : ℤ} → EndsBelow 122 a b → EndsBelow 122 c d → EndsBelow 126 (a -ℤ d) (b -ℤ c)
first_difference {a} {b} {c} {d} h k = record { low = go a d h.low k.high; high = go b c h.high k.low }
  where
    go : (a b : ℤ) → MagnitudeBelow 122 a → MagnitudeBelow 122 b → MagnitudeBelow 126 (a -ℤ b)
    go a b h k = omega (arith, ints)

pub second_difference : {a b c d lo hi e g : ℤ} → EndsBelow 122 a b → EndsBelow 122 c d → AreEnds (a -ℤ d) (b -ℤ c) lo hi → EndsBelow 108 e g → EndsBelow 126 (lo -ℤ g) (hi -ℤ e)
second_difference {a} {b} {c} {d} {lo} {hi} {e} {g} h k ends o = record { low = go a d lo g h.low k.high ends.low o.high; high = go b c hi e h.high k.low ends.high o.low }
  where
    go : (a b z e : ℤ) → MagnitudeBelow 122 a → MagnitudeBelow 122 b → z ≡ a -ℤ b → MagnitudeBelow 108 e → MagnitudeBelow 126 (z -ℤ e)
    go a b z e h k same o = rw same (omega (arith, ints, h, k, o))

-- ---- the load
pub owed_size : (moment num : ℤ) (den : ℕ) → MagnitudeBelow 57 moment → num ≡ moment *ℤ pos (10 ^ 9) → 0 < den → unsigned_abs (num *ℤ pos (2 ^ 20)) < 2 ^ 107 * den
owed_size moment num den h e some = rw e (omega (arith, unsigned_abs-mul (moment *ℤ pos (10 ^ 9)) (pos (2 ^ 20)), unsigned_abs-mul moment (pos (10 ^ 9)), h, some))

pub owed_fits : (moment : ℤ) → MagnitudeBelow 57 moment → unsigned_abs (moment *ℤ pos (10 ^ 9)) < 2 ^ 127
owed_fits moment h = omega (arith, unsigned_abs-mul moment (pos (10 ^ 9)), h)

pub owed_ends : {lo hi num : ℤ} (den : ℕ) → unsigned_abs (num *ℤ pos (2 ^ 20)) < 2 ^ 107 * den → IsLeastSpan 20 lo hi num den → EndsBelow 108 lo hi
owed_ends {lo} {hi} {num} den h is = record { low = below (floor_at_most (2 ^ 107) den (num *ℤ pos (2 ^ 20)) lo h is.low); high = below (ceiling_at_most (2 ^ 107) den (num *ℤ pos (2 ^ 20)) hi h is.high) }
  where
    below : {k : ℕ} → k ≤ 2 ^ 107 → k < 2 ^ 108
    below h = omega arith

pub least_width : {lo hi : ℤ} {x : Fraction} → IsLeastSpanOf 20 lo hi x → (hi -ℤ lo) ≤ℤ pos 1
least_width {lo} {hi} {x} is = last lo hi (whole-≺_out (hi -ℤ pos 1) (lo +ℤ pos 1) (Order.≺_trans fractions is.high.before is.low.next))
  where
    last : (lo hi : ℤ) → (hi -ℤ pos 1) <ℤ (lo +ℤ pos 1) → (hi -ℤ lo) ≤ℤ pos 1
    last lo hi h = omega (arith, ints)

-- a moment of the load over its density is the volume times the arm of its centre
module _ (mass mx density : ℕ) (x moment : ℤ) (some : 0 < mass) where
  abbrev times : Fraction
  times = whole (pos (10 ^ 9))

  pub owed_behind : moment ≡ (x *ℤ pos mass) -ℤ pos mx
      → whole (moment *ℤ pos (10 ^ 9)) ⊗ inverse (whole (pos density)) ≡ (whole (pos (mass * 10 ^ 9)) ⊗ inverse (whole (pos density))) ⊗ (whole x ⊖ whole (pos mx) ⊗ inverse (whole (pos mass)))
  owed_behind e = ring_from fraction_ring (whole x ∷ whole (pos mass) ∷ whole (pos mx) ∷ times ∷ inverse (whole (pos density)) ∷ inverse (whole (pos mass)) ∷ whole (moment *ℤ pos (10 ^ 9)) ∷ whole (pos (mass * 10 ^ 9)) ∷ [])
      ((var 4, var 6, (var 0 :* var 1 :- var 2) :* var 3) ∷ (var 4 :* (var 2 :* var 5 :- var 0), var 7, var 1 :* var 3) ∷ (((var 2 :* var 3) :* var 4), var 1 :* var 5, unit) ∷ [])
      (given (whole-mul moment (pos (10 ^ 9)) ∙ ap (λ (y : Fraction). y ⊗ times) (ap whole e ∙ whole-sub (x *ℤ pos mass) (pos mx) ∙ ap (λ (y : Fraction). y ⊖ whole (pos mx)) (whole-mul x (pos mass))))
      (given (whole-mul (pos mass) (pos (10 ^ 9))) (given (Bounds.mul-inverse_positive fractions (positive-whole mass some)) none)))
      (var 6 :* var 4) ((var 7 :* var 4) :* (var 0 :- var 2 :* var 5)) refl

  pub owed_before : moment ≡ pos mx -ℤ (x *ℤ pos mass)
      → whole (moment *ℤ pos (10 ^ 9)) ⊗ inverse (whole (pos density)) ≡ (whole (pos (mass * 10 ^ 9)) ⊗ inverse (whole (pos density))) ⊗ (whole (pos mx) ⊗ inverse (whole (pos mass)) ⊖ whole x)
  owed_before e = ring_from fraction_ring (whole x ∷ whole (pos mass) ∷ whole (pos mx) ∷ times ∷ inverse (whole (pos density)) ∷ inverse (whole (pos mass)) ∷ whole (moment *ℤ pos (10 ^ 9)) ∷ whole (pos (mass * 10 ^ 9)) ∷ [])
      ((var 4, var 6, (var 2 :- var 0 :* var 1) :* var 3) ∷ (var 4 :* (var 0 :- var 2 :* var 5), var 7, var 1 :* var 3) ∷ (opposite ((var 2 :* var 3) :* var 4), var 1 :* var 5, unit) ∷ [])
      (given (whole-mul moment (pos (10 ^ 9)) ∙ ap (λ (y : Fraction). y ⊗ times) (ap whole e ∙ whole-sub (pos mx) (x *ℤ pos mass) ∙ ap (λ (y : Fraction). whole (pos mx) ⊖ y) (whole-mul x (pos mass))))
      (given (whole-mul (pos mass) (pos (10 ^ 9))) (given (Bounds.mul-inverse_positive fractions (positive-whole mass some)) none)))
      (var 6 :* var 4) ((var 7 :* var 4) :* (var 2 :* var 5 :- var 0)) refl

-- the ceiling of the volume that is displaced
pub need_of : {lo hi : ℤ} {x : Fraction} → IsLeastSpanOf 20 lo hi x → IsNeed x hi
need_of {lo} {hi} {x} is = record {
  reached = λ z h. Order.≼_trans fractions is.high.above (whole-≼ h);
  missed = λ z h. Order.≼-≺_trans fractions (whole-≼ (before z hi h)) is.high.before;
}
  where
    before : (z w : ℤ) → z <ℤ w → z ≤ℤ (w -ℤ pos 1)
    before z w h = omega (arith, ints)
