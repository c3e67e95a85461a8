-- How wide the spans of a corner are over a box of planes, and how far from 0 they lie.
use Rattle.std.proofs.Common.{◌≡◌, ◌≢◌, ◌∙◌, refl, sym, ap, ap₂, List, [], ◌∷◌, ℕ, suc, ◌+◌, ◌*◌, ◌^◌, ◌<◌, ◌≤◌, ℤ, pos, negsuc, neg_ℤ, ◌+ℤ◌, ◌-ℤ◌, ◌*ℤ◌, ◌≤ℤ◌, unsigned_abs, arith}
use Rattle.std.proofs.lemmas.Int.{ints}
use Rattle.exact_algebra.specs.Expression.{var, unit, number, ◌:+◌, ◌:-◌, ◌:*◌, opposite}
use Rattle.exact_algebra.specs.OrderedField.{below}
use Rattle.exact_algebra.proofs.Fraction.{Fraction, one, ◌⊕◌, ◌⊗◌, ◌⊖◌, sign, fractions, fraction_ring, ◌≼◌}
use Rattle.exact_algebra.proofs.Order as Order
use Rattle.exact_algebra.proofs.Order.{order_from, no_more, at_most, scaled, equal}
use Rattle.exact_algebra.proofs.Products.{rounded-width}
use Rattle.exact_algebra.proofs.Ring.{ring}
use Rattle.exact_algebra.proofs.Span.{positive-unit}
use Rattle.exact_algebra.proofs.Whole.{whole, whole-add, whole-sub, whole-mul, whole-≼, nonnegative-whole}
use Rattle.outward_interval.specs.Ends.{AreEnds, AreLeastEnds}
use Rattle.outward_interval.specs.declared.span.Span.{Span}
use Rattle.outward_interval.specs.Widths.{unit_of, units, IsNarrow, IsNear}
use Rattle.outward_interval.proofs.Narrow.{nonnegative-unit_of, narrow-wider, near-wider, narrow-sum, near-sum, narrow-difference, near-difference, narrow-negative, near-negative, near-from, rounded, near-rounded, narrow-rescaled, near-rescaled}
use Rattle.flux_moments.specs.Limits.{EndsAtMost}
use Rattle.flux_moments.specs.Sizes.{BoxSize, HasSize, spread, IsElevationSize, IsCornerSize, AreSizes}
use Rattle.flux_moments.specs.declared.plane_box.PlaneBox.{PlaneBox}

-- ---- levels at a place between the first station and the last
module _ (first last x : ℤ) (length : ℕ) (some : 0 < length) (is : pos length ≡ last -ℤ first) (before : pos 0 ≤ℤ (last -ℤ x))
    (behind : pos 0 ≤ℤ (x -ℤ first)) where
  abbrev B : Fraction
  B = whole (last -ℤ x)

  abbrev A : Fraction
  A = whole (x -ℤ first)

  abbrev P : Fraction
  P = whole (pos (2 ^ 10))

  abbrev Q : Fraction
  Q = whole (pos (2 ^ 20))

  abbrev mixed : ℤ → ℤ → ℤ
  mixed m n = (m *ℤ (last -ℤ x) +ℤ n *ℤ (x -ℤ first)) *ℤ pos 1024

  whole-length : whole (pos length) ≡ B ⊕ A
  whole-length = ap whole (is ∙ parts last x first) ∙ whole-add (last -ℤ x) (x -ℤ first)
    where
      parts : (last x first : ℤ) → last -ℤ first ≡ (last -ℤ x) +ℤ (x -ℤ first)
      parts last x first = omega (arith, ints)

  whole-mixed : (m n : ℤ) → whole (mixed m n) ≡ (whole m ⊗ B ⊕ whole n ⊗ A) ⊗ P
  whole-mixed m n = whole-mul (m *ℤ (last -ℤ x) +ℤ n *ℤ (x -ℤ first)) (pos 1024) ∙ ap (λ y. y ⊗ P)
      (whole-add (m *ℤ (last -ℤ x)) (n *ℤ (x -ℤ first)) ∙ ap₂ ◌⊕◌ (whole-mul m (last -ℤ x)) (whole-mul n (x -ℤ first)))

  squared : Q ≡ P ⊗ P
  squared = whole-mul (pos (2 ^ 10)) (pos (2 ^ 10))

  above_nought : (n : ℤ) → pos 0 ≤ℤ n → sign (whole n ⊗ P) ≢ below
  above_nought (pos n) h = Order.nonnegative-mul fractions (nonnegative-whole n) (nonnegative-whole (2 ^ 10))
  above_nought (negsuc n) h = absurd (omega (arith, ints))

  module _ (a1 a2 f1 f2 lo hi : ℤ) (e : AreLeastEnds (mixed a1 f1) (mixed a2 f2) length lo hi) where
    pub level-narrow : (d : Fraction) → IsNarrow 10 d a1 a2 → IsNarrow 10 d f1 f2 → IsNarrow 20 (d ⊕ units 20 2) lo hi
    level-narrow d aft fore = rounded d (whole (mixed a2 f2) ⊖ whole (mixed a1 f1)) length some
        (rw (
          ← whole-sub hi lo,
          ← whole-mul (hi -ℤ lo) (pos length),
          ← whole-sub (mixed a2 f2) (mixed a1 f1),
          ← whole-add (mixed a2 f2 -ℤ mixed a1 f1)
              (pos (2 * length)),
        ) (whole-≼ (rounded-width (mixed a1 f1) (mixed a2 f2) length lo hi e.low e.high)))
        (order_from fractions (whole (mixed a1 f1) ∷ whole (mixed a2 f2) ∷ whole a1 ∷ whole a2 ∷ whole f1 ∷ whole f2 ∷ d ∷ B ∷ A ∷ P ∷ whole
        (pos length) ∷ Q ∷ [])
        ((opposite unit, var 0, (var 2 :* var 7 :+ var 4 :* var 8) :* var 9) ∷ (unit, var 1, (var 3 :* var 7 :+ var 5 :* var 8) :* var 9)
        ∷ (var 7 :* var 9, var 3 :- var 2, var 6 :* var 9) ∷ (var 8 :* var 9, var 5 :- var 4, var 6 :* var 9)
        ∷ (opposite (var 6 :* var 10), var 11, var 9 :* var 9) ∷ (opposite (var 6 :* var 9 :* var 9), var 10, var 7 :+ var 8) ∷ [])
        (equal (whole-mixed a1 f1) (equal (whole-mixed a2 f2) (scaled (above_nought (last -ℤ x) before) aft.width
        (scaled (above_nought (x -ℤ first) behind) fore.width (equal squared (equal whole-length no_more))))))
        (var 1 :- var 0) ((var 6 :* var 11) :* var 10) refl)

    pub level-near : (l : Fraction) → IsNear 10 l a1 a2 → IsNear 10 l f1 f2 → IsNear 20 (l ⊕ units 20 1) lo hi
    level-near l aft fore = near-rounded l (mixed a1 f1) (mixed a2 f2) lo hi length some e
        (order_from fractions (whole (mixed a1 f1) ∷ whole a1 ∷ whole f1 ∷ l ∷ B ∷ A ∷ P ∷ whole (pos length) ∷ Q ∷ [])
        ((opposite unit, var 0, (var 1 :* var 4 :+ var 2 :* var 5) :* var 6)
        ∷ (var 4 :* var 6, opposite (var 3 :* var 6), var 1) ∷ (var 5 :* var 6, opposite (var 3 :* var 6), var 2)
        ∷ (opposite (var 3 :* var 7), var 8, var 6 :* var 6) ∷ (opposite (var 3 :* var 6 :* var 6), var 7, var 4 :+ var 5) ∷ [])
        (equal (whole-mixed a1 f1) (scaled (above_nought (last -ℤ x) before) aft.from
        (scaled (above_nought (x -ℤ first) behind) fore.from (equal squared (equal whole-length no_more)))))
        (opposite ((var 3 :* var 8) :* var 7)) (var 0) refl)
        (order_from fractions (whole (mixed a2 f2) ∷ whole a2 ∷ whole f2 ∷ l ∷ B ∷ A ∷ P ∷ whole (pos length) ∷ Q ∷ [])
        ((unit, var 0, (var 1 :* var 4 :+ var 2 :* var 5) :* var 6)
        ∷ (var 4 :* var 6, var 1, var 3 :* var 6) ∷ (var 5 :* var 6, var 2, var 3 :* var 6)
        ∷ (opposite (var 3 :* var 7), var 8, var 6 :* var 6) ∷ (opposite (var 3 :* var 6 :* var 6), var 7, var 4 :+ var 5) ∷ [])
        (equal (whole-mixed a2 f2) (scaled (above_nought (last -ℤ x) before) aft.to
        (scaled (above_nought (x -ℤ first) behind) fore.to (equal squared (equal whole-length no_more)))))
        (var 0) ((var 3 :* var 8) :* var 7) refl)

-- ---- multiples of cosine and sine
pub multiple-near : (n : ℤ) {lo hi : ℤ} → EndsAtMost (2 ^ 40 * unsigned_abs n) lo hi → IsNear 40 (whole (pos (unsigned_abs n))) lo hi
multiple-near n {lo} {hi} e = near-from lo hi (2 ^ 40 * unsigned_abs n) (less e.low) (less e.high)
    (Order.≼_same fractions (whole-mul (pos (2 ^ 40)) (pos (unsigned_abs n)) ∙ ring fraction_ring
    (whole (pos (2 ^ 40)) ∷ whole (pos (unsigned_abs n)) ∷ []) (var 0 :* var 1) (var 1 :* var 0) refl))
  where
    less : {k m : ℕ} → k ≤ m → k < suc m
    less h = omega (arith, h)

both : (m n : ℕ) → whole (pos (m + n)) ≡ whole (pos m) ⊕ whole (pos n)
both m n = whole-add (pos m) (pos n)

-- the opposite of the sum of two multiples
pub factor-narrow : (m n : ℕ) (e : Fraction) {a b c d low high lo hi : ℤ} → AreEnds (a +ℤ c) (b +ℤ d) low high → AreEnds (neg_ℤ high) (neg_ℤ low) lo
    hi → IsNarrow 40 (e ⊗ whole (pos m)) a b → IsNarrow 40 (e ⊗ whole (pos n)) c d → IsNarrow 40 (e ⊗ whole (pos (m + n))) lo hi
factor-narrow m n e are turned h k = narrow-negative turned (narrow-wider (order_from fractions
    (e ∷ whole (pos m) ∷ whole (pos n) ∷ whole (pos (m + n)) ∷ []) ((opposite (var 0), var 3, var 1 :+ var 2) ∷ []) (equal (both m n) no_more)
    (var 0 :* var 1 :+ var 0 :* var 2) (var 0 :* var 3) refl) (narrow-sum are h k))

pub factor-near : (m n : ℕ) {a b c d low high lo hi : ℤ} → AreEnds (a +ℤ c) (b +ℤ d) low high → AreEnds (neg_ℤ high) (neg_ℤ low) lo hi → IsNear 40
    (whole (pos m)) a b → IsNear 40 (whole (pos n)) c d → IsNear 40 (whole (pos (m + n))) lo hi
factor-near m n are turned h k = near-negative turned (near-wider (Order.≼_same fractions (sym (both m n))) (near-sum are h k))

-- the sum or the difference of two multiples, at scale 20
module _ (m n : ℕ) (a b c d low high lo hi : ℤ) (wide : ((hi -ℤ lo) *ℤ pos (2 ^ 40)) ≤ℤ (((high -ℤ low) *ℤ pos (2 ^ 20)) +ℤ pos (2 * 2 ^ 40)))
    (ends : AreLeastEnds (low *ℤ pos (2 ^ 20)) (high *ℤ pos (2 ^ 20)) (2 ^ 40) lo hi) where
  rescaled_width : (e : Fraction) → IsNarrow 40 (e ⊗ whole (pos m) ⊕ e ⊗ whole (pos n)) low high → IsNarrow 20 (e ⊗ whole (pos (m + n)) ⊕ units 20 2) lo hi
  rescaled_width e h = narrow-rescaled {F = 40} {G = 20} wide (omega arith) (narrow-wider
      (order_from fractions (e ∷ whole (pos m) ∷ whole (pos n) ∷ whole (pos (m + n)) ∷ []) ((opposite (var 0), var 3, var 1 :+ var 2) ∷ [])
      (equal (both m n) no_more)
      (var 0 :* var 1 :+ var 0 :* var 2) (var 0 :* var 3) refl) h)

  rescaled_reach : IsNear 40 (whole (pos m) ⊕ whole (pos n)) low high → IsNear 20 (whole (pos (m + n)) ⊕ units 20 1) lo hi
  rescaled_reach h = near-rescaled {F = 40} {G = 20} (omega arith) ends (near-wider (Order.≼_same fractions (sym (both m n))) h)

  pub height-narrow : (e : Fraction) → AreEnds (a +ℤ c) (b +ℤ d) low high → IsNarrow 40 (e ⊗ whole (pos m)) a b → IsNarrow 40 (e ⊗ whole (pos n)) c d
      → IsNarrow 20 (e ⊗ whole (pos (m + n)) ⊕ units 20 2) lo hi
  height-narrow e are h k = rescaled_width e (narrow-sum are h k)

  pub height-near : AreEnds (a +ℤ c) (b +ℤ d) low high → IsNear 40 (whole (pos m)) a b → IsNear 40 (whole (pos n)) c d → IsNear 20
      (whole (pos (m + n)) ⊕ units 20 1) lo hi
  height-near are h k = rescaled_reach (near-sum are h k)

  pub side-narrow : (e : Fraction) → AreEnds (a -ℤ d) (b -ℤ c) low high → IsNarrow 40 (e ⊗ whole (pos m)) a b → IsNarrow 40 (e ⊗ whole (pos n)) c d
      → IsNarrow 20 (e ⊗ whole (pos (m + n)) ⊕ units 20 2) lo hi
  side-narrow e are h k = rescaled_width e (narrow-difference are h k)

  pub side-near : AreEnds (a -ℤ d) (b -ℤ c) low high → IsNear 40 (whole (pos m)) a b → IsNear 40 (whole (pos n)) c d → IsNear 20
      (whole (pos (m + n)) ⊕ units 20 1) lo hi
  side-near are h k = rescaled_reach (near-difference are h k)

-- ---- sizes aren't below 0
pub nonnegative_width : {F : ℕ} {w : Fraction} (lo hi : ℤ) → lo ≤ℤ hi → IsNarrow F w lo hi → sign w ≢ below
nonnegative_width {F} {w} lo hi order n = Order.nonnegative_factor fractions (positive-unit F) (Order.nonnegative_from fractions
    (order_from fractions (whole lo ∷ whole hi ∷ w ∷ whole (pos (2 ^ F)) ∷ []) ((unit, var 0, var 1) ∷ (unit, var 1 :- var 0, var 2 :* var 3) ∷ [])
    (at_most (whole-≼ order) (at_most n.width no_more)) (number 0) (var 2 :* var 3) refl))

pub nonnegative_reach : {F : ℕ} {m : Fraction} (lo hi : ℤ) → lo ≤ℤ hi → IsNear F m lo hi → sign m ≢ below
nonnegative_reach {F} {m} lo hi order n = Order.nonnegative_factor fractions (Order.positive-number fractions 1)
    (Order.nonnegative_factor fractions (positive-unit F) (Order.nonnegative_from fractions
    (order_from fractions (whole lo ∷ whole hi ∷ m ∷ whole (pos (2 ^ F)) ∷ []) ((unit, var 0, var 1) ∷ (unit, var 1, var 2 :* var 3)
    ∷ (unit, opposite (var 2 :* var 3), var 0) ∷ []) (at_most (whole-≼ order) (at_most n.to (at_most n.from no_more)))
    (number 0) ((var 2 :* number 2) :* var 3) refl)))

module _ (planes : PlaneBox) (b : BoxSize) (is : HasSize planes b) where
  pub nonnegative_rise : sign b.rise ≢ below
  nonnegative_rise = nonnegative_width planes.a1 planes.a2 planes.levels.aft is.aft

  pub nonnegative_turn : sign b.turn ≢ below
  nonnegative_turn = nonnegative_width planes.bracket.c.lo planes.bracket.c.hi planes.bracket.c.ordered is.cosine

  pub nonnegative_level : sign b.level ≢ below
  nonnegative_level = nonnegative_reach planes.a1 planes.a2 planes.levels.aft is.aft_level

  -- a corner so far from the centreplane and so high, together
  module _ (h far : Fraction) (reached : b.level ⊕ far ≼ h) where
    near_enough : far ≼ h
    near_enough = order_from fractions (b.level ∷ far ∷ h ∷ []) ((unit, var 0 :+ var 1, var 2) ∷ (unit, number 0, var 0) ∷ [])
        (at_most reached (at_most (Order.nought-≼ fractions nonnegative_level) no_more)) (var 1) (var 2) refl

    -- the spans of the corner from those of the level, the height and the side, which are r wider than its place makes them
    module _ (r s : Fraction) (wide : spread b h ⊕ r ≼ s ⊕ units 20 2) where
      abbrev values : List Fraction
      values = b.rise ∷ b.turn ∷ b.level ∷ far ∷ h ∷ units 20 1 ∷ units 20 2 ∷ units 20 4 ∷ unit_of 20 ∷ r ∷ s ∷ []

      side_narrow : {lo hi : ℤ} → IsNarrow 20 (b.turn ⊗ far ⊕ r) lo hi → IsNarrow 20 (s ⊕ units 20 4) lo hi
      side_narrow n = narrow-wider (order_from fractions values ((var 1, var 3, var 4) ∷ (unit, (var 0 :+ var 1 :* var 4) :+ var 9, var 10 :+ var 6)
          ∷ (unit, number 0, var 0) ∷ (unit, var 6, number 2 :* var 8)
          ∷ (opposite unit, var 7, number 4 :* var 8) ∷ (number 2, number 0, var 8) ∷ [])
          (scaled nonnegative_turn near_enough (at_most wide (at_most (Order.nought-≼ fractions nonnegative_rise)
          (equal refl (equal refl (scaled (Order.nonnegative-number fractions 2) (Order.nought-≼ fractions (nonnegative-unit_of 20)) no_more))))))
          (var 1 :* var 3 :+ var 9) (var 10 :+ var 7) refl) n

      side_near : {lo hi : ℤ} → IsNear 20 (far ⊕ units 20 1) lo hi → IsNear 20 (h ⊕ units 20 2) lo hi
      side_near n = near-wider (order_from fractions values ((unit, var 3, var 4) ∷ (unit, var 5, number 1 :* var 8)
          ∷ (opposite unit, var 6, number 2 :* var 8) ∷ (unit, number 0, var 8) ∷ [])
          (at_most near_enough (equal refl (equal refl (at_most (Order.nought-≼ fractions (nonnegative-unit_of 20)) no_more)))) (var 3 :+ var 5)
          (var 4 :+ var 6) refl) n

      pub with_side : {depth side middle : Span 20} → IsElevationSize s h depth middle → IsNarrow 20 (b.turn ⊗ far ⊕ r) side.lo side.hi → IsNear 20 (far ⊕ units 20 1) side.lo side.hi
          → IsCornerSize s h depth side middle
      with_side is n m = record {
        depth_width = is.depth_width;
        depth_reach = is.depth_reach;
        side_width = side_narrow n;
        side_reach = side_near m;
        middle_width = is.middle_width;
        middle_reach = is.middle_reach;
      }

      module _ (level height depth side middle : Span 20)
          (level_width : IsNarrow 20 (b.rise ⊕ units 20 2) level.lo level.hi) (level_reach : IsNear 20 (b.level ⊕ units 20 1) level.lo level.hi)
          (height_width : IsNarrow 20 (b.turn ⊗ far ⊕ r) height.lo height.hi)
          (height_reach : IsNear 20 (far ⊕ units 20 1) height.lo height.hi) where
        wider : (b.rise ⊕ units 20 2) ⊕ (b.turn ⊗ far ⊕ r) ≼ s ⊕ units 20 4
        wider = order_from fractions values ((var 1, var 3, var 4) ∷ (unit, (var 0 :+ var 1 :* var 4) :+ var 9, var 10 :+ var 6)
            ∷ (unit :+ unit, var 6, number 2 :* var 8) ∷ (opposite unit, var 7, number 4 :* var 8) ∷ [])
            (scaled nonnegative_turn near_enough (at_most wide (equal refl (equal refl no_more)))) ((var 0 :+ var 6) :+ (var 1 :* var 3 :+ var 9))
            (var 10 :+ var 7) refl

        pub depth_narrow : AreEnds (level.lo -ℤ height.hi) (level.hi -ℤ height.lo) depth.lo depth.hi → IsNarrow 20 (s ⊕ units 20 4) depth.lo depth.hi
        depth_narrow e = narrow-wider wider (narrow-difference e level_width height_width)

        pub middle_narrow : AreEnds (level.lo +ℤ height.lo) (level.hi +ℤ height.hi) middle.lo middle.hi → IsNarrow 20 (s ⊕ units 20 4) middle.lo middle.hi
        middle_narrow e = narrow-wider wider (narrow-sum e level_width height_width)

        reach : (b.level ⊕ units 20 1) ⊕ (far ⊕ units 20 1) ≼ h ⊕ units 20 2
        reach = order_from fractions values ((unit, var 2 :+ var 3, var 4) ∷ (unit :+ unit, var 5, number 1 :* var 8)
            ∷ (opposite unit, var 6, number 2 :* var 8) ∷ [])
            (at_most reached (equal refl (equal refl no_more))) ((var 2 :+ var 5) :+ (var 3 :+ var 5)) (var 4 :+ var 6) refl

        pub depth_near : AreEnds (level.lo -ℤ height.hi) (level.hi -ℤ height.lo) depth.lo depth.hi → IsNear 20 (h ⊕ units 20 2) depth.lo depth.hi
        depth_near e = near-wider reach (near-difference e level_reach height_reach)

        pub middle_near : AreEnds (level.lo +ℤ height.lo) (level.hi +ℤ height.hi) middle.lo middle.hi → IsNear 20 (h ⊕ units 20 2) middle.lo middle.hi
        middle_near e = near-wider reach (near-sum e level_reach height_reach)

        pub elevation_size : AreEnds (level.lo -ℤ height.hi) (level.hi -ℤ height.lo) depth.lo depth.hi → AreEnds (level.lo +ℤ height.lo) (level.hi +ℤ height.hi) middle.lo middle.hi
            → IsElevationSize s h depth middle
        elevation_size e g = record { depth_width = depth_narrow e; depth_reach = depth_near e; middle_width = middle_narrow g; middle_reach = middle_near g }

        pub corner_size : AreEnds (level.lo -ℤ height.hi) (level.hi -ℤ height.lo) depth.lo depth.hi → AreEnds (level.lo +ℤ height.lo) (level.hi +ℤ height.hi) middle.lo middle.hi
            → IsNarrow 20 (b.turn ⊗ far ⊕ r) side.lo side.hi → IsNear 20 (far ⊕ units 20 1) side.lo side.hi → IsCornerSize s h depth side middle
        corner_size e g n m = with_side (elevation_size e g) n m

-- the sizes of a face's columns
pub column_sizes : (planes : PlaneBox) (b : BoxSize) → HasSize planes b → (h : Fraction) → one ≼ h → (k : ℕ) → AreSizes (spread b h) h (whole (pos k)) b.turn
column_sizes planes b is h some k = record {
  spread = Order.nonnegative-add fractions (nonnegative_rise planes b is) (Order.nonnegative-mul fractions (nonnegative_turn planes b is) reach);
  some = some;
  area = nonnegative-whole k;
  turn = nonnegative_turn planes b is;
  at_most_one = is.at_most_one;
  turned = order_from fractions (b.rise ∷ b.turn ∷ h ∷ []) ((unit, number 0, var 0) ∷ [])
      (at_most (Order.nought-≼ fractions (nonnegative_rise planes b is)) no_more) (var 1 :* var 2) (var 0 :+ var 1 :* var 2) refl;
}
  where
    reach : sign h ≢ below
    reach = Order.nonnegative_from fractions (Order.≼_trans fractions (Order.nought-≼ fractions (Order.nonnegative-one fractions)) some)

-- how far along the ship a corner lies
pub far_at_most : (first last x y : ℤ) → pos 0 ≤ℤ first → (first ≤ℤ x) × (x ≤ℤ last) → y ≡ x → whole (pos (unsigned_abs y)) ≼ whole last
far_at_most first last x y start at e = whole-≼ (go y (rw e (over start at.0)) (rw e at.1))
  where
    over : {a b : ℤ} → pos 0 ≤ℤ a → a ≤ℤ b → pos 0 ≤ℤ b
    over h k = omega (arith, ints)

    go : (z : ℤ) → pos 0 ≤ℤ z → z ≤ℤ last → pos (unsigned_abs z) ≤ℤ last
    go z h k = omega (arith, ints)
