-- Levels at a place between two stations: the size of what is weighed and divided, and that the quotients enclose them.
use Rattle.std.proofs.Common.{◌≡◌, ◌∙◌, refl, sym, ap, ap₂, List, [], ◌∷◌, ℕ, ◌+◌, ◌*◌, ◌<◌, ◌≤◌, ◌^◌, ℤ, pos, negsuc, neg_ℤ, ◌+ℤ◌, ◌-ℤ◌, ◌*ℤ◌, ◌≤ℤ◌, ◌<ℤ◌, unsigned_abs, arith}
use Rattle.std.proofs.lemmas.Int.{ints, unsigned_abs-mul}
use Rattle.std.specs.Int.{w64}
use mir.Val.{SFits}
use Rattle.exact_algebra.specs.Expression.{Expression, var, unit, number, ◌:+◌, ◌:-◌, ◌:*◌, opposite}
use Rattle.exact_algebra.specs.OrderedField.{above}
use Rattle.exact_algebra.specs.Span.{IsFloor, IsCeiling}
use Rattle.exact_algebra.proofs.Bounds as Bounds
use Rattle.exact_algebra.proofs.Division.{ceiling_by_floor}
use Rattle.exact_algebra.proofs.Fraction.{Fraction, one, ◌⊕◌, ◌⊗◌, ◌⊖◌, inverse, sign, fractions, ◌≼◌}
use Rattle.exact_algebra.proofs.Order as Order
use Rattle.exact_algebra.proofs.Order.{order_from, no_more, at_most, scaled, equal}
use Rattle.exact_algebra.proofs.Ring.{ring, ring_from, given, none}
use Rattle.exact_algebra.proofs.Span.{in_units, ContainsFraction}
use Rattle.exact_algebra.proofs.Whole.{whole, whole-add, whole-sub, whole-mul, whole-≼, positive-whole, nonnegative-whole}
use Rattle.exact_algebra.proofs.WholeNumbers.{integers}
use Rattle.hull_model.proofs.Magnitudes.{fits_64}
use Rattle.plane_clip.proofs.QuotientSizes.{times_size}
use Rattle.hull_model.specs.Body.{IsWithin}
use Rattle.hull_model.specs.Waterplane.{Waterplane, level_at}
use Rattle.outward_interval.specs.Kept.{IsSpan}
use Rattle.outward_interval.specs.Ends.{AreLeastEnds}
use Rattle.outward_interval.proofs.Quotients.{le-times, floor-le-ceiling}

-- the sum of two levels, each times a place, and that in units
module _ (a f b h : ℤ) (at_a : unsigned_abs a ≤ 2 ^ 30) (at_f : unsigned_abs f ≤ 2 ^ 30) (at_b : IsWithin (pos 524287) b) (at_h : IsWithin (pos 524287) h) where
  pub sum-small : unsigned_abs (a *ℤ b +ℤ f *ℤ h) ≤ 2 ^ 30 * unsigned_abs (b +ℤ h)
  sum-small = omega (arith, near (a *ℤ b) (f *ℤ h), times_size (2 ^ 30) a b at_a, times_size (2 ^ 30) f h at_f, apart b h at_b.0 at_h.0)
    where
      near : (p q : ℤ) → unsigned_abs (p +ℤ q) ≤ unsigned_abs p + unsigned_abs q
      near p q = omega (arith, ints)

      apart : (b h : ℤ) → pos 0 ≤ℤ b → pos 0 ≤ℤ h → unsigned_abs (b +ℤ h) ≡ unsigned_abs b + unsigned_abs h
      apart b h at_b at_h = omega (arith, ints)

  pub mixed-small : unsigned_abs ((a *ℤ b +ℤ f *ℤ h) *ℤ pos 1024) ≤ 2 ^ 40 * unsigned_abs (b +ℤ h)
  mixed-small = omega (arith, sum-small, unsigned_abs-mul (a *ℤ b +ℤ f *ℤ h) (pos 1024))

  places : unsigned_abs (b +ℤ h) ≤ 2 ^ 20
  places = omega (arith, ints, at_b.0, at_b.1, at_h.0, at_h.1)

  pub sum-fits : SFits w64 (a *ℤ b +ℤ f *ℤ h)
  sum-fits = fits_64 _ (omega (arith, sum-small, places))

  pub mixed-fits : SFits w64 ((a *ℤ b +ℤ f *ℤ h) *ℤ pos 1024)
  mixed-fits = fits_64 _ (omega (arith, mixed-small, places))

-- a factor that isn't below nought keeps the order
pub mixed-rises : (a a' f f' b h : ℤ) → a ≤ℤ a' → f ≤ℤ f' → pos 0 ≤ℤ b → pos 0 ≤ℤ h
    → ((a *ℤ b +ℤ f *ℤ h) *ℤ pos 1024) ≤ℤ ((a' *ℤ b +ℤ f' *ℤ h) *ℤ pos 1024)
mixed-rises a a' f f' (pos b) (pos h) at_a at_f at_b at_h = le-times 1024 _ _ (sums (le-times b a a' at_a) (le-times h f f' at_f))
  where
    sums : {p p' q q' : ℤ} → p ≤ℤ p' → q ≤ℤ q' → (p +ℤ q) ≤ℤ (p' +ℤ q')
    sums h k = omega (arith, ints)
mixed-rises a a' f f' (negsuc b) h at_a at_f at_b at_h = absurd (omega (arith, ints))
mixed-rises a a' f f' (pos b) (negsuc h) at_a at_f at_b at_h = absurd (omega (arith, ints))

-- the ceiling is the opposite of the floor of the opposite
pub ceiling_opposite : (n z : ℤ) (d : ℕ) → IsFloor (pos 0 -ℤ n) d z → IsCeiling n d (pos 0 -ℤ z)
ceiling_opposite n z d f = rw (opposite_is z) (ceiling_by_floor n z d (rw (← opposite_is n) f))
  where
    opposite_is : (n : ℤ) → pos 0 -ℤ n ≡ neg_ℤ n
    opposite_is n = ring integers (n ∷ []) (number 0 :- var 0) (opposite (var 0)) refl

-- rounded outwards, two quotients in order are the ends of a span
pub quotients-span : (n m z w : ℤ) (d : ℕ) → 0 < d → n ≤ℤ m → unsigned_abs z ≤ 2 ^ 40 → unsigned_abs w ≤ 2 ^ 40 → IsFloor n d z → IsCeiling m d w
    → IsSpan 20 z w
quotients-span n m z w d some h at_z at_w f c = record {
  ordered = floor-le-ceiling d n m z w some h f c;
  low = omega (arith, at_z);
  high = omega (arith, at_w);
  scaled = omega arith;
}

-- ---- the place between two stations
pub fits_within : (n : ℤ) → IsWithin (pos 524287) n → SFits w64 n
fits_within n h = fits_64 n (omega (arith, ints, h.0, h.1))

module _ (first last x : ℤ) (at_first : IsWithin (pos 524287) first) (at_last : IsWithin (pos 524287) last) (from : first ≤ℤ x) (to : x ≤ℤ last) where
  pub before_within : IsWithin (pos 524287) (last -ℤ x)
  before_within = (omega (arith, ints, to), omega (arith, ints, from, at_first.0, at_last.1))

  pub behind_within : IsWithin (pos 524287) (x -ℤ first)
  behind_within = (omega (arith, ints, from), omega (arith, ints, to, at_first.0, at_last.1))

pub length_is : (first last : ℤ) → IsWithin (pos 524287) first → IsWithin (pos 524287) last → first <ℤ last → (pos 1 ≤ℤ (last -ℤ first))
    × ((last -ℤ first) ≤ℤ pos 524287)
length_is first last at_first at_last h = (omega (arith, ints, h), omega (arith, ints, at_first.0, at_last.1))

pub length_within : (first last : ℤ) → IsWithin (pos 524287) first → IsWithin (pos 524287) last → first <ℤ last → IsWithin (pos 524287) (last -ℤ first)
length_within first last at_first at_last h = (omega (arith, ints, h), omega (arith, ints, at_first.0, at_last.1))

pub size_joined : (n first last x : ℤ) → unsigned_abs n ≤ 2 ^ 40 * unsigned_abs ((last -ℤ x) +ℤ (x -ℤ first)) → unsigned_abs n ≤ 2 ^ 40 * unsigned_abs
    (last -ℤ first)
size_joined n first last x h = omega (arith, ints, h)

pub level_fits : (n : ℤ) → unsigned_abs n ≤ 2 ^ 30 → SFits w64 n
level_fits n h = fits_64 n (omega (arith, h))

pub length_some : (first last : ℤ) → first <ℤ last → 0 < unsigned_abs (last -ℤ first)
length_some first last h = omega (arith, ints, h)

pub length_same : (first last : ℤ) → first <ℤ last → pos (unsigned_abs (last -ℤ first)) ≡ last -ℤ first
length_same first last h = same (last -ℤ first) (omega (arith, ints, h))
  where
    same : (n : ℤ) → pos 0 ≤ℤ n → pos (unsigned_abs n) ≡ n
    same (pos n) h = refl
    same (negsuc n) h = absurd (omega (arith, ints))

-- between the ends of both levels, the quotients by the length enclose the level
module _ (plane : Waterplane) (first last x : ℤ) (length : ℕ) (some : 0 < length) (is : pos length ≡ last -ℤ first) where
  open plane use {a, f}

  abbrev X : Fraction
  X = whole x

  abbrev Aft : Fraction
  Aft = whole first

  abbrev Fore : Fraction
  Fore = whole last

  abbrev P : Fraction
  P = whole (pos (2 ^ 10))

  abbrev Q : Fraction
  Q = whole (pos (2 ^ 20))

  abbrev mixed : ℤ → ℤ → ℤ
  mixed m n = (m *ℤ (last -ℤ x) +ℤ n *ℤ (x -ℤ first)) *ℤ pos 1024

  whole-length : whole (pos length) ≡ Fore ⊖ Aft
  whole-length = ap whole is ∙ whole-sub last first

  whole-mixed : (m n : ℤ) → whole (mixed m n) ≡ (whole m ⊗ (Fore ⊖ X) ⊕ whole n ⊗ (X ⊖ Aft)) ⊗ P
  whole-mixed m n = whole-mul (m *ℤ (last -ℤ x) +ℤ n *ℤ (x -ℤ first)) (pos 1024) ∙ ap (λ y. y ⊗ P)
      (whole-add (m *ℤ (last -ℤ x)) (n *ℤ (x -ℤ first)) ∙ ap₂ ◌⊕◌ (whole-mul m (last -ℤ x) ∙ ap (λ y. whole m ⊗ y) (whole-sub last x))
      (whole-mul n (x -ℤ first) ∙ ap (λ y. whole n ⊗ y) (whole-sub x first)))

  positive-length : sign (Fore ⊖ Aft) ≡ above
  positive-length = Order.positive_same fractions (sym whole-length) (positive-whole length some)

  inverted : (Fore ⊖ Aft) ⊗ inverse (Fore ⊖ Aft) ≡ one
  inverted = Bounds.mul-inverse_positive fractions positive-length

  squared : Q ≡ P ⊗ P
  squared = whole-mul (pos (2 ^ 10)) (pos (2 ^ 10))

  nonnegative_units : (k l : ℤ) → pos 0 ≤ℤ (k -ℤ l) → Order.NonNegative fractions ((whole k ⊖ whole l) ⊗ P)
  nonnegative_units k l h = Order.nonnegative-mul fractions (Order.nonnegative_same fractions (sym (whole-sub k l)) (above_nought (k -ℤ l) h))
      (nonnegative-whole (2 ^ 10))
    where
      above_nought : (n : ℤ) → pos 0 ≤ℤ n → Order.NonNegative fractions (whole n)
      above_nought (pos n) h = nonnegative-whole n
      above_nought (negsuc n) h = absurd (omega (arith, ints))

  abbrev values : ℤ → ℤ → ℤ → List Fraction
  values m n z = whole z ∷ Q ∷ a ∷ f ∷ P ∷ X ∷ Aft ∷ Fore ∷ inverse (Fore ⊖ Aft) ∷ whole m ∷ whole n ∷ []

  abbrev part : Expression
  part = (var 5 :- var 6) :* var 8

  abbrev level : Expression
  level = ((unit :- part) :* var 2 :+ part :* var 3) :* var 1

  -- the level isn't below a number of units where those of both ends are not, and not above one
  pub level_above : (a1 f1 lo : ℤ) → pos 0 ≤ℤ (last -ℤ x) → pos 0 ≤ℤ (x -ℤ first) → whole a1 ≼ in_units 10 a → whole f1 ≼ in_units 10 f
      → (lo *ℤ pos length) ≤ℤ mixed a1 f1 → whole lo ≼ in_units 20 (level_at plane first last X)
  unfolding level_at
  level_above a1 f1 lo before behind at_a at_f e = Order.≼_cancel fractions positive-length (order_from fractions (values a1 f1 lo)
      ((unit, var 0 :* (var 7 :- var 6), ((var 9 :* (var 7 :- var 5) :+ var 10 :* (var 5 :- var 6)) :* var 4))
      ∷ ((var 7 :- var 5) :* var 4, var 9, var 2 :* var 4)
      ∷ ((var 5 :- var 6) :* var 4, var 10, var 3 :* var 4)
      ∷ (var 2 :* (var 7 :- var 5) :+ var 3 :* (var 5 :- var 6), var 4 :* var 4, var 1)
      ∷ (var 1 :* (var 3 :- var 2) :* (var 5 :- var 6), unit, (var 7 :- var 6) :* var 8) ∷ [])
      (at_most low (scaled (nonnegative_units last x before) at_a (scaled (nonnegative_units x first behind) at_f
      (equal (sym squared) (equal (sym inverted) no_more)))))
      (var 0 :* (var 7 :- var 6)) (level :* (var 7 :- var 6)) refl)
    where
      low : whole lo ⊗ (Fore ⊖ Aft) ≼ (whole a1 ⊗ (Fore ⊖ X) ⊕ whole f1 ⊗ (X ⊖ Aft)) ⊗ P
      low = Order.≼_trans fractions (Order.≼_same fractions (ap (λ y. whole lo ⊗ y) (sym whole-length) ∙ sym (whole-mul lo (pos length))))
          (Order.≼_trans fractions (whole-≼ e) (Order.≼_same fractions (whole-mixed a1 f1)))

  pub level_below : (a2 f2 hi : ℤ) → pos 0 ≤ℤ (last -ℤ x) → pos 0 ≤ℤ (x -ℤ first) → in_units 10 a ≼ whole a2 → in_units 10 f ≼ whole f2
      → mixed a2 f2 ≤ℤ (hi *ℤ pos length) → in_units 20 (level_at plane first last X) ≼ whole hi
  unfolding level_at
  level_below a2 f2 hi before behind at_a at_f e = Order.≼_cancel fractions positive-length (order_from fractions (values a2 f2 hi)
      ((unit, ((var 9 :* (var 7 :- var 5) :+ var 10 :* (var 5 :- var 6)) :* var 4), var 0 :* (var 7 :- var 6))
      ∷ ((var 7 :- var 5) :* var 4, var 2 :* var 4, var 9)
      ∷ ((var 5 :- var 6) :* var 4, var 3 :* var 4, var 10)
      ∷ (var 2 :* (var 7 :- var 5) :+ var 3 :* (var 5 :- var 6), var 1, var 4 :* var 4)
      ∷ (var 1 :* (var 3 :- var 2) :* (var 5 :- var 6), (var 7 :- var 6) :* var 8, unit) ∷ [])
      (at_most high (scaled (nonnegative_units last x before) at_a (scaled (nonnegative_units x first behind) at_f
      (equal squared (equal inverted no_more)))))
      (level :* (var 7 :- var 6)) (var 0 :* (var 7 :- var 6)) refl)
    where
      high : (whole a2 ⊗ (Fore ⊖ X) ⊕ whole f2 ⊗ (X ⊖ Aft)) ⊗ P ≼ whole hi ⊗ (Fore ⊖ Aft)
      high = Order.≼_trans fractions (Order.≼_same fractions (sym (whole-mixed a2 f2)))
          (Order.≼_trans fractions (whole-≼ e) (Order.≼_same fractions (whole-mul hi (pos length) ∙ ap (λ y. whole hi ⊗ y) whole-length)))

  pub level_encloses : (a1 a2 f1 f2 lo hi : ℤ) → pos 0 ≤ℤ (last -ℤ x) → pos 0 ≤ℤ (x -ℤ first) → ContainsFraction 10 a1 a2 a → ContainsFraction 10 f1 f2 f
      → AreLeastEnds (mixed a1 f1) (mixed a2 f2) length lo hi → ContainsFraction 20 lo hi (level_at plane first last X)
  level_encloses a1 a2 f1 f2 lo hi before behind at_a at_f e = record {
    from = level_above a1 f1 lo before behind at_a.from at_f.from e.low.below;
    to = level_below a2 f2 hi before behind at_a.to at_f.to e.high.above;
  }

-- ---- levels that are the same at both ends
pub floor_exact : (n z : ℤ) (d : ℕ) → 0 < d → n ≡ z *ℤ pos d → IsFloor n d z
floor_exact n z d some e = record { below = omega (arith, ints, e); next = omega (arith, ints, e, some, next_up) }
  where
    next_up : (z +ℤ pos 1) *ℤ pos d ≡ z *ℤ pos d +ℤ pos d
    next_up = ring integers (z ∷ pos d ∷ []) ((var 0 :+ unit) :* var 1) (var 0 :* var 1 :+ var 1) refl

pub ceiling_exact : (n z : ℤ) (d : ℕ) → 0 < d → n ≡ z *ℤ pos d → IsCeiling n d z
ceiling_exact n z d some e = record { above = omega (arith, ints, e); before = omega (arith, ints, e, some, next_down) }
  where
    next_down : (z -ℤ pos 1) *ℤ pos d ≡ z *ℤ pos d -ℤ pos d
    next_down = ring integers (z ∷ pos d ∷ []) ((var 0 :- unit) :* var 1) (var 0 :* var 1 :- var 1) refl

module _ (first last x : ℤ) (length : ℕ) (some : 0 < length) (is : pos length ≡ last -ℤ first) where
  mixed_same : (m : ℤ) → (m *ℤ (last -ℤ x) +ℤ m *ℤ (x -ℤ first)) *ℤ pos 1024 ≡ (m *ℤ pos 1024) *ℤ pos length
  mixed_same m = ring_from integers (m ∷ last ∷ x ∷ first ∷ pos length ∷ pos 1024 ∷ []) ((opposite (var 0 :* var 5), var 4, var 1 :- var 3) ∷ [])
      (given is none) ((var 0 :* (var 1 :- var 2) :+ var 0 :* (var 2 :- var 3)) :* var 5) ((var 0 :* var 5) :* var 4) refl

  -- they are the quotients of what is mixed
  pub same_least : (a1 a2 f1 f2 lo hi : ℤ) → a1 ≡ f1 → a2 ≡ f2 → lo ≡ a1 *ℤ pos 1024 → hi ≡ a2 *ℤ pos 1024
      → AreLeastEnds ((a1 *ℤ (last -ℤ x) +ℤ f1 *ℤ (x -ℤ first)) *ℤ pos 1024) ((a2 *ℤ (last -ℤ x) +ℤ f2 *ℤ (x -ℤ first)) *ℤ pos 1024) length lo hi
  same_least a1 a2 f1 f2 lo hi e g low high = record {
    low = rw (sym e, low) (floor_exact ((a1 *ℤ (last -ℤ x) +ℤ a1 *ℤ (x -ℤ first)) *ℤ pos 1024) (a1 *ℤ pos 1024) length some (mixed_same a1));
    high = rw (sym g, high) (ceiling_exact ((a2 *ℤ (last -ℤ x) +ℤ a2 *ℤ (x -ℤ first)) *ℤ pos 1024) (a2 *ℤ pos 1024) length some (mixed_same a2));
  }

  pub same_encloses : (plane : Waterplane) (a1 a2 f1 f2 lo hi : ℤ) → a1 ≡ f1 → a2 ≡ f2 → lo ≡ a1 *ℤ pos 1024 → hi ≡ a2 *ℤ pos 1024 → pos 0 ≤ℤ
      (last -ℤ x) → pos 0 ≤ℤ (x -ℤ first)
      → ContainsFraction 10 a1 a2 plane.a → ContainsFraction 10 f1 f2 plane.f → ContainsFraction 20 lo hi (level_at plane first last (whole x))
  same_encloses plane a1 a2 f1 f2 lo hi e g low high before behind at_a at_f = level_encloses plane first last x length some is a1 a2 f1 f2 lo hi
      before behind at_a at_f (same_least a1 a2 f1 f2 lo hi e g low high)

pub same_span : (low high : ℤ) → low ≤ℤ high → unsigned_abs low ≤ 2 ^ 30 → unsigned_abs high ≤ 2 ^ 30 → IsSpan 20 (low *ℤ pos 1024) (high *ℤ pos 1024)
same_span low high order h k = record {
  ordered = omega (arith, ints, order);
  low = omega (arith, ints, h);
  high = omega (arith, ints, k);
  scaled =
      omega arith;
}
