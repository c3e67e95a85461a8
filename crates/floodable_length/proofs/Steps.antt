-- Steps of a length against the room about a centre.
use Rattle.std.proofs.Common.{◌≡◌, ◌⊎◌, inl, inr, ap, ◌∙◌, sym, subst, ◌≤◌, ℕ, ℤ, pos, ◌+ℤ◌, ◌-ℤ◌, ◌*ℤ◌, ◌≤ℤ◌, ◌<ℤ◌, unsigned_abs, Bool, true, false, cond, refl, arith, w64, [], ◌∷◌}
use Rattle.std.proofs.lemmas.Int.{ints}
use Rattle.std.specs.Int.{int_min, int_max}
use Rattle.std.specs.Prelude.{int_lt}
use mir.Val.{SFits}
use Rattle.exact_algebra.specs.Expression.{var, unit, ◌:+◌, ◌:*◌}
use Rattle.exact_algebra.specs.Span.{IsFloor}
use Rattle.exact_algebra.proofs.Ring.{ring}
use Rattle.exact_algebra.proofs.WholeNumbers.{integers}
use Rattle.hull_model.specs.declared.slab.Slab.{Slab}
use Rattle.hull_model.specs.Body.{IsWithin}
use Rattle.hull_model.specs.Limits.{IsSlab}
use Rattle.hull_model.proofs.Magnitudes.{fits_64}
use Rattle.outward_interval.proofs.Quotients.{le-times}
use Rattle.floodable_length.specs.Lengths.{twice, IsWithinEnds, IsPastEnd, IsSlabOf, AreLengths}

-- ---- the lesser and the greater of two numbers
one_of : (b : Bool) (x y : ℤ) → (cond b x y ≡ x) ⊎ (cond b x y ≡ y)
one_of true x y = inl refl
one_of false x y = inr refl

pub min_met : (x y r : ℤ) → r ≡ int_min x y → (r ≡ x) ⊎ (r ≡ y)
min_met x y r e = elim (one_of (int_lt y x) y x) [ inl h ↦ inr (e ∙ h) | inr h ↦ inl (e ∙ h) ]

pub max_met : (x y r : ℤ) → r ≡ int_max x y → (r ≡ x) ⊎ (r ≡ y)
max_met x y r e = elim (one_of (int_lt y x) x y) [ inl h ↦ inl (e ∙ h) | inr h ↦ inr (e ∙ h) ]

-- ---- numbers of 64 bits
pub apart-fits : (a b : ℤ) → IsWithin (pos 524287) a → IsWithin (pos 524287) b → SFits w64 (a -ℤ b)
apart-fits a b h k = go h.0 h.1 k.0 k.1
  where
    go : pos 0 ≤ℤ a → a ≤ℤ pos 524287 → pos 0 ≤ℤ b → b ≤ℤ pos 524287 → SFits w64 (a -ℤ b)
    go p q r s = fits_64 (a -ℤ b) (omega (arith, ints))

pub apart-small : (a b : ℤ) → IsWithin (pos 524287) a → IsWithin (pos 524287) b → unsigned_abs (a -ℤ b) ≤ 524287
apart-small a b h k = go h.0 h.1 k.0 k.1
  where
    go : pos 0 ≤ℤ a → a ≤ℤ pos 524287 → pos 0 ≤ℤ b → b ≤ℤ pos 524287 → unsigned_abs (a -ℤ b) ≤ 524287
    go p q r s = omega (arith, ints)

-- ---- products with half of a step
at_twice : (steps half : ℤ) → steps *ℤ twice half ≡ twice (steps *ℤ half)
at_twice steps half = ring integers (steps ∷ half ∷ []) (var 0 :* (var 1 :+ var 1)) (var 0 :* var 1 :+ var 0 :* var 1) refl

natural : (half : ℤ) → pos 1 ≤ℤ half → half ≡ pos (unsigned_abs half)
natural half h = omega (arith, ints)

pub times-rises : (a b half : ℤ) → pos 1 ≤ℤ half → a ≤ℤ b → (a *ℤ half) ≤ℤ (b *ℤ half)
times-rises a b half h k = subst (λ n. (a *ℤ n) ≤ℤ (b *ℤ n)) (sym (natural half h)) (le-times (unsigned_abs half) a b k)

once : (half : ℤ) → pos 1 *ℤ half ≡ half
once half = ring integers (half ∷ []) (unit :* var 0) (var 0) refl

module _ (first last centre half room quotient steps : ℤ) (some : pos 1 ≤ℤ half) (floor : IsFloor room (unsigned_abs half) quotient) where
  next : room <ℤ ((quotient +ℤ pos 1) *ℤ half)
  next = subst (λ n. room <ℤ ((quotient +ℤ pos 1) *ℤ n)) (sym (natural half some)) floor.next

  below : (quotient *ℤ half) ≤ℤ room
  below = subst (λ n. (quotient *ℤ n) ≤ℤ room) (sym (natural half some)) floor.below

  -- one step more than fits in
  pub is_past : (room ≡ centre -ℤ first) ⊎ (room ≡ last -ℤ centre) → pos 1 ≤ℤ steps → (quotient +ℤ pos 1) ≤ℤ steps → IsPastEnd first last centre (steps *ℤ twice half)
  is_past met least over = subst (IsPastEnd first last centre) (sym (at_twice steps half)) (record {
    some = above (steps *ℤ half) (times-rises (pos 1) steps half some least);
    past = elim met [
      | inl e ↦ inl (beyond (centre -ℤ first) (steps *ℤ half) e (times-rises (quotient +ℤ pos 1) steps half some over))
      | inr e ↦ inr (beyond (last -ℤ centre) (steps *ℤ half) e (times-rises (quotient +ℤ pos 1) steps half some over))
    ];
  })
    where
      above : (n : ℤ) → (pos 1 *ℤ half) ≤ℤ n → pos 0 <ℤ twice n
      above n h = omega (arith, ints, some, once half)

      beyond : (to n : ℤ) → room ≡ to → ((quotient +ℤ pos 1) *ℤ half) ≤ℤ n → twice to <ℤ twice n
      beyond to n e h = omega (arith, ints, next)

  -- no more steps than fit in
  pub is_within : room ≤ℤ (centre -ℤ first) → room ≤ℤ (last -ℤ centre) → steps ≤ℤ quotient → IsWithinEnds first last centre (steps *ℤ half)
  is_within aft fore few = record { aft = after (steps *ℤ half) fits; fore = before (steps *ℤ half) fits }
    where
      fits : (steps *ℤ half) ≤ℤ (quotient *ℤ half)
      fits = times-rises steps quotient half some few

      after : (n : ℤ) → n ≤ℤ (quotient *ℤ half) → first ≤ℤ (centre -ℤ n)
      after n h = omega (arith, ints, below, aft)

      before : (n : ℤ) → n ≤ℤ (quotient *ℤ half) → (centre +ℤ n) ≤ℤ last
      before n h = omega (arith, ints, below, fore)

-- the step that is past an end is the next after those that fit in, and the first at least
pub least_past : (quotient steps : ℤ) → steps ≡ int_max (quotient +ℤ pos 1) (pos 1) → (n : ℤ) → pos 1 ≤ℤ n → n <ℤ steps → n ≤ℤ quotient
least_past quotient steps e n h k = elim (max_met (quotient +ℤ pos 1) (pos 1) steps e) [ inl p ↦ omega (arith, ints, p) | inr p ↦ omega (arith, ints, p) ]

pub most_past : (quotient steps : ℤ) → steps ≡ int_max (quotient +ℤ pos 1) (pos 1) → unsigned_abs quotient ≤ 524287 → steps ≤ℤ pos 524288
most_past quotient steps e h = elim (max_met (quotient +ℤ pos 1) (pos 1) steps e) [ inl p ↦ omega (arith, ints, p) | inr p ↦ omega (arith, ints, p) ]

pub step-fits : (n : ℤ) → unsigned_abs n ≤ 524287 → SFits w64 (n +ℤ pos 1)
step-fits n h = fits_64 (n +ℤ pos 1) (omega (arith, ints))

pub half-fits : (n : ℤ) → pos 1 ≤ℤ n → n ≤ℤ pos 50000 → SFits w64 n
half-fits n h k = fits_64 n (omega (arith, ints))

-- ---- the slab of a number of steps
module _ (first last centre half_step steps half : ℤ) (permeability : ℕ) (limits : AreLengths first last centre half_step permeability) (some : pos 1 ≤ℤ steps)
    (within : IsWithinEnds first last centre (steps *ℤ half_step)) (value : half ≡ steps *ℤ half_step) where
  inside : IsWithinEnds first last centre half
  inside = subst (IsWithinEnds first last centre) (sym value) within

  pub is_slab : IsSlab (centre -ℤ half) (centre +ℤ half) permeability
  is_slab = record {
    aft_end = aft first half inside.aft limits.ends.first_within.0;
    order = rising half (subst (λ n. (pos 1 *ℤ half_step) ≤ℤ n) (sym value) (times-rises (pos 1) steps half_step limits.some some));
    fore_end = fore last half inside.fore limits.ends.last_within.1;
    share = limits.share;
  }
    where
      aft : (a n : ℤ) → a ≤ℤ (centre -ℤ n) → pos 0 ≤ℤ a → pos 0 ≤ℤ (centre -ℤ n)
      aft a n h k = omega (arith, ints, h, k)

      fore : (a n : ℤ) → (centre +ℤ n) ≤ℤ a → a ≤ℤ pos 524287 → (centre +ℤ n) ≤ℤ pos 524287
      fore a n h k = omega (arith, ints, h, k)

      rising : (n : ℤ) → (pos 1 *ℤ half_step) ≤ℤ n → (centre -ℤ n) <ℤ (centre +ℤ n)
      rising n h = omega (arith, ints, h, once half_step, limits.some)

  pub is_slab_of : (slab : Slab) → slab.aft ≡ centre -ℤ half → slab.fore ≡ centre +ℤ half → slab.permeability ≡ permeability
      → IsSlabOf first last centre permeability (steps *ℤ twice half_step) slab
  is_slab_of slab aft fore share = record {
    middle = halfway slab.aft slab.fore aft fore;
    long = whole slab.aft slab.fore aft fore ∙ ap twice value ∙ sym (at_twice steps half_step);
    share = share;
    from = subst (λ n. first ≤ℤ n) (sym aft) inside.aft;
    to = subst (λ n. n ≤ℤ last) (sym fore) inside.fore;
  }
    where
      halfway : (a f : ℤ) → a ≡ centre -ℤ half → f ≡ centre +ℤ half → a +ℤ f ≡ twice centre
      halfway a f h k = omega (arith, ints, h, k)

      whole : (a f : ℤ) → a ≡ centre -ℤ half → f ≡ centre +ℤ half → f -ℤ a ≡ twice half
      whole a f h k = omega (arith, ints, h, k)

pub double-fits : (n : ℤ) → pos 1 ≤ℤ n → n ≤ℤ pos 50000 → SFits w64 (pos 2 *ℤ n)
double-fits n h k = fits_64 (pos 2 *ℤ n) (omega (arith, ints))

pub steps-fits : (n : ℤ) → pos 0 ≤ℤ n → n ≤ℤ pos 524288 → SFits w64 n
steps-fits n h k = fits_64 n (omega (arith, ints))
