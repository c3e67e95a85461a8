-- What the quotients of a row hold, by what they are taken of and by.
use Rattle.std.proofs.Common.{ℕ, ◌≡◌, sym, subst, ◌^◌, ◌<◌, ℤ, pos, ◌≤ℤ◌, ◌<ℤ◌, ◌↔◌, ◌⊎◌, inl, inr, Option, None, Some, IfSome, arith}
use Rattle.std.proofs.lemmas.Int.{ints}
use Rattle.exact_algebra.specs.OrderedField.{above}
use Rattle.exact_algebra.proofs.Fraction.{Fraction, ◌⊕◌, ◌⊗◌, inverse, sign}
use Rattle.exact_algebra.proofs.Span.{positive_from_span}
use Rattle.flux_moments.proofs.ProductEnds.{at_most_below}
use Rattle.flux_moments.specs.Limits.{EndsAtMost}
use Rattle.outward_interval.specs.declared.span.Span.{Span}
use Rattle.hydro_tables.specs.Row.{Holds, HoldsIfThere, IsBoundedIfThere}

pub bounded_if_there : (most : ℕ) (s : Option (Span 20)) → most < 2 ^ 96 → IfSome s (λ s. EndsAtMost most s.lo s.hi) → IsBoundedIfThere s
bounded_if_there most None h e = tt
bounded_if_there most (Some s) h e = at_most_below most 96 h e

abbrev pub IsAboveNought : Span 20 → Type 0
IsAboveNought s = pos 1 ≤ℤ s.lo

pub positive_held : (d : Span 20) (v : Fraction) → IsAboveNought d → Holds d v → sign v ≡ above
positive_held d v o h = positive_from_span (more o) h
  where
    more : {n : ℤ} → pos 1 ≤ℤ n → pos 0 <ℤ n
    more h = omega (arith, ints)

-- ---- divisors
module _ (given : Span 20) (divisor : Option (Span 20)) (same : IfSome divisor (λ d. (d ≡ given) × IsAboveNought d)) where
  pub divisor_holds : (v : Fraction) → Holds given v → HoldsIfThere divisor v
  divisor_holds v h = go divisor same
    where
      go : (o : Option (Span 20)) → IfSome o (λ d. (d ≡ given) × IsAboveNought d) → HoldsIfThere o v
      go None e = tt
      go (Some d) e = subst (λ (s : Span 20). Holds s v) (sym e.0) h

  pub divisor_above : IfSome divisor IsAboveNought
  divisor_above = go divisor same
    where
      go : (o : Option (Span 20)) → IfSome o (λ d. (d ≡ given) × IsAboveNought d) → IfSome o IsAboveNought
      go None e = tt
      go (Some d) e = e.1

-- what is known of the first divisor is known of it where there are both
pub first_of_both : (P : Span 20 → Type 0) (first both : Option (Span 20)) → IfSome both (λ d. first ≡ Some d) → IfSome first P → IfSome both P
first_of_both P first None e h = tt
first_of_both P first (Some d) e h = subst (λ (o : Option (Span 20)). IfSome o P) e h

-- ---- quotients
-- the quotient, where it is there, holds the quotients of what the moment and the divisor hold
abbrev pub HoldsQuotients : Option (Span 20) → Span 20 → Option (Span 20) → Type 0
HoldsQuotients divisor moment result = IfSome result (λ s. (m v : Fraction) → Holds moment m → HoldsIfThere divisor v → Holds s (m ⊗ inverse v))

pub quotient_holds : (divisor result : Option (Span 20)) (moment : Span 20) (m v : Fraction) → HoldsQuotients divisor moment result → Holds moment m → HoldsIfThere divisor v
    → HoldsIfThere result (m ⊗ inverse v)
quotient_holds divisor None moment m v q h d = tt
quotient_holds divisor (Some s) moment m v q h d = q m v h d

pub sum_holds : (one other result : Option (Span 20)) (x y : Fraction) → IfSome result (λ s. (x y : Fraction) → HoldsIfThere one x → HoldsIfThere other y → Holds s (x ⊕ y))
    → HoldsIfThere one x → HoldsIfThere other y → HoldsIfThere result (x ⊕ y)
sum_holds one other None x y c h k = tt
sum_holds one other (Some s) x y c h k = c x y h k

-- ---- what is absent
pub through : {A B C : Type 0} → A ↔ B → B ↔ C → A ↔ C
through e f = (λ a. f.0 (e.0 a), λ c. e.1 (f.1 c))

pub either : {A B C D : Type 0} → A ↔ B → C ↔ D → (A ⊎ C) ↔ (B ⊎ D)
either {A} {B} {C} {D} e f = (to, from)
  where
    to : A ⊎ C → B ⊎ D
    to (inl a) = inl (e.0 a)
    to (inr c) = inr (f.0 c)

    from : B ⊎ D → A ⊎ C
    from (inl b) = inl (e.1 b)
    from (inr d) = inr (f.1 d)

pub either_same : {A B C : Type 0} → A ↔ B → C ↔ B → (A ⊎ C) ↔ B
either_same {A} {B} {C} e f = (to, λ b. inl (e.1 b))
  where
    to : A ⊎ C → B
    to (inl a) = e.0 a
    to (inr c) = f.0 c
