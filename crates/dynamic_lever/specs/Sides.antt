-- The sides of a ship, and what stands in pairs, port first.
use Rattle.std.specs.Prelude.{List, [], ◌∷◌}
use Rattle.exact_algebra.proofs.Fraction.{Fraction, one, negative}
use Rattle.outward_interval.specs.Ends.{EndsBelow}
use Rattle.outward_interval.specs.declared.span.Span.{Span}

-- port is 1, and starboard -1
abbrev pub port : Fraction
port = one

abbrev pub starboard : Fraction
starboard = negative one

-- the first of two spans for port, the second for starboard
abbrev pub OnSides : (Fraction → Span 20 → Type 0) → List (Span 20) → Type 0
OnSides P (p ∷ s ∷ []) = P port p × P starboard s
OnSides P _ = ⊥

-- each of two spans
abbrev pub OnBoth : (Span 20 → Type 0) → List (Span 20) → Type 0
OnBoth P (p ∷ s ∷ []) = P p × P s
OnBoth P _ = ⊥

-- neither has ends of 2^95 units or more in magnitude
abbrev pub AreSmallLevers : List (Span 20) → Type 0
AreSmallLevers spans = OnBoth (λ s. EndsBelow 95 s.lo s.hi) spans
