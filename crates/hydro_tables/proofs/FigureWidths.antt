-- How wide the figures are that are formed from spans of others.
use Rattle.std.proofs.Common.{◌≡◌, refl, [], ◌∷◌, ℕ, ◌*◌, ◌<◌, ℤ, pos, ◌+ℤ◌, ◌-ℤ◌, ◌*ℤ◌, ◌≤ℤ◌}
use Rattle.exact_algebra.specs.Expression.{var, unit, number, ◌:+◌, ◌:*◌, opposite}
use Rattle.exact_algebra.proofs.Bounds as Bounds
use Rattle.exact_algebra.proofs.Fraction.{Fraction, ◌⊕◌, ◌⊗◌, inverse, fractions, fraction_ring}
use Rattle.exact_algebra.proofs.Order as Order
use Rattle.exact_algebra.proofs.Order.{order_from, no_more, scaled}
use Rattle.exact_algebra.proofs.Ring.{ring_from, none, given}
use Rattle.exact_algebra.proofs.Whole.{whole, positive-whole}
use Rattle.outward_interval.specs.Ends.{AreEnds}
use Rattle.outward_interval.specs.Widths.{unit_of}
use Rattle.outward_interval.specs.declared.span.Span.{Span}
use Rattle.outward_interval.proofs.Narrow.{nonnegative-unit_of, narrow-wider, narrow-sum, narrow-multiple, narrow-over}
use Rattle.hydro_tables.specs.Widths.{width_of, IsWithin}
use Rattle.hydro_tables.proofs.RowWidths.{narrow_itself, within}

pub sum_narrow : (a b s : Span 20) → AreEnds (a.lo +ℤ b.lo) (a.hi +ℤ b.hi) s.lo s.hi → IsWithin (width_of a ⊕ width_of b) s
sum_narrow a b s e = narrow-wider (order_from fractions ((width_of a ⊕ width_of b) ∷ unit_of 16 ∷ []) ((unit, number 0, var 1) ∷ [])
    (scaled (Order.nonnegative-one fractions) (Order.nought-≼ fractions (nonnegative-unit_of 16)) no_more) (var 0) (var 0 :+ var 1) refl) (narrow-sum e (narrow_itself a) (narrow_itself b))

-- a whole multiple over a whole number
pub multiple_narrow : (s result : Span 20) (low high : ℤ) (n d : ℕ) → 0 < d → high -ℤ low ≡ pos n *ℤ (s.hi -ℤ s.lo)
    → ((result.hi -ℤ result.lo) *ℤ pos d) ≤ℤ ((high -ℤ low) +ℤ pos (2 * d)) → IsWithin (width_of s ⊗ (whole (pos n) ⊗ inverse (whole (pos d)))) result
multiple_narrow s result low high n d some times over = within t (narrow-over {a = low} {b = high} t d some over (narrow-multiple n times (narrow_itself s)) (Order.≼_same fractions same))
  where
    t : Fraction
    t = width_of s ⊗ (whole (pos n) ⊗ inverse (whole (pos d)))

    same : width_of s ⊗ whole (pos n) ≡ t ⊗ whole (pos d)
    same = ring_from fraction_ring (width_of s ∷ whole (pos n) ∷ whole (pos d) ∷ inverse (whole (pos d)) ∷ []) ((opposite (var 0 :* var 1), var 2 :* var 3, unit) ∷ [])
        (given (Bounds.mul-inverse_positive fractions (positive-whole d some)) none) (var 0 :* var 1) ((var 0 :* (var 1 :* var 3)) :* var 2) refl
