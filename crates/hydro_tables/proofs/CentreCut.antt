-- A span that is cut to the places of a hull.
use Rattle.std.proofs.Common.{◌≡◌, ◌≢◌, refl, sym, inl, inr, ◌^◌, ◌↔◌, ℤ, pos, ◌-ℤ◌, ◌≤ℤ◌, Option, None, Some, IfSome, IsNone, arith}
use Rattle.std.proofs.lemmas.Bool.{true≢false}
use Rattle.std.proofs.lemmas.Int.{ints, clamps}
use Rattle.std.specs.Int.{int_min, int_max}
use Rattle.exact_algebra.specs.OrderedField.{below}
use Rattle.exact_algebra.proofs.Bounds as Bounds
use Rattle.exact_algebra.proofs.Fraction.{Fraction, nought, ◌⊗◌, inverse, sign, fractions, ◌≼◌}
use Rattle.exact_algebra.proofs.Order as Order
use Rattle.exact_algebra.proofs.Span.{ContainsFraction, positive-unit}
use Rattle.exact_algebra.proofs.Whole.{whole, whole-nought, whole-sub, whole-mul, whole-≼, whole-≼_out}
use Rattle.outward_interval.specs.Widths.{IsNarrow}
use Rattle.outward_interval.specs.declared.span.Span.{Span}
use Rattle.hydro_tables.specs.Extent.{HasCentre, far}
use Rattle.hydro_tables.specs.Row.{Holds}
use Rattle.hydro_tables.specs.Widths.{IsQuotientNarrow}
use Rattle.hydro_tables.proofs.RowQuotients.{IsAboveNought, positive_held}

pub cut_contains : (lo hi from to : ℤ) (q : Fraction) → from ≡ int_min (int_max lo (pos 0)) (pos (2 ^ 40)) → to ≡ int_min (int_max hi (pos 0)) (pos (2 ^ 40)) → nought ≼ q → q ≼ far
    → ContainsFraction 20 lo hi q → ContainsFraction 20 from to q
cut_contains lo hi from to q e f some most h = record {
  from = elim (Order.≼_total fractions (whole lo) (whole (pos 0))) [
    | inl k ↦ Order.≼_trans fractions (whole-≼ (low_nought lo from e (whole-≼_out lo (pos 0) k))) (Order.≼_trans fractions (Order.≼_same fractions whole-nought) at_least)
    | inr k ↦ Order.≼_trans fractions (whole-≼ (low lo from e (whole-≼_out (pos 0) lo k))) h.from
  ];
  to = elim (Order.≼_total fractions (whole hi) (whole (pos (2 ^ 40)))) [
    | inl k ↦ Order.≼_trans fractions h.to (whole-≼ (high hi to f (whole-≼_out hi (pos (2 ^ 40)) k)))
    | inr k ↦ Order.≼_trans fractions at_most (whole-≼ (high_far hi to f (whole-≼_out (pos (2 ^ 40)) hi k)))
  ];
}
  where
    low_nought : (lo from : ℤ) → from ≡ int_min (int_max lo (pos 0)) (pos (2 ^ 40)) → lo ≤ℤ pos 0 → from ≤ℤ pos 0
    low_nought lo from e h = omega (arith, ints, clamps)

    low : (lo from : ℤ) → from ≡ int_min (int_max lo (pos 0)) (pos (2 ^ 40)) → pos 0 ≤ℤ lo → from ≤ℤ lo
    low lo from e h = omega (arith, ints, clamps)

    high : (hi to : ℤ) → to ≡ int_min (int_max hi (pos 0)) (pos (2 ^ 40)) → hi ≤ℤ pos (2 ^ 40) → hi ≤ℤ to
    high hi to e h = omega (arith, ints, clamps)

    high_far : (hi to : ℤ) → to ≡ int_min (int_max hi (pos 0)) (pos (2 ^ 40)) → pos (2 ^ 40) ≤ℤ hi → pos (2 ^ 40) ≤ℤ to
    high_far hi to e h = omega (arith, ints, clamps)

    scale : sign (whole (pos (2 ^ 20))) ≢ below
    scale = Order.nonnegative_positive fractions (positive-unit 20)

    at_least : nought ≼ q ⊗ whole (pos (2 ^ 20))
    at_least = Order.nought-≼ fractions (Order.nonnegative-mul fractions (Order.nonnegative_from fractions some) scale)

    at_most : q ⊗ whole (pos (2 ^ 20)) ≼ whole (pos (2 ^ 40))
    at_most = Order.≼_trans fractions (Order.≼-mul fractions scale most) (Order.≼_same fractions (sym (whole-mul (pos (2 ^ 20)) (pos (2 ^ 20)))))

-- where there is an area, the centre lies aboard
pub centre_aboard : (area : Option (Span 20)) (x : Span 20) (m v : Fraction) → IsNone (Some x) ↔ IsNone area → IfSome area IsAboveNought → HasCentre m v → IfSome area (λ d. Holds d v)
    → (nought ≼ m ⊗ inverse v) × (m ⊗ inverse v ≼ far)
centre_aboard None x m v e least at h = absurd (true≢false (e.1 refl))
centre_aboard (Some d) x m v e least at h =
    let positive = positive_held d v least h in (
      Order.nought-≼ fractions (Order.nonnegative-mul fractions (Order.nonnegative_from fractions at.0) (Order.nonnegative_positive fractions (Bounds.positive-inverse fractions positive))),
      Bounds.quotient-≼ fractions positive at.1,
    )

narrow_shorter : {w : Fraction} (lo hi from to : ℤ) → (to -ℤ from) ≤ℤ (hi -ℤ lo) → IsNarrow 20 w lo hi → IsNarrow 20 w from to
narrow_shorter lo hi from to h n = record {
  width = Order.≼_trans fractions (Order.≼_same fractions (sym (whole-sub to from))) (Order.≼_trans fractions (whole-≼ h) (Order.≼_trans fractions (Order.≼_same fractions (whole-sub hi lo)) n.width));
}

pub narrower : (sx : Span 20) (area : Option (Span 20)) (x cut : Span 20) → (cut.hi -ℤ cut.lo) ≤ℤ (x.hi -ℤ x.lo) → IfSome area (λ d. IsQuotientNarrow sx d x) → IfSome area (λ d. IsQuotientNarrow sx d cut)
narrower sx None x cut h n = tt
narrower sx (Some d) x cut h n = λ w v p q wide wide' in_p in_q. narrow_shorter x.lo x.hi cut.lo cut.hi h (n w v p q wide wide' in_p in_q)
