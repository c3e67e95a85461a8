-- The least span of what is measured at a station, by the quotient that the code has found.
use Rattle.std.proofs.Common.{◌≡◌, refl, sym, ◌∙◌, ap, subst, ℕ, zero, suc, ◌<◌, List, [], ◌∷◌, length, get_or, ℤ, pos, arith}
use Rattle.exact_algebra.specs.Span.{IsLeastSpan}
use Rattle.exact_algebra.proofs.Fraction.{Fraction}
use Rattle.exact_algebra.proofs.Span.{IsLeastSpanOf}
use Rattle.hull_model.specs.declared.point.Point.{Point}
use Rattle.hull_model.specs.declared.station.Station.{Station}
use Rattle.bonjean_curves.specs.Quotient.{IsQuotient}
use Rattle.hull_model.specs.Stations.{points_at}
use Rattle.bonjean_curves.proofs.Strips.{least_span_quotient}

pub points_at-get_or : (stations : List Station) (n : ℕ) (other : Station) → n < length stations → points_at stations n ≡ (get_or stations n other).points
points_at-get_or [] n other h = absurd (omega arith)
points_at-get_or (s ∷ stations) zero other h = refl
points_at-get_or (s ∷ stations) (suc n) other h = points_at-get_or stations n other (omega arith)

pub least_span_at : (measure : List Point → ℕ → Fraction) (hull stations : List Station) (n : ℕ) (other : Station) (points : List Point) (draft height numerator denominator : ℕ) {lo hi : ℤ}
    → n < length hull → stations ≡ hull → points ≡ (get_or stations n other).points → height ≡ draft → 0 < denominator
    → IsLeastSpan 20 lo hi (pos numerator) denominator → IsQuotient (measure points height) numerator denominator → IsLeastSpanOf 20 lo hi (measure (points_at hull n) draft)
least_span_at measure hull stations n other points draft height numerator denominator {lo} {hi} within same at level some least quotient =
    subst (λ x. IsLeastSpanOf 20 lo hi x) (ap (measure points) level ∙ ap (λ p. measure p draft) here) (least_span_quotient some least quotient)
  where
    here : points ≡ points_at hull n
    here = at ∙ ap (λ (xs : List Station). (get_or xs n other).points) same ∙ sym (points_at-get_or hull n other within)
