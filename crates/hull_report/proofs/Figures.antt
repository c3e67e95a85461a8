-- Figures that are read from their text.
use Rattle.std.proofs.Common.{◌≡◌, ℤ, ◌≤ℤ◌, Bool, true, false, T, Some, sym, ap, ◌∙◌}
use Rattle.std.specs.Int.Signed.{le_z, le_z_yes}
use Rattle.std.proofs.Props.{props}
use Rattle.outward_interval.specs.declared.figure.Figure.{Figure}
use Rattle.hull_report.specs.Reading.{ordered_if, ordered}

one_proof : (low high : ℤ) (p q : low ≤ℤ high) → p ≡ q
one_proof low high =
    let proofs : IsProp (low ≤ℤ high) = Prim.hlevel props in
    proofs

ordered_if_is : (low high : ℤ) (b : Bool) (fact : T b → low ≤ℤ high) (h : T b) (o : low ≤ℤ high) → ordered_if low high b fact ≡ Some (record { lo = low; hi = high; ordered = o })
ordered_if_is low high true fact h o = ap (λ (p : low ≤ℤ high). Some (record { lo = low; hi = high; ordered = p })) (one_proof low high (fact tt) o)
ordered_if_is low high false fact h o = absurd h

-- a figure is the one from its low to its high end
pub ordered_is : (f : Figure) → ordered f.lo f.hi ≡ Some f
ordered_is f = ordered_if_is f.lo f.hi (le_z f.lo f.hi) le_z_yes f.ordered.le f.ordered

pub is_ordered : (f : Figure) (low high : ℤ) → f.lo ≡ low → f.hi ≡ high → Some f ≡ ordered low high
is_ordered f low high e e' = sym (ordered_is f) ∙ ap (λ z. ordered z f.hi) e ∙ ap (λ z. ordered low z) e'
