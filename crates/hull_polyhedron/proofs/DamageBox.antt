-- The signs of the residuals at two corners of a box of levels decide those at its sides, since the residuals rise with both levels.
use mathlib.Core.Path.{◌≡◌, refl, sym, ◌∙◌, ap}
use mathlib.Core.List.{List, [], ◌∷◌}
use mathlib.Core.Bool.{true}
use native.Mathlib.Omega.{arith}
use mathlib.Core.Logic.{◌⊎◌, inl, inr}
use Rattle.std.specs.Prelude.{ℕ, zero, suc, ◌+◌, ◌*◌}
use Rattle.exact_algebra.specs.Expression.{var, unit, ◌:-◌}
use Rattle.exact_algebra.proofs.Fraction.{Fraction, ◌⊖◌, ◌≼◌, fractions}
use Rattle.exact_algebra.proofs.Order as Order
use Rattle.exact_algebra.proofs.Order.{order_from, no_more, at_most}
use Rattle.hull_model.specs.declared.slab.Slab.{Slab}
use Rattle.hull_model.specs.declared.station.Station.{Station}
use Rattle.hull_model.specs.Body.{IsHull}
use Rattle.hull_model.specs.Waterplane.{Waterplane}
use Rattle.hull_model.specs.Slabs.{are_apart}
use Rattle.hull_polyhedron.specs.RisingLaw.{IsRaised, moment_from_last, moment_from_first}
use Rattle.hull_polyhedron.specs.DamageBox.{IsUpright, upright_at, residual_last, residual_first, HasSignsAtSides, HasSignsAtCorners, CornersDecide}
use Rattle.hull_polyhedron.proofs.RisingHull.{moments_rise}

-- the direction of an upright plane has the same cosine and radius
gap : (m n : ℕ) → ((d : ℕ) × (n ≡ m + d)) ⊎ ((d : ℕ) × (m ≡ n + d))
gap zero n = inl (n, omega arith)
gap (suc m) zero = inr (suc m, omega arith)
gap (suc m) (suc n) = go (gap m n)
  where
    go : ((d : ℕ) × (n ≡ m + d)) ⊎ ((d : ℕ) × (m ≡ n + d)) → ((d : ℕ) × (suc n ≡ suc m + d)) ⊎ ((d : ℕ) × (suc m ≡ suc n + d))
    go (inl (d, e)) = inl (d, omega (arith, e))
    go (inr (d, e)) = inr (d, omega (arith, e))

no_gap : (m d : ℕ) → m * m ≡ (m + d) * (m + d) → m ≡ m + d
no_gap m zero e = omega arith
no_gap m (suc d) e = absurd (omega (arith, e))

same_root : (m n : ℕ) → m * m ≡ n * n → m ≡ n
same_root m n e = go (gap m n)
  where
    go : ((d : ℕ) × (n ≡ m + d)) ⊎ ((d : ℕ) × (m ≡ n + d)) → m ≡ n
    go (inl (d, f)) = no_gap m d (e ∙ ap (λ (k : ℕ). k * k) f) ∙ sym f
    go (inr (d, f)) = f ∙ sym (no_gap n d (sym e ∙ ap (λ (k : ℕ). k * k) f))

upright_cosine : (plane : Waterplane) → IsUpright plane → plane.c ≡ plane.r
upright_cosine plane e = same_root plane.c plane.r (square plane.c plane.s plane.r e plane.round)
  where
    square : (c s r : ℕ) → s ≡ 0 → c * c + s * s ≡ r * r → c * c ≡ r * r
    square c s r e h = omega (arith, sym (ap (λ (k : ℕ). c * c + k * k) e) ∙ h)

-- of upright planes, one with both levels at least as high is raised
pub upright_raised : (low high : Waterplane) → IsUpright low → IsUpright high → low.a ≼ high.a → low.f ≼ high.f → IsRaised low high
upright_raised low high l h a f = record {
  c = turned low.c low.r high.c high.r (upright_cosine low l) (upright_cosine high h);
  s = ap (λ (k : ℕ). k * high.r) l ∙ nothing high.r low.r ∙ sym (ap (λ (k : ℕ). k * low.r) h);
  first = a;
  last = f;
}
  where
    nothing : (m n : ℕ) → 0 * m ≡ 0 * n
    nothing m n = omega arith

    turned : (c r k m : ℕ) → c ≡ r → k ≡ m → c * m ≡ k * r
    turned c r k m e h = ap (λ (n : ℕ). n * m) e ∙ sym (ap (λ (n : ℕ). n * r) h ∙ omega arith)

module _ (stations : List Station) (hull : IsHull stations) (slabs : List Slab) (separate : are_apart slabs ≡ true) (owed_last owed_first : Fraction) where
  less_owed : (x y owed : Fraction) → x ≼ y → x ⊖ owed ≼ y ⊖ owed
  less_owed x y owed h = order_from fractions (x ∷ y ∷ owed ∷ []) ((unit, var 0, var 1) ∷ []) (at_most h no_more) (var 0 :- var 2) (var 1 :- var 2) refl

  last_rises : (low high : Waterplane) → IsUpright low → IsUpright high → low.a ≼ high.a → low.f ≼ high.f → residual_last stations slabs owed_last owed_first low ≼ residual_last stations slabs owed_last owed_first high
  last_rises low high l h a f = less_owed (moment_from_last low stations slabs) (moment_from_last high stations slabs) owed_last (moments_rise low high (upright_raised low high l h a f) stations hull slabs separate).from_last

  first_rises : (low high : Waterplane) → IsUpright low → IsUpright high → low.a ≼ high.a → low.f ≼ high.f → residual_first stations slabs owed_last owed_first low ≼ residual_first stations slabs owed_last owed_first high
  first_rises low high l h a f = less_owed (moment_from_first low stations slabs) (moment_from_first high stations slabs) owed_first (moments_rise low high (upright_raised low high l h a f) stations hull slabs separate).from_first

  module _ (a1 a2 f1 f2 : Fraction) (corners : HasSignsAtCorners stations slabs owed_last owed_first a1 a2 f1 f2) where
    same : {x y : Fraction} → x ≡ y → x ≼ y
    same e = Order.≼_same fractions e

    sides : HasSignsAtSides stations slabs owed_last owed_first a1 a2 f1 f2
    sides = record {
      aft_low = λ plane upright e low high. Order.≼_trans fractions (last_rises plane (upright_at a1 f2) upright refl (same e) high) corners.aft_low;
      aft_high = λ plane upright e low high. Order.≼_trans fractions corners.aft_high (last_rises (upright_at a2 f1) plane refl upright (same (sym e)) low);
      fore_low = λ plane upright e low high. Order.≼_trans fractions (first_rises plane (upright_at a2 f1) upright refl high (same e)) corners.fore_low;
      fore_high = λ plane upright e low high. Order.≼_trans fractions corners.fore_high (first_rises (upright_at a1 f2) plane refl upright low (same (sym e)));
    }

pub corners_decide : CornersDecide
corners_decide stations hull slabs separate owed_last owed_first a1 a2 f1 f2 corners = sides stations hull slabs separate owed_last owed_first a1 a2 f1 f2 corners
