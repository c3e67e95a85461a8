-- Upright planes with one level at the first station and one at the last, and boxes of such.
use Rattle.std.specs.Prelude.{◌≡◌, ◌^◌, ℤ, pos}
use Rattle.exact_algebra.proofs.Span.{ContainsFraction}
use Rattle.hull_model.specs.Waterplane.{Waterplane}
use Rattle.flux_moments.specs.declared.plane_box.PlaneBox.{PlaneBox}

-- upright, with the levels a and f, in grid units of 2^-10 mm
pub record IsUprightPlane (a f : ℤ) (plane : Waterplane) : Type 0 where
  pub direction : plane.s ≡ 0
  pub aft : ContainsFraction 10 a a plane.a
  pub fore : ContainsFraction 10 f f plane.f

-- a box that holds no others
pub record IsUprightBox (a f : ℤ) (planes : PlaneBox) : Type 0 where
  pub aft : (planes.a1 ≡ a) × (planes.a2 ≡ a)
  pub fore : (planes.f1 ≡ f) × (planes.f2 ≡ f)
  pub cosine : (planes.bracket.c.lo ≡ pos (2 ^ 40)) × (planes.bracket.c.hi ≡ pos (2 ^ 40))
  pub sine : (planes.bracket.s.lo ≡ pos 0) × (planes.bracket.s.hi ≡ pos 0)

-- a box of upright planes with the same levels
pub record IsUpright (planes : PlaneBox) : Type 0 where
  pub aft : planes.a2 ≡ planes.a1
  pub fore : planes.f2 ≡ planes.f1
  pub cosine : (planes.bracket.c.lo ≡ pos (2 ^ 40)) × (planes.bracket.c.hi ≡ pos (2 ^ 40))
  pub sine : (planes.bracket.s.lo ≡ pos 0) × (planes.bracket.s.hi ≡ pos 0)
