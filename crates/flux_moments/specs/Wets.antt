-- Sums and differences of the integrals of wet bodies, field by field.
use Rattle.std.specs.Prelude.{ℕ, ◌*◌, ◌^◌, ◌+ℤ◌, ◌-ℤ◌}
use Rattle.outward_interval.specs.Ends.{EndsBelow, AreEnds}
use Rattle.outward_interval.specs.declared.span.Span.{Span}
use Rattle.flux_moments.specs.declared.wet.Wet.{Wet}
use Rattle.flux_moments.specs.Limits.{EndsAtMost}

-- a relation that holds of each field
pub record Fields (R : Span 20 → Span 20 → Type 0) (a b : Wet) : Type 0 where
  pub volume : R a.volume b.volume
  pub mx : R a.mx b.mx
  pub mv : R a.mv b.mv
  pub mu : R a.mu b.mu

pub record EachField (R : Span 20 → Span 20 → Span 20 → Type 0) (a b c : Wet) : Type 0 where
  pub volume : R a.volume b.volume c.volume
  pub mx : R a.mx b.mx c.mx
  pub mv : R a.mv b.mv c.mv
  pub mu : R a.mu b.mu c.mu

abbrev pub CanAdd : Wet → Wet → Type 0
CanAdd = Fields (λ a b. EndsBelow 126 (a.lo +ℤ b.lo) (a.hi +ℤ b.hi))

abbrev pub CanSub : Wet → Wet → Type 0
CanSub = Fields (λ a b. EndsBelow 126 (a.lo -ℤ b.hi) (a.hi -ℤ b.lo))

abbrev pub IsSum : Wet → Wet → Wet → Type 0
IsSum = EachField (λ a b r. AreEnds (a.lo +ℤ b.lo) (a.hi +ℤ b.hi) r.lo r.hi)

abbrev pub IsDifference : Wet → Wet → Wet → Type 0
IsDifference = EachField (λ a b r. AreEnds (a.lo -ℤ b.hi) (a.hi -ℤ b.lo) r.lo r.hi)

abbrev pub AllFields : (Span 20 → Type 0) → Wet → Type 0
AllFields P w = P w.volume × P w.mx × P w.mv × P w.mu

-- the ends of each integral are at most so many units in magnitude
pub record AreEndsAtMost (body along side height : ℕ) (w : Wet) : Type 0 where
  pub volume : EndsAtMost body w.volume.lo w.volume.hi
  pub mx : EndsAtMost along w.mx.lo w.mx.hi
  pub mv : EndsAtMost side w.mv.lo w.mv.hi
  pub mu : EndsAtMost height w.mu.lo w.mu.hi

-- and over the columns of so many faces: of twice the volume, of x and of the side, and of four times the height
abbrev pub AreColumnEnds : ℕ → Wet → Type 0
AreColumnEnds faces = AreEndsAtMost (faces * (7 * 2 ^ 75)) (faces * (5 * 2 ^ 97)) (faces * (5 * 2 ^ 95)) (faces * (41 * 2 ^ 95))
