use mathlib.Core.Path.{subst}
use Rattle.exact_algebra.proofs.Fraction.{Fraction}
use Rattle.exact_algebra.proofs.Span.{ContainsFraction}
use Rattle.plane_clip.proofs.PartAreas.{rolled_y, rolled_z}
use Rattle.plane_clip.proofs.part.Part.second.Goals as goal

pub returns-clause-holds : goal.returns-clause-holds
returns-clause-holds c t h = record {
  a = h.b;
  b = h.c;
  c = h.a;
  ay = subst (λ (x : Fraction). ContainsFraction 20 c.args.self.now.ay.lo c.args.self.now.ay.hi x) (rolled_y t.a t.b t.c) h.ay;
  az = subst (λ (x : Fraction). ContainsFraction 20 c.args.self.now.az.lo c.args.self.now.az.hi x) (rolled_z t.a t.b t.c) h.az;
}
