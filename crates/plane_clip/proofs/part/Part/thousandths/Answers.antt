use Rattle.std.proofs.Common.{suc, pos, ◌≡◌, sym, ap₂, subst}
use Rattle.exact_algebra.proofs.Fraction.{Fraction, ◌⊗◌}
use Rattle.exact_algebra.proofs.Span.{ContainsFraction}
use Rattle.hull_model.specs.FaceParts.{area_y, area_z}
use Rattle.plane_clip.specs.declared.corner.PartCorner.{PartCorner}
use Rattle.plane_clip.specs.Between.{IsPlaced}
use Rattle.plane_clip.specs.Parts.{HoldsCorner}
use Rattle.plane_clip.specs.Ways.{quotient_of}
use Rattle.plane_clip.specs.Extents.{IsCornerExtent}
use Rattle.plane_clip.proofs.PartExtents.{corner-wider}
use Rattle.plane_clip.proofs.part.Part.thousandths.Goals as goal

pub returns-clause-holds : goal.returns-clause-holds
returns-clause-holds c t h =
    let corners = c.portion.ensures.corners in
    let share : quotient_of c.thousandths.result.n c.thousandths.result.d ≡ quotient_of (pos c.args.n) (pos 1000) = ap₂ quotient_of c.thousandths.ensures.n c.thousandths.ensures.d in
    record {
      a = subst (λ (k : PartCorner). HoldsCorner k t.a) (sym corners.0) h.a;
      b = subst (λ (k : PartCorner). HoldsCorner k t.b) (sym corners.1) h.b;
      c = subst (λ (k : PartCorner). HoldsCorner k t.c) (sym corners.2) h.c;
      ay = subst (λ (x : Fraction). ContainsFraction 20 c.portion.result.ay.lo c.portion.result.ay.hi (area_y t ⊗ x)) share (c.portion.ensures.ay (area_y t) h.ay);
      az = subst (λ (x : Fraction). ContainsFraction 20 c.portion.result.az.lo c.portion.result.az.hi (area_z t ⊗ x)) share (c.portion.ensures.az (area_z t) h.az);
    }

pub returns-clause-placed : goal.returns-clause-placed
returns-clause-placed c first last h =
    let corners = c.portion.ensures.corners in
    record {
      a = subst (λ (k : PartCorner). IsPlaced first last k.x) (sym corners.0) h.a;
      b = subst (λ (k : PartCorner). IsPlaced first last k.x) (sym corners.1) h.b;
      c = subst (λ (k : PartCorner). IsPlaced first last k.x) (sym corners.2) h.c;
    }

pub returns-clause-extent : goal.returns-clause-extent
returns-clause-extent c y z k h =
    let corners = c.portion.ensures.corners in
    record {
      a = subst (IsCornerExtent y z (suc k)) (sym corners.0) (corner-wider y z k h.a);
      b = subst (IsCornerExtent y z (suc k)) (sym corners.1) (corner-wider y z k h.b);
      c = subst (IsCornerExtent y z (suc k)) (sym corners.2) (corner-wider y z k h.c);
      ay = c.portion.ensures.ay_thin k h.ay;
      az = c.portion.ensures.az_thin k h.az;
    }
