use mathlib.Core.Path.{◌≡◌, sym, ◌∙◌, ap, ap₂, subst}
use Rattle.std.proofs.Common.{suc}
use Rattle.std.proofs.lemmas.Int.{to_z-of_z}
use Rattle.std.specs.Int.{w128}
use mir.Val.{SFits}
use Rattle.exact_algebra.proofs.Fraction.{Fraction, one, ◌⊗◌, ◌⊖◌}
use Rattle.exact_algebra.proofs.Span.{ContainsFraction}
use Rattle.exact_algebra.proofs.Whole.{whole}
use Rattle.hull_model.specs.FaceParts.{area_y, area_z}
use Rattle.plane_clip.specs.declared.corner.PartCorner.{PartCorner}
use Rattle.plane_clip.specs.Clipped.{meets}
use Rattle.plane_clip.specs.Parts.{HoldsCorner}
use Rattle.plane_clip.specs.Ways.{part_to, quotient_of}
use Rattle.plane_clip.proofs.CornerCrossings.{place_fits}
use Rattle.plane_clip.specs.Extents.{IsCornerExtent}
use Rattle.plane_clip.proofs.PartExtents.{corner-wider}
use Rattle.plane_clip.proofs.PartAreas.{first_areas}
use Rattle.plane_clip.proofs.part.Part.behind_second.Goals as goal

pub returns-clause-holds : goal.returns-clause-holds
returns-clause-holds c t h =
    let self = c.args.self.now in
    let at : SFits w128 c.args.at = c.ranges.at in
    let at_a : SFits w128 self.a.x = place_fits self.a.x self.a.place in
    let at_b : SFits w128 self.b.x = place_fits self.b.x self.b.place in
    let to_second : quotient_of c.of-to_second.result.n c.of-to_second.result.d ≡ part_to (whole self.a.x) (whole self.b.x) (whole c.args.at) = simp to_z-of_z at c.of-to_second.ensures in
    let second : quotient_of c.of-to_second.result.n c.of-to_second.result.d ≡ part_to t.a.x t.b.x (whole c.args.at) = to_second ∙ (λ i. part_to (sym h.a.x i) (sym h.b.x i) (whole c.args.at)) in
    let at_second = simp to_z-of_z at c.crossing.ensures.holds in
    let share : quotient_of c.share.result.n c.share.result.d ≡ one ⊖ (part_to t.a.x t.b.x (whole c.args.at)) = ap₂ quotient_of c.share.ensures.n c.share.ensures.d ∙ c.rest.ensures ∙ ap (λ q. one ⊖ q) second in
    let corners = c.portion.ensures.corners in
    record {
      a = subst (λ (k : PartCorner). HoldsCorner k (meets c.args.at t.a t.b)) (sym corners.0) (at_second t.a t.b h.a h.b);
      b = subst (λ (k : PartCorner). HoldsCorner k t.b) (sym corners.1) (h.b);
      c = subst (λ (k : PartCorner). HoldsCorner k t.c) (sym corners.2) (h.c);
      ay = subst (λ (x : Fraction). ContainsFraction 20 c.portion.result.ay.lo c.portion.result.ay.hi x) (ap (λ q. area_y t ⊗ q) share ∙ sym (first_areas (part_to t.a.x t.b.x (whole c.args.at)) one t.a t.b t.c).y) (c.portion.ensures.ay (area_y t) h.ay);
      az = subst (λ (x : Fraction). ContainsFraction 20 c.portion.result.az.lo c.portion.result.az.hi x) (ap (λ q. area_z t ⊗ q) share ∙ sym (first_areas (part_to t.a.x t.b.x (whole c.args.at)) one t.a t.b t.c).z) (c.portion.ensures.az (area_z t) h.az);
    }

pub returns-clause-extent : goal.returns-clause-extent
returns-clause-extent c y z k h =
    let corners = c.portion.ensures.corners in
    record {
      a = subst (IsCornerExtent y z (suc k)) (sym corners.0) (c.crossing.ensures.extent y z k h.a h.b);
      b = subst (IsCornerExtent y z (suc k)) (sym corners.1) (corner-wider y z k h.b);
      c = subst (IsCornerExtent y z (suc k)) (sym corners.2) (corner-wider y z k h.c);
      ay = c.portion.ensures.ay_thin k h.ay;
      az = c.portion.ensures.az_thin k h.az;
    }
