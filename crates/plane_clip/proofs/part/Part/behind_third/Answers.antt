use mathlib.Core.Path.{◌≡◌, sym, ◌∙◌, ap, ap₂, subst}
use Rattle.std.proofs.Common.{suc}
use Rattle.std.proofs.lemmas.Int.{to_z-of_z}
use Rattle.std.specs.Int.{w128}
use mir.Val.{SFits}
use Rattle.exact_algebra.proofs.Fraction.{Fraction, one, ◌⊗◌, ◌⊖◌}
use Rattle.exact_algebra.proofs.Span.{ContainsFraction}
use Rattle.exact_algebra.proofs.Whole.{whole}
use Rattle.hull_model.specs.FaceParts.{area_y, area_z}
use Rattle.plane_clip.specs.declared.corner.PartCorner.{PartCorner}
use Rattle.plane_clip.specs.Clipped.{meets}
use Rattle.plane_clip.specs.Parts.{HoldsCorner}
use Rattle.plane_clip.specs.Ways.{part_to, quotient_of}
use Rattle.plane_clip.proofs.CornerCrossings.{place_fits}
use Rattle.plane_clip.specs.Extents.{IsCornerExtent}
use Rattle.plane_clip.proofs.PartExtents.{corner-wider}
use Rattle.plane_clip.proofs.PartAreas.{second_areas}
use Rattle.plane_clip.proofs.part.Part.behind_third.Goals as goal

pub returns-clause-holds : goal.returns-clause-holds
returns-clause-holds c t h =
    let self = c.args.self.now in
    let at : SFits w128 c.args.at = c.ranges.at in
    let at_a : SFits w128 self.a.x = place_fits self.a.x self.a.place in
    let at_b : SFits w128 self.b.x = place_fits self.b.x self.b.place in
    let at_c : SFits w128 self.c.x = place_fits self.c.x self.c.place in
    let to_second : quotient_of c.of-to_second.result.n c.of-to_second.result.d ≡ part_to (whole self.a.x) (whole self.b.x) (whole c.args.at) = simp to_z-of_z at c.of-to_second.ensures in
    let second : quotient_of c.of-to_second.result.n c.of-to_second.result.d ≡ part_to t.a.x t.b.x (whole c.args.at) = to_second ∙ (λ i. part_to (sym h.a.x i) (sym h.b.x i) (whole c.args.at)) in
    let to_third : quotient_of c.of-to_third.result.n c.of-to_third.result.d ≡ part_to (whole self.a.x) (whole self.c.x) (whole c.args.at) = simp to_z-of_z at c.of-to_third.ensures in
    let third : quotient_of c.of-to_third.result.n c.of-to_third.result.d ≡ part_to t.a.x t.c.x (whole c.args.at) = to_third ∙ (λ i. part_to (sym h.a.x i) (sym h.c.x i) (whole c.args.at)) in
    let at_second = simp to_z-of_z at c.crossing.ensures.holds in
    let at_third = simp to_z-of_z at c.crossing-2.ensures.holds in
    let share : quotient_of c.times.result.n c.times.result.d ≡ (part_to t.a.x t.b.x (whole c.args.at)) ⊗ (one ⊖ (part_to t.a.x t.c.x (whole c.args.at))) = c.times.ensures ∙ ap₂ ◌⊗◌ second (c.rest.ensures ∙ ap (λ q. one ⊖ q) third) in
    let corners = c.portion.ensures.corners in
    record {
      a = subst (λ (k : PartCorner). HoldsCorner k (meets c.args.at t.a t.b)) (sym corners.0) (at_second t.a t.b h.a h.b);
      b = subst (λ (k : PartCorner). HoldsCorner k t.c) (sym corners.1) (h.c);
      c = subst (λ (k : PartCorner). HoldsCorner k (meets c.args.at t.a t.c)) (sym corners.2) (at_third t.a t.c h.a h.c);
      ay = subst (λ (x : Fraction). ContainsFraction 20 c.portion.result.ay.lo c.portion.result.ay.hi x) (ap (λ q. area_y t ⊗ q) share ∙ sym (second_areas (part_to t.a.x t.b.x (whole c.args.at)) (part_to t.a.x t.c.x (whole c.args.at)) t.a t.b t.c).y) (c.portion.ensures.ay (area_y t) h.ay);
      az = subst (λ (x : Fraction). ContainsFraction 20 c.portion.result.az.lo c.portion.result.az.hi x) (ap (λ q. area_z t ⊗ q) share ∙ sym (second_areas (part_to t.a.x t.b.x (whole c.args.at)) (part_to t.a.x t.c.x (whole c.args.at)) t.a t.b t.c).z) (c.portion.ensures.az (area_z t) h.az);
    }

pub returns-clause-extent : goal.returns-clause-extent
returns-clause-extent c y z k h =
    let corners = c.portion.ensures.corners in
    record {
      a = subst (IsCornerExtent y z (suc k)) (sym corners.0) (c.crossing.ensures.extent y z k h.a h.b);
      b = subst (IsCornerExtent y z (suc k)) (sym corners.1) (corner-wider y z k h.c);
      c = subst (IsCornerExtent y z (suc k)) (sym corners.2) (c.crossing-2.ensures.extent y z k h.a h.c);
      ay = c.portion.ensures.ay_thin k h.ay;
      az = c.portion.ensures.az_thin k h.az;
    }
