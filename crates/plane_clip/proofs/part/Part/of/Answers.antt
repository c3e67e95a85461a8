use Rattle.std.proofs.Common.{◌-◌, ◌^◌, pos, ◌∙◌, sym, ap, subst, arith}
use Rattle.std.proofs.lemmas.Int.{to_z-of_z}
use Rattle.std.specs.Int.{w64}
use mir.Val.{SFits}
use Rattle.exact_algebra.proofs.Fraction.{Fraction}
use Rattle.exact_algebra.proofs.Span.{ContainsFraction}
use Rattle.exact_algebra.proofs.Whole.{whole}
use Rattle.hull_model.specs.declared.face.Face.{Face}
use Rattle.hull_model.specs.Faces.{triangle_of}
use Rattle.hull_model.proofs.Magnitudes.{fits_64}
use Rattle.hull_polyhedron.specs.Between.{IsInside}
use Rattle.plane_clip.proofs.FaceSizes.{areas_below, three_corners}
use Rattle.plane_clip.proofs.PartExtents.{breadth_within, height_within}
use Rattle.hull_polyhedron.proofs.WholeHull.{area_y-node, area_z-node}
use Rattle.plane_clip.proofs.WholeFaces.{exact_holds, exact_ends, exact_thin}
use Rattle.plane_clip.proofs.part.Part.of.Goals as goal

pub exact-requires : goal.exact-requires
exact-requires c =
    let small = areas_below c.args.face.now c.requires in
    let fits : SFits w64 c.args.face.now.ay = fits_64 _ (omega (arith, small.0)) in
    simp to_z-of_z (omega (arith, small.0))

pub exact-requires-2 : goal.exact-requires-2
exact-requires-2 c =
    let small = areas_below c.args.face.now c.requires in
    let fits : SFits w64 c.args.face.now.az = fits_64 _ (omega (arith, small.1)) in
    simp to_z-of_z (omega (arith, small.1))

pub invariant_of-result : goal.invariant_of-result
invariant_of-result c =
    let face = c.args.face.now in
    let small = areas_below face c.requires in
    let y : SFits w64 face.ay = fits_64 _ (omega (arith, small.0)) in
    let z : SFits w64 face.az = fits_64 _ (omega (arith, small.1)) in
    record {
      ay_ends = exact_ends face.ay (2 ^ 36 - 1) (omega (arith, small.0)) (simp to_z-of_z at c.exact.ensures.units);
      az_ends = exact_ends face.az (2 ^ 37 - 1) (omega (arith, small.1)) (simp to_z-of_z at c.exact-2.ensures.units);
    }

pub returns-clause-holds : goal.returns-clause-holds
returns-clause-holds c =
    let face = c.args.face.now in
    let small = areas_below face c.requires in
    let y : SFits w64 face.ay = fits_64 _ (omega (arith, small.0)) in
    let z : SFits w64 face.az = fits_64 _ (omega (arith, small.1)) in
    record {
      a = c.of.ensures.holds;
      b = c.of-2.ensures.holds;
      c = c.of-3.ensures.holds;
      ay = subst (λ (x : Fraction). ContainsFraction 20 c.exact.result.lo c.exact.result.hi x) (ap (λ (g : Face). whole g.ay) c.requires.area ∙ sym (area_y-node (triangle_of face))) (exact_holds face.ay (simp to_z-of_z at c.exact.ensures.units));
      az = subst (λ (x : Fraction). ContainsFraction 20 c.exact-2.result.lo c.exact-2.result.hi x) (ap (λ (g : Face). whole g.az) c.requires.area ∙ sym (area_z-node (triangle_of face))) (exact_holds face.az (simp to_z-of_z at c.exact-2.ensures.units));
    }

pub returns-clause-extent : goal.returns-clause-extent
returns-clause-extent c y z inside =
    let each = three_corners (IsInside (pos y) (pos z)) c.args.face.now c.requires inside in
    record {
      a = c.of.ensures.extent y z (breadth_within y z _ each.0) (height_within y z _ each.0);
      b = c.of-2.ensures.extent y z (breadth_within y z _ each.1) (height_within y z _ each.1);
      c = c.of-3.ensures.extent y z (breadth_within y z _ each.2) (height_within y z _ each.2);
      ay = exact_thin 0 c.exact.ensures.units;
      az = exact_thin 0 c.exact-2.ensures.units;
    }
