use Rattle.std.proofs.lemmas.Int.{to_z-of_z}
use Rattle.std.specs.Int.{w128}
use mir.Val.{SFits}
use Rattle.plane_clip.proofs.CornerCrossings.{place_fits}
use Rattle.plane_clip.proofs.WholeFaces.{exact_thin}
use Rattle.plane_clip.proofs.SpanPlaces.{place_holds, same_places}
use Rattle.plane_clip.proofs.span_face.spans_of.Goals as goal

pub returns-clause-holds : goal.returns-clause-holds
returns-clause-holds c t h =
    let part = c.args.part.now in
    let a : SFits w128 part.a.x = place_fits part.a.x part.a.place in
    let b : SFits w128 part.b.x = place_fits part.b.x part.b.place in
    let k : SFits w128 part.c.x = place_fits part.c.x part.c.place in
    let first = simp to_z-of_z at c.place_of.ensures in
    let second = simp to_z-of_z at c.place_of-2.ensures in
    let third = simp to_z-of_z at c.place_of-3.ensures in
    record {
      x = (place_holds part.a.x h.a.x first, place_holds part.b.x h.b.x second, place_holds part.c.x h.c.x third);
      exact = (same_places part.a.x first, (same_places part.b.x second, (same_places part.c.x third, tt)));
      y = (h.a.y, h.b.y, h.c.y);
      z = (h.a.z, h.b.z, h.c.z);
      ay = h.ay;
      az = h.az;
    }

pub returns-clause-thin : goal.returns-clause-thin
returns-clause-thin c y z k h = record {
  x = (exact_thin k c.place_of.ensures, (exact_thin k c.place_of-2.ensures, (exact_thin k c.place_of-3.ensures, tt)));
  y = (h.a.y_thin, (h.b.y_thin, (h.c.y_thin, tt)));
  z = (h.a.z_thin, (h.b.z_thin, (h.c.z_thin, tt)));
  ay = h.ay;
  az = h.az;
}
