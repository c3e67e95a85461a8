use Rattle.std.proofs.Common.{◌*◌, sym, subst, List, [], length}
use Rattle.hull_model.specs.declared.slab.Slab.{Slab}
use Rattle.plane_clip.specs.Between.{IsPartWithin}
use Rattle.plane_clip.specs.Extents.{IsPartExtent}
use Rattle.flux_moments.specs.Shared.{HoldShares}
use Rattle.compartment_loss.specs.Flooding.{IsPartIn, room_of, Grows, faces_in, flooded_parts}
use Rattle.compartment_loss.proofs.Growth.{slabs-next, slabs-end, few-lost, lie_in, all-of}
use Rattle.compartment_loss.proofs.loss.flood.Goals as goal

pub loop-rest-preserved : goal.loop-rest-preserved
loop-rest-preserved c =
    let room = room_of c.args.faces.now in
    let now = c.loop-rest.parts.items in
    let more = c.push_slab.new.parts.items in
    let list = c.list-boundary.result.now in
    slabs-next room c.args.faces.now.list c.args.slabs.now c.list-boundary.ensures.few now more c.loop-rest.rest.now c.slab-item.result list c.list-boundary.ensures.same (lie_in c.args.faces.now) c.in-len1-up.len_at_least
    (λ within. subst (λ (s : Slab). Grows room now more (faces_in list s) (4 * length list)) c.slab-item.is (c.in_ok-push_slab.ensures room within)) c.loop-rest.invariant

pub invariant_of-result : goal.invariant_of-result
invariant_of-result c =
    let faces = c.args.faces.now in
    let room = room_of faces in
    let list = c.args.faces.now.list in
    let now = c.loop-rest.parts.items in
    let grown : Grows room [] now (flooded_parts list c.args.slabs.now) (65532 * length c.args.slabs.now) = slabs-end room list c.args.slabs.now now c.loop-rest.rest.now c.in_default.len_below c.loop-rest.invariant in
    record {
      held = ∣ subst (λ (slabs : List Slab). HoldShares now (flooded_parts list slabs)) (sym c.in_ok-slabs.ensures.items) (grown.held [] tt) ∣₁;
      placed = all-of (IsPartIn room 3) (IsPartWithin room.first room.last) (λ p is. is.0) now (grown.placed tt);
      extents = all-of (IsPartIn room 3) (IsPartExtent room.half_breadth room.height 3) (λ p is. is.1) now (grown.placed tt);
      limits = ∣ c.list-boundary.ensures.limits ∣₁;
      few = few-lost (length now) (length c.args.slabs.now) grown.few c.requires.few;
    }
