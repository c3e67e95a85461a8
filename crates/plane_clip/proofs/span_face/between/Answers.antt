use Rattle.std.proofs.Common.{sym, subst, to_z, of_z, List, [], ◌-◌, length, take, drop}
use Rattle.std.proofs.lemmas.Int.{to_z-of_z}
use Rattle.std.specs.Int.{w64}
use mir.Val.{SFits}
use Rattle.plane_clip.specs.declared.part.Part.{Part}
use Rattle.plane_clip.specs.declared.span_face.SpanFace.{SpanFace}
use Rattle.plane_clip.specs.Between.{clipped_face}
use Rattle.plane_clip.proofs.SpanLists.{AreMade, made-start, made-next, made-end, inside_limits}
use Rattle.plane_clip.proofs.span_face.between.Goals as goal

pub loop-rest-preserved : goal.loop-rest-preserved
loop-rest-preserved c =
    let rest = c.loop-rest.rest.now in
    let ts = clipped_face (to_z w64 (of_z w64 c.args.xa)) (to_z w64 (of_z w64 c.args.xb)) c.args.face.now in
    subst (λ (fs : List SpanFace). AreMade fs (take (length rest - 1) (drop 1 rest)) ts) (sym c.push.ensures.items)
    (made-next c.loop-rest.spans.items rest ts c.part-item.result c.spans_of.result c.in-len1-up.len_at_least c.part-item.is c.spans_of.ensures.holds c.spans_of.ensures.thin c.loop-rest.invariant)

pub returns-clause-holds : goal.returns-clause-holds
returns-clause-holds c =
    let xa : SFits w64 c.args.xa = c.ranges.xa in
    let xb : SFits w64 c.args.xb = c.ranges.xb in
    let made = simp to_z-of_z at c.loop-rest.invariant in
    made-end c.loop-rest.spans.items c.loop-rest.rest.now (clipped_face c.args.xa c.args.xb c.args.face.now) c.in_default.len_below made

pub returns-clause-thin : goal.returns-clause-thin
returns-clause-thin c = c.loop-rest.invariant.thin

pub loop-rest-init : goal.loop-rest-init
loop-rest-init c =
    let parts = c.parts_of-parts in
    let ts = clipped_face (to_z w64 (of_z w64 c.args.xa)) (to_z w64 (of_z w64 c.args.xb)) c.args.face.now in
    subst (λ (fs : List SpanFace). AreMade fs c.as_slice-rest.result.now ts) (sym c.new-spans.ensures)
    (subst (λ (ps : List Part). AreMade [] ps ts) (sym c.as_slice-rest.ensures.value)
    (made-start parts.result.items ts parts.ensures.holds (parts.ensures.extent 65535 65535 (inside_limits c.args.face.now.p c.requires.face.corners)) parts.ensures.few))
