use Rattle.std.proofs.Common.{length}
use Rattle.plane_clip.specs.Between.{clipped_face}
use Rattle.plane_clip.proofs.SpanLists.{AreMade}
use Rattle.plane_clip.proofs.span_face.between.Given as goal

abbrev pub invariant-loop-rest : goal.invariant-loop-rest
invariant-loop-rest l = AreMade l.spans.items l.rest (clipped_face l.xa l.xb l.face)

abbrev pub decreases-loop-rest : goal.decreases-loop-rest
decreases-loop-rest l = length l.rest
