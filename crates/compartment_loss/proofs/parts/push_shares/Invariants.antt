use Rattle.std.proofs.Common.{List, length}
use Rattle.std.specs.List.{AllByRecursion}
use Rattle.hull_model.specs.Flooded.{flooded_share}
use Rattle.hull_model.specs.TriangleCut.{Triangle}
use Rattle.hull_model.specs.Waterplane.{Position}
use Rattle.plane_clip.specs.Between.{HoldParts}
use Rattle.compartment_loss.specs.Flooding.{Room, IsPartIn}
use Rattle.compartment_loss.proofs.Growth.{SharesLead}
use Rattle.compartment_loss.proofs.parts.push_shares.Given as goal

abbrev pub invariant-loop-rest : goal.invariant-loop-rest
invariant-loop-rest l = (r : Room) (us : List (Triangle Position)) → HoldParts l.more us → AllByRecursion (IsPartIn r 2) l.more → SharesLead r (flooded_share l.slab) l.fn.parts.items l.parts.items l.more l.rest us

abbrev pub decreases-loop-rest : goal.decreases-loop-rest
decreases-loop-rest l = length l.rest
