use Rattle.std.proofs.Common.{length}
use Rattle.std.specs.List.{AllByRecursion}
use Rattle.hull_model.specs.Faces.{IsFace}
use Rattle.compartment_loss.specs.Flooding.{Room, LieIn}
use Rattle.compartment_loss.proofs.Growth.{FacesLead}
use Rattle.compartment_loss.proofs.parts.push_slab.Given as goal

abbrev pub invariant-loop-rest : goal.invariant-loop-rest
invariant-loop-rest l = AllByRecursion IsFace l.rest × ((r : Room) → LieIn r l.faces → FacesLead r l.slab l.fn.parts.items l.parts.items l.faces l.rest)

abbrev pub decreases-loop-rest : goal.decreases-loop-rest
decreases-loop-rest l = length l.rest
