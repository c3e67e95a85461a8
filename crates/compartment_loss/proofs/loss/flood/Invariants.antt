use Rattle.std.proofs.Common.{length}
use Rattle.compartment_loss.specs.Flooding.{room_of}
use Rattle.compartment_loss.proofs.Growth.{SlabsLead}
use Rattle.compartment_loss.proofs.loss.flood.Given as goal

abbrev pub invariant-loop-rest : goal.invariant-loop-rest
invariant-loop-rest l = SlabsLead (room_of l.faces) l.faces.list l.parts.items l.slabs l.rest

abbrev pub decreases-loop-rest : goal.decreases-loop-rest
decreases-loop-rest l = length l.rest
