use Rattle.std.proofs.Common.{◌≡◌, false, length}
use Rattle.offset_reader.specs.Heights.{height_fault}
use Rattle.offset_reader.proofs.HeightFacts.{climb_fault}
use Rattle.offset_reader.proofs.heights.check_heights.Given as goal

abbrev pub invariant-loop-rest : goal.invariant-loop-rest
invariant-loop-rest l = climb_fault false l.rest ≡ height_fault l.station

abbrev pub decreases-loop-rest : goal.decreases-loop-rest
decreases-loop-rest l = length l.rest
