use Rattle.std.proofs.Common.{◌≡◌, length}
use Rattle.offset_reader.specs.Points.{above_bottom}
use Rattle.offset_reader.proofs.heights.above_bottom.Given as goal

abbrev pub invariant-loop-rest : goal.invariant-loop-rest
invariant-loop-rest l = above_bottom l.rest ≡ above_bottom l.station

abbrev pub decreases-loop-rest : goal.decreases-loop-rest
decreases-loop-rest l = length l.rest
