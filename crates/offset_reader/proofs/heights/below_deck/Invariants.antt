use Rattle.std.proofs.Common.{◌≡◌, ◌≤◌, length}
use Rattle.offset_reader.specs.Points.{below_deck}
use Rattle.offset_reader.proofs.heights.below_deck.Given as goal

abbrev pub invariant-loop-rest : goal.invariant-loop-rest
invariant-loop-rest l = record {
  shorter : length l.rest ≤ length l.station;
  same : below_deck l.rest ≡ below_deck l.station;
}

abbrev pub decreases-loop-rest : goal.decreases-loop-rest
decreases-loop-rest l = length l.rest
