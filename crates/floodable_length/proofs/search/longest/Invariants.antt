use Rattle.std.proofs.Common.{◌-ℤ◌, unsigned_abs}
use Rattle.floodable_length.specs.Gap.{IsGap}
use Rattle.floodable_length.specs.LoadedShip.{ship_of}
use Rattle.floodable_length.proofs.search.longest.Given as goal

abbrev pub invariant-loop-alloc : goal.invariant-loop-alloc
invariant-loop-alloc l = IsGap (ship_of l.ship) l.lengths.centre l.lengths.permeability l.lengths.half_step l.gap

abbrev pub decreases-loop-alloc : goal.decreases-loop-alloc
decreases-loop-alloc l = unsigned_abs (l.gap.next -ℤ l.gap.safe)
