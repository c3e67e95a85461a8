use Rattle.std.proofs.Common.{◌≡◌, ◌⊎◌, ◌-ℤ◌, ◌≤ℤ◌, ◌<ℤ◌}
use Rattle.std.specs.Int.RustNames.{unsigned_abs}
use Rattle.damage_box.proofs.neighbours.crossing.Given as goal

abbrev pub invariant-loop-passed : goal.invariant-loop-passed
invariant-loop-passed g l = record {
  from : l.low ≤ℤ l.failed;
  order : l.failed <ℤ l.passed;
  to : l.passed ≤ℤ l.high;
  lower : (l.failed ≡ l.low) ⊎ g.T.Test.fails l.test l.failed;
  upper : (l.passed ≡ l.high) ⊎ g.T.Test.passes l.test l.passed;
}

abbrev pub decreases-loop-passed : goal.decreases-loop-passed
decreases-loop-passed g l = unsigned_abs (l.passed -ℤ l.failed)
