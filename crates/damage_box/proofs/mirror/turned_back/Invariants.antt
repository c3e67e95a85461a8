use Rattle.std.proofs.Common.{◌≡◌, length}
use Rattle.damage_box.proofs.Tries.{AreTurned}
use Rattle.damage_box.proofs.mirror.turned_back.Given as goal

abbrev pub invariant-loop-j : goal.invariant-loop-j
invariant-loop-j l = record {
  turned : AreTurned l.tried l.back l.j;
  size : length l.back ≡ 16;
}
