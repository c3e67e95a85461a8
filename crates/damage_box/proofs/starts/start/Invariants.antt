use Rattle.std.proofs.Common.{◌≡◌, length}
use Rattle.damage_box.specs.Reading.{AreTried}
use Rattle.damage_box.proofs.starts.start.Given as goal

abbrev pub invariant-loop-j : goal.invariant-loop-j
invariant-loop-j g l = record {
  tried : AreTried (g.F.Floats.balance l.floats) l.tried l.j;
  size : length l.tried ≡ 16;
}
