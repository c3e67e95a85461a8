use Rattle.std.proofs.Common.{◌≡◌, drop}
use Rattle.desk.specs.Held.{held_in}
use Rattle.desk.proofs.mem_shelf.find.Given as goal

abbrev pub invariant-loop-file : goal.invariant-loop-file
invariant-loop-file l = held_in (drop l.file-index l.files) l.name ≡ held_in l.files l.name
