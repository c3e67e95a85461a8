use Rattle.std.proofs.Common.{◌≡◌, pos, map, take}
use Rattle.job_reader.proofs.array.lengths_of.Given as goal

abbrev pub invariant-loop-number : goal.invariant-loop-number
invariant-loop-number l = l.lengths.items ≡ map pos (take l.number-index l.numbers)
