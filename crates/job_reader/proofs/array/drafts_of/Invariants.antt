use Rattle.std.proofs.Common.{◌≡◌, take}
use Rattle.job_reader.proofs.array.drafts_of.Given as goal

abbrev pub invariant-loop-number : goal.invariant-loop-number
invariant-loop-number l = l.drafts.items ≡ take l.number-index l.numbers
