use Rattle.std.proofs.Common.{◌≡◌, map, take}
use Rattle.job_reader.proofs.parts.values_of.Given as goal

abbrev pub invariant-loop-entry : goal.invariant-loop-entry
invariant-loop-entry g l = l.values.items ≡ map (λ e. e.value) (take l.entry-index l.entries)
