use Rattle.std.proofs.Common.{◌≡◌, map, take}
use Rattle.job_reader.proofs.parts.by_name.Given as goal

abbrev pub invariant-loop-entry : goal.invariant-loop-entry
invariant-loop-entry l = l.compartments ≡ map (λ e. (e.name, e.value)) (take l.entry-index l.entries)
