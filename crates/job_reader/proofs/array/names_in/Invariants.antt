use Rattle.std.proofs.Common.{◌≡◌, map, take}
use Rattle.toml.specs.View.{view}
use Rattle.job_reader.specs.Values.{text_in}
use Rattle.job_reader.proofs.array.names_in.Given as goal

abbrev pub invariant-loop-value : goal.invariant-loop-value
invariant-loop-value l = l.names.items ≡ map (λ v. text_in (view v)) (take l.value-index l.values)
