use Rattle.std.proofs.Common.{◌≡◌, map, take}
use Rattle.toml.specs.View.{view}
use Rattle.job_reader.specs.Values.{number_in}
use Rattle.job_reader.proofs.array.numbers_in.Given as goal

abbrev pub invariant-loop-value : goal.invariant-loop-value
invariant-loop-value l = l.numbers.items ≡ map (λ v. number_in (view v)) (take l.value-index l.values)
