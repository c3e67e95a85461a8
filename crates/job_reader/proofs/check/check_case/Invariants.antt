use Rattle.std.proofs.Common.{◌≡◌, map}
use Rattle.job_reader.specs.Checks.{flooded_by, flooded_fault}
use Rattle.job_reader.proofs.Firsts.{from}
use Rattle.job_reader.proofs.check.check_case.Given as goal

abbrev pub invariant-loop-name : goal.invariant-loop-name
invariant-loop-name l = record {
  count : l.number ≡ l.name-index;
  sound : flooded_fault (map (λ c. c.0) l.compartments) l.entry l.names ≡ from (λ n. n) (flooded_by (map (λ c. c.0) l.compartments) l.entry) l.names l.name-index;
}
