use Rattle.std.proofs.Common.{◌≡◌, map}
use Rattle.job_reader.specs.Checks.{cases_fault, flooded_fault}
use Rattle.job_reader.proofs.Firsts.{from}
use Rattle.job_reader.proofs.check.check_cases.Given as goal

abbrev pub invariant-loop-case : goal.invariant-loop-case
invariant-loop-case l = record {
  count : l.entry ≡ l.case-index;
  sound : cases_fault (map (λ c. c.0) l.compartments) (map (λ c. c.value) l.cases) ≡ from (λ c. c.value) (λ entry before names. flooded_fault (map (λ c. c.0) l.compartments) entry names) l.cases l.case-index;
}
