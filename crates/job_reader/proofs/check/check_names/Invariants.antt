use Rattle.std.proofs.Common.{◌≡◌, map}
use Rattle.job_reader.specs.Checks.{twice_by, twice_fault}
use Rattle.job_reader.proofs.Firsts.{from}
use Rattle.job_reader.proofs.check.check_names.Given as goal

abbrev pub invariant-loop-entry : goal.invariant-loop-entry
invariant-loop-entry g l = record {
  count : l.number ≡ l.entry-index;
  sound : twice_fault l.key (map (λ e. e.name) l.entries) ≡ from (λ e. e.name) (twice_by l.key) l.entries l.entry-index;
}
