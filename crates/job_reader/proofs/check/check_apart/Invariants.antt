use Rattle.std.proofs.Common.{◌≡◌, map}
use Rattle.job_reader.specs.Checks.{overlap_by, overlap_fault}
use Rattle.hull_model.specs.Slabs.{ends_of}
use Rattle.job_reader.proofs.Firsts.{from}
use Rattle.job_reader.proofs.check.check_apart.Given as goal

abbrev pub invariant-loop-compartment : goal.invariant-loop-compartment
invariant-loop-compartment l = record {
  count : l.number ≡ l.compartment-index;
  sound : overlap_fault (map (λ c. ends_of c.value) l.compartments) ≡ from (λ c. ends_of c.value) overlap_by l.compartments l.compartment-index;
}
