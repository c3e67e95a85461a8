use Rattle.std.proofs.Common.{◌≡◌, ◌+◌, map, drop}
use Rattle.job_reader.specs.Checks.{overlapped_from}
use Rattle.hull_model.specs.Slabs.{ends_of}
use Rattle.job_reader.proofs.check.overlapped.Given as goal

abbrev pub invariant-loop-compartment : goal.invariant-loop-compartment
invariant-loop-compartment l = record {
  count : l.number ≡ l.compartment-index;
  sound : overlapped_from (ends_of l.slab) 1 (map (λ c. ends_of c.value) l.compartments) ≡ overlapped_from (ends_of l.slab) (l.compartment-index + 1) (map (λ c. ends_of c.value) (drop l.compartment-index l.compartments));
}
