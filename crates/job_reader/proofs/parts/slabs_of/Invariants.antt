use Rattle.std.proofs.Common.{◌≡◌, Some, map, take}
use Rattle.job_reader.specs.Checks.{slab_named}
use Rattle.job_reader.proofs.parts.slabs_of.Given as goal

abbrev pub invariant-loop-name : goal.invariant-loop-name
invariant-loop-name l = map (slab_named l.compartments) (take l.name-index l.names) ≡ map Some l.slabs.items
