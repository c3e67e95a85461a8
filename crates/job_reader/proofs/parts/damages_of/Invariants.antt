use Rattle.std.proofs.Common.{◌≡◌, Some, map, take}
use Rattle.job_reader.specs.Checks.{slab_named}
use Rattle.job_reader.proofs.parts.damages_of.Given as goal

abbrev pub invariant-loop-case : goal.invariant-loop-case
invariant-loop-case l = map (λ c. map (slab_named l.compartments) c.value) (take l.case-index l.cases) ≡ map (λ d. map Some d.slabs) l.damages.items
