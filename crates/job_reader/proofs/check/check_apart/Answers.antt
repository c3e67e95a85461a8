use Rattle.std.proofs.Common.{option_map, sym, ap, ◌∙◌, ◌+◌}
use Rattle.job_reader.specs.declared.fault.JobFault.TheVariants as fault
use Rattle.job_reader.specs.Checks.{overlap_by}
use Rattle.hull_model.specs.Slabs.{ends_of}
use Rattle.job_reader.proofs.Firsts.{goes_on, stops, ends}
use Rattle.job_reader.proofs.check.check_apart.Goals as goal

pub returns-in-Some-clause-err : goal.returns-in-Some-clause-err
returns-in-Some-clause-err c =
    let met = rw (c.loop-compartment.invariant.count, c.compartment-item.is) at (sym c.overlapped.ensures ∙ c.in-Some.is) in
    rw c.loop-compartment.invariant.count (stops (λ x. ends_of x.value) overlap_by c.args.compartments.now c.loop-compartment.compartment-index _ _ _ c.loop-compartment-test.true (ap (option_map (λ first. fault.Overlap first (c.loop-compartment.compartment-index + 1))) met) c.loop-compartment.invariant.sound)

pub loop-compartment-preserved : goal.loop-compartment-preserved
loop-compartment-preserved c =
    let none = rw (c.loop-compartment.invariant.count, c.compartment-item.is) at (sym c.overlapped.ensures ∙ c.in_default.is) in
    record {
      count = ap (λ n. n + 1) c.loop-compartment.invariant.count;
      sound = goes_on (λ x. ends_of x.value) overlap_by c.args.compartments.now c.loop-compartment.compartment-index _ _ c.loop-compartment-test.true (ap (option_map (λ first. fault.Overlap first (c.loop-compartment.compartment-index + 1))) none) c.loop-compartment.invariant.sound;
    }

pub returns-clause-ok : goal.returns-clause-ok
returns-clause-ok c = ends (λ x. ends_of x.value) overlap_by c.args.compartments.now c.loop-compartment.compartment-index _ c.loop-compartment-test.false c.loop-compartment.invariant.sound
