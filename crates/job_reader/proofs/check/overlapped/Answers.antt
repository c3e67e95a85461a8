use Rattle.std.proofs.Common.{sym, ap, ◌∙◌, ◌+◌}
use Rattle.hull_model.specs.Slabs.{ends_of}
use Rattle.job_reader.proofs.CheckFacts.{passes, meets, none_met}
use Rattle.job_reader.proofs.check.overlapped.Goals as goal

pub returns-then-shares : goal.returns-then-shares
returns-then-shares c =
    let met = rw c.compartment-item.is at (sym c.shares.ensures ∙ c.if-shares.true) in
    rw c.loop-compartment.invariant.count (sym (meets (λ x. ends_of x.value) (ends_of c.args.slab.now) c.args.compartments.now c.loop-compartment.compartment-index (c.loop-compartment.compartment-index + 1) _ _ c.loop-compartment-test.true met c.loop-compartment.invariant.sound))

pub loop-compartment-preserved : goal.loop-compartment-preserved
loop-compartment-preserved c =
    let apart = rw c.compartment-item.is at (sym c.shares.ensures ∙ c.if-shares.false) in
    record {
      count = ap (λ n. n + 1) c.loop-compartment.invariant.count;
      sound = passes (λ x. ends_of x.value) (ends_of c.args.slab.now) c.args.compartments.now c.loop-compartment.compartment-index (c.loop-compartment.compartment-index + 1) _ _ c.loop-compartment-test.true apart c.loop-compartment.invariant.sound;
    }

pub returns : goal.returns
returns c = sym (none_met (λ x. ends_of x.value) (ends_of c.args.slab.now) c.args.compartments.now c.loop-compartment.compartment-index (c.loop-compartment.compartment-index + 1) _ c.loop-compartment-test.false c.loop-compartment.invariant.sound)
