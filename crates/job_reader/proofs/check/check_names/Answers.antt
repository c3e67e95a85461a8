use Rattle.std.proofs.Common.{not, sym, ap, ◌∙◌, ◌+◌, take}
use Rattle.job_reader.specs.Checks.{twice_by}
use Rattle.job_reader.specs.declared.fault.JobFault.TheVariants as fault
use Rattle.job_reader.specs.Faults.{unless}
use Rattle.job_reader.proofs.CheckFacts.{list_any-map}
use Rattle.job_reader.proofs.Firsts.{goes_on, stops, ends}
use Rattle.job_reader.proofs.check.check_names.Goals as goal

pub returns-then-is_named-clause-err : goal.returns-then-is_named-clause-err
returns-then-is_named-clause-err g c =
    let again = rw (c.loop-entry.invariant.count, c.entry-item.is) at (sym c.is_named.ensures ∙ c.if-is_named.true) in
    let among = list_any-map _ (λ e. e.name) (take c.loop-entry.entry-index c.args.entries.now) ∙ again in
    rw c.loop-entry.invariant.count (stops (λ e. e.name) (twice_by c.args.key) c.args.entries.now c.loop-entry.entry-index _ _ _ c.loop-entry-test.true (ap (λ b. unless (not b) (fault.Twice c.args.key (c.loop-entry.entry-index + 1))) among) c.loop-entry.invariant.sound)

pub loop-entry-preserved : goal.loop-entry-preserved
loop-entry-preserved g c =
    let once = rw (c.loop-entry.invariant.count, c.entry-item.is) at (sym c.is_named.ensures ∙ c.if-is_named.false) in
    let apart = list_any-map _ (λ e. e.name) (take c.loop-entry.entry-index c.args.entries.now) ∙ once in
    record {
      count = ap (λ n. n + 1) c.loop-entry.invariant.count;
      sound = goes_on (λ e. e.name) (twice_by c.args.key) c.args.entries.now c.loop-entry.entry-index _ _ c.loop-entry-test.true (ap (λ b. unless (not b) (fault.Twice c.args.key (c.loop-entry.entry-index + 1))) apart) c.loop-entry.invariant.sound;
    }

pub returns-clause-ok : goal.returns-clause-ok
returns-clause-ok g c = ends (λ e. e.name) (twice_by c.args.key) c.args.entries.now c.loop-entry.entry-index _ c.loop-entry-test.false c.loop-entry.invariant.sound
