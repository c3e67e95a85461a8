use Rattle.std.proofs.Common.{arith, ap, length}
use Rattle.hull_cli.proofs.Counts.{few_damages}
use Rattle.hull_cli.proofs.Listed.{of_each_ok}
use Rattle.hull_cli.specs.Tables.{AreTrialLines}
use Rattle.hull_cli.proofs.made.trial_lines.Goals as goal

pub case_lines-requires-clause-few : goal.case_lines-requires-clause-few
case_lines-requires-clause-few c =
    let job = c.args.job.now in
    omega (arith, few_damages job.items job.openings job.compartments job.damages job.room, ap length c.as_slice-damages.ensures)

pub returns-clause-lines : goal.returns-clause-lines
returns-clause-lines c =
    let cases = rw c.deref.ensures.value at c.in_ok-extend_from_slice.ensures.items in
    let related : AreTrialLines c.args.hull.now c.args.job.now c.args.loading.now c.extend_from_slice.new.self.items = record {
      arms = c.args.standing.now.arms;
      judged = c.in_ok-lines.lines.items;
      found = c.in_ok-lines.ensures.lines c.args.hull.now c.requires.hull c.requires.faces;
      cases = c.in_ok-case_lines.field-0.items;
      damage = rw c.as_slice-damages.ensures at c.in_ok-case_lines.ensures.lines c.args.hull.now c.requires.hull c.requires.faces;
      whole = cases;
    } in
    of_each_ok _ _ (λ lines first. record {
      loading = c.args.loading.now;
      loaded = c.requires.loaded;
      under = c.extend_from_slice.new.self.items;
      related = related;
      first = first;
    }) c.load_first.result (rw c.deref-2.ensures.value at c.load_first.ensures.lines)

pub returns-clause-few : goal.returns-clause-few
returns-clause-few c =
    let job = c.args.job.now in
    let damages = few_damages job.items job.openings job.compartments job.damages job.room in
    let cases = rw c.as_slice-damages.ensures at c.in_ok-case_lines.ensures.count in
    of_each_ok _ _ (λ lines count. omega (arith, count, c.in_ok-lines.ensures.count, cases, damages, c.in_ok-extend_from_slice.ensures.len, c.deref.ensures.len)) c.load_first.result (rw c.deref-2.ensures.value at c.load_first.ensures.count)
