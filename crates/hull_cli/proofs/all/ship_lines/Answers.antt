use Rattle.std.proofs.Common.{arith, ap, length}
use Rattle.hull_cli.proofs.AllLines.{three_joined}
use Rattle.hull_cli.proofs.Counts.{few_damages}
use Rattle.hull_cli.proofs.Listed.{of_each_ok}
use Rattle.hull_cli.specs.Tables.{AreShipLines}
use Rattle.hull_cli.proofs.all.ship_lines.Goals as goal

pub case_lines-requires-clause-few : goal.case_lines-requires-clause-few
case_lines-requires-clause-few c =
    let job = c.args.job.now in
    omega (arith, few_damages job.items job.openings job.compartments job.damages job.room, ap length c.as_slice-damages.ensures)

pub returns-clause-lines : goal.returns-clause-lines
returns-clause-lines c =
    let cases = rw c.deref.ensures.value at c.in_ok-extend_from_slice.ensures.items in
    let lengths = rw c.deref-2.ensures.value at c.in_ok-extend_from_slice-2.ensures.items in
    let related : AreShipLines c.args.hull.now c.args.job.now c.args.loading.now c.extend_from_slice-2.new.self.items = record {
      judged = c.in_ok-lines.lines.items;
      stability = c.in_ok-lines.ensures.lines c.args.hull.now c.requires.hull c.requires.faces;
      cases = c.in_ok-case_lines.field-0.items;
      damage = rw c.as_slice-damages.ensures at c.in_ok-case_lines.ensures.lines c.args.hull.now c.requires.hull c.requires.faces;
      lengths = c.in_ok-length_lines.field-0.items;
      floodable = record { faces = c.args.faces.now; boundary = c.requires.faces; centres = c.in_ok-length_lines.ensures.lines };
      whole = three_joined c.in_ok-lines.lines.items c.in_ok-case_lines.field-0.items c.in_ok-length_lines.field-0.items c.extend_from_slice.new.self.items c.extend_from_slice-2.new.self.items cases lengths;
    } in
    of_each_ok _ _ (λ lines first. record {
      loading = c.args.loading.now;
      loaded = c.requires.loaded;
      under = c.extend_from_slice-2.new.self.items;
      related = related;
      first = first;
    }) c.load_first.result (rw c.deref-3.ensures.value at c.load_first.ensures.lines)

pub returns-clause-few : goal.returns-clause-few
returns-clause-few c =
    let judged = c.in_ok-lines.ensures.count in
    let cases = rw c.as_slice-damages.ensures at c.in_ok-case_lines.ensures.count in
    let lengths = c.in_ok-length_lines.ensures.few in
    let job = c.args.job.now in
    let damages = few_damages job.items job.openings job.compartments job.damages job.room in
    of_each_ok _ _ (λ lines count. omega (arith, count, judged, cases, lengths, damages, c.in_ok-extend_from_slice.ensures.len, c.deref.ensures.len, c.in_ok-extend_from_slice-2.ensures.len, c.deref-2.ensures.len)) c.load_first.result (rw c.deref-3.ensures.value at c.load_first.ensures.count)
