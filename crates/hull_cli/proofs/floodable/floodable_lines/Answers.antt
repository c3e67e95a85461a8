use Rattle.hull_cli.proofs.floodable.floodable_lines.Goals as goal

pub returns-clause-lines : goal.returns-clause-lines
returns-clause-lines c = record {
  loading = c.in_ok-loading.loading;
  loaded = rw c.as_slice.ensures at c.in_ok-loading.ensures.loading;
  under = c.in_ok-lengths.lengths.items;
  related = record { faces = c.args.faces.now; boundary = c.requires; centres = c.in_ok-lengths.ensures.lines };
  first = rw c.deref.ensures.value at c.in_ok-load_first.ensures.lines;
}
