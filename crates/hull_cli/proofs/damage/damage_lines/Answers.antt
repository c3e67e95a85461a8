use Rattle.hull_cli.proofs.damage.damage_lines.Goals as goal

pub returns-clause-lines : goal.returns-clause-lines
returns-clause-lines c hull is are = record {
  loading = c.in_ok-loading.loading;
  loaded = rw c.as_slice.ensures at c.in_ok-loading.ensures.loading;
  under = c.in_ok-cases.cases.items;
  related = rw c.as_slice-2.ensures at c.in_ok-cases.ensures.lines hull is are;
  first = rw c.deref.ensures.value at c.in_ok-load_first.ensures.lines;
}
