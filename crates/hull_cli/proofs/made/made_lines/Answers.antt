use Rattle.hull_cli.proofs.made.made_lines.Goals as goal

pub returns-clause-lines : goal.returns-clause-lines
returns-clause-lines c = record {
  rows = c.in_ok-lines.lines.items;
  hydro = rw c.as_slice-drafts.ensures at c.in_ok-lines.ensures.lines c.args.hull.now c.requires.hull c.requires.faces;
  ship = c.in_ok-trial_lines.field-0.items;
  loaded = c.in_ok-trial_lines.ensures.lines;
  whole = rw c.deref.ensures.value at c.in_ok-extend_from_slice.ensures.items;
}
